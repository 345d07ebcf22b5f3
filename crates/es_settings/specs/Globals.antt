-- Names that are global variables, or aren't. ESLint's guide, "Configure language options", "Specifying globals".
use Rattle.std.specs.Prelude.{ℕ, Bool, false, List, [], ◌∷◌, Option, None, Some, if◌then◌else◌, reverse}
use Rattle.std.specs.Cmp.Lexicographic.{slice_cmp}
use Rattle.std.specs.declared.cmp.Ordering.{Ordering}
use Rattle.std.specs.Ordering.{is_lt, nat_cmp, on}
use Rattle.std.specs.Str.{bytes_eq, encode_utf8_all}
use Rattle.es_settings.specs.declared.global_use.GlobalUse.{GlobalUse}
use Rattle.es_settings.specs.Sorting.{in_order}

-- a name, and whether it is a global variable
abbrev pub Global : Type 0
Global = List ℕ × GlobalUse

-- by the bytes of names
abbrev pub name_cmp : Global → Global → Ordering
name_cmp = on (λ global. encode_utf8_all global.0) (slice_cmp nat_cmp)

abbrev pub is_name : Option (List ℕ) → List ℕ → Bool
is_name None name = false
is_name (Some last) name = bytes_eq last name

-- of neighbours with one name the first, behind one with this name
abbrev pub firsts_behind : Option (List ℕ) → List Global → List Global
firsts_behind last [] = []
firsts_behind last (global ∷ globals) =
    if is_name last global.0 then firsts_behind last globals else global ∷ firsts_behind (Some global.0) globals

abbrev pub firsts : List Global → List Global
firsts globals = firsts_behind None globals

-- each name once, in the order of names, as it was said last
abbrev pub last_of_each : List Global → List Global
last_of_each said = firsts (in_order (λ x y. is_lt (name_cmp x y)) (reverse said))
