-- What is left of a name.
use denote.Ref.{Bor}
use Rattle.std.specs.Prelude.{ℕ, zero, suc, List, Option, None, Some, length, option_map}
use Rattle.std.specs.Str.{chars}
use Rattle.es_globs.specs.Patterns.{parts_left}

abbrev pub parts_in : Option (Bor (List ℕ)) → List (List ℕ)
parts_in left = parts_left (option_map (λ text. chars text.now) left)

abbrev pub size_in : Option (Bor (List ℕ)) → ℕ
size_in None = zero
size_in (Some text) = suc (length text.now)
