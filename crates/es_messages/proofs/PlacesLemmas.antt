-- There are no more lines than characters and one.
use Rattle.std.proofs.Common.{◌≡◌, ℕ, suc, ◌+◌, ◌-◌, ◌==◌, ◌≤◌, Bool, true, false, List, [], ◌∷◌, length, cond, arith}
use Rattle.std.specs.Char.{len_utf8}
use Rattle.std.specs.Str.{encode_utf8_all}
use Rattle.std.proofs.lemmas.Str.{length-le-encodes}
use Rattle.es_text.specs.declared.span.Place.{Place}
use Rattle.es_text.specs.Texts.{Text, ends_line, len_utf16, place_after, place_at, place_behind, text_bytes}

low_behind : (c : ℕ) (cs : List ℕ) (place : Place) → (place_behind c cs place).line ≤ place.line + 1
low_behind c cs place = cases (ends_line c cs) (place.column + len_utf16 c)
  where
    cases : (b : Bool) (column : ℕ) → (cond {A = Place} b (record { line = place.line + 1; column = 1 }) (record { line = place.line; column = column })).line ≤ place.line + 1
    cases true column = omega arith
    cases false column = omega arith

low_after : (place : Place) (cs : List ℕ) (bytes : ℕ) → (place_after place cs bytes).line ≤ place.line + length cs
low_after place [] bytes = omega arith
low_after place (c ∷ cs) bytes = cases (bytes == 0) (low_behind c cs place) (low_after (place_behind c cs place) cs (bytes - len_utf8 c))
  where
    cases : (b : Bool) → (place_behind c cs place).line ≤ place.line + 1
        → (place_after (place_behind c cs place) cs (bytes - len_utf8 c)).line ≤ (place_behind c cs place).line + length cs
        → (cond {A = Place} b place (place_after (place_behind c cs place) cs (bytes - len_utf8 c))).line ≤ place.line + suc (length cs)
    cases true first rest = omega arith
    cases false first rest = omega (arith, first, rest)

pub few_lines : (text : Text) (at : ℕ) → (place_at text.characters at).line ≤ 1 + length (text_bytes text)
few_lines text at =
    let lines = low_after (record { line = 1; column = 1 }) text.characters at in
    omega (arith, lines, length-le-encodes text.characters)
