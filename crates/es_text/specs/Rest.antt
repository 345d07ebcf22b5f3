-- The characters from an offset of a text on, and the offset at which they begin.
use Rattle.std.specs.Prelude.{ℕ, zero, suc, ◌-◌, Bool, false, ◌==◌, List, [], ◌∷◌, drop, length, Option, if◌then◌else◌}
use Rattle.std.specs.Option.{option_map_or}
use Rattle.std.specs.Str.{chars, encode_utf8_all}

-- what stands from this offset of a text on; texts are given in UTF-8, whose bytes an offset counts
unfoldable pub rest : List ℕ → ℕ → List ℕ
rest text at = chars (drop at text)

-- the offset at which these characters stand, with which the text ends
abbrev pub offset_of : List ℕ → List ℕ → ℕ
offset_of text cs = length text - length (encode_utf8_all cs)

-- whether the first character is in a class
abbrev pub begins : (ℕ → Bool) → List ℕ → Bool
begins class [] = false
begins class (c ∷ cs) = class c

-- whether the first character is this one
abbrev pub begins_with : ℕ → List ℕ → Bool
begins_with x [] = false
begins_with x (c ∷ cs) = c == x

-- what follows the first character
abbrev pub tail : List ℕ → List ℕ
tail [] = []
tail (c ∷ cs) = cs

-- what follows the longest front of characters of a class
abbrev pub drop_while : (ℕ → Bool) → List ℕ → List ℕ
drop_while class [] = []
drop_while class (c ∷ cs) = if class c then drop_while class cs else c ∷ cs

-- What follows as many items as there are, one behind the other; an item says what follows it. The
-- number bounds the turns, and there are as many items at most as characters
unfoldable pub many_in : ℕ → (List ℕ → Option (List ℕ)) → List ℕ → List ℕ
many_in zero item cs = cs
many_in (suc turns) item cs = option_map_or (many_in turns item) (item cs) cs

abbrev pub many : (List ℕ → Option (List ℕ)) → List ℕ → List ℕ
many item cs = many_in (length cs) item cs
