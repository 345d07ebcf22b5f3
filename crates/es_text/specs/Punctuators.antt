-- The longest punctuator. ECMA-262, 12.7.
use Rattle.std.specs.Prelude.{ℕ, List, [], ◌∷◌, length, drop, Bool, not, nat_eq, nat_lt, ◌&&◌, Option, Some, None, if◌then◌else◌, codes}
use Rattle.std.specs.List.{filter, position_or_len, starts_with}
use Rattle.std.specs.Str.{bytes_eq}
use Rattle.es_tables.specs.Words.{punctuator_words}
use Rattle.es_text.specs.Rest.{begins}
use Rattle.es_text.specs.Characters.{is_decimal}

-- whether the characters begin with this punctuator; `?.` is none before a decimal digit
abbrev pub fits : List ℕ → List ℕ → Bool
fits cs text =
    starts_with nat_eq cs text && not (bytes_eq text (codes "?.") && begins is_decimal (drop 2 cs))

-- of two texts the longer one
abbrev pub longer_text : List ℕ → Option (List ℕ) → List ℕ
longer_text text None = text
longer_text text (Some other) = if nat_lt (length text) (length other) then other else text

abbrev pub longest_text : List (List ℕ) → Option (List ℕ)
longest_text [] = None
longest_text (text ∷ texts) = Some (longer_text text (longest_text texts))

-- the longest of the punctuators with which the characters begin
unfoldable pub longest : List ℕ → Option (List ℕ)
longest cs = longest_text (filter (fits cs) punctuator_words)

-- a punctuator's code is its index in their list
unfoldable pub punctuator_code : List ℕ → ℕ
punctuator_code text = position_or_len (bytes_eq text) punctuator_words
