-- What follows the beginning of a number.
use Rattle.std.specs.Prelude.{ℕ, Bool, List, [], ◌∷◌, Option}
use Rattle.es_text.specs.Characters.{is_decimal, letter_n}
use Rattle.es_text.specs.Numbers.{digits, exponent, fraction}
use Rattle.es_text.specs.Productions.{just, longest_of, optional, sequence}

-- behind a point that begins a number: digits, an exponent or none
abbrev pub after_point : List ℕ → Option (List ℕ)
after_point cs = sequence (digits is_decimal ∷ optional exponent ∷ []) cs

-- behind the digits in front of a point: a fraction or none, an exponent or none
abbrev pub fraction_and_exponent : List ℕ → Option (List ℕ)
fraction_and_exponent cs = sequence (optional fraction ∷ optional exponent ∷ []) cs

-- behind a decimal integer: these or `n`, whatever is longer
abbrev pub after_integer : List ℕ → Option (List ℕ)
after_integer cs = longest_of (fraction_and_exponent ∷ just letter_n ∷ []) cs

-- behind the letter that tells a base: digits of the base, and `n` or nothing
abbrev pub after_letter : (ℕ → Bool) → List ℕ → Option (List ℕ)
after_letter digit cs = sequence (digits digit ∷ optional (just letter_n) ∷ []) cs
