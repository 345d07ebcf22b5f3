-- Numbers. ECMA-262, 12.8.3 Numeric Literals, by its productions.
use Rattle.std.specs.Prelude.{ℕ, List, [], ◌∷◌, Bool, ◌||◌, Option, Some, None, if◌then◌else◌}
use Rattle.std.specs.Option.{option_and_then}
use Rattle.es_text.specs.Rest.{begins}
use Rattle.es_text.specs.Productions.{just, longest_of, one_of, optional, repeated, sequence}
use Rattle.es_text.specs.Characters.{full_stop, is_binary, is_decimal, is_eight_or_nine, is_hex, is_letter_b, is_letter_e, is_letter_o, is_letter_x, is_nonzero, is_octal, is_sign, is_start, letter_n, low_line, zero_digit}

-- a further digit, behind a digit. NumericLiteralSeparator, `_`, may stand before it
unfoldable pub further_digit : (ℕ → Bool) → List ℕ → Option (List ℕ)
further_digit digit cs = sequence (optional (just low_line) ∷ one_of digit ∷ []) cs

-- DecimalDigits, BinaryDigits, OctalDigits, HexDigits :: digits of the base, one at least
unfoldable pub digits : (ℕ → Bool) → List ℕ → Option (List ℕ)
digits digit cs = sequence (one_of digit ∷ repeated (further_digit digit) ∷ []) cs

-- ExponentPart :: `e` or `E`, a sign or none, DecimalDigits
unfoldable pub exponent : List ℕ → Option (List ℕ)
exponent cs = sequence (one_of is_letter_e ∷ optional (one_of is_sign) ∷ digits is_decimal ∷ []) cs

-- a fraction :: `.`, DecimalDigits or nothing
unfoldable pub fraction : List ℕ → Option (List ℕ)
fraction cs = sequence (just full_stop ∷ optional (digits is_decimal) ∷ []) cs

-- NonZeroDigit, and further digits or none
unfoldable pub nonzero_integer : List ℕ → Option (List ℕ)
nonzero_integer cs = sequence (one_of is_nonzero ∷ repeated (further_digit is_decimal) ∷ []) cs

-- LegacyOctalIntegerLiteral :: `0` and octal digits, one at least
unfoldable pub legacy_octal : List ℕ → Option (List ℕ)
legacy_octal cs = sequence (just zero_digit ∷ one_of is_octal ∷ repeated (one_of is_octal) ∷ []) cs

-- NonOctalDecimalIntegerLiteral :: `0` and decimal digits, `8` or `9` among them
unfoldable pub non_octal_integer : List ℕ → Option (List ℕ)
non_octal_integer cs =
    sequence
    (just zero_digit
    ∷ repeated (one_of is_octal)
    ∷ one_of is_eight_or_nine
    ∷ repeated (one_of is_decimal)
    ∷ [])
    cs

-- DecimalIntegerLiteral
unfoldable pub decimal_integer : List ℕ → Option (List ℕ)
decimal_integer cs = longest_of (just zero_digit ∷ nonzero_integer ∷ non_octal_integer ∷ []) cs

-- DecimalLiteral :: DecimalIntegerLiteral, a fraction or none, ExponentPart or nothing
unfoldable pub decimal_literal : List ℕ → Option (List ℕ)
decimal_literal cs = sequence (decimal_integer ∷ optional fraction ∷ optional exponent ∷ []) cs

-- DecimalLiteral :: `.`, DecimalDigits, ExponentPart or nothing
unfoldable pub fraction_literal : List ℕ → Option (List ℕ)
fraction_literal cs = sequence (just full_stop ∷ digits is_decimal ∷ optional exponent ∷ []) cs

-- DecimalBigIntegerLiteral :: `0`, or NonZeroDigit and further digits; BigIntLiteralSuffix, `n`
unfoldable pub big_integer : List ℕ → Option (List ℕ)
big_integer cs =
    sequence (longest_of (just zero_digit ∷ nonzero_integer ∷ []) ∷ just letter_n ∷ []) cs

-- NonDecimalIntegerLiteral :: `0`, the letter of the base, digits of that base; BigIntLiteralSuffix or
-- nothing
unfoldable pub based_integer : (ℕ → Bool) → (ℕ → Bool) → List ℕ → Option (List ℕ)
based_integer letter digit cs =
    sequence (just zero_digit ∷ one_of letter ∷ digits digit ∷ optional (just letter_n) ∷ []) cs

unfoldable pub nondecimal_literal : List ℕ → Option (List ℕ)
nondecimal_literal cs =
    longest_of
    (based_integer is_letter_x is_hex
    ∷ based_integer is_letter_o is_octal
    ∷ based_integer is_letter_b is_binary
    ∷ [])
    cs

-- NumericLiteral: the longest text of these
unfoldable pub numeric_literal : List ℕ → Option (List ℕ)
numeric_literal cs =
    longest_of
    (decimal_literal ∷ fraction_literal ∷ big_integer ∷ nondecimal_literal ∷ legacy_octal ∷ [])
    cs

-- the character behind a NumericLiteral must be no start of a name and no digit; no shorter text is
-- tried
abbrev pub unless_joined : List ℕ → Option (List ℕ)
unless_joined cs = if begins is_start cs || begins is_decimal cs then None else Some cs

-- what follows a number
abbrev pub after_number : List ℕ → Option (List ℕ)
after_number cs = option_and_then unless_joined (numeric_literal cs)
