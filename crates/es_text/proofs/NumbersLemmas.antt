-- What is left behind a number.
use Rattle.std.proofs.Common.{ℕ, Bool, [], ◌∷◌}
use Rattle.std.specs.Prelude.{Some, None, ◌||◌}
use Rattle.es_text.specs.Rest.{begins}
use Rattle.es_text.specs.Productions.{just, longest_of, one_of, optional, repeated}
use Rattle.es_text.specs.Characters.{full_stop, is_binary, is_decimal, is_eight_or_nine, is_hex, is_letter_b, is_letter_e, is_letter_o, is_letter_x, is_nonzero, is_octal, is_sign, is_start, letter_n, low_line, zero_digit}
use Rattle.es_text.specs.Numbers.{after_number, based_integer, big_integer, decimal_integer, decimal_literal, digits, exponent, fraction, fraction_literal, further_digit, legacy_octal, non_octal_integer, nondecimal_literal, nonzero_integer, numeric_literal, unless_joined}
use Rattle.es_text.proofs.RestLemmas.{Takes, suffix-all}
use Rattle.es_text.proofs.ProductionsLemmas.{follows-and_then, follows-if, takes-just, takes-longest_of, takes-one_of, takes-optional, takes-repeated, takes-sequence}

takes-further_digit : (digit : ℕ → Bool) → Takes (further_digit digit)
unfolding further_digit
takes-further_digit digit =
    takes-sequence (optional (just low_line) ∷ one_of digit ∷ [])
    (takes-optional (just low_line) (takes-just low_line), (takes-one_of digit, tt))

takes-digits : (digit : ℕ → Bool) → Takes (digits digit)
unfolding digits
takes-digits digit =
    takes-sequence (one_of digit ∷ repeated (further_digit digit) ∷ [])
    (takes-one_of digit, (takes-repeated (further_digit digit) (takes-further_digit digit), tt))

takes-exponent : Takes exponent
unfolding exponent
takes-exponent =
    takes-sequence (one_of is_letter_e ∷ optional (one_of is_sign) ∷ digits is_decimal ∷ [])
    (takes-one_of is_letter_e, (takes-optional (one_of is_sign) (takes-one_of is_sign), (takes-digits is_decimal, tt)))

takes-fraction : Takes fraction
unfolding fraction
takes-fraction =
    takes-sequence (just full_stop ∷ optional (digits is_decimal) ∷ [])
    (takes-just full_stop, (takes-optional (digits is_decimal) (takes-digits is_decimal), tt))

takes-nonzero_integer : Takes nonzero_integer
unfolding nonzero_integer
takes-nonzero_integer =
    takes-sequence (one_of is_nonzero ∷ repeated (further_digit is_decimal) ∷ [])
    (takes-one_of is_nonzero, (takes-repeated (further_digit is_decimal) (takes-further_digit is_decimal), tt))

takes-legacy_octal : Takes legacy_octal
unfolding legacy_octal
takes-legacy_octal =
    takes-sequence (just zero_digit ∷ one_of is_octal ∷ repeated (one_of is_octal) ∷ [])
    (takes-just zero_digit, (takes-one_of is_octal, (takes-repeated (one_of is_octal) (takes-one_of is_octal), tt)))

takes-non_octal_integer : Takes non_octal_integer
unfolding non_octal_integer
takes-non_octal_integer =
    takes-sequence (just zero_digit ∷ repeated (one_of is_octal) ∷ one_of is_eight_or_nine ∷ repeated (one_of is_decimal) ∷ []) (
      takes-just zero_digit,
      (
        takes-repeated (one_of is_octal) (takes-one_of is_octal),
        (takes-one_of is_eight_or_nine, (takes-repeated (one_of is_decimal) (takes-one_of is_decimal), tt)),
      ),
    )

takes-decimal_integer : Takes decimal_integer
unfolding decimal_integer
takes-decimal_integer =
    takes-longest_of (just zero_digit ∷ nonzero_integer ∷ non_octal_integer ∷ [])
    (takes-just zero_digit, (takes-nonzero_integer, (takes-non_octal_integer, tt)))

takes-decimal_literal : Takes decimal_literal
unfolding decimal_literal
takes-decimal_literal =
    takes-sequence (decimal_integer ∷ optional fraction ∷ optional exponent ∷ [])
    (takes-decimal_integer, (takes-optional fraction takes-fraction, (takes-optional exponent takes-exponent, tt)))

takes-fraction_literal : Takes fraction_literal
unfolding fraction_literal
takes-fraction_literal =
    takes-sequence (just full_stop ∷ digits is_decimal ∷ optional exponent ∷ [])
    (takes-just full_stop, (takes-digits is_decimal, (takes-optional exponent takes-exponent, tt)))

takes-big_integer : Takes big_integer
unfolding big_integer
takes-big_integer =
    takes-sequence (longest_of (just zero_digit ∷ nonzero_integer ∷ []) ∷ just letter_n ∷ [])
    (takes-longest_of (just zero_digit ∷ nonzero_integer ∷ []) (takes-just zero_digit, (takes-nonzero_integer, tt)), (takes-just letter_n, tt))

takes-based_integer : (letter digit : ℕ → Bool) → Takes (based_integer letter digit)
unfolding based_integer
takes-based_integer letter digit =
    takes-sequence (just zero_digit ∷ one_of letter ∷ digits digit ∷ optional (just letter_n) ∷ [])
    (takes-just zero_digit, (takes-one_of letter, (takes-digits digit, (takes-optional (just letter_n) (takes-just letter_n), tt))))

takes-nondecimal_literal : Takes nondecimal_literal
unfolding nondecimal_literal
takes-nondecimal_literal =
    takes-longest_of (based_integer is_letter_x is_hex ∷ based_integer is_letter_o is_octal ∷ based_integer is_letter_b is_binary ∷ [])
    (takes-based_integer is_letter_x is_hex, (takes-based_integer is_letter_o is_octal, (takes-based_integer is_letter_b is_binary, tt)))

takes-numeric_literal : Takes numeric_literal
unfolding numeric_literal
takes-numeric_literal =
    takes-longest_of (decimal_literal ∷ fraction_literal ∷ big_integer ∷ nondecimal_literal ∷ legacy_octal ∷ [])
    (takes-decimal_literal, (takes-fraction_literal, (takes-big_integer, (takes-nondecimal_literal, (takes-legacy_octal, tt)))))

takes-unless_joined : Takes unless_joined
takes-unless_joined cs = follows-if (begins is_start cs || begins is_decimal cs) cs None (Some cs) tt (suffix-all cs)

pub takes-after_number : Takes after_number
takes-after_number cs = follows-and_then unless_joined takes-unless_joined cs (numeric_literal cs) (takes-numeric_literal cs)
