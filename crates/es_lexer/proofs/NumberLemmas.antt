-- The longest numeric literal, by its first characters.
use Rattle.std.proofs.Common.{◌≡◌, ℕ, ◌<◌, ◌≤◌, List, [], ◌∷◌, length, Bool, true, false, refl, sym, ap, ◌∙◌, arith, ⊎_elim}
use Rattle.std.specs.Prelude.{Option, Some, None, ◌==◌}
use Rattle.std.specs.Option.{option_and_then}
use Rattle.std.proofs.lemmas.Bool.{cases_Bool}
use Rattle.std.proofs.lemmas.Bool.Decides.{nat_tests}
use Rattle.es_text.specs.Characters.{full_stop, is_binary, is_decimal, is_eight_or_nine, is_hex, is_letter_b, is_letter_e, is_letter_o, is_letter_x, is_nonzero, is_octal, letter_n, zero_digit}
use Rattle.es_text.specs.Numbers.{based_integer, big_integer, decimal_integer, decimal_literal, digits, fraction_literal, legacy_octal, non_octal_integer, nondecimal_literal, nonzero_integer, numeric_literal, further_digit}
use Rattle.es_text.specs.Productions.{just, longer, one_of, repeated, sequence}
use Rattle.es_text.specs.Rest.{begins, drop_while, many}
use Rattle.es_lexer.specs.Integers.{after_integer, after_letter, after_point, fraction_and_exponent}
use Rattle.es_lexer.proofs.ProductionLemmas.{and_then-nothing, letter_shrinks, longer-goes, longer-None, longer-stays, many_one_of, no_parts, parts_le, parts_of, point_is}

some_is : (xs ys : List ℕ) → Some xs ≡ Some ys → xs ≡ ys
some_is xs ys is = cc

-- behind a decimal integer `n` is taken where it stands
pub integer_big : (cs ds : List ℕ) → Some ds ≡ just letter_n cs → Some ds ≡ after_integer cs
integer_big [] ds is = cc
integer_big (c ∷ cs) ds is =
    ⊎_elim
    (λ (yes : (c == letter_n) ≡ true).
    let no_point : (c == full_stop) ≡ false = grind (arith, nat_tests) in
    let no_letter : is_letter_e c ≡ false = grind (arith, nat_tests) in
    let same : ds ≡ cs = grind arith in
    let other : longer (just letter_n (c ∷ cs)) None ≡ Some cs = rw yes refl in
    ap (λ x. Some x) same
    ∙ sym (longer-goes (c ∷ cs) cs (omega arith))
    ∙ ap (λ o. longer o (Some cs)) (sym (no_parts c cs no_point no_letter))
    ∙ ap (λ o. longer (fraction_and_exponent (c ∷ cs)) o) (sym other))
    (λ (no : (c == letter_n) ≡ false). grind arith)
    (cases_Bool (c == letter_n))

pub at_nothing : numeric_literal [] ≡ None
unfolding numeric_literal decimal_literal decimal_integer nonzero_integer non_octal_integer fraction_literal big_integer nondecimal_literal based_integer legacy_octal
at_nothing = refl

pub at_point : (cs : List ℕ) → numeric_literal (full_stop ∷ cs) ≡ after_point cs
unfolding numeric_literal decimal_literal decimal_integer nonzero_integer non_octal_integer fraction_literal big_integer nondecimal_literal based_integer legacy_octal
at_point cs = longer-None _

pub at_nonzero : (c : ℕ) (cs : List ℕ) → is_nonzero c ≡ true → numeric_literal (c ∷ cs) ≡ after_integer (many (further_digit is_decimal) cs)
unfolding numeric_literal decimal_literal decimal_integer nonzero_integer non_octal_integer fraction_literal big_integer nondecimal_literal based_integer legacy_octal
at_nonzero c cs nonzero =
    let no_zero : (c == zero_digit) ≡ false = grind (arith, nat_tests) in
    let no_point : (c == full_stop) ≡ false = grind (arith, nat_tests) in
    let all = many (further_digit is_decimal) cs in
    rw (no_zero, no_point, nonzero) (ap (λ o. longer (fraction_and_exponent all) (longer o None)) (and_then-nothing (just letter_n all)))

pub at_other : (c : ℕ) (cs : List ℕ) → (c == full_stop) ≡ false → is_decimal c ≡ false → numeric_literal (c ∷ cs) ≡ None
unfolding numeric_literal decimal_literal decimal_integer nonzero_integer non_octal_integer fraction_literal big_integer nondecimal_literal based_integer legacy_octal
at_other c cs no_point other =
    let no_zero : (c == zero_digit) ≡ false = grind (arith, nat_tests) in
    let no_nonzero : is_nonzero c ≡ false = grind (arith, nat_tests) in
    rw (no_zero, no_point, no_nonzero) refl

-- who begins with no decimal digit begins with no octal one
first_no : (cs : List ℕ) → begins is_decimal cs ≡ false → begins is_octal cs ≡ false
first_no [] none = refl
first_no (d ∷ ds) none = grind (arith, nat_tests)

-- behind a 0: a decimal literal, a big integer, a literal with a base and a legacy octal
at_zero : (cs : List ℕ) → numeric_literal (zero_digit ∷ cs)
    ≡ longer (option_and_then fraction_and_exponent (longer (Some cs) (non_octal_integer (zero_digit ∷ cs))))
    (longer (just letter_n cs) (longer (nondecimal_literal (zero_digit ∷ cs)) (legacy_octal (zero_digit ∷ cs))))
unfolding numeric_literal decimal_literal decimal_integer nonzero_integer fraction_literal big_integer
at_zero cs =
    let octal = non_octal_integer (zero_digit ∷ cs) in
    let based = nondecimal_literal (zero_digit ∷ cs) in
    let legacy = legacy_octal (zero_digit ∷ cs) in
    let big = option_and_then (sequence []) (just letter_n cs) in
    ap (λ o. longer (option_and_then fraction_and_exponent (longer (Some cs) o)) (longer big (longer based (longer legacy None)))) (longer-None octal)
    ∙ ap (λ o. longer (option_and_then fraction_and_exponent (longer (Some cs) octal)) (longer o (longer based (longer legacy None)))) (and_then-nothing (just letter_n cs))
    ∙ ap (λ o. longer (option_and_then fraction_and_exponent (longer (Some cs) octal)) (longer (just letter_n cs) (longer based o))) (longer-None legacy)

-- behind 0 and octal digits: a digit that is none, and digits
abbrev pub after_octal : List ℕ → Option (List ℕ)
after_octal cs = sequence (one_of is_eight_or_nine ∷ repeated (one_of is_decimal) ∷ []) cs

non_octal_is : (cs : List ℕ) → non_octal_integer (zero_digit ∷ cs) ≡ after_octal (drop_while is_octal cs)
unfolding non_octal_integer
non_octal_is cs = ap after_octal (many_one_of is_octal cs)

legacy_is : (cs : List ℕ) → legacy_octal (zero_digit ∷ cs) ≡ option_and_then (repeated (one_of is_octal)) (one_of is_octal cs)
unfolding legacy_octal
legacy_is cs = refl

legacy_some : (d : ℕ) (ds : List ℕ) → is_octal d ≡ true → legacy_octal (zero_digit ∷ d ∷ ds) ≡ Some (drop_while is_octal (d ∷ ds))
legacy_some d ds octal =
    let first : one_of is_octal (d ∷ ds) ≡ Some ds = rw octal refl in
    let same : drop_while is_octal ds ≡ drop_while is_octal (d ∷ ds) = rw octal refl in
    legacy_is (d ∷ ds) ∙ ap (option_and_then (repeated (one_of is_octal))) first ∙ ap (λ x. Some x) (many_one_of is_octal ds ∙ same)

legacy_none : (cs : List ℕ) → begins is_octal cs ≡ false → legacy_octal (zero_digit ∷ cs) ≡ None
legacy_none [] none = legacy_is []
legacy_none (d ∷ ds) none =
    let first : one_of is_octal (d ∷ ds) ≡ None = rw none refl in
    legacy_is (d ∷ ds) ∙ ap (option_and_then (repeated (one_of is_octal))) first

after_octal_none : (cs : List ℕ) → begins is_decimal cs ≡ false → after_octal cs ≡ None
after_octal_none [] none = refl
after_octal_none (d ∷ ds) none = let other : is_eight_or_nine d ≡ false = grind (arith, nat_tests) in rw other refl

-- a literal with a base stands where the letter of one does
nondecimal_none : (cs : List ℕ) → begins is_letter_x cs ≡ false → begins is_letter_o cs ≡ false → begins is_letter_b cs ≡ false
    → nondecimal_literal (zero_digit ∷ cs) ≡ None
unfolding nondecimal_literal based_integer
nondecimal_none [] x o b = refl
nondecimal_none (d ∷ ds) x o b = rw (x, o, b) refl

pub nondecimal_x : (d : ℕ) (ds : List ℕ) → is_letter_x d ≡ true → nondecimal_literal (zero_digit ∷ d ∷ ds) ≡ after_letter is_hex ds
unfolding nondecimal_literal based_integer
nondecimal_x d ds x =
    let o : is_letter_o d ≡ false = grind (arith, nat_tests) in
    let b : is_letter_b d ≡ false = grind (arith, nat_tests) in
    rw (x, o, b) (longer-None (after_letter is_hex ds))

pub nondecimal_o : (d : ℕ) (ds : List ℕ) → is_letter_o d ≡ true → nondecimal_literal (zero_digit ∷ d ∷ ds) ≡ after_letter is_octal ds
unfolding nondecimal_literal based_integer
nondecimal_o d ds o =
    let x : is_letter_x d ≡ false = grind (arith, nat_tests) in
    let b : is_letter_b d ≡ false = grind (arith, nat_tests) in
    rw (x, o, b) (longer-None (after_letter is_octal ds))

pub nondecimal_b : (d : ℕ) (ds : List ℕ) → is_letter_b d ≡ true → nondecimal_literal (zero_digit ∷ d ∷ ds) ≡ after_letter is_binary ds
unfolding nondecimal_literal based_integer
nondecimal_b d ds b =
    let x : is_letter_x d ≡ false = grind (arith, nat_tests) in
    let o : is_letter_o d ≡ false = grind (arith, nat_tests) in
    rw (x, o, b) (longer-None (after_letter is_binary ds))

pub nondecimal_end : (cs : List ℕ) → cs ≡ [] → None ≡ nondecimal_literal (zero_digit ∷ cs)
nondecimal_end cs is = sym (ap (λ ds. nondecimal_literal (zero_digit ∷ ds)) is ∙ nondecimal_none [] refl refl refl)

pub nondecimal_other : (cs ds : List ℕ) (d : ℕ) → cs ≡ d ∷ ds → is_letter_x d ≡ false → is_letter_o d ≡ false → is_letter_b d ≡ false
    → None ≡ nondecimal_literal (zero_digit ∷ cs)
nondecimal_other [] ds d is x o b = cc
nondecimal_other (c ∷ cs) ds d is x o b =
    let same : c ≡ d = cc in
    sym (nondecimal_none (c ∷ cs) (ap is_letter_x same ∙ x) (ap is_letter_o same ∙ o) (ap is_letter_b same ∙ b))

drop_while-stop : (p : ℕ → Bool) (cs : List ℕ) → begins p cs ≡ false → drop_while p cs ≡ cs
drop_while-stop p [] none = refl
drop_while-stop p (c ∷ cs) none = rw none refl

-- behind a 0 that no digit follows, no octal and no digits are
zero_alone : (cs : List ℕ) → begins is_decimal cs ≡ false
    → numeric_literal (zero_digit ∷ cs) ≡ longer (fraction_and_exponent cs) (longer (just letter_n cs) (nondecimal_literal (zero_digit ∷ cs)))
zero_alone cs none =
    let not_octal : begins is_octal cs ≡ false = first_no cs none in
    let octal : non_octal_integer (zero_digit ∷ cs) ≡ None =
    non_octal_is cs ∙ ap after_octal (drop_while-stop is_octal cs not_octal) ∙ after_octal_none cs none in
    at_zero cs
    ∙ ap (λ o. longer (option_and_then fraction_and_exponent (longer (Some cs) o)) (longer (just letter_n cs) (longer (nondecimal_literal (zero_digit ∷ cs)) (legacy_octal (zero_digit ∷ cs))))) octal
    ∙ ap (λ o. longer (fraction_and_exponent cs) (longer (just letter_n cs) (longer (nondecimal_literal (zero_digit ∷ cs)) o))) (legacy_none cs not_octal)
    ∙ ap (λ o. longer (fraction_and_exponent cs) (longer (just letter_n cs) o)) (longer-None (nondecimal_literal (zero_digit ∷ cs)))

pub zero_whole : (cs ds : List ℕ) → begins is_decimal cs ≡ false → None ≡ nondecimal_literal (zero_digit ∷ cs)
    → Some ds ≡ after_integer cs → Some ds ≡ numeric_literal (zero_digit ∷ cs)
zero_whole cs ds none based whole =
    whole ∙ sym (zero_alone cs none ∙ ap (λ o. longer (fraction_and_exponent cs) (longer (just letter_n cs) o)) (sym based))

-- the letter of a base is neither `n` nor a point nor the letter of an exponent
based_alone : (d : ℕ) (ds es : List ℕ) → is_decimal d ≡ false → (d == full_stop) ≡ false → is_letter_e d ≡ false → (d == letter_n) ≡ false
    → length es < length ds → Some es ≡ nondecimal_literal (zero_digit ∷ d ∷ ds) → Some es ≡ numeric_literal (zero_digit ∷ d ∷ ds)
based_alone d ds es none point letter big shorter based =
    let no_big : just letter_n (d ∷ ds) ≡ None = rw big refl in
    sym
    (zero_alone (d ∷ ds) none
    ∙ ap (λ o. longer (fraction_and_exponent (d ∷ ds)) (longer (just letter_n (d ∷ ds)) o)) (sym based)
    ∙ ap (λ o. longer (fraction_and_exponent (d ∷ ds)) (longer o (Some es))) no_big
    ∙ ap (λ o. longer o (Some es)) (no_parts d ds point letter)
    ∙ longer-goes (d ∷ ds) es (omega arith))

pub zero_based : (cs es : List ℕ) → begins is_decimal cs ≡ false → Some es ≡ nondecimal_literal (zero_digit ∷ cs) → Some es ≡ numeric_literal (zero_digit ∷ cs)
zero_based [] es none based = let nothing = nondecimal_none [] refl refl refl in cc
zero_based (d ∷ ds) es none based =
    ⊎_elim
    (λ (x : is_letter_x d ≡ true).
    based_alone d ds es none (grind (arith, nat_tests)) (grind (arith, nat_tests)) (grind (arith, nat_tests))
    (letter_shrinks is_hex ds es (sym (based ∙ nondecimal_x d ds x))) based)
    (λ (no_x : is_letter_x d ≡ false).
    ⊎_elim
    (λ (o : is_letter_o d ≡ true).
    based_alone d ds es none (grind (arith, nat_tests)) (grind (arith, nat_tests)) (grind (arith, nat_tests))
    (letter_shrinks is_octal ds es (sym (based ∙ nondecimal_o d ds o))) based)
    (λ (no_o : is_letter_o d ≡ false).
    ⊎_elim
    (λ (b : is_letter_b d ≡ true).
    based_alone d ds es none (grind (arith, nat_tests)) (grind (arith, nat_tests)) (grind (arith, nat_tests))
    (letter_shrinks is_binary ds es (sym (based ∙ nondecimal_b d ds b))) based)
    (λ (no_b : is_letter_b d ≡ false). let nothing = nondecimal_none (d ∷ ds) no_x no_o no_b in cc)
    (cases_Bool (is_letter_b d)))
    (cases_Bool (is_letter_o d)))
    (cases_Bool (is_letter_x d))

drop_while_le : (p : ℕ → Bool) (cs : List ℕ) → length (drop_while p cs) ≤ length cs
drop_while_le p [] = omega arith
drop_while_le p (c ∷ cs) =
    ⊎_elim
    (λ (is : p c ≡ true). let same : drop_while p (c ∷ cs) ≡ drop_while p cs = rw is refl in omega (arith, ap length same, drop_while_le p cs))
    (λ (no : p c ≡ false). let same : drop_while p (c ∷ cs) ≡ c ∷ cs = rw no refl in omega (arith, ap length same))
    (cases_Bool (p c))

-- behind a 0 that digits follow, of which the first one is d
zero_digits : (d : ℕ) (ds : List ℕ) → is_decimal d ≡ true
    → numeric_literal (zero_digit ∷ d ∷ ds) ≡ longer (option_and_then fraction_and_exponent (longer (Some (d ∷ ds)) (after_octal (drop_while is_octal (d ∷ ds))))) (legacy_octal (zero_digit ∷ d ∷ ds))
zero_digits d ds decimal =
    let cs = d ∷ ds in
    let no_big : just letter_n cs ≡ None = let other : (d == letter_n) ≡ false = grind (arith, nat_tests) in rw other refl in
    let no_base : nondecimal_literal (zero_digit ∷ cs) ≡ None =
    nondecimal_none cs (grind (arith, nat_tests)) (grind (arith, nat_tests)) (grind (arith, nat_tests)) in
    at_zero cs
    ∙ ap (λ o. longer (option_and_then fraction_and_exponent (longer (Some cs) o)) (longer (just letter_n cs) (longer (nondecimal_literal (zero_digit ∷ cs)) (legacy_octal (zero_digit ∷ cs))))) (non_octal_is cs)
    ∙ ap (λ o. longer (option_and_then fraction_and_exponent (longer (Some cs) (after_octal (drop_while is_octal cs)))) (longer o (longer (nondecimal_literal (zero_digit ∷ cs)) (legacy_octal (zero_digit ∷ cs))))) no_big
    ∙ ap (λ o. longer (option_and_then fraction_and_exponent (longer (Some cs) (after_octal (drop_while is_octal cs)))) (longer o (legacy_octal (zero_digit ∷ cs)))) no_base

-- all digits are octal
pub zero_octal : (cs os : List ℕ) → begins is_decimal cs ≡ true → os ≡ drop_while is_octal cs → begins is_decimal os ≡ false → Some os ≡ numeric_literal (zero_digit ∷ cs)
zero_octal [] os decimal is none = cc
zero_octal (d ∷ ds) os decimal is none =
    ⊎_elim
    (λ (octal : is_octal d ≡ true).
    let same : os ≡ drop_while is_octal ds = let step : drop_while is_octal (d ∷ ds) ≡ drop_while is_octal ds = rw octal refl in is ∙ step in
    let point : (d == full_stop) ≡ false = grind (arith, nat_tests) in
    let letter : is_letter_e d ≡ false = grind (arith, nat_tests) in
    sym
    (zero_digits d ds decimal
    ∙ ap (λ o. longer (option_and_then fraction_and_exponent (longer (Some (d ∷ ds)) o)) (legacy_octal (zero_digit ∷ d ∷ ds))) (ap after_octal (sym is) ∙ after_octal_none os none)
    ∙ ap (λ o. longer o (legacy_octal (zero_digit ∷ d ∷ ds))) (no_parts d ds point letter)
    ∙ ap (λ o. longer (Some (d ∷ ds)) o) (legacy_some d ds octal ∙ ap (λ x. Some x) (sym is))
    ∙ longer-goes (d ∷ ds) os (omega (arith, ap length same, drop_while_le is_octal ds))))
    (λ (no_octal : is_octal d ≡ false).
    let same : os ≡ d ∷ ds = is ∙ drop_while-stop is_octal (d ∷ ds) no_octal in
    let begun : begins is_decimal os ≡ true = ap (begins is_decimal) same ∙ decimal in cc)
    (cases_Bool (is_octal d))

drop_while-stops : (p : ℕ → Bool) (cs : List ℕ) → begins p (drop_while p cs) ≡ false
drop_while-stops p [] = refl
drop_while-stops p (c ∷ cs) =
    ⊎_elim
    (λ (is : p c ≡ true). let same : drop_while p (c ∷ cs) ≡ drop_while p cs = rw is refl in ap (begins p) same ∙ drop_while-stops p cs)
    (λ (no : p c ≡ false). let same : drop_while p (c ∷ cs) ≡ c ∷ cs = rw no refl in ap (begins p) same ∙ no)
    (cases_Bool (p c))

drop_decimals : (cs : List ℕ) → drop_while is_decimal cs ≡ drop_while is_decimal (drop_while is_octal cs)
drop_decimals [] = refl
drop_decimals (c ∷ cs) =
    ⊎_elim
    (λ (octal : is_octal c ≡ true).
    let decimal : is_decimal c ≡ true = grind (arith, nat_tests) in
    let all : drop_while is_decimal (c ∷ cs) ≡ drop_while is_decimal cs = rw decimal refl in
    let some : drop_while is_octal (c ∷ cs) ≡ drop_while is_octal cs = rw octal refl in
    all ∙ drop_decimals cs ∙ ap (drop_while is_decimal) (sym some))
    (λ (no : is_octal c ≡ false). ap (drop_while is_decimal) (sym (drop_while-stop is_octal (c ∷ cs) no)))
    (cases_Bool (is_octal c))

-- behind octal digits an 8 or a 9 is taken, and all further digits
after_octal_some : (e : ℕ) (es : List ℕ) → is_decimal e ≡ true → is_octal e ≡ false
    → (after_octal (e ∷ es) ≡ Some (drop_while is_decimal (e ∷ es))) × (length (drop_while is_decimal (e ∷ es)) ≤ length es)
after_octal_some e es decimal no_octal =
    let great : is_eight_or_nine e ≡ true = grind (arith, nat_tests) in
    let same : drop_while is_decimal (e ∷ es) ≡ drop_while is_decimal es = rw decimal refl in
    let first : one_of is_eight_or_nine (e ∷ es) ≡ Some es = rw great refl in (
      ap (option_and_then (sequence (repeated (one_of is_decimal) ∷ []))) first ∙ ap (λ x. Some x) (many_one_of is_decimal es ∙ sym same),
      omega (arith, ap length same, drop_while_le is_decimal es),
    )

legacy_longer : (d : ℕ) (ds os rest : List ℕ) → os ≡ drop_while is_octal (d ∷ ds) → length rest ≤ length os
    → longer (Some rest) (legacy_octal (zero_digit ∷ d ∷ ds)) ≡ Some rest
legacy_longer d ds os rest is less =
    ⊎_elim
    (λ (octal : is_octal d ≡ true).
    ap (λ o. longer (Some rest) o) (legacy_some d ds octal ∙ ap (λ x. Some x) (sym is)) ∙ longer-stays rest os less)
    (λ (no : is_octal d ≡ false). ap (λ o. longer (Some rest) o) (legacy_none (d ∷ ds) no))
    (cases_Bool (is_octal d))

-- an 8 or a 9 is among the digits
pub zero_decimal : (cs os all rest : List ℕ) → begins is_decimal cs ≡ true → os ≡ drop_while is_octal cs → begins is_decimal os ≡ true
    → all ≡ drop_while is_decimal cs → Some rest ≡ fraction_and_exponent all → Some rest ≡ numeric_literal (zero_digit ∷ cs)
zero_decimal [] os all rest decimal is more digits parts = cc
zero_decimal (d ∷ ds) [] all rest decimal is more digits parts = cc
zero_decimal (d ∷ ds) (e ∷ es) all rest decimal is more digits parts =
    let no_octal : is_octal e ≡ false = ap (begins is_octal) is ∙ drop_while-stops is_octal (d ∷ ds) in
    let taken = after_octal_some e es more no_octal in
    let same : drop_while is_decimal (e ∷ es) ≡ all = ap (drop_while is_decimal) is ∙ sym (drop_decimals (d ∷ ds)) ∙ sym digits in
    let few : length (e ∷ es) ≤ length (d ∷ ds) = omega (arith, ap length is, drop_while_le is_octal (d ∷ ds)) in
    let fewer : length all ≤ length es = omega (arith, taken.1, ap length same) in
    let short : length rest ≤ length all = let left : rest ≡ parts_of all = some_is rest (parts_of all) (parts ∙ point_is all) in omega (arith, ap length left, parts_le all) in
    sym
    (zero_digits d ds decimal
    ∙ ap (λ o. longer (option_and_then fraction_and_exponent (longer (Some (d ∷ ds)) o)) (legacy_octal (zero_digit ∷ d ∷ ds))) (ap after_octal (sym is) ∙ taken.0 ∙ ap (λ x. Some x) same)
    ∙ ap (λ o. longer (option_and_then fraction_and_exponent o) (legacy_octal (zero_digit ∷ d ∷ ds))) (longer-goes (d ∷ ds) all (omega arith))
    ∙ ap (λ o. longer o (legacy_octal (zero_digit ∷ d ∷ ds))) (sym parts)
    ∙ legacy_longer d ds (e ∷ es) rest is (omega arith))

-- the same of the characters from a cursor on
pub literal_none : (cs : List ℕ) → cs ≡ [] → None ≡ numeric_literal cs
literal_none cs is = sym (ap numeric_literal is ∙ at_nothing)

pub literal_point : (cs ds : List ℕ) (c : ℕ) → cs ≡ c ∷ ds → c ≡ full_stop → after_point ds ≡ numeric_literal cs
literal_point cs ds c is point = sym (ap numeric_literal (is ∙ ap (λ d. d ∷ ds) point) ∙ at_point ds)

pub literal_zero : (cs ds : List ℕ) (c : ℕ) → cs ≡ c ∷ ds → c ≡ zero_digit → numeric_literal (zero_digit ∷ ds) ≡ numeric_literal cs
literal_zero cs ds c is zero = sym (ap numeric_literal (is ∙ ap (λ d. d ∷ ds) zero))

pub literal_nonzero : (cs ds : List ℕ) (c : ℕ) → cs ≡ c ∷ ds → is_nonzero c ≡ true → after_integer (many (further_digit is_decimal) ds) ≡ numeric_literal cs
literal_nonzero cs ds c is nonzero = sym (ap numeric_literal is ∙ at_nonzero c ds nonzero)

pub literal_other : (cs ds : List ℕ) (c : ℕ) → cs ≡ c ∷ ds → (c == full_stop) ≡ false → is_decimal c ≡ false → None ≡ numeric_literal cs
literal_other cs ds c is no_point other = sym (ap numeric_literal is ∙ at_other c ds no_point other)
