-- What the parts of productions leave: an item takes one character at least, and no part puts any back.
use Rattle.std.proofs.Common.{◌≡◌, ℕ, ◌<◌, ◌≤◌, List, [], ◌∷◌, length, Bool, true, false, refl, sym, ap, ◌∙◌, arith, ⊎_elim}
use Rattle.std.specs.Prelude.{Option, Some, None, nat_lt, ◌==◌}
use Rattle.std.specs.Option.{option_and_then, unwrap_or}
use Rattle.std.proofs.lemmas.Bool.{cases_Bool}
use Rattle.std.proofs.lemmas.Bool.Decides.{nat_tests}
use Rattle.std.proofs.lemmas.Option.{option_and_then_some}
use Rattle.es_text.specs.Characters.{is_decimal, is_letter_e, is_sign, full_stop, letter_n, low_line}
use Rattle.es_text.specs.Numbers.{digits, exponent, fraction, further_digit}
use Rattle.es_text.specs.Productions.{just, longer, one_of, optional, repeated, sequence}
use Rattle.es_text.specs.Rest.{drop_while, many}
use Rattle.es_lexer.specs.Integers.{after_letter, fraction_and_exponent}
use Rattle.es_lexer.specs.Items.{Shrinks}
use Rattle.es_lexer.proofs.ItemLemmas.{many_in_le, many_more, many_none}

-- what follows has no more characters
abbrev pub Keeps : (List ℕ → Option (List ℕ)) → Type 0
Keeps part = (cs ds : List ℕ) → part cs ≡ Some ds → length ds ≤ length cs

pub one_of_shrinks : (p : ℕ → Bool) → Shrinks (one_of p)
one_of_shrinks p [] ds is = cc
one_of_shrinks p (c ∷ cs) ds is =
    ⊎_elim
    (λ (yes : p c ≡ true). let same : cs ≡ ds = grind arith in omega (arith, ap length same))
    (λ (no : p c ≡ false). grind arith)
    (cases_Bool (p c))

keeps : (part : List ℕ → Option (List ℕ)) → Shrinks part → Keeps part
keeps part shrinks cs ds is = omega (arith, shrinks cs ds is)

unwrapped : (o : Option (List ℕ)) (cs : List ℕ) → ((ds : List ℕ) → o ≡ Some ds → length ds ≤ length cs) → length (unwrap_or o cs) ≤ length cs
unwrapped None cs known = omega arith
unwrapped (Some ds) cs known = known ds refl

-- what follows this or nothing
pub unwrap_le : (part : List ℕ → Option (List ℕ)) → Shrinks part → (cs : List ℕ) → length (unwrap_or (part cs) cs) ≤ length cs
unwrap_le part shrinks cs = unwrapped (part cs) cs (keeps part shrinks cs)

same_some : (xs ds : List ℕ) → Some xs ≡ Some ds → length ds ≡ length xs
same_some xs ds is = let same : xs ≡ ds = cc in ap length (sym same)

pub optional_keeps : (part : List ℕ → Option (List ℕ)) → Shrinks part → Keeps (optional part)
optional_keeps part shrinks cs ds is = omega (arith, same_some (unwrap_or (part cs) cs) ds is, unwrap_le part shrinks cs)

repeated_keeps : (part : List ℕ → Option (List ℕ)) → Shrinks part → Keeps (repeated part)
repeated_keeps part shrinks cs ds is = omega (arith, same_some (many part cs) ds is, many_in_le part shrinks (length cs) cs)

nothing_keeps : Keeps (sequence [])
nothing_keeps cs ds is = omega (arith, same_some cs ds is)

later_le : (o : Option (List ℕ)) (q : List ℕ → Option (List ℕ)) (n : ℕ) (ds : List ℕ) → Keeps q
    → ((es : List ℕ) → o ≡ Some es → length es ≤ n) → option_and_then q o ≡ Some ds → length ds ≤ n
later_le None q n ds keeps known is = cc
later_le (Some es) q n ds keeps known is = omega (arith, keeps es ds is, known es refl)

sequence_keeps : (part : List ℕ → Option (List ℕ)) (parts : List (List ℕ → Option (List ℕ))) → Keeps part → Keeps (sequence parts) → Keeps (sequence (part ∷ parts))
sequence_keeps part parts first later cs ds is = later_le (part cs) (sequence parts) (length cs) ds later (first cs) is

sequence_shrinks : (part : List ℕ → Option (List ℕ)) (parts : List (List ℕ → Option (List ℕ))) → Shrinks part → Keeps (sequence parts) → Shrinks (sequence (part ∷ parts))
sequence_shrinks part parts first later [] ds is =
    option_and_then_some (sequence parts) (part []) ds is (λ es some _. absurd (omega (arith, first [] es some)))
sequence_shrinks part parts first later (c ∷ cs) ds is =
    omega (arith, later_le (part (c ∷ cs)) (sequence parts) (length cs) ds later (λ es some. omega (arith, first (c ∷ cs) es some)) is)

later_lt : (o : Option (List ℕ)) (q : List ℕ → Option (List ℕ)) (n : ℕ) (ds : List ℕ) → Shrinks q
    → ((es : List ℕ) → o ≡ Some es → length es ≤ n) → option_and_then q o ≡ Some ds → length ds < n
later_lt None q n ds shrinks known is = cc
later_lt (Some es) q n ds shrinks known is = omega (arith, shrinks es ds is, known es refl)

-- the same where the first part may take nothing
sequence_shrinks_later : (part : List ℕ → Option (List ℕ)) (parts : List (List ℕ → Option (List ℕ))) → Keeps part → Shrinks (sequence parts) → Shrinks (sequence (part ∷ parts))
sequence_shrinks_later part parts first later cs ds is = later_lt (part cs) (sequence parts) (length cs) ds later (first cs) is

one_shrinks : (p : ℕ → Bool) → Shrinks (sequence (one_of p ∷ []))
one_shrinks p = sequence_shrinks (one_of p) [] (one_of_shrinks p) nothing_keeps

pub further_digit_shrinks : (digit : ℕ → Bool) → Shrinks (further_digit digit)
unfolding further_digit
further_digit_shrinks digit =
    sequence_shrinks_later (optional (just low_line)) (one_of digit ∷ [])
    (optional_keeps (just low_line) (one_of_shrinks (λ c. c == low_line))) (one_shrinks digit)

pub digits_shrinks : (digit : ℕ → Bool) → Shrinks (digits digit)
unfolding digits
digits_shrinks digit =
    sequence_shrinks (one_of digit) (repeated (further_digit digit) ∷ []) (one_of_shrinks digit)
    (sequence_keeps (repeated (further_digit digit)) [] (repeated_keeps (further_digit digit) (further_digit_shrinks digit)) nothing_keeps)

pub exponent_shrinks : Shrinks exponent
unfolding exponent
exponent_shrinks =
    sequence_shrinks (one_of is_letter_e) (optional (one_of is_sign) ∷ digits is_decimal ∷ []) (one_of_shrinks is_letter_e)
    (sequence_keeps (optional (one_of is_sign)) (digits is_decimal ∷ []) (optional_keeps (one_of is_sign) (one_of_shrinks is_sign))
    (sequence_keeps (digits is_decimal) [] (keeps (digits is_decimal) (digits_shrinks is_decimal)) nothing_keeps))

pub fraction_shrinks : Shrinks fraction
unfolding fraction
fraction_shrinks =
    sequence_shrinks (just full_stop) (optional (digits is_decimal) ∷ []) (one_of_shrinks (λ c. c == full_stop))
    (sequence_keeps (optional (digits is_decimal)) [] (optional_keeps (digits is_decimal) (digits_shrinks is_decimal)) nothing_keeps)

pub letter_shrinks : (digit : ℕ → Bool) → Shrinks (after_letter digit)
letter_shrinks digit =
    sequence_shrinks (digits digit) (optional (just letter_n) ∷ []) (digits_shrinks digit)
    (sequence_keeps (optional (just letter_n)) [] (optional_keeps (just letter_n) (one_of_shrinks (λ c. c == letter_n))) nothing_keeps)

-- what follows a fraction and an exponent
pub parts_of : List ℕ → List ℕ
parts_of cs = unwrap_or (exponent (unwrap_or (fraction cs) cs)) (unwrap_or (fraction cs) cs)

pub point_is : (cs : List ℕ) → fraction_and_exponent cs ≡ Some (parts_of cs)
unfolding parts_of
point_is cs = refl

pub parts_le : (cs : List ℕ) → length (parts_of cs) ≤ length cs
unfolding parts_of
parts_le cs = omega (arith, unwrap_le exponent exponent_shrinks (unwrap_or (fraction cs) cs), unwrap_le fraction fraction_shrinks cs)

-- neither stands before a character that is no point and no letter of an exponent
pub no_parts : (c : ℕ) (cs : List ℕ) → (c == full_stop) ≡ false → is_letter_e c ≡ false → fraction_and_exponent (c ∷ cs) ≡ Some (c ∷ cs)
unfolding fraction exponent
no_parts c cs no_point no_letter = rw (no_point, no_letter) refl

-- as many characters of a class as there are
many_step : (p : ℕ → Bool) (c : ℕ) (cs : List ℕ) → p c ≡ true → many (one_of p) (c ∷ cs) ≡ many (one_of p) cs
many_step p c cs is =
    let some : Some cs ≡ one_of p (c ∷ cs) = rw is refl in
    sym (many_more (one_of p) (one_of_shrinks p) (c ∷ cs) cs _ some refl)

many_stop : (p : ℕ → Bool) (cs : List ℕ) → None ≡ one_of p cs → many (one_of p) cs ≡ cs
many_stop p cs none = sym (many_none (one_of p) cs _ none refl)

pub many_one_of : (p : ℕ → Bool) (cs : List ℕ) → many (one_of p) cs ≡ drop_while p cs
many_one_of p [] = many_stop p [] refl
many_one_of p (c ∷ cs) =
    ⊎_elim
    (λ (yes : p c ≡ true). many_step p c cs yes ∙ many_one_of p cs ∙ rw yes refl)
    (λ (no : p c ≡ false). let none : None ≡ one_of p (c ∷ cs) = rw no refl in many_stop p (c ∷ cs) none ∙ rw no refl)
    (cases_Bool (p c))

-- the longer of two
pub longer-None : (o : Option (List ℕ)) → longer o None ≡ o
longer-None None = refl
longer-None (Some cs) = refl

pub longer-stays : (cs ds : List ℕ) → length cs ≤ length ds → longer (Some cs) (Some ds) ≡ Some cs
longer-stays cs ds less = let h : nat_lt (length ds) (length cs) ≡ false = grind (arith, nat_tests) in rw h refl

pub longer-goes : (cs ds : List ℕ) → length ds < length cs → longer (Some cs) (Some ds) ≡ Some ds
longer-goes cs ds less = let h : nat_lt (length ds) (length cs) ≡ true = grind (arith, nat_tests) in rw h refl

pub and_then-nothing : (o : Option (List ℕ)) → option_and_then (sequence []) o ≡ o
and_then-nothing None = refl
and_then-nothing (Some cs) = refl
