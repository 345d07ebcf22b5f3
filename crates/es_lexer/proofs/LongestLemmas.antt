-- The longest word of a list that passes a test, and the index of a word.
use Rattle.std.proofs.Common.{◌≡◌, ℕ, zero, suc, ◌+◌, ◌<◌, ◌≤◌, Bool, true, false, not, ◌&&◌, List, [], ◌∷◌, length, nat_lt, refl, sym, ap, subst, ◌∙◌, arith, ⊎_elim}
use Rattle.std.specs.Prelude.{Option, Some, None, slice_get}
use Rattle.std.specs.List.{filter, list_any, position_or_len}
use Rattle.std.specs.Str.{bytes_eq}
use Rattle.std.proofs.lemmas.Bool.{and_parts, cases_Bool, cases_lt, cond-true, cond-false}
use Rattle.std.proofs.lemmas.Bool.Decides.{nat_tests}
use Rattle.std.proofs.lemmas.Slice.Eq.{bytes_eq-Decides}
use Rattle.es_text.specs.Punctuators.{longer_text, longest_text}

-- the word stands at this index of the list
abbrev pub At : List (List ℕ) → ℕ → List ℕ → Type 0
At words k word = slice_get words k ≡ Some word

kept : (p : List ℕ → Bool) (w : List ℕ) (words : List (List ℕ)) → p w ≡ true → filter p (w ∷ words) ≡ w ∷ filter p words
kept p w words is = cond-true (p w) _ _ is

left_out : (p : List ℕ → Bool) (w : List ℕ) (words : List (List ℕ)) → p w ≡ false → filter p (w ∷ words) ≡ filter p words
left_out p w words out = cond-false (p w) _ _ out

pub longest_none : (p : List ℕ → Bool) (words : List (List ℕ)) → ((k : ℕ) (w : List ℕ) → At words k w → p w ≡ false) → longest_text (filter p words) ≡ None
longest_none p [] none = refl
longest_none p (w ∷ words) none = ap longest_text (left_out p w words (none 0 w refl)) ∙ longest_none p words (λ k v at. none (suc k) v at)

AtMost : ℕ → Option (List ℕ) → Type 0
AtMost n None = Unit {0}
AtMost n (Some text) = length text ≤ n

at_most-longer : (n : ℕ) (w : List ℕ) (later : Option (List ℕ)) → length w ≤ n → AtMost n later → AtMost n (Some (longer_text w later))
unfolding AtMost
at_most-longer n w None here later = here
at_most-longer n w (Some v) here later =
    ⊎_elim
    (λ (less : length w < length v). let is : nat_lt (length w) (length v) ≡ true = grind (arith, nat_tests) in rw is later)
    (λ (no_less : length v ≤ length w). let is : nat_lt (length w) (length v) ≡ false = grind (arith, nat_tests) in rw is here)
    (cases_lt (length w) (length v))

AtMost-words : (p : List ℕ → Bool) (words : List (List ℕ)) (n : ℕ) → ((k : ℕ) (w : List ℕ) → At words k w → p w ≡ true → length w ≤ n)
    → AtMost n (longest_text (filter p words))
unfolding AtMost
AtMost-words p [] n all = tt
AtMost-words p (w ∷ words) n all =
    let later = AtMost-words p words n (λ k v at. all (suc k) v at) in
    ⊎_elim
    (λ (is : p w ≡ true).
    subst (λ (ws : List (List ℕ)). AtMost n (longest_text ws)) (sym (kept p w words is)) (at_most-longer n w (longest_text (filter p words)) (all 0 w refl is) later))
    (λ (no : p w ≡ false). subst (λ (ws : List (List ℕ)). AtMost n (longest_text ws)) (sym (left_out p w words no)) later)
    (cases_Bool (p w))

stays : (w : List ℕ) (later : Option (List ℕ)) → AtMost (length w) later → longer_text w later ≡ w
unfolding AtMost
stays w None most = refl
stays w (Some v) most = let is : nat_lt (length w) (length v) ≡ false = grind (arith, nat_tests) in rw is refl

-- of two words as long as each other that pass there is one
goes : (w t : List ℕ) → length w ≤ length t → (length w ≡ length t → w ≡ t) → longer_text w (Some t) ≡ t
goes w t most alone =
    ⊎_elim
    (λ (less : length w < length t). let is : nat_lt (length w) (length t) ≡ true = grind (arith, nat_tests) in rw is refl)
    (λ (no_less : length t ≤ length w).
    let is : nat_lt (length w) (length t) ≡ false = grind (arith, nat_tests) in
    let same : w ≡ t = alone (omega arith) in rw is same)
    (cases_lt (length w) (length t))

-- a word that passes, is no shorter than any other that does, and the only one of its length
pub longest_is : (p : List ℕ → Bool) (words : List (List ℕ)) (k : ℕ) (t : List ℕ) → At words k t → p t ≡ true
    → ((j : ℕ) (w : List ℕ) → At words j w → p w ≡ true → length w ≤ length t)
    → ((j : ℕ) (w : List ℕ) → At words j w → p w ≡ true → length w ≡ length t → w ≡ t)
    → longest_text (filter p words) ≡ Some t
longest_is p [] k t at fit most alone = cc
longest_is p (w ∷ words) zero t at fit most alone =
    let same : w ≡ t = cc in
    let fits : p w ≡ true = ap p same ∙ fit in
    let later = AtMost-words p words (length w) (λ j v there is. subst (λ (x : List ℕ). length v ≤ length x) (sym same) (most (suc j) v there is)) in
    ap longest_text (kept p w words fits)
    ∙ ap (λ x. Some x) (stays w (longest_text (filter p words)) later ∙ same)
longest_is p (w ∷ words) (suc k) t at fit most alone =
    let later = longest_is p words k t at fit (λ j v there. most (suc j) v there) (λ j v there. alone (suc j) v there) in
    ⊎_elim
    (λ (is : p w ≡ true).
    ap longest_text (kept p w words is)
    ∙ ap (λ o. Some (longer_text w o)) later
    ∙ ap (λ x. Some x) (goes w t (most 0 w refl is) (alone 0 w refl is)))
    (λ (no : p w ≡ false). ap longest_text (left_out p w words no) ∙ later)
    (cases_Bool (p w))

-- no word stands twice in the list
abbrev pub are_distinct : List (List ℕ) → Bool
are_distinct [] = true
are_distinct (w ∷ words) = not (list_any (bytes_eq w) words) && are_distinct words

present : (words : List (List ℕ)) (k : ℕ) (w : List ℕ) → At words k w → list_any (bytes_eq w) words ≡ true
present [] k w at = cc
present (v ∷ words) zero w at =
    let same : w ≡ v = cc in
    let yes : bytes_eq w v ≡ true = (bytes_eq-Decides w v).1 same in
    rw yes refl
present (v ∷ words) (suc k) w at =
    let later = present words k w at in
    ⊎_elim (λ (yes : bytes_eq w v ≡ true). rw yes refl) (λ (other : bytes_eq w v ≡ false). rw other later) (cases_Bool (bytes_eq w v))

once_at : (w : List ℕ) (words : List (List ℕ)) (k : ℕ) → not (list_any (bytes_eq w) words) ≡ true → At words k w → ⊥
once_at w words k absent at = let here = present words k w at in grind arith

-- the index of a word is the one at which it stands
pub index_is : (words : List (List ℕ)) (k : ℕ) (t : List ℕ) → are_distinct words ≡ true → At words k t → position_or_len (bytes_eq t) words ≡ k
index_is [] k t all at = cc
index_is (v ∷ words) zero t all at =
    let same : t ≡ v = cc in
    let is : bytes_eq t v ≡ true = (bytes_eq-Decides t v).1 same in
    rw is refl
index_is (v ∷ words) (suc k) t all at =
    let later : position_or_len (bytes_eq t) words ≡ k = index_is words k t (and_parts _ _ all).1 at in
    ⊎_elim
    (λ (is : bytes_eq t v ≡ true).
    let same : v ≡ t = sym ((bytes_eq-Decides t v).0 is) in
    absurd (once_at v words k (and_parts _ _ all).0 (subst (At words k) (sym same) at)))
    (λ (other : bytes_eq t v ≡ false).
    let step : 1 + position_or_len (bytes_eq t) words ≡ suc k = omega (arith, later) in rw other step)
    (cases_Bool (bytes_eq t v))

pub once : (words : List (List ℕ)) (j k : ℕ) (w : List ℕ) → are_distinct words ≡ true → At words j w → At words k w → j ≡ k
once [] j k w all first second = cc
once (v ∷ words) zero zero w all first second = refl
once (v ∷ words) zero (suc k) w all first second =
    let same : v ≡ w = cc in
    absurd (once_at v words k (and_parts _ _ all).0 (subst (At words k) (sym same) second))
once (v ∷ words) (suc j) zero w all first second =
    let same : v ≡ w = cc in
    absurd (once_at v words j (and_parts _ _ all).0 (subst (At words j) (sym same) first))
once (v ∷ words) (suc j) (suc k) w all first second = ap suc (once words j k w (and_parts _ _ all).1 first second)
