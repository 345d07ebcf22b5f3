-- Taking elements as early as one can loses nothing.
use Rattle.std.proofs.Common.{◌≡◌, ◌∙◌, suc, ◌≤◌, Bool, true, false, ◌||◌, ◌&&◌, cond, List, [], ◌∷◌, ◌++◌, drop, length, nat_eq, Option, Some, None, refl, sym, ap, subst, arith}
use Rattle.std.specs.List.{list_any}
use Rattle.std.proofs.lemmas.Bool.{false≢true, ne_eqb, true≢false}
use Rattle.es_globs.specs.Fitting.{begins_wide, behind, earliest, first_and_rest, fits, is_none_left, only_whole, or_else, suffixes}

-- a test of what is left, which fails where there is nothing
abbrev pub passes : {B : Type 0} → (List B → Bool) → Option (List B) → Bool
passes test None = false
passes test (Some bs) = test bs

either : (x y : Bool) (P : Type 0) → (x || y) ≡ true → (x ≡ true → P) → (y ≡ true → P) → P
either true y P is left right = left refl
either false y P is left right = right is

right_holds : (x y : Bool) → y ≡ true → (x || y) ≡ true
right_holds true y is = refl
right_holds false y is = is

no_other : (x : Bool) → (x || false) ≡ x
no_other true = refl
no_other false = refl

absorbed : (x y : Bool) → (y ≡ true → x ≡ true) → (x || y) ≡ x
absorbed true y gives = refl
absorbed false true gives = absurd (false≢true (gives refl))
absorbed false false gives = refl

any_same : {X : Type 0} (p q : X → Bool) → ((x : X) → p x ≡ q x) → (xs : List X) → list_any p xs ≡ list_any q xs
any_same p q same [] = refl
any_same p q same (x ∷ xs) = ap (λ b. b || list_any p xs) (same x) ∙ ap (λ b. q x || b) (any_same p q same xs)

-- items in front of which none is wide
pub front : {A B : Type 0} (wide : A → Bool) (takes : A → B → Bool) (items rest : List A) (bs : List B) → list_any wide items ≡ false
    → fits wide takes (items ++ rest) bs ≡ passes (fits wide takes rest) (behind takes items bs)
front wide takes [] rest bs plain = refl
front {A} {B} wide takes (a ∷ items) rest bs plain = cases (wide a) plain bs (front wide takes items rest)
  where
    taken : (t : Bool) (bs : List B) → fits wide takes (items ++ rest) bs ≡ passes (fits wide takes rest) (behind takes items bs)
        → (t && fits wide takes (items ++ rest) bs) ≡ passes (fits wide takes rest) (cond t (behind takes items bs) None)
    taken true bs same = same
    taken false bs same = refl

    cases : (w : Bool) → (w || list_any wide items) ≡ false → (bs : List B)
        → ((bs : List B) → list_any wide items ≡ false → fits wide takes (items ++ rest) bs ≡ passes (fits wide takes rest) (behind takes items bs))
        → cond w (list_any (fits wide takes (items ++ rest)) (suffixes bs)) (first_and_rest (takes a) (fits wide takes (items ++ rest)) bs)
        ≡ passes (fits wide takes rest) (behind takes (a ∷ items) bs)
    cases true plain bs given = absurd (true≢false plain)
    cases false plain [] given = refl
    cases false plain (b ∷ bs) given = taken (takes a b) bs (given bs plain)

-- a wide item in front takes one more element
pub longer : {A B : Type 0} (wide : A → Bool) (takes : A → B → Bool) (a : A) (rest : List A) → wide a ≡ true
    → (b : B) (bs : List B) → fits wide takes (a ∷ rest) bs ≡ true → fits wide takes (a ∷ rest) (b ∷ bs) ≡ true
longer {A} {B} wide takes a rest star b bs fit = cases (wide a) star fit
  where
    cases : (w : Bool) → w ≡ true
        → cond w (list_any (fits wide takes rest) (suffixes bs)) (first_and_rest (takes a) (fits wide takes rest) bs) ≡ true
        → cond w (fits wide takes rest (b ∷ bs) || list_any (fits wide takes rest) (suffixes bs)) (takes a b && fits wide takes rest bs) ≡ true
    cases true star fit = right_holds (fits wide takes rest (b ∷ bs)) (list_any (fits wide takes rest) (suffixes bs)) fit
    cases false star fit = absurd (false≢true star)

-- what is left behind as many elements as there are items
abbrev beyond : {A B : Type 0} → List A → List B → List B
beyond [] bs = bs
beyond (a ∷ items) [] = []
beyond (a ∷ items) (b ∷ bs) = beyond items bs

abbrev tail : {B : Type 0} → List B → List B
tail [] = []
tail (b ∷ bs) = bs

beyond_none : {A : Type 0} (B : Type 0) (items : List A) → beyond {A = A} {B = B} items [] ≡ []
beyond_none B [] = refl
beyond_none B (a ∷ items) = refl

beyond_tail : {A B : Type 0} (items : List A) (b : B) (bs : List B) → tail (beyond items (b ∷ bs)) ≡ beyond items bs
beyond_tail [] b bs = refl
beyond_tail {A} {B} (a ∷ items) b [] = ap tail (beyond_none B items)
beyond_tail (a ∷ items) b (c ∷ bs) = beyond_tail items c bs

left_beyond : {A B : Type 0} (takes : A → B → Bool) (items : List A) (bs left : List B) → behind takes items bs ≡ Some left → left ≡ beyond items bs
left_beyond takes [] bs left is = cc
left_beyond takes (a ∷ items) [] left is = cc
left_beyond {A} {B} takes (a ∷ items) (b ∷ bs) left is = cases (takes a b) is (left_beyond takes items bs left)
  where
    cases : (t : Bool) → cond t (behind takes items bs) None ≡ Some left → (behind takes items bs ≡ Some left → left ≡ beyond items bs) → left ≡ beyond items bs
    cases true is given = given is
    cases false is given = cc

-- a test that holds of more elements where it holds of fewer
abbrev Grows : {B : Type 0} → (List B → Bool) → Type 0
Grows {B} test = (b : B) (bs : List B) → test bs ≡ true → test (b ∷ bs) ≡ true

left_passes : {A B : Type 0} (takes : A → B → Bool) (items : List A) (test : List B → Bool) (xs : List B) → passes test (behind takes items xs) ≡ true → test (beyond items xs) ≡ true
left_passes {A} {B} takes items test xs pass = cases (behind takes items xs) pass (left_beyond takes items xs)
  where
    cases : (o : Option (List B)) → passes test o ≡ true → ((left : List B) → o ≡ Some left → left ≡ beyond items xs) → test (beyond items xs) ≡ true
    cases None pass at = absurd (false≢true pass)
    cases (Some left) pass at = subst (λ l. test l ≡ true) (at left refl) pass

grown : {A B : Type 0} (takes : A → B → Bool) (items : List A) (test : List B → Bool) → Grows test → (bs : List B)
    → list_any (λ xs. passes test (behind takes items xs)) (suffixes bs) ≡ true → test (beyond items bs) ≡ true
grown takes items test grows [] any =
    either (passes test (behind takes items [])) false (test (beyond items []) ≡ true) any (left_passes takes items test []) (λ none. absurd (false≢true none))
grown {A} {B} takes items test grows (b ∷ bs) any =
    either (passes test (behind takes items (b ∷ bs))) (list_any (λ xs. passes test (behind takes items xs)) (suffixes bs)) (test (beyond items (b ∷ bs)) ≡ true) any
    (left_passes takes items test (b ∷ bs))
    (λ more. shrunk (beyond items (b ∷ bs)) (subst (λ l. test l ≡ true) (sym (beyond_tail items b bs)) (grown takes items test grows bs more)))
  where
    shrunk : (ys : List B) → test (tail ys) ≡ true → test ys ≡ true
    shrunk [] is = is
    shrunk (y ∷ ys) is = grows y ys is

last_items : {A B : Type 0} (takes : A → B → Bool) (items : List A) (bs : List B)
    → list_any (λ xs. passes is_none_left (behind takes items xs)) (suffixes bs) ≡ passes is_none_left (earliest takes items true bs)
last_items {A} {B} takes items [] = end (behind takes items [])
  where
    end : (o : Option (List B)) → (passes is_none_left o || false) ≡ passes is_none_left (only_whole true o)
    end None = refl
    end (Some []) = refl
    end (Some (b ∷ bs)) = refl
last_items {A} {B} takes items (b ∷ bs) = step (behind takes items (b ∷ bs)) _ _ (last_items takes items bs)
  where
    step : (o other : Option (List B)) (any : Bool) → any ≡ passes is_none_left other → (passes is_none_left o || any) ≡ passes is_none_left (or_else (only_whole true o) other)
    step None other any is = is
    step (Some []) other any is = refl
    step (Some (b ∷ bs)) other any is = is

before_wide : {A B : Type 0} (takes : A → B → Bool) (items : List A) (test : List B → Bool) → Grows test → (bs : List B)
    → list_any (λ xs. passes test (behind takes items xs)) (suffixes bs) ≡ passes test (earliest takes items false bs)
before_wide {A} {B} takes items test grows [] = end (behind takes items [])
  where
    end : (o : Option (List B)) → (passes test o || false) ≡ passes test (only_whole false o)
    end None = refl
    end (Some []) = no_other (test [])
    end (Some (b ∷ bs)) = no_other (test (b ∷ bs))
before_wide {A} {B} takes items test grows (b ∷ bs) = step (behind takes items (b ∷ bs)) (earliest takes items false bs) (list_any (λ xs. passes test (behind takes items xs)) (suffixes bs)) (before_wide takes items test grows bs) kept
  where
    kept : (left : List B) → behind takes items (b ∷ bs) ≡ Some left → list_any (λ xs. passes test (behind takes items xs)) (suffixes bs) ≡ true → test left ≡ true
    kept left is any =
        subst (λ l. test l ≡ true) (sym (left_beyond takes items (b ∷ bs) left is))
        (grown takes items test grows (b ∷ bs) (right_holds (passes test (behind takes items (b ∷ bs))) (list_any (λ xs. passes test (behind takes items xs)) (suffixes bs)) any))

    step : (o other : Option (List B)) (any : Bool) → any ≡ passes test other → ((left : List B) → o ≡ Some left → any ≡ true → test left ≡ true)
        → (passes test o || any) ≡ passes test (or_else (only_whole false o) other)
    step None other any is kept = is
    step (Some []) other any is kept = absorbed (test []) any (kept [] refl)
    step (Some (c ∷ cs)) other any is kept = absorbed (test (c ∷ cs)) any (kept (c ∷ cs) refl)

-- behind a wide item, the next ones that aren't wide take elements as early as they can
pub sought : {A B : Type 0} (wide : A → Bool) (takes : A → B → Bool) (items rest : List A) (bs : List B) → list_any wide items ≡ false → begins_wide wide rest ≡ true
    → list_any (fits wide takes (items ++ rest)) (suffixes bs) ≡ passes (fits wide takes rest) (earliest takes items (is_none_left rest) bs)
sought wide takes items [] bs plain begins =
    any_same (fits wide takes (items ++ [])) (λ xs. passes is_none_left (behind takes items xs)) (λ xs. front wide takes items [] xs plain) (suffixes bs)
    ∙ last_items takes items bs
sought wide takes items (w ∷ rest) bs plain begins =
    any_same (fits wide takes (items ++ w ∷ rest)) (λ xs. passes (fits wide takes (w ∷ rest)) (behind takes items xs)) (λ xs. front wide takes items (w ∷ rest) xs plain) (suffixes bs)
    ∙ before_wide takes items (fits wide takes (w ∷ rest)) (longer wide takes w rest begins) bs

pub past_wide : {A B : Type 0} (wide : A → Bool) (takes : A → B → Bool) (a : A) (left items rest : List A) (bs : List B) → wide a ≡ true → left ≡ items ++ rest → list_any wide items ≡ false → begins_wide wide rest ≡ true
    → fits wide takes (a ∷ left) bs ≡ passes (fits wide takes rest) (earliest takes items (is_none_left rest) bs)
past_wide {A} {B} wide takes a left items rest bs star is plain begins =
    ap (λ w. cond w (list_any (fits wide takes left) (suffixes bs)) (first_and_rest (takes a) (fits wide takes left) bs)) star
    ∙ ap (λ (l : List A). list_any (fits wide takes l) (suffixes bs)) is
    ∙ sought wide takes items rest bs plain begins

-- items in front of which none is wide, where they take elements and where they don't
pub front_fits : {A B : Type 0} (wide : A → Bool) (takes : A → B → Bool) (all items rest : List A) (bs left : List B) → all ≡ items ++ rest → list_any wide items ≡ false
    → Some left ≡ behind takes items bs → fits wide takes rest left ≡ fits wide takes all bs
front_fits wide takes all items rest bs left is plain taken =
    ap (passes (fits wide takes rest)) taken ∙ sym (front wide takes items rest bs plain) ∙ ap (λ whole. fits wide takes whole bs) (sym is)

pub front_fails : {A B : Type 0} (wide : A → Bool) (takes : A → B → Bool) (all items rest : List A) (bs : List B) → all ≡ items ++ rest → list_any wide items ≡ false
    → None ≡ behind takes items bs → false ≡ fits wide takes all bs
front_fails wide takes all items rest bs is plain taken =
    ap (passes (fits wide takes rest)) taken ∙ sym (front wide takes items rest bs plain) ∙ ap (λ whole. fits wide takes whole bs) (sym is)

none_left : {A : Type 0} (rest : List A) (last : Bool) → last ≡ nat_eq (length rest) 0 → last ≡ is_none_left rest
none_left [] last is = is
none_left (a ∷ rest) last is = is ∙ ne_eqb (suc (length rest)) 0 (λ e. omega (arith, e))

-- behind a wide item
pub wide_fits : {A B : Type 0} (wide : A → Bool) (takes : A → B → Bool) (all items rest : List A) (last : Bool) (bs left : List B) → 1 ≤ length all → begins_wide wide all ≡ true → drop 1 all ≡ items ++ rest
    → list_any wide items ≡ false → begins_wide wide rest ≡ true → last ≡ nat_eq (length rest) 0 → Some left ≡ earliest takes items last bs
    → fits wide takes rest left ≡ fits wide takes all bs
wide_fits wide takes [] items rest last bs left some star is plain begins ends taken = absurd (omega (arith, some))
wide_fits wide takes (a ∷ all) items rest last bs left some star is plain begins ends taken =
    ap (passes (fits wide takes rest)) (taken ∙ ap (λ l. earliest takes items l bs) (none_left rest last ends))
    ∙ sym (past_wide wide takes a all items rest bs star is plain begins)

pub wide_fails : {A B : Type 0} (wide : A → Bool) (takes : A → B → Bool) (all items rest : List A) (last : Bool) (bs : List B) → 1 ≤ length all → begins_wide wide all ≡ true → drop 1 all ≡ items ++ rest
    → list_any wide items ≡ false → begins_wide wide rest ≡ true → last ≡ nat_eq (length rest) 0 → None ≡ earliest takes items last bs
    → false ≡ fits wide takes all bs
wide_fails wide takes [] items rest last bs some star is plain begins ends taken = absurd (omega (arith, some))
wide_fails wide takes (a ∷ all) items rest last bs some star is plain begins ends taken =
    ap (passes (fits wide takes rest)) (taken ∙ ap (λ l. earliest takes items l bs) (none_left rest last ends))
    ∙ sym (past_wide wide takes a all items rest bs star is plain begins)
