-- Patterns that are spelled one segment after the other.
use Rattle.std.proofs.Common.{◌≡◌, ◌∙◌, ℕ, suc, ◌+◌, ◌*◌, ◌<◌, ◌≤◌, Bool, true, false, cond, List, [], ◌∷◌, ◌++◌, length, map, refl, sym, ap, subst, append_assoc, append-nil, length-append, arith, not, take, drop, drop-cons, get_or, Option, None, Some, option_map}
use Rattle.std.specs.Prelude.{nat_le, nat_lt, option_and_then}
use Rattle.std.specs.List.{after_first, before_first, onto_first, position_or_len, slice_split}
use Rattle.es_globs.specs.Lists.{one_passes}
use Rattle.std.proofs.lemmas.List.Splits.{slice_split_first}
use Rattle.std.proofs.lemmas.List.{length-map, map-append}
use Rattle.std.proofs.lemmas.Bool.{le-ltb, lt-leb, lt-ltb, ltb-false, ltb-true}
use Rattle.std.proofs.Math.Nat.{mul-le-mul_left}
use Rattle.es_globs.specs.declared.piece.Piece.{Piece}
use Rattle.es_globs.specs.declared.piece.Piece.TheVariants.{Plain}
use Rattle.es_globs.specs.declared.spelling.Mark.TheVariants.{Close, Comma}
use Rattle.es_globs.specs.declared.spelling.TheConstants.{MOST_PATTERNS}
use Rattle.es_globs.specs.Spelling.{is_mark, joined, limited, segment_patterns, segments_patterns}

map_twice : {A : Type 0} (x y : List A) (zs : List (List A)) → map (λ z. (x ++ y) ++ z) zs ≡ map (λ z. x ++ z) (map (λ z. y ++ z) zs)
map_twice x y [] = refl
map_twice x y (z ∷ zs) = ap (λ one. one ∷ map (λ z. (x ++ y) ++ z) zs) (append_assoc x y z) ∙ ap (λ rest. (x ++ (y ++ z)) ∷ rest) (map_twice x y zs)

joined_append : {A : Type 0} (xs ys others : List (List A)) → joined (xs ++ ys) others ≡ joined xs others ++ joined ys others
joined_append [] ys others = refl
joined_append (x ∷ xs) ys others =
    ap (λ rest. map (λ other. x ++ other) others ++ rest) (joined_append xs ys others)
    ∙ sym (append_assoc (map (λ other. x ++ other) others) (joined xs others) (joined ys others))

joined_map : {A : Type 0} (x : List A) (ys others : List (List A)) → joined (map (λ y. x ++ y) ys) others ≡ map (λ other. x ++ other) (joined ys others)
joined_map x [] others = refl
joined_map x (y ∷ ys) others =
    ap (λ front. front ++ joined (map (λ y. x ++ y) ys) others) (map_twice x y others)
    ∙ ap (λ rest. map (λ z. x ++ z) (map (λ z. y ++ z) others) ++ rest) (joined_map x ys others)
    ∙ sym (map-append (λ z. x ++ z) (map (λ z. y ++ z) others) (joined ys others))

-- joining in either order
pub joined_joined : {A : Type 0} (xs ys zs : List (List A)) → joined (joined xs ys) zs ≡ joined xs (joined ys zs)
joined_joined [] ys zs = refl
joined_joined (x ∷ xs) ys zs =
    joined_append (map (λ y. x ++ y) ys) (joined xs ys) zs
    ∙ ap (λ front. front ++ joined (joined xs ys) zs) (joined_map x ys zs)
    ∙ ap (λ rest. map (λ other. x ++ other) (joined ys zs) ++ rest) (joined_joined xs ys zs)

-- nothing behind changes nothing
pub joined_end : {A : Type 0} (xs : List (List A)) → joined xs ([] ∷ []) ≡ xs
joined_end [] = refl
joined_end (x ∷ xs) = ap (λ one. one ∷ joined xs ([] ∷ [])) (append-nil x) ∙ ap (λ rest. x ∷ rest) (joined_end xs)

pub length_joined : {A : Type 0} (xs ys : List (List A)) → length (joined xs ys) ≡ length xs * length ys
length_joined [] ys = omega arith
length_joined (x ∷ xs) ys =
    let front : length (map (λ y. x ++ y) ys ++ joined xs ys) ≡ length (map (λ y. x ++ y) ys) + length (joined xs ys) = length-append (map (λ y. x ++ y) ys) (joined xs ys) in
    let same : length (map (λ y. x ++ y) ys) ≡ length ys = length-map ys (λ y. x ++ y) in
    front ∙ ap (λ n. n + length (joined xs ys)) same ∙ ap (λ n. length ys + n) (length_joined xs ys) ∙ once_more (length xs) (length ys)
  where
    once_more : (a b : ℕ) → b + a * b ≡ suc a * b
    once_more a b = grind arith

some_part : {X : Type 0} (p : X → Bool) (xs : List X) → 0 < length (slice_split p xs)
some_part p [] = omega arith
some_part {X} p (x ∷ xs) = cases (p x) (slice_split p xs) (some_part p xs)
  where
    cases : (b : Bool) (parts : List (List X)) → 0 < length parts → 0 < length (cond b ([] ∷ parts) (onto_first x parts))
    cases true parts some = omega arith
    cases false [] some = omega arith
    cases false (part ∷ parts) some = omega arith

product_some : (a b : ℕ) → 0 < a → 0 < b → 0 < a * b
product_some a b left right = grind (arith, mul-le-mul_left)

pub some_joined : {A : Type 0} (xs ys : List (List A)) → 0 < length xs → 0 < length ys → 0 < length (joined xs ys)
some_joined xs ys left right = subst (λ n. 0 < n) (sym (length_joined xs ys)) (product_some (length xs) (length ys) left right)

-- a segment spells some pattern, and so do all
pub some_in_segment : (segment : List Piece) (patterns : List (List Piece)) → Some patterns ≡ segment_patterns segment → 0 < length patterns
some_in_segment segment patterns is = cases (one_passes (is_mark Close) segment) is
  where
    cases : (b : Bool) → Some patterns ≡ cond b (Some (joined (slice_split (is_mark Comma) (before_first (is_mark Close) segment)) (after_first (is_mark Close) segment ∷ []))) None → 0 < length patterns
    cases true is =
        let same : joined (slice_split (is_mark Comma) (before_first (is_mark Close) segment)) (after_first (is_mark Close) segment ∷ []) ≡ patterns = cc in
        subst (λ p. 0 < length p) same
        (some_joined (slice_split (is_mark Comma) (before_first (is_mark Close) segment)) (after_first (is_mark Close) segment ∷ []) (some_part (is_mark Comma) (before_first (is_mark Close) segment)) (omega arith))
    cases false is = cc

some_in_all : (segments : List (List Piece)) (patterns : List (List Piece)) → segments_patterns segments ≡ Some patterns → 0 < length patterns
some_in_all [] patterns is = let same : [] ∷ [] ≡ patterns = cc in subst (λ p. 0 < length p) same (omega arith)
some_in_all (segment ∷ segments) patterns is = cases (segment_patterns segment) (segments_patterns segments) (some_in_segment segment) (some_in_all segments) is
  where
    cases : (o others : Option (List (List Piece))) → ((made : List (List Piece)) → Some made ≡ o → 0 < length made) → ((made : List (List Piece)) → others ≡ Some made → 0 < length made)
        → option_and_then (λ made. option_map (joined made) others) o ≡ Some patterns → 0 < length patterns
    cases None others here there is = cc
    cases (Some made) None here there is = cc
    cases (Some made) (Some rest) here there is =
        let same : joined made rest ≡ patterns = cc in
        subst (λ p. 0 < length p) same (some_joined made rest (here made refl) (there rest refl))

-- the patterns that these are, with those of the segments that are left behind them
abbrev pub with_spelled : List (List Piece) → List (List Piece) → Option (List (List Piece))
with_spelled done segments = option_and_then limited (option_map (joined done) (segments_patterns segments))

pub one_more : (done more : List (List Piece)) (segment : List Piece) (segments : List (List Piece)) → Some more ≡ segment_patterns segment
    → with_spelled (joined done more) segments ≡ with_spelled done (segment ∷ segments)
one_more done more segment segments is =
    ap (option_and_then limited) (both (segments_patterns segments))
    ∙ ap (λ o. option_and_then limited (option_map (joined done) (option_and_then (λ made. option_map (joined made) (segments_patterns segments)) o))) is
  where
    both : (o : Option (List (List Piece))) → option_map (joined (joined done more)) o ≡ option_map (joined done) (option_map (joined more) o)
    both None = refl
    both (Some others) = ap Some (joined_joined done more others)

-- more than the most stay more
pub too_many : (done more : List (List Piece)) (segment : List Piece) (segments : List (List Piece)) → Some more ≡ segment_patterns segment
    → MOST_PATTERNS < length done * length more → None ≡ with_spelled done (segment ∷ segments)
too_many done more segment segments is many = none (segments_patterns segments) (some_in_all segments) ∙ one_more done more segment segments is
  where
    product : (a b : ℕ) → 0 < b → MOST_PATTERNS < a → MOST_PATTERNS < a * b
    product a b some far = grind (arith, mul-le-mul_left)

    none : (o : Option (List (List Piece))) → ((made : List (List Piece)) → o ≡ Some made → 0 < length made) → None ≡ option_and_then limited (option_map (joined (joined done more)) o)
    none None some = refl
    none (Some others) some =
        let long : length (joined (joined done more) others) ≡ length done * length more * length others = length_joined (joined done more) others ∙ ap (λ n. n * length others) (length_joined done more) in
        let far : MOST_PATTERNS < length (joined (joined done more) others) = subst (λ n. MOST_PATTERNS < n) (sym long) (product (length done * length more) (length others) (some others refl) many) in
        sym (ap (λ b. cond b (Some (joined (joined done more) others)) None) (lt-leb (length (joined (joined done more) others)) MOST_PATTERNS far))

-- where no segment is left
pub all_spelled : (done : List (List Piece)) → length done ≤ MOST_PATTERNS → Some done ≡ with_spelled done []
all_spelled done few =
    sym (ap (λ made. option_and_then limited (Some made)) (joined_end done) ∙ ap (λ b. cond b (Some done) None) (within (length done) few))
  where
    within : (n : ℕ) → n ≤ MOST_PATTERNS → nat_le n MOST_PATTERNS ≡ true
    within n few = grind arith

-- what stands in front of the first mark, and where there is none
pub split_found : (p : Piece → Bool) (pieces : List Piece) (n : ℕ) → n ≡ position_or_len p pieces → n < length pieces
    → slice_split p pieces ≡ take n pieces ∷ slice_split p (drop (n + 1) pieces)
split_found p pieces n here near =
    slice_split_first p pieces (Plain 0) (omega (arith, here, near)) ∙ ap (λ k. take k pieces ∷ slice_split p (drop (k + 1) pieces)) (sym here)

pub split_whole : {X : Type 0} (p : X → Bool) (xs : List X) → length xs ≤ position_or_len p xs → slice_split p xs ≡ xs ∷ []
split_whole p [] far = refl
split_whole p (x ∷ xs) far = cases (p x) far (split_whole p xs)
  where
    cases : (b : Bool) → suc (length xs) ≤ cond (not b) (1 + position_or_len p xs) 0 → (length xs ≤ position_or_len p xs → slice_split p xs ≡ xs ∷ [])
        → cond b ([] ∷ slice_split p xs) (onto_first x (slice_split p xs)) ≡ (x ∷ xs) ∷ []
    cases true far rest = absurd (omega arith)
    cases false far rest = ap (onto_first x) (rest (omega arith))

-- a segment whose braces are closed at this piece, and one whose braces aren't
pub closed_at : (segment : List Piece) (n : ℕ) → n ≡ position_or_len (is_mark Close) segment → n < length segment
    → Some (joined (slice_split (is_mark Comma) (take n segment)) (drop (n + 1) segment ∷ [])) ≡ segment_patterns segment
closed_at segment n here near =
    ap (λ k. Some (joined (slice_split (is_mark Comma) (take k segment)) (drop (k + 1) segment ∷ []))) here
    ∙ sym (ap (λ b. cond b (Some (joined (slice_split (is_mark Comma) (before_first (is_mark Close) segment)) (after_first (is_mark Close) segment ∷ []))) None)
    (lt-ltb (position_or_len (is_mark Close) segment) (length segment) (omega (arith, here, near))))

pub closed_nowhere : (segment : List Piece) (n : ℕ) → n ≡ position_or_len (is_mark Close) segment → length segment ≤ n → None ≡ segment_patterns segment
closed_nowhere segment n here far =
    sym (ap (λ b. cond b (Some (joined (slice_split (is_mark Comma) (before_first (is_mark Close) segment)) (after_first (is_mark Close) segment ∷ []))) None)
    (le-ltb (position_or_len (is_mark Close) segment) (length segment) (omega (arith, here, far))))

-- joining one more of the first lists
pub joined_more : (patterns firsts others : List (List Piece)) (i : ℕ) (first d : List Piece) (more : List (List Piece)) → i < length firsts → first ≡ get_or firsts i d
    → more ≡ patterns ++ map (λ other. first ++ other) others → more ++ joined (drop (i + 1) firsts) others ≡ patterns ++ joined (drop i firsts) others
joined_more patterns firsts others i first d more within is new =
    ap (λ n. n ++ joined (drop (i + 1) firsts) others) new
    ∙ append_assoc patterns (map (λ other. first ++ other) others) (joined (drop (i + 1) firsts) others)
    ∙ ap (λ l. patterns ++ joined l others) whole
  where
    whole : first ∷ drop (i + 1) firsts ≡ drop i firsts
    whole =
        let step : drop i firsts ≡ get_or firsts i d ∷ drop (suc i) firsts = drop-cons firsts i d within in
        let next : suc i ≡ i + 1 = omega arith in
        cc

-- what the test of a product says of it
pub is_many : (a b first second : ℕ) (test : Bool) → test ≡ nat_lt MOST_PATTERNS (a * b) → a ≡ first → b ≡ second → test ≡ true → MOST_PATTERNS < first * second
is_many a b first second test is left right told =
    ltb-true MOST_PATTERNS (first * second)
    (ap (λ n. nat_lt MOST_PATTERNS (n * second)) (sym left) ∙ ap (λ n. nat_lt MOST_PATTERNS (a * n)) (sym right) ∙ sym is ∙ told)

pub is_few : (a b first second : ℕ) (test : Bool) → test ≡ nat_lt MOST_PATTERNS (a * b) → a ≡ first → b ≡ second → test ≡ false → first * second ≤ MOST_PATTERNS
is_few a b first second test is left right told =
    ltb-false MOST_PATTERNS (first * second)
    (ap (λ n. nat_lt MOST_PATTERNS (n * second)) (sym left) ∙ ap (λ n. nat_lt MOST_PATTERNS (a * n)) (sym right) ∙ sym is ∙ told)
