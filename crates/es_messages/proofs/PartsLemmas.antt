-- Lists in comments.
use Rattle.std.proofs.Common.{◌≡◌, ◌∙◌, ℕ, suc, ◌+◌, ◌<◌, ◌≤◌, ◌==◌, ◌||◌, Bool, true, false, not, cond, List, [], ◌∷◌, length, map, take, drop, get_or, refl, sym, ap, subst, arith, ⊎_elim, Option, None, Some}
use Rattle.std.specs.Prelude.{nat_lt}
use Rattle.std.specs.Char.{len_utf8}
use Rattle.std.specs.List.{after_first, before_first, filter, onto_first, list_any, position_or_len, prefix_len, slice_split}
use Rattle.std.proofs.lemmas.Bool.{cases_lt, eqb-true, le-ltb, lt-ltb}
use Rattle.std.proofs.lemmas.Bool.Decides.{nat_tests}
use Rattle.std.proofs.lemmas.List.{drop_all, drop_more, length-take-le, take_all}
use Rattle.std.proofs.lemmas.List.Splits.{slice_split_first}
use Rattle.std.proofs.lemmas.List.Sums.{passes_at_first, sum_by_more}
use Rattle.es_messages.specs.declared.stretch.Stretch.{Stretch}
use Rattle.es_messages.specs.Classes.{is_colon, is_comma, is_separator}
use Rattle.es_messages.specs.Directives.{words}
use Rattle.es_messages.specs.Seen.{listed_in, placed_in, seen}
use Rattle.es_messages.specs.Stretches.{Characters, holds, listed, placed, trimmed, width}

-- some element passes exactly where the first that does stands before the end
pub any_position : {X : Type 0} (p : X → Bool) (xs : List X) → list_any p xs ≡ nat_lt (position_or_len p xs) (length xs)
any_position p [] = refl
any_position p (x ∷ xs) = cases (p x) (any_position p xs)
  where
    cases : (b : Bool) → list_any p xs ≡ nat_lt (position_or_len p xs) (length xs) → (b || list_any p xs) ≡ nat_lt (cond (not b) (1 + position_or_len p xs) 0) (suc (length xs))
    cases true rest = sym (grind (arith, nat_tests))
    cases false rest = rest ∙ same (position_or_len p xs) (length xs)
      where
        same : (a b : ℕ) → nat_lt a b ≡ nat_lt (1 + a) (suc b)
        same a b = grind (arith, nat_tests)

-- where none does, the whole is one part
pub split_whole : {X : Type 0} (p : X → Bool) (xs : List X) → length xs ≤ position_or_len p xs → slice_split p xs ≡ xs ∷ []
split_whole p [] far = refl
split_whole p (x ∷ xs) far = cases (p x) far (split_whole p xs)
  where
    cases : (b : Bool) → suc (length xs) ≤ cond (not b) (1 + position_or_len p xs) 0 → (length xs ≤ position_or_len p xs → slice_split p xs ≡ xs ∷ [])
        → cond b ([] ∷ slice_split p xs) (onto_first x (slice_split p xs)) ≡ (x ∷ xs) ∷ []
    cases true far rest = absurd (omega arith)
    cases false far rest = ap (onto_first x) (rest (omega arith))

-- a comma takes one byte
pub placed_first : (at n : ℕ) (cs : List ℕ) → n ≡ position_or_len is_comma cs → n < length cs
    → placed at (slice_split is_comma cs) ≡ record { at = at; list = take n cs } ∷ placed (at + width (take (n + 1) cs)) (slice_split is_comma (drop (n + 1) cs))
placed_first at n cs here near =
    let found : position_or_len is_comma cs < length cs = omega (arith, here, near) in
    let split = slice_split_first is_comma cs 0 found in
    let comma : get_or cs n 0 ≡ 44 = ap (λ k. get_or cs k 0) here ∙ eqb-true (get_or cs (position_or_len is_comma cs) 0) 44 (passes_at_first is_comma cs 0 found) in
    let wide : width (take (n + 1) cs) ≡ width (take n cs) + 1 = sum_by_more len_utf8 cs n 0 near ∙ ap (λ c. width (take n cs) + len_utf8 c) comma in
    let further : at + width (take n cs) + 1 ≡ at + width (take (n + 1) cs) = omega (arith, wide) in
    ap (placed at) (split ∙ ap (λ k. take k cs ∷ slice_split is_comma (drop (k + 1) cs)) (sym here))
    ∙ ap (λ from. record { at = at; list = take n cs } ∷ placed from (slice_split is_comma (drop (n + 1) cs))) further

pub listed_from : (left : Option Stretch) → listed_in left ≡ filter (λ one. holds one.list) (map trimmed (placed_in left))
listed_from None = refl
listed_from (Some stretch) = refl

-- a piece that holds something is a part, and the next one is looked for behind one that doesn't
pub part_found : (stretch piece : Stretch) (behind : Option Stretch) (part : Characters) → placed stretch.at (slice_split is_comma stretch.list.now) ≡ seen piece ∷ placed_in behind → part ≡ trimmed (seen piece) → holds part.list ≡ true → listed (seen stretch) ≡ part ∷ listed_in behind
part_found stretch piece behind part split is filled =
    ap (λ pieces. filter (λ one. holds one.list) (map trimmed pieces)) split
    ∙ ap (λ one. cond (holds one.list) (one ∷ filter (λ one. holds one.list) (map trimmed (placed_in behind))) (filter (λ one. holds one.list) (map trimmed (placed_in behind)))) (sym is)
    ∙ ap (λ b. cond b (part ∷ filter (λ one. holds one.list) (map trimmed (placed_in behind))) (filter (λ one. holds one.list) (map trimmed (placed_in behind)))) filled
    ∙ ap (λ parts. part ∷ parts) (sym (listed_from behind))

pub part_passed : (stretch piece : Stretch) (behind : Option Stretch) (part : Characters) → placed stretch.at (slice_split is_comma stretch.list.now) ≡ seen piece ∷ placed_in behind → part ≡ trimmed (seen piece) → holds part.list ≡ false → listed (seen stretch) ≡ listed_in behind
part_passed stretch piece behind part split is empty =
    ap (λ pieces. filter (λ one. holds one.list) (map trimmed pieces)) split
    ∙ ap (λ one. cond (holds one.list) (one ∷ filter (λ one. holds one.list) (map trimmed (placed_in behind))) (filter (λ one. holds one.list) (map trimmed (placed_in behind)))) (sym is)
    ∙ ap (λ b. cond b (part ∷ filter (λ one. holds one.list) (map trimmed (placed_in behind))) (filter (λ one. holds one.list) (map trimmed (placed_in behind)))) empty
    ∙ sym (listed_from behind)

-- separators in front of a word are of no matter
pub words_skip : (cs : List ℕ) → words (drop (prefix_len is_separator cs) cs) ≡ words cs
words_skip [] = refl
words_skip (c ∷ cs) = cases (is_separator c) refl (words_skip cs)
  where
    cases : (b : Bool) → is_separator c ≡ b → words (drop (prefix_len is_separator cs) cs) ≡ words cs
        → words (drop (cond b (1 + prefix_len is_separator cs) 0) (c ∷ cs)) ≡ words (c ∷ cs)
    cases true is rest =
        let e : 1 + prefix_len is_separator cs ≡ suc (prefix_len is_separator cs) = omega arith in
        ap (λ n. words (drop n (c ∷ cs))) e ∙ rest
        ∙ sym (ap (λ b. filter holds (cond b ([] ∷ slice_split is_separator cs) (onto_first c (slice_split is_separator cs)))) is)
    cases false is rest = refl

words_behind : (c : ℕ) (cs : List ℕ) → is_separator c ≡ true → words (c ∷ cs) ≡ words cs
words_behind c cs is = ap (λ b. filter holds (cond b ([] ∷ slice_split is_separator cs) (onto_first c (slice_split is_separator cs)))) is

pub filled : (cs : List ℕ) → 0 < length cs → holds cs ≡ true
filled cs some = grind (arith, nat_tests)

-- a word up to the first separator
pub words_first : (n : ℕ) (cs : List ℕ) → n ≡ position_or_len is_separator cs → 0 < n → 0 < length cs → words cs ≡ take n cs ∷ words (drop n cs)
words_first n cs here some full =
    ⊎_elim
    (λ (near : n < length cs).
    let found : position_or_len is_separator cs < length cs = omega (arith, here, near) in
    let split = slice_split_first is_separator cs 0 found in
    let long : 0 < length (take n cs) = omega (arith, length-take-le n cs (omega arith)) in
    let separator : is_separator (get_or cs n 0) ≡ true = ap (λ k. is_separator (get_or cs k 0)) here ∙ passes_at_first is_separator cs 0 found in
    ap (filter holds) (split ∙ ap (λ k. take k cs ∷ slice_split is_separator (drop (k + 1) cs)) (sym here))
    ∙ ap (λ b. cond b (take n cs ∷ words (drop (n + 1) cs)) (words (drop (n + 1) cs))) (filled (take n cs) long)
    ∙ ap (λ rest. take n cs ∷ rest) (sym (ap words (drop_more cs n 0 near) ∙ words_behind (get_or cs n 0) (drop (n + 1) cs) separator)))
    (λ (far : length cs ≤ n).
    ap (filter holds) (split_whole is_separator cs (omega (arith, here, far)))
    ∙ ap (λ b. cond b (cs ∷ []) []) (filled cs full)
    ∙ ap (λ word. word ∷ []) (sym (take_all n cs far))
    ∙ ap (λ rest. take n cs ∷ words rest) (sym (drop_all n cs far)))
    (cases_lt n (length cs))

-- behind separators stands none
pub first_other : (p : ℕ → Bool) (cs : List ℕ) → 0 < length (drop (prefix_len p cs) cs) → 0 < position_or_len p (drop (prefix_len p cs) cs)
first_other p [] some = absurd (omega arith)
first_other p (c ∷ cs) some = cases (p c) refl (first_other p cs) some
  where
    cases : (b : Bool) → p c ≡ b → (0 < length (drop (prefix_len p cs) cs) → 0 < position_or_len p (drop (prefix_len p cs) cs))
        → 0 < length (drop (cond b (1 + prefix_len p cs) 0) (c ∷ cs)) → 0 < position_or_len p (drop (cond b (1 + prefix_len p cs) 0) (c ∷ cs))
    cases true is rest some =
        let e : 1 + prefix_len p cs ≡ suc (prefix_len p cs) = omega arith in
        subst (λ n. 0 < position_or_len p (drop n (c ∷ cs))) (sym e) (rest (subst (λ n. 0 < length (drop n (c ∷ cs))) e some))
    cases false is rest some =
        subst (λ b. 0 < cond (not b) (1 + position_or_len p cs) 0) (sym is) (omega arith)

-- a colon stands in it, or none does
pub colon_in : (n : ℕ) (cs : List ℕ) → n ≡ position_or_len is_colon cs → n < length cs → list_any is_colon cs ≡ true
colon_in n cs here near =
    let found : position_or_len is_colon cs < length cs = omega (arith, here, near) in
    any_position is_colon cs ∙ lt-ltb (position_or_len is_colon cs) (length cs) found

pub no_colon : (n : ℕ) (cs : List ℕ) → n ≡ position_or_len is_colon cs → length cs ≤ n → list_any is_colon cs ≡ false
no_colon n cs here far =
    let past : length cs ≤ position_or_len is_colon cs = omega (arith, here, far) in
    any_position is_colon cs ∙ le-ltb (position_or_len is_colon cs) (length cs) past
