-- Tokens stand in the order of their places, so that those before an offset are a front of them.
use Rattle.std.proofs.Common.{◌≡◌, ◌∙◌, ℕ, zero, suc, ◌+◌, ◌<◌, ◌≤◌, Bool, true, false, List, [], ◌∷◌, length, slice_index_or, take, drop, ap, subst, refl, arith, cond}
use Rattle.std.specs.Prelude.{◌&&◌, find, not, nat_le, nat_lt, IsTrue, Option, None, Some}
use Rattle.std.proofs.lemmas.Bool.Decides.{nat_tests}
use Rattle.std.specs.List.{AllWithin, filter}
use Rattle.std.specs.List.Sorted.{IsNonDecreasingBy, IsPartitionPoint}
use Rattle.es_text.specs.declared.token.SourceType.{SourceType}
use Rattle.es_text.specs.declared.token.Token.{Token}
use Rattle.es_text.specs.Spans.{PartsLie, is_part}
use Rattle.es_tree.specs.declared.shape.Shape.{Shape}
use Rattle.es_grammar.specs.Trees as trees
use Rattle.es_grammar.specs.Trees.{ReadsProgram}
use Rattle.es_grammar.specs.Within.{AreBetween}
use Rattle.es_parser.specs.Parsing.{Parses, Whole, whole, wrong, unread, deep}

-- what is parsed is read as a program
pub reads-program : (text : List ℕ) (source : SourceType) (tree : Shape) (tokens : List Token) → Parses text source (Whole tree tokens)
    → ReadsProgram text source (trees.Whole tree tokens)
reads-program text source tree tokens (whole t ts reads none same) =
    let trees-alike : t ≡ tree = cc in
    let tokens-alike : ts ≡ tokens = cc in
    subst (λ one. ReadsProgram text source (trees.Whole one tokens)) trees-alike
    (subst (λ all. ReadsProgram text source (trees.Whole t all)) tokens-alike reads)
reads-program text source tree tokens (wrong t ts early reads first same) = absurd cc
reads-program text source tree tokens (unread at reads same) = absurd cc
reads-program text source tree tokens (deep at reads same) = absurd cc

-- tokens that lie one behind the other
starts-behind : (text : List ℕ) (from : ℕ) (tokens : List Token) (to : ℕ) → AreBetween text from tokens to → (k : ℕ) (d : Token) → k < length tokens
    → from ≤ (slice_index_or tokens k d).span.start
starts-behind text from [] to between k d within = absurd (omega (arith, within))
starts-behind text from (first ∷ rest) to between zero d within = between.0.behind
starts-behind text from (first ∷ rest) to between (suc k) d within =
    omega (arith, between.0.behind, between.0.order, starts-behind text first.span.end rest to between.1 k d (omega (arith, within)))

pub starts-rise : (text : List ℕ) (from : ℕ) (tokens : List Token) (to : ℕ) → AreBetween text from tokens to → IsNonDecreasingBy (λ token. token.span.start) tokens
starts-rise text from [] to between i j d order within = absurd (omega (arith, within))
starts-rise text from (first ∷ rest) to between zero zero d order within = omega arith
starts-rise text from (first ∷ rest) to between zero (suc j) d order within =
    omega (arith, between.0.order, starts-behind text first.span.end rest to between.1 j d (omega (arith, within)))
starts-rise text from (first ∷ rest) to between (suc i) zero d order within = absurd (omega (arith, order))
starts-rise text from (first ∷ rest) to between (suc i) (suc j) d order within =
    starts-rise text first.span.end rest to between.1 i j d (omega (arith, order)) (omega (arith, within))

pub tokens-inside : PartsLie → (text : List ℕ) (from : ℕ) (tokens : List Token) (to : ℕ) → AreBetween text from tokens to → (k : ℕ) (d : Token) → k < length tokens
    → IsTrue (is_part text (slice_index_or tokens k d).span)
tokens-inside parts text from [] to between k d within = absurd (omega (arith, within))
tokens-inside parts text from (first ∷ rest) to between zero d within =
    (parts text first.span).1 (record { order = between.0.order; start = between.0.start; end = between.0.end })
tokens-inside parts text from (first ∷ rest) to between (suc k) d within =
    tokens-inside parts text first.span.end rest to between.1 k d (omega (arith, within))

le-lt : (a b : ℕ) → nat_le a b ≡ not (nat_lt b a)
le-lt a b = grind (arith, nat_tests)

-- elements of which those that pass stand before those that don't
module _ {X : Type 0} (p q : X → Bool) (other : (x : X) → q x ≡ not (p x)) where
  cut-before : (xs : List X) (n : ℕ) → n ≤ length xs → AllWithin (λ x. p x ≡ true) xs 0 n → AllWithin (λ x. p x ≡ false) xs n (length xs)
      → take n xs ≡ filter p xs
  cut-before [] zero within passes fails = refl
  cut-before [] (suc n) within passes fails = absurd (omega (arith, within))
  cut-before (x ∷ xs) zero within passes fails =
      rw (fails 0 x (omega arith) (omega arith)) (cut-before xs zero (omega arith) (λ k d low high. absurd (omega (arith, high)))
      (λ k d low high. fails (suc k) d (omega arith) (omega (arith, high))))
  cut-before (x ∷ xs) (suc n) within passes fails =
      rw (passes 0 x (omega arith) (omega arith)) (ap (λ ys. x ∷ ys) (cut-before xs n (omega (arith, within))
      (λ k d low high. passes (suc k) d (omega arith) (omega (arith, high))) (λ k d low high. fails (suc k) d (omega (arith, low)) (omega (arith, high)))))

  cut-behind : (xs : List X) (n : ℕ) → n ≤ length xs → AllWithin (λ x. p x ≡ true) xs 0 n → AllWithin (λ x. p x ≡ false) xs n (length xs)
      → drop n xs ≡ filter q xs
  cut-behind [] zero within passes fails = refl
  cut-behind [] (suc n) within passes fails = absurd (omega (arith, within))
  cut-behind (x ∷ xs) zero within passes fails =
      rw (other x, fails 0 x (omega arith) (omega arith)) (ap (λ ys. x ∷ ys) (cut-behind xs zero (omega arith) (λ k d low high. absurd (omega (arith, high)))
      (λ k d low high. fails (suc k) d (omega arith) (omega (arith, high)))))
  cut-behind (x ∷ xs) (suc n) within passes fails =
      rw (other x, passes 0 x (omega arith) (omega arith)) (cut-behind xs n (omega (arith, within))
      (λ k d low high. passes (suc k) d (omega arith) (omega (arith, high))) (λ k d low high. fails (suc k) d (omega (arith, low)) (omega (arith, high))))

-- elements that begin before an offset, and the others
module _ {X : Type 0} (n : X → ℕ) (offset : ℕ) (xs : List X) (i : ℕ) (within : i ≤ length xs)
    (point : IsPartitionPoint (λ x. nat_lt (n x) offset ≡ true) (λ x. nat_lt (n x) offset ≡ false) xs i) where
  pub front-before : take i xs ≡ filter (λ x. nat_lt (n x) offset) xs
  front-before = cut-before (λ x. nat_lt (n x) offset) (λ x. nat_le offset (n x)) (λ x. le-lt offset (n x)) xs i within point.0 point.1

  pub rest-from : drop i xs ≡ filter (λ x. nat_le offset (n x)) xs
  rest-from = cut-behind (λ x. nat_lt (n x) offset) (λ x. nat_le offset (n x)) (λ x. le-lt offset (n x)) xs i within point.0 point.1

-- those that pass both tests
pub filter-both : {X : Type 0} (p q : X → Bool) (xs : List X) → filter q (filter p xs) ≡ filter (λ x. p x && q x) xs
filter-both p q [] = refl
filter-both p q (x ∷ xs) = cases (p x) (filter-both p q xs)
  where
    cases : (a : Bool) → filter q (filter p xs) ≡ filter (λ x. p x && q x) xs
        → filter q (cond a (x ∷ filter p xs) (filter p xs)) ≡ cond (a && q x) (x ∷ filter (λ x. p x && q x) xs) (filter (λ x. p x && q x) xs)
    cases true more = ap (λ ys. cond (q x) (x ∷ ys) ys) more
    cases false more = more

-- the first element that passes
module _ {X : Type 0} (p : X → Bool) where
  none-parts : (b : Bool) (x : X) (r : Option X) → cond b (Some x) r ≡ None → (b ≡ false) × (r ≡ None)
  none-parts true x r none = absurd cc
  none-parts false x r none = (refl, none)

  pub first-here : (xs : List X) (i : ℕ) (d : X) → i < length xs → find p (take i xs) ≡ None → p (slice_index_or xs i d) ≡ true
      → find p xs ≡ Some (slice_index_or xs i d)
  first-here [] i d within none passes = absurd (omega (arith, within))
  first-here (x ∷ xs) zero d within none passes = rw passes refl
  first-here (x ∷ xs) (suc i) d within none passes =
      let parts = none-parts (p x) x (find p (take i xs)) none in
      rw parts.0 (first-here xs i d (omega (arith, within)) parts.1 passes)

  pub none-more : (xs : List X) (i : ℕ) (d : X) → i < length xs → find p (take i xs) ≡ None → p (slice_index_or xs i d) ≡ false
      → find p (take (i + 1) xs) ≡ None
  none-more [] i d within none fails = absurd (omega (arith, within))
  none-more (x ∷ xs) zero d within none fails = rw fails refl
  none-more (x ∷ xs) (suc i) d within none fails =
      let parts = none-parts (p x) x (find p (take i xs)) none in
      let one : suc i + 1 ≡ suc (i + 1) = omega arith in
      ap (λ n. find p (take n (x ∷ xs))) one ∙ rw parts.0 (none-more xs i d (omega (arith, within)) parts.1 fails)
