-- The first of the errors of the nodes so far.
use Rattle.std.proofs.Common.{◌≡◌, ◌∙◌, ℕ, zero, suc, ◌+◌, ◌<◌, ◌≤◌, Bool, true, false, List, [], ◌∷◌, length, Option, Some, None, IsTrue, refl, ap, sym, subst, inl, inr, arith}
use Rattle.std.specs.Prelude.{◌==◌, ◌&&◌, ◌||◌, if◌then◌else◌, nat_le, nat_lt, IfNone, IfSome}
use Rattle.std.proofs.lemmas.Bool.{cases_eq}
use Rattle.std.proofs.lemmas.Bool.Decides.{nat_tests}
use Rattle.es_text.specs.declared.span.Span.{Span}
use Rattle.es_text.specs.declared.token.SourceType.{SourceType}
use Rattle.es_tree.specs.Rows.{Row, span_of}
use Rattle.es_early.specs.Lookups.{IsLeastCode, earlier_of}
use Rattle.es_early.specs.declared.code.Early.{Early}
use Rattle.es_early.specs.Errors.{IsCase, IsError, IsFirst, is_before}

abbrev order : ℕ → ℕ → ℕ → ℕ → ℕ → ℕ → Bool
order s c e t d f = nat_lt s t || (s == t && (nat_lt c d || (c == d && nat_le e f)))

order-through : (s c e t d f u k g : ℕ) → order s c e t d f ≡ true → order t d f u k g ≡ true → order s c e u k g ≡ true
order-through s c e t d f u k g first second = grind (arith, nat_tests)

order-total : (s c e t d f : ℕ) → order s c e t d f ≡ false → order t d f s c e ≡ true
order-total s c e t d f never = grind (arith, nat_tests)

order-same : (s c e d : ℕ) → c ≤ d → order s c e s d e ≡ true
order-same s c e d most = grind (arith, nat_tests)

order-start : (s c e t d f : ℕ) → order s c e t d f ≡ true → order t d f s c e ≡ true → s ≡ t
order-start s c e t d f first second = grind (arith, nat_tests)

order-code : (s c e t d f : ℕ) → order s c e t d f ≡ true → order t d f s c e ≡ true → c ≡ d
order-code s c e t d f first second = grind (arith, nat_tests)

order-end : (s c e t d f : ℕ) → order s c e t d f ≡ true → order t d f s c e ≡ true → e ≡ f
order-end s c e t d f first second = grind (arith, nat_tests)

before-through : (a b c : Early) → is_before a b ≡ true → is_before b c ≡ true → is_before a c ≡ true
before-through a b c first second =
    order-through a.span.start a.code a.span.end b.span.start b.code b.span.end c.span.start c.code c.span.end first second

before-total : (a b : Early) → is_before a b ≡ false → is_before b a ≡ true
before-total a b never = order-total a.span.start a.code a.span.end b.span.start b.code b.span.end never

unfoldable early_at : ℕ → ℕ → ℕ → Early
early_at start code end = record { code = code; span = record { start = start; end = end } }

before-both : (a b : Early) → is_before a b ≡ true → is_before b a ≡ true → a ≡ b
unfolding early_at
before-both a b first second =
    let start = order-start a.span.start a.code a.span.end b.span.start b.code b.span.end first second in
    let code = order-code a.span.start a.code a.span.end b.span.start b.code b.span.end first second in
    let end = order-end a.span.start a.code a.span.end b.span.start b.code b.span.end first second in
    ap (λ n. early_at n a.code a.span.end) start ∙ ap (λ n. early_at b.span.start n a.span.end) code ∙ ap (λ n. early_at b.span.start b.code n) end

-- a tree has one first early error at most
pub first-once : (rows : List Row) (source_type : SourceType) (one other : Early) → IsFirst rows source_type one → IsFirst rows source_type other → one ≡ other
first-once rows source_type one other is also = before-both one other (is.first other also.itself) (also.first one is.itself)

module _ (rows : List Row) (source_type : SourceType) where
  -- the early error is a case, and none of the first `count` nodes is one before it
  pub record IsFirstBelow (count : ℕ) (early : Early) : Type 0 where
    pub itself : IsCase rows source_type early
    pub first : (other : Early) (node : ℕ) → node < count → IsError rows source_type other.code node → span_of rows node ≡ Some other.span
        → IsTrue (is_before early other)

  -- the first case among the first `count` nodes, if there is one
  abbrev pub FirstBelow : ℕ → Option Early → Type 0
  FirstBelow count None = (node code : ℕ) → node < count → IsError rows source_type code node → ⊥
  FirstBelow count (Some early) = IsFirstBelow count early

  no_more : (count node code : ℕ) → IsLeastCode rows source_type count None → node < count + 1 → IsError rows source_type code node → node < count
  no_more count node code none less error =
      elim (cases_eq node count) [
        | inl same ↦ absurd (none code (subst (λ n. IsError rows source_type code n) same error))
        | inr differs ↦ omega (arith, less, differs)
      ]

  -- a node that is no error
  pub first-passed : (count : ℕ) (found : Option Early) → FirstBelow count found → IsLeastCode rows source_type count None → FirstBelow (count + 1) found
  first-passed count None below none = λ node code less error. below node code (no_more count node code none less error) error
  first-passed count (Some early) below none = record {
    itself = below.itself;
    first = λ other node less error span. below.first other node (no_more count node other.code none less error) error span;
  }

  abbrev made : ℕ → Span → Early
  made code span = record { code = code; span = span }

  new_case : (count code : ℕ) (span : Span) → IsLeastCode rows source_type count (Some code) → span_of rows count ≡ Some span → IsCase rows source_type (made code span)
  new_case count code span least is = record { node = count; error = least.0; span = is }

  -- the new error is before each other of its node
  own_before : (count code : ℕ) (span : Span) (other : Early) (node : ℕ) → node ≡ count → IsLeastCode rows source_type count (Some code)
      → span_of rows count ≡ Some span → IsError rows source_type other.code node → span_of rows node ≡ Some other.span
      → is_before (made code span) other ≡ true
  own_before count code span other node same least is error at =
      let most : code ≤ other.code = least.1 other.code (subst (λ n. IsError rows source_type other.code n) same error) in
      let both : Some span ≡ Some other.span = sym is ∙ ap (span_of rows) (sym same) ∙ at in
      let equal : span ≡ other.span = cc in
      subst (λ (s : Span). is_before (made code span) (made other.code s) ≡ true) equal (order-same span.start code span.end other.code most)

  choose : (first new : Early) (passes : Bool) → is_before first new ≡ passes
      → (is_before (if passes then first else new) first ≡ true) × (is_before (if passes then first else new) new ≡ true)
  choose first new true is = (order-same first.span.start first.code first.span.end first.code (omega arith), is)
  choose first new false is = (before-total first new is, order-same new.span.start new.code new.span.end new.code (omega arith))

  chosen_case : (first new : Early) (passes : Bool) → IsCase rows source_type first → IsCase rows source_type new → IsCase rows source_type (if passes then first else new)
  chosen_case first new true old_case case = old_case
  chosen_case first new false old_case case = case

  -- a node that is an error
  pub first-added : (count : ℕ) (found : Option Early) (code : ℕ) (span : Span) → FirstBelow count found
      → IsLeastCode rows source_type count (Some code) → span_of rows count ≡ Some span
      → FirstBelow (count + 1) (Some (earlier_of found (record { code = code; span = span })))
  first-added count None code span below least is = record {
    itself = new_case count code span least is;
    first = λ other node less error at.
        elim (cases_eq node count) [
          | inl same ↦ own_before count code span other node same least is error at
          | inr differs ↦ absurd (below node other.code (omega (arith, less, differs)) error)
        ];
  }
  first-added count (Some early) code span below least is =
      let new = made code span in
      let best = choose early new (is_before early new) refl in
      let kept = earlier_of (Some early) new in
      record {
        itself = chosen_case early new (is_before early new) below.itself (new_case count code span least is);
        first = λ other node less error at.
            elim (cases_eq node count) [
              | inl same ↦ before-through kept new other best.1 (own_before count code span other node same least is error at)
              | inr differs ↦ before-through kept early other best.0 (below.first other node (omega (arith, less, differs)) error at)
            ];
      }

  spanned_within : (rows : List Row) (node : ℕ) (span : Span) → span_of rows node ≡ Some span → node < length rows
  spanned_within [] node span is = cc
  spanned_within (row ∷ rows) zero span is = omega arith
  spanned_within (row ∷ rows) (suc node) span is = let less = spanned_within rows node span is in omega (arith, less)

  pub first-whole : (early : Early) → FirstBelow (length rows) (Some early) → IsFirst rows source_type early
  first-whole early below = record {
    itself = below.itself;
    first = λ other error. below.first other error.node (spanned_within rows error.node other.span error.span) error.error error.span;
  }

  pub none-whole : FirstBelow (length rows) None → (early : Early) → IsCase rows source_type early → ⊥
  none-whole below early error = below error.node early.code (spanned_within rows error.node early.span error.span) error.error

  pub some-whole : (count : ℕ) (found : Option Early) → count ≡ length rows → FirstBelow count found → IfSome found (IsFirst rows source_type)
  some-whole count None same below = tt
  some-whole count (Some early) same below = first-whole early (subst (λ n. FirstBelow n (Some early)) same below)

  pub nothing-whole : (count : ℕ) (found : Option Early) → count ≡ length rows → FirstBelow count found
      → IfNone found ((early : Early) → IsCase rows source_type early → ⊥)
  nothing-whole count None same below = none-whole (subst (λ n. FirstBelow n None) same below)
  nothing-whole count (Some early) same below = tt
