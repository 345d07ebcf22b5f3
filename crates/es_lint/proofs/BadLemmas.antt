-- What is quoted of a text.
use Rattle.std.proofs.Common.{◌≡◌, ◌∙◌, ℕ, ◌+◌, ◌<◌, Bool, true, false, cond, not, List, [], ◌∷◌, ◌++◌, length, map, take, slice_index_or, append_assoc, refl, ap, sym, codes, slice_range, if◌then◌else◌}
use Rattle.std.specs.List.{filter}
use Rattle.std.proofs.lemmas.List.{take_more}
use Rattle.std.specs.Str.{chars}
use Rattle.es_text.specs.declared.span.Span.{Span}
use Rattle.es_text.specs.Spans.{LiesIn, PartsLie, is_part}
use Rattle.es_messages.specs.declared.directive.Entry.{Entry}
use Rattle.es_messages.specs.Suppression.{lists}
use Rattle.es_lint.specs.Bad.{bad_report, quoted, unknown_in}

module _ (parts : PartsLie) (bytes : List ℕ) (span : Span) where
  -- a part of the text
  pub quoted_some : LiesIn bytes span → chars (slice_range bytes span.start span.end) ≡ quoted bytes span
  quoted_some lies =
      sym (ap (λ b. if b then chars (slice_range bytes span.start span.end) else codes "") ((parts bytes span).1 lies))

  -- and what is none
  pub quoted_none : (LiesIn bytes span → ⊥) → codes "" ≡ quoted bytes span
  quoted_none none = cases (is_part bytes span) refl
    where
      cases : (b : Bool) → is_part bytes span ≡ b → codes "" ≡ (if b then chars (slice_range bytes span.start span.end) else codes "")
      cases true is = absurd (none ((parts bytes span).0 is))
      cases false is = refl

pub no_chars : chars (codes "") ≡ codes ""
unfolding chars
no_chars = refl

-- ---- one more of a list

module _ {A B : Type 0} (F : List A → List B) (join : (xs ys : List A) → F (xs ++ ys) ≡ F xs ++ F ys) where
  pub more_of : (first : List B) (items : List A) (i : ℕ) (x : A) → i < length items → x ≡ slice_index_or items i x →
      (first ++ F (take i items)) ++ F (x ∷ []) ≡ first ++ F (take (i + 1) items)
  more_of first items i x within is =
      append_assoc first (F (take i items)) (F (x ∷ []))
      ∙ ap (λ r. first ++ r)
      (sym (join (take i items) (x ∷ []))
      ∙ ap F (ap (λ y. take i items ++ y ∷ []) is ∙ sym (take_more items i x within)))

pub map_join : {A B : Type 0} (f : A → B) (xs ys : List A) → map f (xs ++ ys) ≡ map f xs ++ map f ys
map_join f [] ys = refl
map_join f (x ∷ xs) ys = ap (λ r. f x ∷ r) (map_join f xs ys)

filter_join : {A : Type 0} (p : A → Bool) (xs ys : List A) → filter p (xs ++ ys) ≡ filter p xs ++ filter p ys
filter_join p [] ys = refl
filter_join p (x ∷ xs) ys = cases (p x) (filter_join p xs ys)
  where
    cases : (b : Bool) → filter p (xs ++ ys) ≡ filter p xs ++ filter p ys
        → cond b (x ∷ filter p (xs ++ ys)) (filter p (xs ++ ys)) ≡ cond b (x ∷ filter p xs) (filter p xs) ++ filter p ys
    cases true rest = ap (λ r. x ∷ r) rest
    cases false rest = rest

pub unknown_join : (ids : List (List ℕ)) (bytes : List ℕ) (span : Span) (xs ys : List Entry) →
    unknown_in ids bytes span (xs ++ ys) ≡ unknown_in ids bytes span xs ++ unknown_in ids bytes span ys
unknown_join ids bytes span xs ys =
    let keep : Entry → Bool = λ entry. not (lists ids entry.rule) in
    ap (map (λ (entry : Entry). bad_report span (quoted bytes entry.span))) (filter_join keep xs ys)
    ∙ map_join (λ (entry : Entry). bad_report span (quoted bytes entry.span)) (filter keep xs) (filter keep ys)
