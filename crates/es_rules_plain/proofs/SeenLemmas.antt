-- Texts in a set.
use Rattle.std.proofs.Common.{◌≡◌, ℕ, Bool, true, false, not, ◌||◌, cond, List, Bor, refl, sym, ◌∙◌}
use Rattle.std.specs.Cmp.Derive.Mapped.{pointwise-map}
use Rattle.std.specs.Cmp.Lexicographic.{pointwise}
use Rattle.std.specs.HashSet.{HashSet, contains}
use Rattle.std.specs.List.{list_any}
use Rattle.std.specs.Str.{bytes_eq}
use Rattle.es_rules_plain.specs.NoDuplicateCase.{Texts, has, same}

-- how the set itself compares texts
abbrev pub same_parts : Texts → Texts → Bool
same_parts one other = pointwise (λ (x y : Bor (List ℕ)). bytes_eq x.now y.now) one.items other.items

parts_same : (one other : Texts) → same_parts one other ≡ same one other
parts_same one other = sym (pointwise-map (λ (text : Bor (List ℕ)). text.now) bytes_eq one.items other.items)

contains_has : {S : Type 0} (seen : HashSet Texts S) (texts : Texts) → contains same_parts seen texts ≡ has seen texts
contains_has seen texts = λ i. list_any (λ other. parts_same texts other i) seen.keys

either : (b c : Bool) → cond b true c ≡ (b || c)
either true c = refl
either false c = refl

not_not : (b c : Bool) → b ≡ not c → not b ≡ c
not_not true true e = sym e
not_not true false e = refl
not_not false true e = refl
not_not false false e = sym e

pub told : {S : Type 0} (seen : HashSet Texts S) (texts : Texts) (added : Bool) → added ≡ not (contains same_parts seen texts) → not added ≡ has seen texts
told seen texts added e = not_not added (contains same_parts seen texts) e ∙ contains_has seen texts

pub more : {S : Type 0} (seen next : HashSet Texts S) (texts other : Texts) → contains same_parts next other ≡ cond (same_parts texts other) true (contains same_parts seen other) →
    has next other ≡ (same texts other || has seen other)
more seen next texts other e =
    sym (contains_has next other) ∙ e ∙ either (same_parts texts other) (contains same_parts seen other)
    ∙ (λ i. parts_same texts other i || contains_has seen other i)
