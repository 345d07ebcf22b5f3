-- The nodes around a node, step by step.
use Rattle.std.proofs.Common.{◌≡◌, ◌∙◌, ℕ, zero, suc, ◌<◌, ◌≤◌, List, [], ◌∷◌, Option, Some, None, refl, ap, sym, subst, arith}
use Rattle.es_tree.specs.Rows.{Row, parent_of, IsNumbered}
use Rattle.es_tree.specs.Around.{with_around, joined, parent, ancestors_within, ancestors}

some_parent : (up : Option (Option ℕ)) (node : ℕ) → joined up ≡ Some node → up ≡ Some (Some node)
some_parent None node is = cc
some_parent (Some None) node is = cc
some_parent (Some (Some other)) node is = let same : other ≡ node = cc in ap (λ (n : ℕ). Some (Some n)) same

pub parent-before : (rows : List Row) → IsNumbered rows → (node above : ℕ) → parent rows node ≡ Some above → above < node
parent-before rows numbers node above is = numbers.parents node above (some_parent (parent_of rows node) above is)

with_same : (f g : ℕ → List ℕ) (up : Option ℕ) → ((node : ℕ) → up ≡ Some node → f node ≡ g node) → with_around f up ≡ with_around g up
with_same f g None same = refl
with_same f g (Some node) same = ap (λ z. node ∷ z) (same node refl)

no_more : (rows : List Row) → IsNumbered rows → (steps : ℕ) (up : Option ℕ) → parent rows 0 ≡ up → with_around (ancestors_within steps rows) up ≡ []
no_more rows numbers steps None is = refl
no_more rows numbers steps (Some above) is = let before : above < 0 = parent-before rows numbers 0 above is in absurd (omega (arith, before))

first_has_none : (rows : List Row) → IsNumbered rows → (steps : ℕ) → ancestors_within steps rows 0 ≡ []
first_has_none rows numbers zero = refl
first_has_none rows numbers (suc steps) = no_more rows numbers steps (parent rows 0) refl

-- more steps than the node's number find no more ancestors
within_enough : (rows : List Row) → IsNumbered rows → (s t node : ℕ) → node ≤ s → node ≤ t → ancestors_within s rows node ≡ ancestors_within t rows node
within_enough rows numbers zero t node least most =
    let first : node ≡ 0 = omega (arith, least) in
    let P : ℕ → Type 0 = λ n. ancestors_within zero rows n ≡ ancestors_within t rows n in
    subst P (sym first) (sym (first_has_none rows numbers t))
within_enough rows numbers (suc s) zero node least most =
    let first : node ≡ 0 = omega (arith, most) in
    let P : ℕ → Type 0 = λ n. ancestors_within (suc s) rows n ≡ ancestors_within zero rows n in
    subst P (sym first) (first_has_none rows numbers (suc s))
within_enough rows numbers (suc s) (suc t) node least most =
    with_same (ancestors_within s rows) (ancestors_within t rows) (parent rows node) (λ above is.
    let before : above < node = parent-before rows numbers node above is in
    within_enough rows numbers s t above (omega (arith, before, least)) (omega (arith, before, most)))

-- what is around a node is its parent and what is around the parent
pub ancestors-step : (rows : List Row) → IsNumbered rows → (node : ℕ) → ancestors rows node ≡ with_around (ancestors rows) (parent rows node)
unfolding ancestors
ancestors-step rows numbers zero = sym (no_more rows numbers zero (parent rows 0) refl ∙ refl) ∙ with_same (ancestors_within zero rows) (λ n. ancestors_within n rows n) (parent rows 0) (λ above is.
    let before : above < 0 = parent-before rows numbers 0 above is in absurd (omega (arith, before)))
ancestors-step rows numbers (suc node) =
    with_same (ancestors_within node rows) (λ n. ancestors_within n rows n) (parent rows (suc node)) (λ above is.
    let before : above < suc node = parent-before rows numbers (suc node) above is in
    within_enough rows numbers node above above (omega (arith, before)) (omega arith))
