-- The height of a tree to which a child is added.
use Rattle.std.proofs.Common.{◌≡◌, ◌∙◌, ap, sym, subst, ℕ, zero, suc, ◌+◌, ◌<◌, ◌≤◌, max, List, [], ◌∷◌, ◌++◌, length, replicate, arith, refl}
use Rattle.std.specs.Prelude.{Option, Some, None, IsSome, slice_get}
use Rattle.std.proofs.lemmas.List.{length-replicate}
use Rattle.es_text.specs.declared.span.Span.{Span}
use Rattle.es_text.specs.Lists.{pushed_at}
use Rattle.es_tree.specs.declared.shape.SetAttribute.{SetAttribute}
use Rattle.es_tree.specs.declared.shape.Shape.{Shape, out-Shape, roll-Shape}
use Rattle.es_tree.specs.declared.shape.Shape.TheOpen.{Shape-F}
use Rattle.es_tree.specs.declared.shape.Shape.TheShapes.{former-Shape-fields, former-Shape-fields-at-2}
use Rattle.es_tree.specs.declared.shape.Shape.TheFolds.{fold-roll-Shape, fold_out-Shape}
use Rattle.es_tree.specs.declared.shape.Shape.TheViews.{out-roll-Shape, roll-out-Shape}
use Rattle.es_tables.specs.Nodes.{HasField, child_fields}
use Rattle.es_tree.specs.Shapes.{bare, HasNone, tallest, tallest_of_all, height_step, height, height_of, with_attribute, with_child}
use Rattle.es_tree.specs.Attributes.{attributes_with}
use Rattle.es_tree.specs.declared.shape.AttributeValue.{AttributeValue}

-- the heights in place of the children, of one field and of all
abbrev heights_in : List (Option Shape) → List (Option ℕ)
heights_in = former-Shape-fields-at-2.map Shape ℕ height

abbrev heights : List (List (Option Shape)) → List (List (Option ℕ))
heights = former-Shape-fields.map Shape ℕ height

height_roll : (node : Shape-F Shape) → height (roll-Shape node) ≡ 1 + tallest_of_all (heights node.fields)
height_roll = fold-roll-Shape ℕ height_step

height_out : (shape : Shape) → height shape ≡ 1 + tallest_of_all (heights (out-Shape shape).fields)
height_out = fold_out-Shape ℕ height_step

tallest-push : (field : List (Option Shape)) (child : Option Shape)
    → tallest (heights_in (field ++ child ∷ [])) ≡ max (tallest (heights_in field)) (height_of child)
tallest-push [] None = refl
tallest-push [] (Some shape) = omega arith
tallest-push (None ∷ rest) child = tallest-push rest child
tallest-push (Some shape ∷ rest) child = omega (arith, tallest-push rest child)

tallest_of_all-push : (fields : List (List (Option Shape))) (at : ℕ) (child : Option Shape) → at < length fields
    → tallest_of_all (heights (pushed_at fields at child)) ≡ max (tallest_of_all (heights fields)) (height_of child)
tallest_of_all-push [] at child within = absurd (omega (within, arith))
tallest_of_all-push (field ∷ rest) zero child within = omega (arith, tallest-push field child)
tallest_of_all-push (field ∷ rest) (suc at) child within =
    omega (arith, tallest_of_all-push rest at child (omega (within, arith)))

pub height-with_child : (shape : Shape) (at : ℕ) (child : Option Shape) → at < length (out-Shape shape).fields
    → height (with_child shape at child) ≡ max (height shape) (height_of child + 1)
height-with_child shape at child within =
    omega (arith, height_roll (record (out-Shape shape) { fields = pushed_at (out-Shape shape).fields at child }), height_out shape, tallest_of_all-push (out-Shape shape).fields at child within)

not_lower : (fields : List (List (Option Shape))) (at : ℕ) (child : Option Shape)
    → tallest_of_all (heights fields) ≤ tallest_of_all (heights (pushed_at fields at child))
not_lower [] at child = omega arith
not_lower (field ∷ rest) zero child = omega (arith, tallest-push field child)
not_lower (field ∷ rest) (suc at) child = omega (arith, not_lower rest at child)

-- a node is no lower with a child more
pub never_lower : (shape : Shape) (at : ℕ) (child : Option Shape) → height shape ≤ height (with_child shape at child)
never_lower shape at child =
    omega (arith, height_roll (record (out-Shape shape) { fields = pushed_at (out-Shape shape).fields at child }), height_out shape, not_lower (out-Shape shape).fields at child)

not_above : (fields : List (List (Option Shape))) (at : ℕ) (child : Option Shape)
    → tallest_of_all (heights (pushed_at fields at child)) ≤ max (tallest_of_all (heights fields)) (height_of child)
not_above [] at child = omega arith
not_above (field ∷ rest) zero child = omega (arith, tallest-push field child)
not_above (field ∷ rest) (suc at) child = omega (arith, not_above rest at child)

-- a node stays within a limit with a child that is lower
pub stays_within : (shape : Shape) (at : ℕ) (child : Option Shape) (limit : ℕ) → height shape ≤ limit → height_of child < limit →
    height (with_child shape at child) ≤ limit
stays_within shape at child limit within lower =
    omega (arith, within, lower, height_roll (record (out-Shape shape) { fields = pushed_at (out-Shape shape).fields at child }), height_out shape, not_above (out-Shape shape).fields at child)

-- an attribute leaves the height
pub as_high : (shape : Shape) (at : ℕ) (value : AttributeValue) → height (with_attribute shape at value) ≡ height shape
as_high shape at value =
    height_roll (record (out-Shape shape) { attributes = attributes_with (out-Shape shape).attributes at value }) ∙ sym (height_out shape)

no_heights : (count : ℕ) → tallest_of_all (heights (replicate count [])) ≡ 0
no_heights zero = refl
no_heights (suc count) = omega (arith, no_heights count)

-- a node without children has the height 1
pub height-bare : (kind : ℕ) (span : Span) → height (bare kind span) ≡ 1
height-bare kind span =
    omega (arith, height_roll (record { kind = kind; span = span; fields = replicate (length (child_fields kind)) []; attributes = [] }), no_heights (length (child_fields kind)))

none_at : {A : Type 0} (count at : ℕ) (x : A) → at < count → slice_get (replicate count x) at ≡ Some x
none_at zero at x within = absurd (omega (arith, within))
none_at (suc count) zero x within = refl
none_at (suc count) (suc at) x within = none_at count at x (omega (arith, within))

-- and each of its fields has a list, which is empty
pub none-bare : (kind : ℕ) (span : Span) (field : ℕ) → field < length (child_fields kind) → HasNone (bare kind span) field
none-bare kind span field within =
    rw (out-roll-Shape (record { kind = kind; span = span; fields = replicate (length (child_fields kind)) []; attributes = [] }))
    (none_at (length (child_fields kind)) field [] within)

pub fields-bare : (kind : ℕ) (span : Span) → length (out-Shape (bare kind span)).fields ≡ length (child_fields (out-Shape (bare kind span)).kind)
fields-bare kind span =
    rw (out-roll-Shape (record { kind = kind; span = span; fields = replicate (length (child_fields kind)) []; attributes = [] }))
    (length-replicate (length (child_fields kind)) [])

-- adding to a field leaves the number of the fields
pub length-pushed_at : {A : Type 0} (fields : List (List A)) (at : ℕ) (child : A) → length (pushed_at fields at child) ≡ length fields
length-pushed_at [] at child = refl
length-pushed_at (field ∷ rest) zero child = refl
length-pushed_at (field ∷ rest) (suc at) child = omega (arith, length-pushed_at rest at child)

-- a node that gets other lists, but as many, has one for each child field
pub lists-kept : (shape : Shape) (lists : List (List (Option Shape))) → length lists ≡ length (child_fields (out-Shape shape).kind)
    → length (out-Shape (roll-Shape (record (out-Shape shape) { fields = lists }))).fields
    ≡ length (child_fields (out-Shape (roll-Shape (record (out-Shape shape) { fields = lists }))).kind)
lists-kept shape lists same = rw (out-roll-Shape (record (out-Shape shape) { fields = lists })) same

-- what holds of the node with the child holds of the one that is made
pub added : (P : Shape → Type 0) (shape : Shape) (field : ℕ) (child : Option Shape) (lists : List (List (Option Shape))) →
    lists ≡ pushed_at (out-Shape shape).fields field child → P (with_child shape field child) → P (roll-Shape (record (out-Shape shape) { fields = lists }))
added P shape field child lists is holds = subst (λ (fields : List (List (Option Shape))). P (roll-Shape (record (out-Shape shape) { fields = fields }))) (sym is) holds

-- a field that a kind has stands in the list of its child fields
in_list : {A : Type 0} (list : List A) (at : ℕ) → IsSome (slice_get list at) → at < length list
in_list [] at some = absurd (cc)
in_list (first ∷ rest) zero some = omega arith
in_list (first ∷ rest) (suc at) some = let within = in_list rest at some in omega (arith, within)

pub field_within : (kind field : ℕ) → HasField kind field → field < length (child_fields kind)
field_within kind field has = in_list (child_fields kind) field has

pushed_beyond : {A : Type 0} (fields : List (List A)) (at : ℕ) (child : A) → length fields ≤ at → pushed_at fields at child ≡ fields
pushed_beyond [] at child beyond = refl
pushed_beyond (field ∷ rest) zero child beyond = absurd (omega (beyond, arith))
pushed_beyond (field ∷ rest) (suc at) child beyond = ap (λ fields. field ∷ fields) (pushed_beyond rest at child (omega (beyond, arith)))

-- a field that the kind doesn't have takes nothing
pub with_child_beyond : (shape : Shape) (at : ℕ) (child : Option Shape) → length (out-Shape shape).fields ≤ at → with_child shape at child ≡ shape
with_child_beyond shape at child beyond =
    ap (λ fields. roll-Shape (record (out-Shape shape) { fields = fields })) (pushed_beyond (out-Shape shape).fields at child beyond) ∙ roll-out-Shape shape

-- what holds of the bare node holds of the one that is made
pub made : (P : Shape → Type 0) (kind count : ℕ) (span : Span) (fields : List (List (Option Shape))) (attributes : List SetAttribute) →
    fields ≡ replicate count [] → count ≡ length (child_fields kind) → attributes ≡ [] → P (bare kind span) →
    P (roll-Shape (record { kind = kind; span = span; fields = fields; attributes = attributes }))
made P kind count span fields attributes lists is none bared =
    subst (λ a. P (roll-Shape (record { kind = kind; span = span; fields = fields; attributes = a }))) (sym none)
    (subst (λ f. P (roll-Shape (record { kind = kind; span = span; fields = f; attributes = [] }))) (sym (lists ∙ ap (λ (n : ℕ). replicate n []) is)) bared)
