-- The height of a node that gets its children.
use Rattle.std.proofs.Common.{◌≡◌, ◌∙◌, ap, sym, refl, ℕ, ◌<◌, ◌≤◌, Bool, true, false, List, [], ◌∷◌, ◌++◌, Option, Some, None, arith}
use Rattle.es_tree.specs.declared.shape.Shape.{Shape, out-Shape}
use Rattle.es_tree.specs.Heights.{IsAsHigh, IsNeverLower, IsOneHigh, StandsAboveChild, StaysWithin}
use Rattle.es_tree.specs.Shapes.{bare, height, height_of, with_attribute, with_child}
use Rattle.es_grammar.specs.declared.draft.Child.{Child}
use Rattle.es_grammar.specs.declared.draft.Setting.{Setting}
use Rattle.es_grammar.specs.declared.part.Field.TheVariants as f
use Rattle.es_tables.specs.Nodes.{field_index}
use Rattle.es_text.specs.declared.span.Span.{Span}
use Rattle.es_tree.specs.declared.shape.AttributeValue.TheVariants as value
use Rattle.es_grammar.specs.Drafts.{flags_of, index_in, with_children, with_flags, with_settings}
use Rattle.es_grammar.specs.Parts.{as_directive, directive_of, told, told_child, with_directives}
use Rattle.std.specs.Prelude.{◌&&◌, length, nat_lt, option_and_then, option_map}
use Rattle.std.specs.List.{list_all}
use Rattle.std.specs.Option.{option_map_or, unwrap_or}
use Rattle.std.proofs.lemmas.Bool.{ltb-true}
use Rattle.es_parser.specs.Sketches.{all_lower}

pub never_lower : IsNeverLower → (kind : ℕ) (children : List Child) (shape : Shape) → height shape ≤ height (with_children kind children shape)
never_lower law kind [] shape = omega arith
never_lower law kind (child ∷ rest) shape =
    let one = law shape (index_in kind child.field) child.shape in
    let all = never_lower law kind rest (with_child shape (index_in kind child.field) child.shape) in
    omega (arith, one, all)

pub too_high : IsNeverLower → StandsAboveChild → (kind limit : ℕ) (child : Child) (rest : List Child) (shape : Shape) →
    index_in kind child.field < length (out-Shape shape).fields → limit < height_of child.shape →
    limit < height (with_children kind (child ∷ rest) shape)
too_high law above kind limit child rest shape within high =
    let one = above shape (index_in kind child.field) child.shape within in
    let all = never_lower law kind rest (with_child shape (index_in kind child.field) child.shape) in
    omega (arith, one, all, high)

and_true : (a b : Bool) → a && b ≡ true → (a ≡ true) × (b ≡ true)
and_true true b h = (refl, h)
and_true false b h = cc

both_true : (a b : Bool) → a ≡ true → b ≡ true → a && b ≡ true
both_true a b h k = rw h k

pub lower_joined : (limit : ℕ) (some more : List Child) → all_lower limit some ≡ true → all_lower limit more ≡ true → all_lower limit (some ++ more) ≡ true
lower_joined limit [] more h k = k
lower_joined limit (child ∷ rest) more h k =
    let parts = and_true (nat_lt (height_of child.shape) limit) (all_lower limit rest) h in
    both_true (nat_lt (height_of child.shape) limit) (all_lower limit (rest ++ more)) parts.0 (lower_joined limit rest more parts.1 k)

flags_height : IsAsHigh → (kind : ℕ) (names : List (List ℕ)) (shape : Shape) → height (with_flags kind names shape) ≡ height shape
flags_height law kind [] shape = refl
flags_height law kind (name ∷ names) shape =
    flags_height law kind names (with_attribute shape (unwrap_or (field_index kind name) 0) (value.Flag false))
    ∙ law shape (unwrap_or (field_index kind name) 0) (value.Flag false)

settings_height : IsAsHigh → (kind : ℕ) (settings : List Setting) (shape : Shape) → height (with_settings kind settings shape) ≡ height shape
settings_height law kind [] shape = refl
settings_height law kind (setting ∷ settings) shape =
    settings_height law kind settings (with_attribute shape (index_in kind (Some setting.field)) setting.value)
    ∙ law shape (index_in kind (Some setting.field)) setting.value

children_within : StaysWithin → (kind limit : ℕ) (children : List Child) (shape : Shape) → height shape ≤ limit →
    all_lower limit children ≡ true → height (with_children kind children shape) ≤ limit
children_within law kind limit [] shape within h = within
children_within law kind limit (child ∷ rest) shape within h =
    let parts = and_true (nat_lt (height_of child.shape) limit) (all_lower limit rest) h in
    let lower = ltb-true (height_of child.shape) limit parts.0 in
    children_within law kind limit rest (with_child shape (index_in kind child.field) child.shape)
    (law shape (index_in kind child.field) child.shape limit within lower) parts.1

-- a node whose children are lower than a limit stays within it
pub stays_within : IsOneHigh → IsAsHigh → StaysWithin → (kind limit : ℕ) (span : Span) (children : List Child) (settings : List Setting) → 1 ≤ limit →
    all_lower limit children ≡ true →
    height (with_children kind children (with_settings kind settings (with_flags kind (flags_of kind) (bare kind span)))) ≤ limit
stays_within one same law kind limit span children settings some h =
    let shape = with_settings kind settings (with_flags kind (flags_of kind) (bare kind span)) in
    let e : height shape ≡ 1 = settings_height same kind settings (with_flags kind (flags_of kind) (bare kind span)) ∙ flags_height same kind (flags_of kind) (bare kind span) ∙ one kind span in
    children_within law kind limit children shape (omega (arith, e, some)) h

told_words : IsAsHigh → (child it : Child) (shape : Shape) (words : Option (List ℕ)) →
    option_map (λ cs. record child { shape = Some (as_directive shape cs) }) words ≡ Some it → height_of it.shape ≡ height shape
told_words law child it shape None e = cc
told_words law child it shape (Some cs) e =
    let k : it ≡ record child { shape = Some (as_directive shape cs) } = cc in
    ap (λ (one : Child). height_of one.shape) k ∙ law shape (index_in (out-Shape shape).kind (Some f.Directive)) (value.Words cs)

told_shape : IsAsHigh → (child it : Child) (found : Option Shape) →
    option_and_then (λ shape. option_map (λ cs. record child { shape = Some (as_directive shape cs) }) (directive_of shape)) found ≡ Some it →
    height_of it.shape ≡ height_of found
told_shape law child it None e = cc
told_shape law child it (Some shape) e = told_words law child it shape (directive_of shape) e

told_step : IsAsHigh → (limit : ℕ) (child : Child) (rest : List Child) (found : Option Child) → found ≡ told_child child →
    all_lower limit (child ∷ rest) ≡ true → all_lower limit (told told_child rest) ≡ true →
    all_lower limit (option_map_or (λ it. it ∷ told told_child rest) found (child ∷ rest)) ≡ true
told_step law limit child rest None e h k = h
told_step law limit child rest (Some it) e h k =
    let parts = and_true (nat_lt (height_of child.shape) limit) (all_lower limit rest) h in
    let same = told_shape law child it child.shape (sym e) in
    both_true (nat_lt (height_of it.shape) limit) (all_lower limit (told told_child rest)) (ap (λ n. nat_lt n limit) same ∙ parts.0) k

told_lower : IsAsHigh → (limit : ℕ) (children : List Child) → all_lower limit children ≡ true → all_lower limit (told told_child children) ≡ true
told_lower law limit [] h = h
told_lower law limit (child ∷ rest) h =
    let parts = and_true (nat_lt (height_of child.shape) limit) (all_lower limit rest) h in
    told_step law limit child rest (told_child child) refl h (told_lower law limit rest parts.1)

-- directives are as high as the statements that they are
pub directives_lower : IsAsHigh → (limit : ℕ) (children : List Child) → all_lower limit children ≡ true → all_lower limit (with_directives children) ≡ true
unfolding with_directives
directives_lower law limit children h = told_lower law limit children h
