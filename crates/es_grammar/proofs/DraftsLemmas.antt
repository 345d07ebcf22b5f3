-- What was read lies in its text where its parts do.
use Rattle.std.proofs.Common.{◌≡◌, ℕ, ◌≤◌, List, [], ◌∷◌, ◌++◌, map, true, false, Option, Some, None, refl, ◌∙◌, arith, IsUtf8}
use Rattle.std.specs.Option.{option_and_then, option_map, option_map_or, unwrap_or}
use Rattle.std.specs.Str.{IsCharBoundary}
use Rattle.std.proofs.lemmas.Bool.{and_from, and_parts}
use Rattle.std.proofs.lemmas.List.Folds.{list_all-append, list_all-map}
use Rattle.std.proofs.lemmas.Str.{IsCharBoundary-start}
use Rattle.es_tables.specs.Nodes.{field_index}
use Rattle.es_text.specs.declared.span.Span.{Span}
use Rattle.es_text.specs.declared.token.Token.{Token}
use Rattle.es_text.specs.Spans.{LiesIn, PartsLie, is_part}
use Rattle.es_text.specs.Within.{IsWithin, FirstOffsetsLie, TokensLie}
use Rattle.es_tree.specs.declared.shape.AttributeValue.TheVariants as value
use Rattle.es_tree.specs.declared.shape.Shape.{Shape}
use Rattle.es_tree.specs.Shapes.{bare, with_attribute, with_child as with_child_node}
use Rattle.es_tree.specs.Spans.{BarePasses, WithAttributePasses, WithChildPasses, child_passes, spans_pass}
use Rattle.es_grammar.specs.declared.part.Field.{Field}
use Rattle.es_grammar.specs.Drafts.{Child, Draft, Setting, empty, flags_of, index_in, joined, last_end, shape_of, span_of, with_children, with_flags, with_settings}
use Rattle.es_grammar.specs.Parts.{as_directive, directive_of, placed, told, told_child, with_directives}
use Rattle.es_grammar.specs.Within.{AreBetween, LiesBetween, children_fit}

-- what the crates below say
pub record Laws : Type 0 where
  pub parts : PartsLie
  pub tokens : TokensLie
  pub offsets : FirstOffsetsLie
  pub bare : BarePasses
  pub child : WithChildPasses
  pub attribute : WithAttributePasses

module _ (text : List ℕ) (utf8 : IsUtf8 text) (laws : Laws) where
  -- spans
  pub part-told : (span : Span) → LiesIn text span → is_part text span ≡ true
  part-told span lies = (laws.parts text span).1 lies

  -- tokens
  pub between-order : (from to : ℕ) (found : List Token) → AreBetween text from found to → from ≤ to
  between-order from to [] between = between
  between-order from to (one ∷ rest) between =
      omega (arith, between.0.behind, between.0.order, between-order one.span.end to rest between.1)

  between-earlier : (from mid to : ℕ) (found : List Token) → from ≤ mid → AreBetween text mid found to → AreBetween text from found to
  between-earlier from mid to [] order between = omega (arith, order, between)
  between-earlier from mid to (one ∷ rest) order between =
      let within : IsWithin text from one =
      record { behind = omega (arith, order, between.0.behind); order = between.0.order; start = between.0.start; end = between.0.end } in
      (within, between.1)

  pub between-append : (from mid to : ℕ) (found more : List Token) → AreBetween text from found mid → AreBetween text mid more to → AreBetween text from (found ++ more) to
  between-append from mid to [] more one other = between-earlier from mid to more one other
  between-append from mid to (first ∷ rest) more one other = (one.0, between-append first.span.end mid to rest more one.1 other)

  -- the last of them ends on a boundary, behind the end of the first
  last-lies : (from to : ℕ) (first : Token) (rest : List Token) → AreBetween text from (first ∷ rest) to
      → IsCharBoundary text (last_end (first ∷ rest)) × (first.span.end ≤ last_end (first ∷ rest))
  last-lies from to first [] between = (between.0.end, omega arith)
  last-lies from to first (second ∷ rest) between =
      let further = last-lies first.span.end to second rest between.1 in
      (further.0, omega (arith, further.1, between.1.0.behind, between.1.0.order))

  pub span_of-part : (from to : ℕ) (found : List Token) → AreBetween text from found to → is_part text (span_of found) ≡ true
  span_of-part from to [] between =
      part-told (span_of []) (record { order = omega arith; start = IsCharBoundary-start text utf8; end = IsCharBoundary-start text utf8 })
  span_of-part from to (first ∷ rest) between =
      let last = last-lies from to first rest between in
      part-told (span_of (first ∷ rest)) (record { order = omega (arith, between.0.order, last.1); start = between.0.start; end = last.0 })

  -- nodes
  abbrev fits : Shape → Type 0
  fits shape = spans_pass (is_part text) shape ≡ true

  with_flags-fits : (kind : ℕ) (names : List (List ℕ)) (shape : Shape) → fits shape → fits (with_flags kind names shape)
  with_flags-fits kind [] shape own = own
  with_flags-fits kind (name ∷ names) shape own =
      with_flags-fits kind names (with_attribute shape (unwrap_or (field_index kind name) 0) (value.Flag false))
      (laws.attribute (is_part text) shape (unwrap_or (field_index kind name) 0) (value.Flag false) own)

  with_settings-fits : (kind : ℕ) (settings : List Setting) (shape : Shape) → fits shape → fits (with_settings kind settings shape)
  with_settings-fits kind [] shape own = own
  with_settings-fits kind (setting ∷ settings) shape own =
      with_settings-fits kind settings (with_attribute shape (index_in kind (Some setting.field)) setting.value)
      (laws.attribute (is_part text) shape (index_in kind (Some setting.field)) setting.value own)

  with_children-fits : (kind : ℕ) (children : List Child) (shape : Shape) → children_fit text children ≡ true → fits shape → fits (with_children kind children shape)
  with_children-fits kind [] shape below own = own
  with_children-fits kind (child ∷ children) shape below own =
      let parts = and_parts (child_passes (is_part text) child.shape) (children_fit text children) below in
      with_children-fits kind children (with_child_node shape (index_in kind child.field) child.shape) parts.1
      (laws.child (is_part text) shape (index_in kind child.field) child.shape own parts.0)

  pub shape_of-fits : (kind : ℕ) (span : Span) (children : List Child) (settings : List Setting) → is_part text span ≡ true → children_fit text children ≡ true
      → fits (shape_of kind span children settings)
  unfolding shape_of
  shape_of-fits kind span children settings own below =
      with_children-fits kind children (with_settings kind settings (with_flags kind (flags_of kind) (bare kind span))) below
      (with_settings-fits kind settings (with_flags kind (flags_of kind) (bare kind span))
      (with_flags-fits kind (flags_of kind) (bare kind span) (laws.bare (is_part text) kind span own)))

  -- children
  pub children-append : (children more : List Child) → children_fit text children ≡ true → children_fit text more ≡ true → children_fit text (children ++ more) ≡ true
  children-append children more one other =
      list_all-append (λ (child : Child). child_passes (is_part text) child.shape) children more
      ∙ and_from (children_fit text children) (children_fit text more) one other

  pub children-placed : (field : Option Field) (children : List Child) → children_fit text children ≡ true → children_fit text (map (placed field) children) ≡ true
  children-placed field children below =
      list_all-map (λ (child : Child). child_passes (is_part text) child.shape) (placed field) children ∙ below

  abbrev child_fits : Option Child → Type 0
  child_fits None = Unit {0}
  child_fits (Some child) = child_passes (is_part text) child.shape ≡ true

  directive-fits : (child : Child) (shape : Shape) (told : Option (List ℕ)) → fits shape
      → child_fits (option_map (λ cs. record child { shape = Some (as_directive shape cs) }) told)
  directive-fits child shape None own = tt
  directive-fits child shape (Some cs) own = laws.attribute (is_part text) shape _ (value.Words cs) own

  told-shape-fits : (child : Child) (o : Option Shape) → child_passes (is_part text) o ≡ true
      → child_fits (option_and_then (λ shape. option_map (λ cs. record child { shape = Some (as_directive shape cs) }) (directive_of shape)) o)
  told-shape-fits child None own = tt
  told-shape-fits child (Some shape) own = directive-fits child shape (directive_of shape) own

  told-first : (o : Option Child) (child : Child) (rest : List Child) → children_fit text (child ∷ rest) ≡ true → child_fits o
      → children_fit text (told told_child rest) ≡ true → children_fit text (option_map_or (λ it. it ∷ told told_child rest) o (child ∷ rest)) ≡ true
  told-first None child rest below own others = below
  told-first (Some it) child rest below own others =
      and_from (child_passes (is_part text) it.shape) (children_fit text (told told_child rest)) own others

  told-fits : (children : List Child) → children_fit text children ≡ true → children_fit text (told told_child children) ≡ true
  told-fits [] below = refl
  told-fits (child ∷ rest) below =
      let parts = and_parts (child_passes (is_part text) child.shape) (children_fit text rest) below in
      told-first (told_child child) child rest below (told-shape-fits child child.shape parts.0) (told-fits rest parts.1)

  pub with_directives-fits : (children : List Child) → children_fit text children ≡ true → children_fit text (with_directives children) ≡ true
  unfolding with_directives
  with_directives-fits children below = told-fits children below

  -- drafts
  pub lies-empty : (at : ℕ) → IsCharBoundary text at → LiesBetween text at empty at
  lies-empty at boundary = record { order = omega arith; end = boundary; tokens = omega arith; children = refl }

  pub lies-joined : (from mid to : ℕ) (draft more : Draft) → LiesBetween text from draft mid → LiesBetween text mid more to → LiesBetween text from (joined draft more) to
  lies-joined from mid to draft more one other = record {
    order = omega (arith, one.order, other.order);
    end = other.end;
    tokens = between-append from mid to draft.tokens more.tokens one.tokens other.tokens;
    children = children-append draft.children more.children one.children other.children;
  }
