-- The items of a program, and what is made of them.
use Rattle.std.proofs.Common.{◌≡◌, ◌∙◌, ap, subst, refl, true, arith, ◌≤◌, length, ℕ, List, [], ◌∷◌, Option, Some, None}
use Rattle.std.specs.Option.{option_map}
use Rattle.std.specs.Prelude.{nat_lt}
use Rattle.es_text.specs.declared.span.Span.{Span}
use Rattle.es_text.specs.declared.token.SourceType.{SourceType}
use Rattle.es_text.specs.declared.token.SourceType.TheVariants.{Module, Commonjs, Script}
use Rattle.std.specs.Str.{chars}
use Rattle.es_text.specs.declared.token.LexMode.{LexMode}
use Rattle.es_text.specs.declared.token.Token.{Token}
use Rattle.es_text.specs.Lists.{pushed_at}
use Rattle.es_text.specs.Skipped.{hold_line}
use Rattle.es_text.specs.Rest.{offset_of}
use Rattle.es_text.specs.Tokens.{Form, behind_skipped, first_offset, form, skipped_at, token}
use Rattle.es_tree.specs.declared.shape.AttributeValue.{AttributeValue}
use Rattle.es_tree.specs.declared.shape.AttributeValue.TheVariants as value
use Rattle.es_tree.specs.declared.shape.Shape.{Shape, out-Shape}
use Rattle.es_tree.specs.declared.shape.Shape.TheViews.{out-roll-Shape}
use Rattle.es_tree.specs.Attributes.{attributes_with}
use Rattle.es_tree.specs.Shapes.{bare, height, with_attribute, with_child}
use Rattle.es_tables.specs.Nodes.{field_index}
use Rattle.es_grammar.specs.declared.context.Spot.{Spot}
use Rattle.es_grammar.specs.declared.draft.Child.{Child}
use Rattle.es_grammar.specs.declared.draft.Draft.{Draft}
use Rattle.es_grammar.specs.declared.draft.Outcome.{Outcome}
use Rattle.es_grammar.specs.declared.draft.Outcome.TheVariants.{Read}
use Rattle.es_grammar.specs.declared.symbol.Symbol.{Symbol}
use Rattle.es_grammar.specs.Reading.{Reads}
use Rattle.es_grammar.specs.Trees.{Answer, ReadsItems, next, is_at_end, is_low, item_of, item_spot, program_of, source_words}
use Rattle.es_parser.specs.Ends.{EndsIn}
use Rattle.es_grammar.specs.declared.draft.Setting.{Setting}
use Rattle.es_grammar.specs.Drafts.{flags_of, index_in, joined, shape_of, with_children, with_flags, with_settings, words}
use Rattle.es_grammar.specs.Forms.{kind_called}
use Rattle.es_grammar.specs.Parts.{greatest_height, with_directives}
use Rattle.es_grammar.specs.declared.part.Field.TheVariants as f
use Rattle.es_tree.specs.Heights.{IsAsHigh, IsOneHigh, StaysWithin}
use Rattle.es_parser.specs.Programs.{are_low}
use Rattle.es_parser.proofs.HeightLemmas.{directives_lower, stays_within}
use Rattle.std.specs.Option.{unwrap_or}
use Rattle.std.proofs.Common.{false}

start_of : (F : Form → Token) (start : ℕ) → ((f : Form) → (F f).span.start ≡ start) → (found : Option Form) (t : Token) →
    option_map F found ≡ Some t → t.span.start ≡ start
start_of F start all None t e = cc
start_of F start all (Some f) t e = let k : t ≡ F f = cc in ap (λ (x : Token). x.span.start) k ∙ all f

-- a token begins at the first offset behind what is skipped
pub starts_first : (text : List ℕ) (at : ℕ) (m : LexMode) (t : Token) → token text at m ≡ Some t → t.span.start ≡ first_offset text at
unfolding token
starts_first text at m t e =
    start_of
    (λ f. record {
      kind = f.kind;
      span = record { start = first_offset text at; end = offset_of text f.behind };
      line_before = hold_line (skipped_at text at);
    }) (first_offset text at) (λ f. refl) (form m (behind_skipped text at)) t e

-- children and attributes leave a node's kind
child_kind : (shape : Shape) (at : ℕ) (child : Option Shape) → (out-Shape (with_child shape at child)).kind ≡ (out-Shape shape).kind
child_kind shape at child = rw (out-roll-Shape (record (out-Shape shape) { fields = pushed_at (out-Shape shape).fields at child })) refl

attribute_kind : (shape : Shape) (at : ℕ) (given : AttributeValue) → (out-Shape (with_attribute shape at given)).kind ≡ (out-Shape shape).kind
attribute_kind shape at given = rw (out-roll-Shape (record (out-Shape shape) { attributes = attributes_with (out-Shape shape).attributes at given })) refl

bare_kind : (kind : ℕ) (span : Span) → (out-Shape (bare kind span)).kind ≡ kind
bare_kind kind span = simp out-roll-Shape

flags_kind : (kind : ℕ) (names : List (List ℕ)) (shape : Shape) → (out-Shape (with_flags kind names shape)).kind ≡ (out-Shape shape).kind
flags_kind kind [] shape = refl
flags_kind kind (name ∷ names) shape =
    flags_kind kind names (with_attribute shape (unwrap_or (field_index kind name) 0) (value.Flag false))
    ∙ attribute_kind shape (unwrap_or (field_index kind name) 0) (value.Flag false)

settings_kind : (kind : ℕ) (settings : List Setting) (shape : Shape) → (out-Shape (with_settings kind settings shape)).kind ≡ (out-Shape shape).kind
settings_kind kind [] shape = refl
settings_kind kind (setting ∷ settings) shape =
    settings_kind kind settings (with_attribute shape (index_in kind (Some setting.field)) setting.value)
    ∙ attribute_kind shape (index_in kind (Some setting.field)) setting.value

children_kind : (kind : ℕ) (children : List Child) (shape : Shape) → (out-Shape (with_children kind children shape)).kind ≡ (out-Shape shape).kind
children_kind kind [] shape = refl
children_kind kind (child ∷ children) shape =
    children_kind kind children (with_child shape (index_in kind child.field) child.shape)
    ∙ child_kind shape (index_in kind child.field) child.shape

pub made_kind : (kind : ℕ) (span : Span) (children : List Child) (settings : List Setting) → (out-Shape (shape_of kind span children settings)).kind ≡ kind
unfolding shape_of
made_kind kind span children settings =
    children_kind kind children (with_settings kind settings (with_flags kind (flags_of kind) (bare kind span)))
    ∙ settings_kind kind settings (with_flags kind (flags_of kind) (bare kind span))
    ∙ flags_kind kind (flags_of kind) (bare kind span)
    ∙ bare_kind kind span

-- what is read of a text from a spot on, by other names
pub read_there : (text : List ℕ) (s : Symbol) (spot : Spot) (o : Outcome) {reader : List ℕ} {symbol : Symbol} {there : Spot} {p : Outcome} →
    reader ≡ text → symbol ≡ s → there ≡ spot → p ≡ o → Reads reader symbol there p → Reads text s spot o
read_there text s spot o {reader} {symbol} {there} {p} a b c d h =
    subst (λ (x : Outcome). Reads text s spot x) d
    (subst (λ (x : Spot). Reads text s x p) c
    (subst (λ (x : Symbol). Reads text x there p) b
    (subst (λ (x : List ℕ). Reads x symbol there p) a h)))

pub ends_there : (text : List ℕ) (o : Outcome) {reader : List ℕ} {p : Outcome} → reader ≡ text → p ≡ o → EndsIn reader p → EndsIn text o
ends_there text o {reader} {p} a b h = subst (λ (x : Outcome). EndsIn text x) b (subst (λ (x : List ℕ). EndsIn x p) a h)

-- an item that was read, and isn't too high
pub item_read : {text : List ℕ} {source : SourceType} {at end : ℕ} {item : Draft} → is_at_end text at ≡ false →
    Reads text (item_of source) (item_spot source at) (Read item end) → nat_lt at end ≡ true → is_low item ≡ true →
    (draft : Draft) (answer : Answer) → ReadsItems text source end (joined draft item) answer → ReadsItems text source at draft answer
item_read none reads moves low draft answer rest = next none reads moves low rest

-- the words of a kind of source are ASCII
pub source_characters : (source : SourceType) → chars (source_words source) ≡ source_words source
unfolding chars source_words
source_characters Module = refl
source_characters Commonjs = refl
source_characters Script = refl

-- the program is what is made of its parts
pub program_is : (text : List ℕ) (source : SourceType) (items : List Child) {bytes name : List ℕ} {children : List Child} {settings : List Setting} {given : Setting} {node made : Shape} →
    bytes ≡ text → children ≡ with_directives items → name ≡ source_words source → given ≡ words f.SourceType (chars name) → settings ≡ given ∷ [] →
    node ≡ with_settings 0 settings (with_flags 0 (flags_of 0) (bare 0 (record { start = 0; end = length bytes }))) →
    made ≡ with_children 0 children node → made ≡ program_of text source items
unfolding shape_of
program_is text source items {bytes} {name} {children} {settings} {given} {node} {made} e_text e_children e_name e_given e_settings e_node e_made =
    let s : settings ≡ words f.SourceType (source_words source) ∷ [] =
    e_settings ∙ ap (λ (x : Setting). x ∷ []) (e_given ∙ ap (words f.SourceType) (ap chars e_name ∙ source_characters source)) in
    e_made ∙ ap (λ (xs : List Child). with_children 0 xs node) e_children
    ∙ ap (with_children 0 (with_directives items))
    (e_node
    ∙ ap (λ (xs : List Setting). with_settings 0 xs (with_flags 0 (flags_of 0) (bare 0 (record { start = 0; end = length bytes })))) s
    ∙ ap (λ (n : ℕ). with_settings 0 (words f.SourceType (source_words source) ∷ []) (with_flags 0 (flags_of 0) (bare 0 (record { start = 0; end = n })))) (ap length e_text))

-- and is low, since its items are
pub program_low : IsOneHigh → IsAsHigh → StaysWithin → (items : List Child) (span : Span) (settings : List Setting) {children : List Child} {node : Shape} →
    are_low items ≡ true → children ≡ with_directives items → node ≡ with_settings 0 settings (with_flags 0 (flags_of 0) (bare 0 span)) →
    height (with_children 0 children node) ≤ greatest_height
program_low one same law items span settings {children} {node} low e_children e_node =
    let h = stays_within one same law 0 greatest_height span (with_directives items) settings (omega arith) (directives_lower same greatest_height items low) in
    omega (arith, h, ap height (ap (λ (xs : List Child). with_children 0 xs node) e_children ∙ ap (with_children 0 (with_directives items)) e_node))

pub program_kind : (text : List ℕ) (source : SourceType) (items : List Child) → (out-Shape (program_of text source items)).kind ≡ kind_called "Program"
program_kind text source items =
    made_kind (kind_called "Program") (record { start = 0; end = length text }) (with_directives items) (words f.SourceType (source_words source) ∷ [])
