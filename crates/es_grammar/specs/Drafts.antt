-- What the parts of a row give, and the nodes that are made of it. ESTree, with the fields and attributes
-- of each kind in the order of the table of nodes.
use Rattle.std.specs.Prelude.{ℕ, ◌+◌, ◌-◌, Bool, true, false, ◌==◌, List, [], ◌∷◌, ◌++◌, map, length, filter, Option, Some, None, slice_get, take, drop, codes, if◌then◌else◌}
use Rattle.std.specs.List.{list_any}
use Rattle.std.specs.Option.{option_map, option_or, unwrap_or}
use Rattle.std.specs.Str.{bytes_eq, chars}
use Rattle.es_tables.specs.Nodes.{node_rows, field_index}
use Rattle.es_text.specs.declared.span.Span.{Span}
use Rattle.es_text.specs.declared.token.Token.{Token}
use Rattle.es_text.specs.declared.token.TokenKind.{TokenKind}
use Rattle.es_text.specs.declared.token.TokenKind.TheVariants as kind
use Rattle.es_text.specs.Characters.{backslash, letter_n}
use Rattle.es_tree.specs.declared.shape.AttributeValue.{AttributeValue}
use Rattle.es_tree.specs.declared.shape.AttributeValue.TheVariants as value
use Rattle.es_tree.specs.declared.shape.SetAttribute.{SetAttribute}
use Rattle.es_tree.specs.declared.shape.Shape.{Shape}
use Rattle.es_tree.specs.Shapes.{bare, with_attribute, with_child}
pub use Rattle.es_grammar.specs.declared.draft.Child.{Child}
pub use Rattle.es_grammar.specs.declared.draft.Draft.{Draft}
pub use Rattle.es_grammar.specs.declared.draft.Setting.{Setting}
use Rattle.es_grammar.specs.declared.part.Field.{Field}
use Rattle.es_grammar.specs.declared.part.Field.TheVariants as f
use Rattle.es_grammar.specs.declared.part.MemberKind.{MemberKind}
use Rattle.es_grammar.specs.declared.part.MemberKind.TheVariants as member
use Rattle.es_grammar.specs.Forms.{kind_called}
use Rattle.es_grammar.specs.Terminals.{text_of}

abbrev pub empty : Draft
empty = record { children = []; settings = []; tokens = []; becomes = None }

-- what was read, and then more
abbrev pub joined : Draft → Draft → Draft
joined first more = record {
  children = first.children ++ more.children;
  settings = first.settings ++ more.settings;
  tokens = first.tokens ++ more.tokens;
  becomes = option_or more.becomes first.becomes;
}

-- the names of fields and attributes
unfoldable pub name_of : Field → List ℕ
name_of f.Alternate = codes "alternate"
name_of f.Argument = codes "argument"
name_of f.Arguments = codes "arguments"
name_of f.Async = codes "async"
name_of f.Await = codes "await"
name_of f.Bigint = codes "bigint"
name_of f.Block = codes "block"
name_of f.Body = codes "body"
name_of f.Callee = codes "callee"
name_of f.Cases = codes "cases"
name_of f.Computed = codes "computed"
name_of f.Consequent = codes "consequent"
name_of f.Declaration = codes "declaration"
name_of f.Declarations = codes "declarations"
name_of f.Delegate = codes "delegate"
name_of f.Directive = codes "directive"
name_of f.Discriminant = codes "discriminant"
name_of f.Elements = codes "elements"
name_of f.Exported = codes "exported"
name_of f.Expression = codes "expression"
name_of f.Expressions = codes "expressions"
name_of f.Finalizer = codes "finalizer"
name_of f.Generator = codes "generator"
name_of f.Handler = codes "handler"
name_of f.Id = codes "id"
name_of f.Imported = codes "imported"
name_of f.Init = codes "init"
name_of f.Key = codes "key"
name_of f.Kind = codes "kind"
name_of f.Label = codes "label"
name_of f.Left = codes "left"
name_of f.Local = codes "local"
name_of f.Meta = codes "meta"
name_of f.Method = codes "method"
name_of f.Name = codes "name"
name_of f.Object = codes "object"
name_of f.Operator = codes "operator"
name_of f.Optional = codes "optional"
name_of f.Param = codes "param"
name_of f.Params = codes "params"
name_of f.Prefix = codes "prefix"
name_of f.Properties = codes "properties"
name_of f.Property = codes "property"
name_of f.Quasi = codes "quasi"
name_of f.Quasis = codes "quasis"
name_of f.Raw = codes "raw"
name_of f.Regex = codes "regex"
name_of f.Right = codes "right"
name_of f.Shorthand = codes "shorthand"
name_of f.Source = codes "source"
name_of f.SourceType = codes "sourceType"
name_of f.Specifiers = codes "specifiers"
name_of f.Static = codes "static"
name_of f.SuperClass = codes "superClass"
name_of f.Tag = codes "tag"
name_of f.Tail = codes "tail"
name_of f.Test = codes "test"
name_of f.Update = codes "update"
name_of f.Value = codes "value"

-- the attributes that are true or false, and stand at each node of a kind that has them
abbrev pub flag_words : List (List ℕ)
flag_words =
    map codes ("async" ∷ "await" ∷ "computed" ∷ "delegate" ∷ "expression" ∷ "generator" ∷ "method" ∷ "optional"
    ∷ "prefix" ∷ "shorthand" ∷ "static" ∷ "tail" ∷ [])

-- the index of a field among those of a kind; children without a field stand in the first
abbrev pub index_in : ℕ → Option Field → ℕ
index_in kind None = 0
index_in kind (Some field) = unwrap_or (field_index kind (name_of field)) 0

-- the names of the flags of a kind
abbrev pub flags_of : ℕ → List (List ℕ)
flags_of kind =
    filter (λ name. list_any (bytes_eq name) flag_words) (unwrap_or (option_map (λ row. row.attributes) (slice_get node_rows kind)) [])

-- the node with all flags of its kind, which are false
abbrev pub with_flags : ℕ → List (List ℕ) → Shape → Shape
with_flags kind [] shape = shape
with_flags kind (name ∷ names) shape =
    with_flags kind names (with_attribute shape (unwrap_or (field_index kind name) 0) (value.Flag false))

abbrev pub with_settings : ℕ → List Setting → Shape → Shape
with_settings kind [] shape = shape
with_settings kind (setting ∷ settings) shape =
    with_settings kind settings (with_attribute shape (index_in kind (Some setting.field)) setting.value)

abbrev pub with_children : ℕ → List Child → Shape → Shape
with_children kind [] shape = shape
with_children kind (child ∷ children) shape =
    with_children kind children (with_child shape (index_in kind child.field) child.shape)

-- the node of this kind with these children and attributes
unfoldable pub shape_of : ℕ → Span → List Child → List Setting → Shape
shape_of kind span children settings =
    with_children kind children (with_settings kind settings (with_flags kind (flags_of kind) (bare kind span)))

-- from the first token to the last
abbrev pub first_start : List Token → ℕ
first_start [] = 0
first_start (first ∷ rest) = first.span.start

abbrev pub last_end : List Token → ℕ
last_end [] = 0
last_end (only ∷ []) = only.span.end
last_end (first ∷ next ∷ rest) = last_end (next ∷ rest)

abbrev pub span_of : List Token → Span
span_of tokens = record { start = first_start tokens; end = last_end tokens }

-- what stands between the delimiters of a text, of which so many characters begin and end it
abbrev pub between : ℕ → ℕ → List ℕ → List ℕ
between begin end cs = take (length cs - (begin + end)) (drop begin cs)

abbrev pub words : Field → List ℕ → Setting
words field cs = record { field = field; value = value.Words cs }

abbrev pub flag : Field → Bool → Setting
flag field so = record { field = field; value = value.Flag so }

-- the value of a text without a backslash
unfoldable pub text_value : List ℕ → List Setting
text_value cs = if list_any (λ c. c == backslash) cs then [] else words f.Value (between 1 1 cs) ∷ []

-- the value of `true`, `false` and `null`
unfoldable pub word_value : List ℕ → List Setting
word_value cs =
    if bytes_eq cs (codes "true") then flag f.Value true ∷ []
    else if bytes_eq cs (codes "false") then flag f.Value false ∷ []
    else words f.Value cs ∷ []

-- a number with the suffix `n`
abbrev pub ends_with_n : List ℕ → Bool
ends_with_n [] = false
ends_with_n (only ∷ []) = only == letter_n
ends_with_n (first ∷ next ∷ rest) = ends_with_n (next ∷ rest)

unfoldable pub number_value : List ℕ → List Setting
number_value cs = if ends_with_n cs then words f.Bigint cs ∷ [] else []

-- the attributes of a node that is one token, of these characters
unfoldable pub literal_settings : TokenKind → List ℕ → List Setting
literal_settings kind.Text cs = words f.Raw cs ∷ text_value cs
literal_settings kind.Number cs = words f.Raw cs ∷ number_value cs
literal_settings kind.RegExp cs = words f.Raw cs ∷ words f.Regex cs ∷ []
literal_settings other cs = words f.Raw cs ∷ word_value cs

-- the text of a template's part is without its delimiters
unfoldable pub template_settings : TokenKind → List ℕ → List Setting
template_settings kind.Full cs = words f.Raw (between 1 1 cs) ∷ flag f.Tail true ∷ []
template_settings kind.Tail cs = words f.Raw (between 1 1 cs) ∷ flag f.Tail true ∷ []
template_settings other cs = words f.Raw (between 1 2 cs) ∷ []

unfoldable pub leaf_settings : ℕ → TokenKind → List ℕ → List Setting
leaf_settings node_kind token_kind cs =
    if node_kind == kind_called "Literal" then literal_settings token_kind cs
    else if node_kind == kind_called "TemplateElement" then template_settings token_kind cs
    else if node_kind == kind_called "PrivateIdentifier" then words f.Name (drop 1 cs) ∷ []
    else words f.Name cs ∷ []

-- the node of this kind that a token of a text is
abbrev pub leaf_of : List ℕ → ℕ → Token → Shape
leaf_of text node_kind found =
    shape_of node_kind found.span [] (leaf_settings node_kind found.kind (chars (text_of text found)))

-- the words of a member's kind
unfoldable pub kind_setting : MemberKind → Setting
kind_setting member.Init = words f.Kind (codes "init")
kind_setting member.Method = words f.Kind (codes "method")
kind_setting member.Constructor = words f.Kind (codes "constructor")

-- the words of an attribute, if it is there
abbrev pub words_of : AttributeValue → Option (List ℕ)
words_of (value.Flag so) = None
words_of (value.Words cs) = Some cs

abbrev pub value_in : ℕ → List SetAttribute → Option AttributeValue
value_in field [] = None
value_in field (first ∷ rest) = if first.field == field then Some first.value else value_in field rest
