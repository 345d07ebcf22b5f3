-- What the parts of a row give, and what a row makes of it.
use Rattle.std.specs.Prelude.{ℕ, ◌&&◌, ◌||◌, ◌==◌, nat_le, Bool, true, false, not, List, [], ◌∷◌, map, Option, Some, None, if◌then◌else◌}
use Rattle.std.specs.List.{list_all}
use Rattle.std.specs.Option.{option_and_then, option_map, option_map_or, option_or}
use Rattle.std.specs.Str.{chars}
use Rattle.es_text.specs.declared.token.Token.{Token}
use Rattle.es_text.specs.Characters.{apostrophe, quotation_mark}
use Rattle.es_text.specs.Rest.{begins_with}
use Rattle.es_tree.specs.declared.shape.AttributeValue.TheVariants as value
use Rattle.es_tree.specs.declared.shape.Shape.{Shape, out-Shape}
use Rattle.es_tree.specs.Shapes.{height, with_attribute}
pub use Rattle.es_grammar.specs.declared.draft.Outcome.{Outcome}
pub use Rattle.es_grammar.specs.declared.draft.Outcome.TheVariants.{Not, Deep, Read}
use Rattle.es_grammar.specs.declared.part.Condition.{Condition}
use Rattle.es_grammar.specs.declared.part.Field.{Field}
use Rattle.es_grammar.specs.declared.part.Field.TheVariants as f
use Rattle.es_grammar.specs.declared.part.Part.{Part}
use Rattle.es_grammar.specs.declared.part.Part.TheVariants as part
use Rattle.es_grammar.specs.declared.part.Product.{Product}
use Rattle.es_grammar.specs.declared.part.Product.TheVariants as product
use Rattle.es_grammar.specs.Contexts.{Spot}
use Rattle.es_grammar.specs.Conditions.{holds, is_kind}
use Rattle.es_grammar.specs.Drafts.{Child, Setting, Draft, between, empty, flag, joined, kind_setting, leaf_of, index_in, shape_of, span_of, value_in, words, words_of}
use Rattle.es_grammar.specs.Terminals.{terminal_at, text_of}

abbrev pub is_read : Outcome → Bool
is_read Not = false
is_read Deep = false
is_read (Read draft end) = true

abbrev pub is_not : Outcome → Bool
is_not Not = true
is_not Deep = false
is_not (Read draft end) = false

abbrev pub with_child : Draft → Child → Draft
with_child draft child = joined draft (record empty { children = child ∷ [] })

abbrev pub with_setting : Draft → Setting → Draft
with_setting draft setting = joined draft (record empty { settings = setting ∷ [] })

abbrev pub with_token : Draft → Token → Draft
with_token draft found = joined draft (record empty { tokens = found ∷ [] })

-- a field for a child that has none yet
abbrev pub placed : Option Field → Child → Child
placed field child = record child { field = option_or child.field field }

-- what a symbol gives, behind what was read before it
unfoldable pub after : Draft → Option Field → Outcome → Outcome
after draft field Not = Not
after draft field Deep = Deep
after draft field (Read more end) = Read (joined draft (record more { children = map (placed field) more.children })) end

-- what is made of a token, if there is one
abbrev pub if_token : (Token → Outcome) → Option Token → Outcome
if_token outcome found = option_map_or outcome found Not

abbrev pub if_so : Bool → Draft → ℕ → Outcome
if_so so draft at = if so then Read draft at else Not

abbrev pub leaf_child : List ℕ → ℕ → Option Field → Token → Child
leaf_child text kind field found = record { field = field; shape = Some (leaf_of text kind found) }

-- 11.2.1: a statement that is a text and its semicolon, without parentheses, is a directive at the head of
-- a program or of a function's body. The text is given as it stands between its quotes
abbrev pub starts_with_quote : List ℕ → Bool
starts_with_quote cs = begins_with quotation_mark cs || begins_with apostrophe cs

abbrev pub first_of_all : List (List (Option Shape)) → Option Shape
first_of_all ((Some shape ∷ more) ∷ fields) = Some shape
first_of_all other = None

unfoldable pub directive_text : Shape → Shape → Option (List ℕ)
directive_text statement expression =
    if is_kind "Literal" expression && (out-Shape expression).span.start == (out-Shape statement).span.start
    then option_and_then (λ raw. if starts_with_quote raw then Some (between 1 1 raw) else None)
    (option_and_then words_of (value_in (index_in (out-Shape expression).kind (Some f.Raw)) (out-Shape expression).attributes))
    else None

unfoldable pub directive_of : Shape → Option (List ℕ)
directive_of statement =
    if is_kind "ExpressionStatement" statement
    then option_and_then (directive_text statement) (first_of_all (out-Shape statement).fields)
    else None

abbrev pub as_directive : Shape → List ℕ → Shape
as_directive statement cs =
    with_attribute statement (index_in (out-Shape statement).kind (Some f.Directive)) (value.Words cs)

-- the statements, the directives at the head of which are told
abbrev pub told : (Child → Option Child) → List Child → List Child
told directive [] = []
told directive (child ∷ rest) = option_map_or (λ it. it ∷ told directive rest) (directive child) (child ∷ rest)

abbrev pub told_child : Child → Option Child
told_child child =
    option_and_then (λ shape. option_map (λ cs. record child { shape = Some (as_directive shape cs) }) (directive_of shape))
    child.shape

unfoldable pub with_directives : List Child → List Child
with_directives children = told told_child children

-- what a part gives that reads no symbol
unfoldable pub plainly : List ℕ → Spot → Part → Draft → Option Outcome
plainly text spot (part.Token terminal) draft =
    Some (if_token (λ found. Read (with_token draft found) found.span.end) (terminal_at text spot.context terminal spot.at))
plainly text spot (part.Words terminal field) draft =
    Some (if_token
    (λ found. Read (with_setting (with_token draft found) (words field (chars (text_of text found)))) found.span.end)
    (terminal_at text spot.context terminal spot.at))
plainly text spot (part.Leaf terminal kind field) draft =
    Some (if_token (λ found. Read (with_child (with_token draft found) (leaf_child text kind field found)) found.span.end)
    (terminal_at text spot.context terminal spot.at))
plainly text spot (part.Twin terminal kind field) draft =
    Some (if_token (λ found. Read (with_child draft (leaf_child text kind field found)) spot.at)
    (terminal_at text spot.context terminal spot.at))
plainly text spot (part.Symbol symbol change field) draft = None
plainly text spot (part.Deeper symbol change field) draft = None
plainly text spot (part.Check condition) draft = Some (if_so (holds text spot draft condition) draft spot.at)
plainly text spot part.Hole draft = Some (Read (with_child draft (record { field = None; shape = None })) spot.at)
plainly text spot (part.Flag field) draft = Some (Read (with_setting draft (flag field true)) spot.at)
plainly text spot (part.Kind member) draft = Some (Read (with_setting draft (kind_setting member)) spot.at)
plainly text spot (part.Becomes kind) draft = Some (Read (record draft { becomes = Some kind }) spot.at)
plainly text spot part.Directives draft =
    Some (Read (record draft { children = with_directives draft.children }) spot.at)

-- no node is higher
abbrev pub greatest_height : ℕ
greatest_height = 1000

-- the node of this kind from what was read, unless it is too high
unfoldable pub made : ℕ → Draft → Option ℕ → ℕ → Outcome
made kind draft becomes end =
    let shape = shape_of kind (span_of draft.tokens) draft.children draft.settings in
    if nat_le (height shape) greatest_height
    then Read (record {
      children = record { field = None; shape = Some shape } ∷ [];
      settings = [];
      tokens = draft.tokens;
      becomes = becomes;
    }) end
    else Deep

-- what a row makes of what its parts gave, behind what was read before
unfoldable pub finish : Product → Draft → Outcome → Outcome
finish makes seed Not = Not
finish makes seed Deep = Deep
finish product.Parts seed (Read draft end) = Read (joined seed draft) end
finish (product.Node kind) seed (Read draft end) =
    made kind (joined seed draft) (joined seed draft).becomes end
finish product.Becoming seed (Read draft end) =
    option_map_or (λ kind. made kind (joined seed draft) None end) (joined seed draft).becomes (Read (joined seed draft) end)

-- all of the conditions hold
abbrev pub all_hold : List ℕ → Spot → Draft → List Condition → Bool
all_hold text spot draft conditions = list_all (holds text spot draft) conditions

-- no further turn comes after this one
abbrev pub is_last_turn : Bool → ℕ → ℕ → Bool
is_last_turn many at end = not many || nat_le end at
