-- What words and groups say of kinds, and which compound decides on the kind of a node that a chain matches.
use Prim.Native.String.{String}
use Rattle.std.specs.Prelude.{ℕ, Bool, false, not, ◌||◌, nat_eq, List, [], Option, Some, IsTrue, bytes_eq, codes, fold, slice_get, unwrap_or}
use Rattle.std.specs.List.{ends_with, list_any, position_from}
use Rattle.std.specs.Option.{option_eq}
use Rattle.std.specs.Str.{str_eq_ignore_ascii_case}
use Rattle.es_tables.specs.Nodes.{kind_words}
use Rattle.es_selectors.specs.declared.group.Groups.{Groups}
use Rattle.es_selectors.specs.declared.selector.Atom.{Atom, out-Atom}
use Rattle.es_selectors.specs.declared.selector.Atom.TheOpen.{Atom-F}
use Rattle.es_selectors.specs.declared.selector.Chain.{Chain}
use Rattle.es_selectors.specs.declared.selector.Group.{Group}
use Rattle.es_selectors.specs.declared.selector.Group.TheVariants.{Statement, Declaration, Expression, Pattern, Function}

-- the code of the kind that the word names, in any case of ASCII
unfoldable pub kind_named : List ℕ → Option ℕ
kind_named word = position_from (str_eq_ignore_ascii_case word) 0 kind_words

-- the word of the kind with this code
unfoldable pub kind_word : ℕ → List ℕ
kind_word kind = unwrap_or (slice_get kind_words kind) []

abbrev pub ends_in : String → List ℕ → Bool
ends_in ending word = ends_with nat_eq word (codes ending)

abbrev pub is_word : String → List ℕ → Bool
is_word text word = bytes_eq word (codes text)

abbrev pub is_expression_word : List ℕ → Bool
is_expression_word word = ends_in "Expression" word || ends_in "Literal" word || is_word "MetaProperty" word || is_word "Identifier" word

-- a kind with this word is of the group; of the kinds of `:expression` an Identifier is one in some places alone
unfoldable pub word_in_group : Group → List ℕ → Bool
word_in_group Statement word = ends_in "Statement" word || ends_in "Declaration" word
word_in_group Declaration word = ends_in "Declaration" word
word_in_group Expression word = is_expression_word word
word_in_group Pattern word = ends_in "Pattern" word || is_expression_word word
word_in_group Function word = is_word "FunctionDeclaration" word || is_word "FunctionExpression" word || is_word "ArrowFunctionExpression" word

-- the groups of a kind with this word
abbrev pub groups_of : List ℕ → Groups
groups_of word = record {
  statement = word_in_group Statement word;
  declaration = word_in_group Declaration word;
  expression = word_in_group Expression word;
  pattern = word_in_group Pattern word;
  function = word_in_group Function word;
}

-- the atom is a word for a kind, which doesn't name this one
abbrev pub layer_asks_other : {A : Type 0} → ℕ → Atom-F A → Bool
layer_asks_other kind (Atom-F.Kind named) = not (option_eq nat_eq named (Some kind))
layer_asks_other kind other = false

abbrev pub asks_other : ℕ → Atom → Bool
asks_other kind atom = layer_asks_other kind (out-Atom atom)

-- the compound that the node itself is to match
abbrev pub last_compound : {A : Type 0} → Chain A → List A
last_compound chain = fold (λ compound link. link.compound) chain.first chain.links

abbrev pub names_other : ℕ → Chain Atom → Bool
names_other kind chain = list_any (asks_other kind) (last_compound chain)

abbrev pub NamesOther : ℕ → Chain Atom → Type 0
NamesOther kind chain = IsTrue (names_other kind chain)
