-- How the rules of the grammar are written.
use Prim.Native.String.{String}
use Rattle.std.specs.Prelude.{ℕ, List, [], Bool, true, false, Some, None, position, codes}
use Rattle.std.specs.Option.{unwrap_or}
use Rattle.std.specs.Str.{bytes_eq}
use Rattle.es_tables.specs.Nodes.{kind_words}
use Rattle.es_grammar.specs.declared.context.Change.{Change}
use Rattle.es_grammar.specs.declared.context.Change.TheVariants.{Same, Brackets}
use Rattle.es_grammar.specs.declared.part.Condition.{Condition}
use Rattle.es_grammar.specs.declared.part.Field.{Field}
use Rattle.es_grammar.specs.declared.part.Field.TheVariants as f
use Rattle.es_grammar.specs.declared.part.Part.{Part}
use Rattle.es_grammar.specs.declared.part.Part.TheVariants as part
use Rattle.es_grammar.specs.declared.part.Product.{Product}
use Rattle.es_grammar.specs.declared.part.Product.TheVariants as product
use Rattle.es_grammar.specs.declared.part.Terminal.{Terminal}
use Rattle.es_grammar.specs.declared.symbol.Symbol.{Symbol}
use Rattle.es_grammar.specs.Terminals.{spelled}

-- parts one after the other, and what is made of what they give
pub record Row : Type 0 where
  pub makes : Product
  pub parts : List Part

-- an option or, if it is `many`, a repetition of the rows, which ends where one of the conditions doesn't
-- hold. A `taking` one takes what was read before into what its rows make
pub record Turns : Type 0 where
  pub conditions : List Condition
  pub rows : List Row
  pub many : Bool
  pub taking : Bool

-- a rule: the first of the rows that reads; an option or a repetition; the rows separated by commas, one of
-- which may stand at the end; or a symbol with an option or a repetition behind it
pub data Form : Type 0 where
  Choice : (rows : List Row) → Form
  More : (turns : Turns) → Form
  Commas : (rows : List Row) → Form
  Behind : (head : Symbol) (turns : Turns) → Form

-- the code of the kind of nodes of this name
abbrev pub kind_called : String → ℕ
kind_called name = unwrap_or (position (bytes_eq (codes name)) kind_words) 0

abbrev pub turns : List Condition → List Row → Bool → Form
turns conditions rows many = More (record { conditions = conditions; rows = rows; many = many; taking = false })

-- A?, where A is one of the rows
abbrev pub option : List Row → Form
option rows = turns [] rows false

-- ({conditions} A)?
abbrev pub option_where : List Condition → List Row → Form
option_where conditions rows = turns conditions rows false

-- A*
abbrev pub any_number : List Row → Form
any_number rows = turns [] rows true

-- ({conditions} A)*
abbrev pub any_number_where : List Condition → List Row → Form
any_number_where conditions rows = turns conditions rows true

-- a symbol, and an option or a repetition of A behind it, which takes what was read before
abbrev pub behind : Symbol → Form → Form
behind head (More turns) = Behind head (record turns { taking = true })
behind head other = other

-- a row that makes a node of this kind
abbrev pub node : String → List Part → Row
node kind parts = record { makes = product.Node (kind_called kind); parts = parts }

-- a row that gives on what its parts give
abbrev pub plain : List Part → Row
plain parts = record { makes = product.Parts; parts = parts }

-- a row that makes a node of the kind that one of its parts says, or else is plain
abbrev pub becoming : List Part → Row
becoming parts = record { makes = product.Becoming; parts = parts }

-- `x`
abbrev pub token : String → Part
token text = part.Token (spelled text)

-- the word of an attribute
abbrev pub kind_word : String → Part
kind_word text = part.Words (spelled text) f.Kind

abbrev pub operator : String → Part
operator text = part.Words (spelled text) f.Operator

abbrev pub operator_of : Terminal → Part
operator_of terminal = part.Words terminal f.Operator

-- a token as a node
abbrev pub leaf : Terminal → String → Part
leaf terminal kind = part.Leaf terminal (kind_called kind) None

-- the next token as a node, which is read once more by what follows
abbrev pub twin : Terminal → String → Part
twin terminal kind = part.Twin terminal (kind_called kind) None

-- A
abbrev pub read : Symbol → Part
read symbol = part.Symbol symbol Same None

-- ^A
abbrev pub deeper : Symbol → Part
deeper symbol = part.Deeper symbol Same None

-- ^A between brackets
abbrev pub inside : Symbol → Part
inside symbol = part.Deeper symbol Brackets None

-- A or ^A in another context
infixl 72 ◌under◌
abbrev pub ◌under◌ : Part → Change → Part
part.Symbol symbol change field under other = part.Symbol symbol other field
part.Deeper symbol change field under other = part.Deeper symbol other field
rest under other = rest

-- the field of the node around for the nodes that a part gives; nodes without one go into its first field
infixl 71 ◌into◌
abbrev pub ◌into◌ : Part → Field → Part
part.Symbol symbol change field into other = part.Symbol symbol change (Some other)
part.Deeper symbol change field into other = part.Deeper symbol change (Some other)
part.Leaf terminal kind field into other = part.Leaf terminal kind (Some other)
part.Twin terminal kind field into other = part.Twin terminal kind (Some other)
rest into other = rest

-- the kind of the node that the symbol around makes
abbrev pub becomes : String → Part
becomes kind = part.Becomes (kind_called kind)
