-- What isn't there, since none of the tokens is next with which it begins.
use Rattle.std.specs.Prelude.{ℕ, Bool, true, false, not, ◌==◌, ◌&&◌, List, [], ◌∷◌, Option, Some, None, if◌then◌else◌}
use Rattle.std.specs.Int.{bit_at}
use Rattle.std.specs.Int.RustNames.{bit_and}
use Rattle.std.specs.Option.{option_map_or, unwrap_or}
use Rattle.es_grammar.specs.declared.context.Change.{Change}
use Rattle.es_grammar.specs.declared.context.Change.TheVariants.{Same}
use Rattle.es_grammar.specs.declared.part.Part.{Part}
use Rattle.es_grammar.specs.declared.part.Part.TheVariants as part
use Rattle.es_grammar.specs.declared.part.Terminal.{Terminal}
use Rattle.es_grammar.specs.declared.symbol.Symbol.{Symbol}
use Rattle.es_grammar.specs.declared.symbol.Symbol.TheVariants as s
use Rattle.es_grammar.specs.FirstSets.{first_of}
use Rattle.es_grammar.specs.Forms.{Row}
use Rattle.es_grammar.specs.TerminalSets.{code_of}
use Rattle.es_parser.specs.Kept.{goes_on}

-- the symbol reads a token, in its own context, before anything that takes room
unfoldable pub has_front : Symbol → Bool
has_front s.OptionalName = false
has_front s.ElementList = false
has_front s.PropertyDefinitionList = false
has_front s.PropertyValue = false
has_front s.Initializer = false
has_front s.TemplateMiddleList = false
has_front s.OptionalArguments = false
has_front s.ArgumentList = false
has_front s.AssignmentElementList = false
has_front s.AssignmentPropertyList = false
has_front s.FurtherExpressions = false
has_front s.Semicolon = false
has_front s.StatementList = false
has_front s.BindingElementList = false
has_front s.BindingPropertyList = false
has_front s.ElseClause = false
has_front s.OptionalSemicolon = false
has_front s.ForHead = false
has_front s.ForInitializer = false
has_front s.OptionalExpression = false
has_front s.OptionalLabel = false
has_front s.OptionalResult = false
has_front s.CaseClauses = false
has_front s.CatchParameter = false
has_front s.OptionalFinally = false
has_front s.FormalParameters = false
has_front s.ConciseBody = false
has_front s.Method = false
has_front s.AsyncMethod = false
has_front s.GeneratorMethod = false
has_front s.AsyncGeneratorMethod = false
has_front s.YieldOperand = false
has_front s.ClassHeritage = false
has_front s.ClassElementList = false
has_front s.ClassElementValue = false
has_front s.FurtherImports = false
has_front s.ImportsList = false
has_front s.ExportedName = false
has_front s.FromClause = false
has_front s.ExportsList = false
has_front other = true

-- the set of the terminals that can begin such a symbol
abbrev pub front_of : Symbol → Option ℕ
front_of symbol = if has_front symbol then Some (first_of symbol) else None

abbrev pub is_same : Change → Bool
is_same Same = true
is_same other = false

-- the set has no terminal that begins the part; None where the part reads nothing
abbrev pub lacks_terminal : ℕ → Terminal → Bool
lacks_terminal set terminal = not (goes_on terminal) && not (bit_at set (code_of terminal) == 1)

abbrev pub lacks_symbol : ℕ → Symbol → Bool
lacks_symbol set symbol = option_map_or (λ front. bit_and front set == 0) (front_of symbol) false

unfoldable pub lacks_part : ℕ → Part → Option Bool
lacks_part set (part.Token terminal) = Some (lacks_terminal set terminal)
lacks_part set (part.Words terminal field) = Some (lacks_terminal set terminal)
lacks_part set (part.Leaf terminal kind field) = Some (lacks_terminal set terminal)
lacks_part set (part.Symbol symbol change field) = Some (is_same change && lacks_symbol set symbol)
lacks_part set (part.Deeper symbol change field) = Some false
lacks_part set other = None

-- the same of the first part that reads something
abbrev pub at_first : (Part → Option Bool) → List Part → Bool
at_first test [] = false
at_first test (p ∷ ps) = unwrap_or (test p) (at_first test ps)

abbrev pub lacks_row : ℕ → Row → Bool
lacks_row set row = at_first (lacks_part set) row.parts

-- the set of the terminals that begin the turns behind a symbol's head
unfoldable pub turn_front : Symbol → Option ℕ
turn_front s.CallChain = Some 0x4000000054000c0
turn_front s.NewCallee = Some 0x50000c0
turn_front s.UpdateExpression = Some 0x80000
turn_front s.ExponentiationExpression = Some 0x80000000000
turn_front s.MultiplicativeExpression = Some 0x20000
turn_front s.AdditiveExpression = Some 0x10000
turn_front s.ShiftExpression = Some 0x8000
turn_front s.RelationalExpression = Some 0x2000000000000000000004000
turn_front s.EqualityExpression = Some 0x2000
turn_front s.BitwiseANDExpression = Some 0x2000000000000
turn_front s.BitwiseXORExpression = Some 0x8000000000000
turn_front s.BitwiseORExpression = Some 0x4000000000000
turn_front s.LogicalANDExpression = Some 0x40000000000000
turn_front s.LogicalORExpression = Some 0x80000000000000
turn_front s.ShortCircuitExpression = Some 0x100000000000000
turn_front s.ConditionalExpression = Some 0x200000000000000
turn_front s.SimpleAssignment = Some 0x1000
turn_front s.AssignmentElement = Some 0x1000000000000000
turn_front s.Expression = Some 0x20000000
turn_front s.DeclaratorList = Some 0x20000000
turn_front s.BindingElement = Some 0x1000000000000000
turn_front s.SingleNameBinding = Some 0x1000000000000000
turn_front other = None

-- none of the set's terminals begins a turn behind the symbol's head
abbrev pub lacks_turns : ℕ → Symbol → Bool
lacks_turns set symbol = option_map_or (λ front. bit_and front set == 0) (turn_front symbol) false
