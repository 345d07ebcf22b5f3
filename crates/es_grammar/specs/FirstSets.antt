-- The sets of the tokens that can begin a symbol, as numbers: the bit of a terminal's code is set where the
-- terminal can begin it.
use Rattle.std.specs.Prelude.{ℕ, ◌^◌, ◌==◌, ◌&&◌, ◌||◌, List, [], ◌∷◌, Bool, true, false, not, nat_lt, if◌then◌else◌}
use Rattle.std.specs.List.{list_all}
use Rattle.std.specs.Int.RustNames.{bit_or}
use Rattle.es_grammar.specs.declared.part.Part.{Part}
use Rattle.es_grammar.specs.declared.part.Part.TheVariants as part
use Rattle.es_grammar.specs.declared.symbol.Symbol.{Symbol}
use Rattle.es_grammar.specs.declared.symbol.Symbol.TheVariants as s
use Rattle.es_grammar.specs.Firsts.{reads_nothing, ways}
use Rattle.es_grammar.specs.TerminalSets.{code_of}
use Rattle.es_grammar.specs.Forms.{Form}

-- the symbol can read nothing
unfoldable pub may_be_empty : Symbol → Bool
may_be_empty s.OptionalName = true
may_be_empty s.ElementList = true
may_be_empty s.PropertyDefinitionList = true
may_be_empty s.Initializer = true
may_be_empty s.TemplateMiddleList = true
may_be_empty s.OptionalArguments = true
may_be_empty s.ArgumentList = true
may_be_empty s.AssignmentElementList = true
may_be_empty s.AssignmentPropertyList = true
may_be_empty s.FurtherExpressions = true
may_be_empty s.Semicolon = true
may_be_empty s.StatementList = true
may_be_empty s.BindingElementList = true
may_be_empty s.BindingPropertyList = true
may_be_empty s.ElseClause = true
may_be_empty s.OptionalSemicolon = true
may_be_empty s.ForInitializer = true
may_be_empty s.OptionalExpression = true
may_be_empty s.OptionalLabel = true
may_be_empty s.OptionalResult = true
may_be_empty s.CaseClauses = true
may_be_empty s.CatchParameter = true
may_be_empty s.OptionalFinally = true
may_be_empty s.FormalParameters = true
may_be_empty s.YieldOperand = true
may_be_empty s.ClassHeritage = true
may_be_empty s.ClassElementList = true
may_be_empty s.ClassElementValue = true
may_be_empty s.FurtherImports = true
may_be_empty s.ImportsList = true
may_be_empty s.ExportedName = true
may_be_empty s.FromClause = true
may_be_empty s.ExportsList = true
may_be_empty other = false

unfoldable pub first_of : Symbol → ℕ
first_of s.BindingIdentifier = 0x2
first_of s.OptionalName = 0x2
first_of s.PrimaryExpression = 0x100a204801000000000000015000fa
first_of s.ElementList = 0x1c0ab14801000000000000095c00fe
first_of s.PropertyDefinitionList = 0x10000000000000000001000900041b
first_of s.PropertyValue = 0x800000000400000
first_of s.PropertyName = 0x1000019
first_of s.Initializer = 0x1000000000000000
first_of s.TemplateLiteral = 0xc0
first_of s.TemplateMiddleList = 0x100
first_of s.LeftHandSideExpression = 0x100ab14801000000000000015000fa
first_of s.CallChain = 0x100ab14801000000000000015000fa
first_of s.MemberName = 0x5
first_of s.CallChainStart = 0x100ab14801000000000000015000fa
first_of s.NewExpression = 0x10000000000000000000000000
first_of s.OptionalArguments = 0x400000
first_of s.NewCallee = 0x100ab14801000000000000015000fa
first_of s.NewCalleeStart = 0x100ab14801000000000000015000fa
first_of s.Arguments = 0x400000
first_of s.ArgumentList = 0x1c0ab14801000000000000095c00fe
first_of s.UnaryExpression = 0x180ab14801000000000000015c00fa
first_of s.UpdateExpression = 0x100ab14801000000000000015000fa
first_of s.ExponentiationExpression = 0x180ab14801000000000000015c00fa
first_of s.MultiplicativeExpression = 0x180ab14801000000000000015c00fa
first_of s.AdditiveExpression = 0x180ab14801000000000000015c00fa
first_of s.ShiftExpression = 0x180ab14801000000000000015c00fa
first_of s.RelationalExpression = 0x180ab14801000000000000015c00fe
first_of s.RelationalOperand = 0x180ab14801000000000000015c00fe
first_of s.EqualityExpression = 0x180ab14801000000000000015c00fe
first_of s.BitwiseANDExpression = 0x180ab14801000000000000015c00fe
first_of s.BitwiseXORExpression = 0x180ab14801000000000000015c00fe
first_of s.BitwiseORExpression = 0x180ab14801000000000000015c00fe
first_of s.LogicalANDExpression = 0x180ab14801000000000000015c00fe
first_of s.LogicalORExpression = 0x180ab14801000000000000015c00fe
first_of s.ShortCircuitExpression = 0x180ab14801000000000000015c00fe
first_of s.ConditionalExpression = 0x180ab14801000000000000015c00fe
first_of s.AssignmentExpression = 0x1c0ab14801000000000000015c00fe
first_of s.DestructuringAssignment = 0x1100000
first_of s.SimpleAssignment = 0x180ab14801000000000000015c00fe
first_of s.AssignmentPattern = 0x1100000
first_of s.AssignmentElementList = 0x100ab14801000000000000095000fa
first_of s.AssignmentPropertyList = 0x900001b
first_of s.AssignmentElement = 0x100ab14801000000000000015000fa
first_of s.AssignmentTarget = 0x100ab14801000000000000015000fa
first_of s.Expression = 0x1c0ab14801000000000000015c00fe
first_of s.FurtherExpressions = 0x20000000
first_of s.Statement = 0x1f5ff1e84d200000000000115c00fe
first_of s.Semicolon = 0x10000000
first_of s.Block = 0x100000
first_of s.StatementList = 0x1f5ff9e84f200000000000115c00fe
first_of s.StatementListItem = 0x1f5ff9e84f200000000000115c00fe
first_of s.LexicalDeclaration = 0x8000200000000000000000000
first_of s.VariableStatement = 0x4000000000000000000000000000
first_of s.DeclaratorList = 0x1100002
first_of s.Declarator = 0x1100002
first_of s.BindingTarget = 0x1100002
first_of s.BindingElementList = 0x9100002
first_of s.BindingPropertyList = 0x900001b
first_of s.BindingElement = 0x1100002
first_of s.SingleNameBinding = 0x2
first_of s.ExpressionStatement = 0x1c0ab14801000000000000015c00fe
first_of s.IfStatement = 0x800000000000000000000000
first_of s.ElseClause = 0x8000000000000000000000
first_of s.DoWhileStatement = 0x4000000000000000000000
first_of s.OptionalSemicolon = 0x10000000
first_of s.WhileStatement = 0x10000000000000000000000000000
first_of s.ForStatement = 0x200000000000000000000000
first_of s.ForAwaitHead = 0x100ab14801000000000000015008fa
first_of s.ForHead = 0x1c0ab14801000000000000115c08fe
first_of s.ForInOfHead = 0x100ab14801000000000000015008fa
first_of s.ForInOfObject = 0x1000002000000000000000000000000
first_of s.ForDeclaration = 0x800
first_of s.ForBinding = 0x1100002
first_of s.ForInitializer = 0x1c0ab14801000000000000015c08fe
first_of s.OptionalExpression = 0x1c0ab14801000000000000015c00fe
first_of s.ContinueStatement = 0x400000000000000000000
first_of s.BreakStatement = 0x20000000000000000000
first_of s.OptionalLabel = 0x2
first_of s.ReturnStatement = 0x40000000000000000000000000
first_of s.OptionalResult = 0x1c0ab14801000000000000015c00fe
first_of s.WithStatement = 0x20000000000000000000000000000
first_of s.SwitchStatement = 0x100000000000000000000000000
first_of s.CaseClauses = 0x1040000000000000000000
first_of s.CaseClause = 0x1040000000000000000000
first_of s.LabelledStatement = 0x2
first_of s.ThrowStatement = 0x400000000000000000000000000
first_of s.TryStatement = 0x1000000000000000000000000000
first_of s.TryClauses = 0x100080000000000000000000
first_of s.CatchClause = 0x80000000000000000000
first_of s.CatchParameter = 0x400000
first_of s.Finally = 0x100000000000000000000000
first_of s.OptionalFinally = 0x100000000000000000000000
first_of s.DebuggerStatement = 0x800000000000000000000
first_of s.FormalParameters = 0x9100002
first_of s.FunctionRest = 0x400000
first_of s.FunctionBody = 0x100000
first_of s.FunctionDeclaration = 0x100000400000000000000000000000
first_of s.DefaultFunction = 0x100000400000000000000000000000
first_of s.FunctionExpression = 0x100000400000000000000000000000
first_of s.ArrowFunction = 0x100000000000000000000000400002
first_of s.ArrowParameters = 0x400002
first_of s.ConciseBody = 0x1c0ab14801000000000000015c00fe
first_of s.Method = 0x400000
first_of s.AsyncMethod = 0x400000
first_of s.GeneratorMethod = 0x400000
first_of s.AsyncGeneratorMethod = 0x400000
first_of s.YieldExpression = 0x40000000000000000000000000000
first_of s.YieldOperand = 0x1c0ab14801000000000100015c00fe
first_of s.ClassDeclaration = 0x100000000000000000000
first_of s.DefaultClass = 0x100000000000000000000
first_of s.ClassExpression = 0x100000000000000000000
first_of s.ClassHeritage = 0x40000000000000000000000
first_of s.ClassBody = 0x100000
first_of s.ClassElementList = 0x30000000000000000001001100041d
first_of s.ClassElement = 0x30000000000000000001001100041d
first_of s.ClassElementValue = 0x1000000010400000
first_of s.ConstructorName = 0x11
first_of s.PrefixedMethod = 0x100000000000000000010000000400
first_of s.ClassElementName = 0x100001d
first_of s.ModuleItem = 0x1f5ff9ea4f200000000000115c00fe
first_of s.ModuleExportName = 0x11
first_of s.ImportDeclaration = 0x1000000000000000000000000
first_of s.ImportClause = 0x10000100002
first_of s.FurtherImports = 0x20000000
first_of s.ImportedDefaultBinding = 0x2
first_of s.NameSpaceImport = 0x10000000000
first_of s.NamedImports = 0x100000
first_of s.ImportsList = 0x13
first_of s.ExportDeclaration = 0x20000000000000000000000
first_of s.ExportedName = 0x4000000000000000000000000000000
first_of s.FromClause = 0x2000000000000000000000000000000
first_of s.ExportsList = 0x11

-- how far a symbol is above those that can begin it
unfoldable pub lead_of : Symbol → ℕ
lead_of s.BindingIdentifier = 1
lead_of s.OptionalName = 1
lead_of s.PrimaryExpression = 2
lead_of s.ElementList = 24
lead_of s.PropertyDefinitionList = 2
lead_of s.PropertyValue = 3
lead_of s.PropertyName = 1
lead_of s.Initializer = 1
lead_of s.TemplateLiteral = 1
lead_of s.TemplateMiddleList = 1
lead_of s.LeftHandSideExpression = 5
lead_of s.CallChain = 4
lead_of s.MemberName = 1
lead_of s.CallChainStart = 3
lead_of s.NewExpression = 1
lead_of s.OptionalArguments = 2
lead_of s.NewCallee = 4
lead_of s.NewCalleeStart = 3
lead_of s.Arguments = 1
lead_of s.ArgumentList = 24
lead_of s.UnaryExpression = 7
lead_of s.UpdateExpression = 6
lead_of s.ExponentiationExpression = 8
lead_of s.MultiplicativeExpression = 9
lead_of s.AdditiveExpression = 10
lead_of s.ShiftExpression = 11
lead_of s.RelationalExpression = 13
lead_of s.RelationalOperand = 12
lead_of s.EqualityExpression = 14
lead_of s.BitwiseANDExpression = 15
lead_of s.BitwiseXORExpression = 16
lead_of s.BitwiseORExpression = 17
lead_of s.LogicalANDExpression = 18
lead_of s.LogicalORExpression = 19
lead_of s.ShortCircuitExpression = 20
lead_of s.ConditionalExpression = 21
lead_of s.AssignmentExpression = 23
lead_of s.DestructuringAssignment = 2
lead_of s.SimpleAssignment = 22
lead_of s.AssignmentPattern = 1
lead_of s.AssignmentElementList = 8
lead_of s.AssignmentPropertyList = 3
lead_of s.AssignmentElement = 7
lead_of s.AssignmentTarget = 6
lead_of s.Expression = 24
lead_of s.FurtherExpressions = 1
lead_of s.Statement = 26
lead_of s.Semicolon = 1
lead_of s.Block = 1
lead_of s.StatementList = 28
lead_of s.StatementListItem = 27
lead_of s.LexicalDeclaration = 1
lead_of s.VariableStatement = 1
lead_of s.DeclaratorList = 3
lead_of s.Declarator = 2
lead_of s.BindingTarget = 1
lead_of s.BindingElementList = 3
lead_of s.BindingPropertyList = 3
lead_of s.BindingElement = 2
lead_of s.SingleNameBinding = 2
lead_of s.ExpressionStatement = 25
lead_of s.IfStatement = 1
lead_of s.ElseClause = 1
lead_of s.DoWhileStatement = 1
lead_of s.OptionalSemicolon = 1
lead_of s.WhileStatement = 1
lead_of s.ForStatement = 1
lead_of s.ForAwaitHead = 7
lead_of s.ForHead = 26
lead_of s.ForInOfHead = 7
lead_of s.ForInOfObject = 1
lead_of s.ForDeclaration = 1
lead_of s.ForBinding = 2
lead_of s.ForInitializer = 25
lead_of s.OptionalExpression = 25
lead_of s.ContinueStatement = 1
lead_of s.BreakStatement = 1
lead_of s.OptionalLabel = 1
lead_of s.ReturnStatement = 1
lead_of s.OptionalResult = 25
lead_of s.WithStatement = 1
lead_of s.SwitchStatement = 1
lead_of s.CaseClauses = 2
lead_of s.CaseClause = 1
lead_of s.LabelledStatement = 1
lead_of s.ThrowStatement = 1
lead_of s.TryStatement = 1
lead_of s.TryClauses = 2
lead_of s.CatchClause = 1
lead_of s.CatchParameter = 1
lead_of s.Finally = 1
lead_of s.OptionalFinally = 2
lead_of s.DebuggerStatement = 1
lead_of s.FormalParameters = 3
lead_of s.FunctionRest = 1
lead_of s.FunctionBody = 1
lead_of s.FunctionDeclaration = 1
lead_of s.DefaultFunction = 1
lead_of s.FunctionExpression = 1
lead_of s.ArrowFunction = 2
lead_of s.ArrowParameters = 1
lead_of s.ConciseBody = 24
lead_of s.Method = 2
lead_of s.AsyncMethod = 2
lead_of s.GeneratorMethod = 2
lead_of s.AsyncGeneratorMethod = 2
lead_of s.YieldExpression = 1
lead_of s.YieldOperand = 24
lead_of s.ClassDeclaration = 1
lead_of s.DefaultClass = 1
lead_of s.ClassExpression = 1
lead_of s.ClassHeritage = 1
lead_of s.ClassBody = 1
lead_of s.ClassElementList = 4
lead_of s.ClassElement = 3
lead_of s.ClassElementValue = 3
lead_of s.ConstructorName = 1
lead_of s.PrefixedMethod = 1
lead_of s.ClassElementName = 2
lead_of s.ModuleItem = 28
lead_of s.ModuleExportName = 1
lead_of s.ImportDeclaration = 1
lead_of s.ImportClause = 2
lead_of s.FurtherImports = 1
lead_of s.ImportedDefaultBinding = 1
lead_of s.NameSpaceImport = 1
lead_of s.NamedImports = 1
lead_of s.ImportsList = 2
lead_of s.ExportDeclaration = 1
lead_of s.ExportedName = 1
lead_of s.FromClause = 1
lead_of s.ExportsList = 2

unfoldable pub part_empty : Part → Bool
part_empty (part.Token terminal) = false
part_empty (part.Words terminal field) = false
part_empty (part.Leaf terminal kind field) = false
part_empty (part.Symbol symbol change field) = may_be_empty symbol
part_empty (part.Deeper symbol change field) = may_be_empty symbol
part_empty other = reads_nothing other

unfoldable pub part_first : Part → ℕ
part_first (part.Token terminal) = 2 ^ code_of terminal
part_first (part.Words terminal field) = 2 ^ code_of terminal
part_first (part.Leaf terminal kind field) = 2 ^ code_of terminal
part_first (part.Symbol symbol change field) = first_of symbol
part_first (part.Deeper symbol change field) = first_of symbol
part_first other = 0

unfoldable pub parts_first : List Part → ℕ
parts_first [] = 0
parts_first (p ∷ ps) = if part_empty p then bit_or (part_first p) (parts_first ps) else part_first p

unfoldable pub ways_first : List (List Part) → ℕ
ways_first [] = 0
ways_first (parts ∷ rest) = bit_or (parts_first parts) (ways_first rest)

unfoldable pub ways_empty : List (List Part) → Bool
ways_empty [] = false
ways_empty (parts ∷ rest) = list_all part_empty parts || ways_empty rest

-- what can begin a symbol, or be all of it, is below it
unfoldable pub part_lead : ℕ → Part → Bool
part_lead lead (part.Symbol symbol change field) = nat_lt (lead_of symbol) lead
part_lead lead (part.Deeper symbol change field) = nat_lt (lead_of symbol) lead
part_lead lead other = true

unfoldable pub parts_lead : ℕ → List Part → Bool
parts_lead lead [] = true
parts_lead lead (p ∷ ps) = part_lead lead p && (if part_empty p then parts_lead lead ps else true)

-- the tables hold exactly what the rules give
unfoldable pub same : Bool → Bool → Bool
same true so = so
same false so = not so

unfoldable pub is_closed : Symbol → Form → Bool
is_closed symbol form =
    ways_first (ways form) == first_of symbol
    && same (ways_empty (ways form)) (may_be_empty symbol)
    && list_all (parts_lead (lead_of symbol)) (ways form)
