-- A symbol reads another without less room only where that one's rank is lower. So no symbol comes to itself
-- without less room, and reading ends.
use Rattle.std.specs.Prelude.{ℕ, ◌&&◌, List, Bool, true, nat_lt}
use Rattle.std.specs.List.{list_all}
use Rattle.es_grammar.specs.declared.part.Part.{Part}
use Rattle.es_grammar.specs.declared.part.Part.TheVariants as part
use Rattle.es_grammar.specs.declared.symbol.Symbol.{Symbol}
use Rattle.es_grammar.specs.declared.symbol.Symbol.TheVariants as s
use Rattle.es_grammar.specs.Forms.{Row, Form, Choice, More, Commas, Behind}

unfoldable pub rank_of : Symbol → ℕ
rank_of s.BindingIdentifier = 1
rank_of s.OptionalName = 1
rank_of s.PrimaryExpression = 4
rank_of s.ElementList = 26
rank_of s.PropertyDefinitionList = 27
rank_of s.PropertyValue = 26
rank_of s.PropertyName = 1
rank_of s.Initializer = 1
rank_of s.TemplateLiteral = 2
rank_of s.TemplateMiddleList = 1
rank_of s.LeftHandSideExpression = 7
rank_of s.CallChain = 6
rank_of s.MemberName = 1
rank_of s.CallChainStart = 5
rank_of s.NewExpression = 3
rank_of s.OptionalArguments = 2
rank_of s.NewCallee = 6
rank_of s.NewCalleeStart = 5
rank_of s.Arguments = 1
rank_of s.ArgumentList = 26
rank_of s.UnaryExpression = 9
rank_of s.UpdateExpression = 8
rank_of s.ExponentiationExpression = 10
rank_of s.MultiplicativeExpression = 11
rank_of s.AdditiveExpression = 12
rank_of s.ShiftExpression = 13
rank_of s.RelationalExpression = 15
rank_of s.RelationalOperand = 14
rank_of s.EqualityExpression = 16
rank_of s.BitwiseANDExpression = 17
rank_of s.BitwiseXORExpression = 18
rank_of s.BitwiseORExpression = 19
rank_of s.LogicalANDExpression = 20
rank_of s.LogicalORExpression = 21
rank_of s.ShortCircuitExpression = 22
rank_of s.ConditionalExpression = 23
rank_of s.AssignmentExpression = 25
rank_of s.DestructuringAssignment = 2
rank_of s.SimpleAssignment = 24
rank_of s.AssignmentPattern = 1
rank_of s.AssignmentElementList = 10
rank_of s.AssignmentPropertyList = 10
rank_of s.AssignmentElement = 9
rank_of s.AssignmentTarget = 8
rank_of s.Expression = 27
rank_of s.FurtherExpressions = 26
rank_of s.Statement = 30
rank_of s.Semicolon = 1
rank_of s.Block = 1
rank_of s.StatementList = 32
rank_of s.StatementListItem = 31
rank_of s.LexicalDeclaration = 4
rank_of s.VariableStatement = 4
rank_of s.DeclaratorList = 3
rank_of s.Declarator = 2
rank_of s.BindingTarget = 1
rank_of s.BindingElementList = 3
rank_of s.BindingPropertyList = 3
rank_of s.BindingElement = 2
rank_of s.SingleNameBinding = 2
rank_of s.ExpressionStatement = 28
rank_of s.IfStatement = 2
rank_of s.ElseClause = 1
rank_of s.DoWhileStatement = 2
rank_of s.OptionalSemicolon = 1
rank_of s.WhileStatement = 1
rank_of s.ForStatement = 1
rank_of s.ForAwaitHead = 26
rank_of s.ForHead = 30
rank_of s.ForInOfHead = 29
rank_of s.ForInOfObject = 28
rank_of s.ForDeclaration = 3
rank_of s.ForBinding = 2
rank_of s.ForInitializer = 28
rank_of s.OptionalExpression = 28
rank_of s.ContinueStatement = 2
rank_of s.BreakStatement = 2
rank_of s.OptionalLabel = 1
rank_of s.ReturnStatement = 29
rank_of s.OptionalResult = 28
rank_of s.WithStatement = 1
rank_of s.SwitchStatement = 1
rank_of s.CaseClauses = 34
rank_of s.CaseClause = 33
rank_of s.LabelledStatement = 1
rank_of s.ThrowStatement = 28
rank_of s.TryStatement = 5
rank_of s.TryClauses = 4
rank_of s.CatchClause = 2
rank_of s.CatchParameter = 1
rank_of s.Finally = 2
rank_of s.OptionalFinally = 3
rank_of s.DebuggerStatement = 2
rank_of s.FormalParameters = 3
rank_of s.FunctionRest = 2
rank_of s.FunctionBody = 1
rank_of s.FunctionDeclaration = 3
rank_of s.DefaultFunction = 3
rank_of s.FunctionExpression = 3
rank_of s.ArrowFunction = 3
rank_of s.ArrowParameters = 1
rank_of s.ConciseBody = 2
rank_of s.Method = 3
rank_of s.AsyncMethod = 3
rank_of s.GeneratorMethod = 3
rank_of s.AsyncGeneratorMethod = 3
rank_of s.YieldExpression = 2
rank_of s.YieldOperand = 1
rank_of s.ClassDeclaration = 2
rank_of s.DefaultClass = 2
rank_of s.ClassExpression = 2
rank_of s.ClassHeritage = 1
rank_of s.ClassBody = 1
rank_of s.ClassElementList = 6
rank_of s.ClassElement = 5
rank_of s.ClassElementValue = 4
rank_of s.ConstructorName = 1
rank_of s.PrefixedMethod = 4
rank_of s.ClassElementName = 2
rank_of s.ModuleItem = 32
rank_of s.ModuleExportName = 1
rank_of s.ImportDeclaration = 4
rank_of s.ImportClause = 3
rank_of s.FurtherImports = 2
rank_of s.ImportedDefaultBinding = 1
rank_of s.NameSpaceImport = 1
rank_of s.NamedImports = 1
rank_of s.ImportsList = 2
rank_of s.ExportDeclaration = 26
rank_of s.ExportedName = 2
rank_of s.FromClause = 1
rank_of s.ExportsList = 2

unfoldable pub is_below : ℕ → Part → Bool
is_below rank (part.Symbol symbol change field) = nat_lt (rank_of symbol) rank
is_below rank other = true

abbrev pub rows_below : ℕ → List Row → Bool
rows_below rank rows = list_all (λ row. list_all (is_below rank) row.parts) rows

abbrev pub form_below : ℕ → Form → Bool
form_below rank (Choice rows) = rows_below rank rows
form_below rank (More turns) = rows_below rank turns.rows
form_below rank (Commas rows) = rows_below rank rows
form_below rank (Behind head turns) = nat_lt (rank_of head) rank && rows_below rank turns.rows
