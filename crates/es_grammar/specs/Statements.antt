-- Statements and Declarations. ECMA-262, 14.
use Rattle.std.specs.Prelude.{[], ◌∷◌}
use Rattle.es_grammar.specs.declared.context.Change.TheVariants.{WithoutIn}
use Rattle.es_grammar.specs.declared.part.Condition.TheVariants as c
use Rattle.es_grammar.specs.declared.part.Field.TheVariants as f
use Rattle.es_grammar.specs.declared.part.MemberKind.TheVariants.{Init}
use Rattle.es_grammar.specs.declared.part.Part.TheVariants.{Check, Flag, Hole, Kind, Words}
use Rattle.es_grammar.specs.declared.part.Terminal.TheVariants as t
use Rattle.es_grammar.specs.declared.symbol.Symbol.{Symbol}
use Rattle.es_grammar.specs.declared.symbol.Symbol.TheVariants as s
use Rattle.es_grammar.specs.Forms.{Form, Choice, Commas, any_number, becomes, becoming, behind, deeper, inside, kind_word, leaf, node, option, option_where, plain, read, token, twin, ◌into◌, ◌under◌}
use Rattle.es_grammar.specs.Functions.{function_rule}

unfoldable pub statement_rule : Symbol → Form
-- Statement : Block / VariableStatement / `;` / IfStatement / DoWhileStatement / WhileStatement / ForStatement
--     / ContinueStatement / BreakStatement / ReturnStatement / WithStatement / SwitchStatement / ThrowStatement
--     / TryStatement / DebuggerStatement / LabelledStatement / ExpressionStatement
statement_rule s.Statement = Choice
    (plain (read s.Block ∷ [])
    ∷ plain (read s.VariableStatement ∷ [])
    ∷ node "EmptyStatement" (token ";" ∷ [])
    ∷ plain (read s.IfStatement ∷ [])
    ∷ plain (read s.DoWhileStatement ∷ [])
    ∷ plain (read s.WhileStatement ∷ [])
    ∷ plain (read s.ForStatement ∷ [])
    ∷ plain (read s.ContinueStatement ∷ [])
    ∷ plain (read s.BreakStatement ∷ [])
    ∷ plain (read s.ReturnStatement ∷ [])
    ∷ plain (read s.WithStatement ∷ [])
    ∷ plain (read s.SwitchStatement ∷ [])
    ∷ plain (read s.ThrowStatement ∷ [])
    ∷ plain (read s.TryStatement ∷ [])
    ∷ plain (read s.DebuggerStatement ∷ [])
    ∷ plain (read s.LabelledStatement ∷ [])
    ∷ plain (read s.ExpressionStatement ∷ [])
    ∷ [])
--
-- 12.9, Automatic Semicolon Insertion
-- Semicolon : `;` / {`}` or the end is next, or a line ends before}
statement_rule s.Semicolon = Choice
    (plain (token ";" ∷ [])
    ∷ plain (Check c.SemicolonLeftOut ∷ [])
    ∷ [])
--
-- 14.2, Block
-- Block : `{` ^StatementList `}`
statement_rule s.Block = Choice
    (node "BlockStatement" (token "{" ∷ inside s.StatementList into f.Body ∷ token "}" ∷ [])
    ∷ [])
--
-- StatementList : StatementListItem*
statement_rule s.StatementList = any_number (plain (read s.StatementListItem ∷ []) ∷ [])
--
-- StatementListItem : FunctionDeclaration / ClassDeclaration / LexicalDeclaration / Statement
statement_rule s.StatementListItem = Choice
    (plain (read s.FunctionDeclaration ∷ [])
    ∷ plain (read s.ClassDeclaration ∷ [])
    ∷ plain (read s.LexicalDeclaration ∷ [])
    ∷ plain (read s.Statement ∷ [])
    ∷ [])
--
-- 14.3, Declarations and the Variable Statement
-- LexicalDeclaration : (`let` / `const`) DeclaratorList Semicolon
statement_rule s.LexicalDeclaration = Choice
    (node "VariableDeclaration" (kind_word "let" ∷ read s.DeclaratorList into f.Declarations ∷
    read s.Semicolon ∷ [])
    ∷ node "VariableDeclaration" (kind_word "const" ∷ read s.DeclaratorList into f.Declarations ∷
    read s.Semicolon ∷ [])
    ∷ [])
--
-- VariableStatement : `var` DeclaratorList Semicolon
statement_rule s.VariableStatement = Choice
    (node "VariableDeclaration" (kind_word "var" ∷ read s.DeclaratorList into f.Declarations ∷
    read s.Semicolon ∷ [])
    ∷ [])
--
-- DeclaratorList : Declarator (`,` Declarator)*
statement_rule s.DeclaratorList = behind s.Declarator (any_number
    (plain (token "," ∷ read s.Declarator ∷ [])
    ∷ []))
--
-- Declarator : BindingTarget Initializer {a pattern has one}
statement_rule s.Declarator = Choice
    (node "VariableDeclarator" (read s.BindingTarget into f.Id ∷ read s.Initializer into f.Init ∷
    Check c.PatternHasValue ∷ [])
    ∷ [])
--
-- 14.3.3, Destructuring Binding Patterns
-- BindingTarget : Name / `[` ^BindingElementList `]` / `{` ^BindingPropertyList `}`
statement_rule s.BindingTarget = Choice
    (plain (leaf t.Name "Identifier" ∷ [])
    ∷ node "ArrayPattern" (token "[" ∷ inside s.BindingElementList into f.Elements ∷ token "]" ∷ [])
    ∷ node "ObjectPattern" (token "{" ∷ inside s.BindingPropertyList into f.Properties ∷ token "}" ∷
    [])
    ∷ [])
--
-- BindingElementList : (Hole / BindingElement / `...` BindingTarget {no comma is next}),*
statement_rule s.BindingElementList = Commas
    (plain (Check c.CommaNext ∷ Hole ∷ [])
    ∷ plain (read s.BindingElement ∷ [])
    ∷ node "RestElement" (token "..." ∷ read s.BindingTarget into f.Argument ∷ Check c.NoCommaNext ∷
    [])
    ∷ [])
--
-- BindingPropertyList : (PropertyName `:` BindingElement / SingleNameBinding / `...` Name {no comma is next}),*
statement_rule s.BindingPropertyList = Commas
    (node "Property" (read s.PropertyName into f.Key ∷ token ":" ∷
    read s.BindingElement into f.Value ∷ Kind Init ∷ [])
    ∷ node "Property" (twin t.Name "Identifier" into f.Key ∷ read s.SingleNameBinding into f.Value ∷
    Kind Init ∷ Flag f.Shorthand ∷ [])
    ∷ node "RestElement" (token "..." ∷ leaf t.Name "Identifier" into f.Argument ∷
    Check c.NoCommaNext ∷ [])
    ∷ [])
--
-- BindingElement : BindingTarget (`=` ^AssignmentExpression)?
statement_rule s.BindingElement = behind s.BindingTarget (option
    (node "AssignmentPattern" (token "=" ∷ deeper s.AssignmentExpression into f.Right ∷ [])
    ∷ []))
--
-- SingleNameBinding : Name (`=` ^AssignmentExpression)?
statement_rule s.SingleNameBinding = behind s.BindingIdentifier (option
    (node "AssignmentPattern" (token "=" ∷ deeper s.AssignmentExpression into f.Right ∷ [])
    ∷ []))
--
-- 14.5, Expression Statement
-- ExpressionStatement : {`{`, `function`, `class` and `async` ~ `function` aren't next} Expression Semicolon
statement_rule s.ExpressionStatement = Choice
    (node "ExpressionStatement" (Check c.ExpressionNext ∷ read s.Expression into f.Expression ∷
    read s.Semicolon ∷ [])
    ∷ [])
--
-- 14.6, The `if` Statement
-- IfStatement : `if` `(` ^Expression `)` ^Statement ElseClause
statement_rule s.IfStatement = Choice
    (node "IfStatement" (token "if" ∷ token "(" ∷ inside s.Expression into f.Test ∷ token ")" ∷
    deeper s.Statement into f.Consequent ∷ read s.ElseClause into f.Alternate ∷ [])
    ∷ [])
--
-- ElseClause : (`else` ^Statement)?
statement_rule s.ElseClause = option (plain (token "else" ∷ deeper s.Statement ∷ []) ∷ [])
--
-- 14.7, Iteration Statements
-- DoWhileStatement : `do` ^Statement `while` `(` ^Expression `)` OptionalSemicolon
statement_rule s.DoWhileStatement = Choice
    (node "DoWhileStatement" (token "do" ∷ deeper s.Statement into f.Body ∷ token "while" ∷
    token "(" ∷ inside s.Expression into f.Test ∷ token ")" ∷ read s.OptionalSemicolon ∷ [])
    ∷ [])
--
-- OptionalSemicolon : `;`?
statement_rule s.OptionalSemicolon = option (plain (token ";" ∷ []) ∷ [])
--
-- WhileStatement : `while` `(` ^Expression `)` ^Statement
statement_rule s.WhileStatement = Choice
    (node "WhileStatement" (token "while" ∷ token "(" ∷ inside s.Expression into f.Test ∷
    token ")" ∷ deeper s.Statement into f.Body ∷ [])
    ∷ [])
--
-- ForStatement : `for` {`await` is an operator} `await` `(` ^ForAwaitHead `)` ^Statement
--     / `for` `(` ^ForHead `)` ^Statement
statement_rule s.ForStatement = Choice
    (becoming (token "for" ∷ Check c.AwaitIsOperator ∷ token "await" ∷ Flag f.Await ∷ token "(" ∷
    inside s.ForAwaitHead ∷ token ")" ∷ deeper s.Statement into f.Body ∷ [])
    ∷ becoming (token "for" ∷ token "(" ∷ inside s.ForHead ∷ token ")" ∷
    deeper s.Statement into f.Body ∷ [])
    ∷ [])
--
-- ForAwaitHead : ForDeclaration `of` AssignmentExpression / AssignmentTarget `of` AssignmentExpression
statement_rule s.ForAwaitHead = Choice
    (plain (read s.ForDeclaration into f.Left ∷ token "of" ∷
    read s.AssignmentExpression into f.Right ∷ becomes "ForOfStatement" ∷ [])
    ∷ plain (read s.AssignmentTarget into f.Left ∷ token "of" ∷
    read s.AssignmentExpression into f.Right ∷ becomes "ForOfStatement" ∷ [])
    ∷ [])
--
-- ForHead : ForInOfHead
--     / ForInitializer {`in` is no operator} `;` OptionalExpression `;` OptionalExpression
statement_rule s.ForHead = Choice
    (plain (read s.ForInOfHead ∷ [])
    ∷ plain (read s.ForInitializer under WithoutIn into f.Init ∷ token ";" ∷
    read s.OptionalExpression into f.Test ∷ token ";" ∷ read s.OptionalExpression into f.Update ∷
    becomes "ForStatement" ∷ [])
    ∷ [])
--
-- ForInOfHead : ForDeclaration ForInOfObject / AssignmentTarget ForInOfObject
statement_rule s.ForInOfHead = Choice
    (plain (read s.ForDeclaration into f.Left ∷ read s.ForInOfObject ∷ [])
    ∷ plain (read s.AssignmentTarget into f.Left ∷ read s.ForInOfObject ∷ [])
    ∷ [])
--
-- ForInOfObject : `of` AssignmentExpression / `in` Expression
statement_rule s.ForInOfObject = Choice
    (plain (token "of" ∷ read s.AssignmentExpression into f.Right ∷ becomes "ForOfStatement" ∷ [])
    ∷ plain (token "in" ∷ read s.Expression into f.Right ∷ becomes "ForInStatement" ∷ [])
    ∷ [])
--
-- ForDeclaration : (`var` / `let` / `const`) ForBinding
statement_rule s.ForDeclaration = Choice
    (node "VariableDeclaration" (Words t.DeclarationWord f.Kind ∷
    read s.ForBinding into f.Declarations ∷ [])
    ∷ [])
--
-- ForBinding : BindingTarget
statement_rule s.ForBinding = Choice
    (node "VariableDeclarator" (read s.BindingTarget into f.Id ∷ [])
    ∷ [])
--
-- ForInitializer : ((`var` / `let` / `const`) DeclaratorList / Expression)?
statement_rule s.ForInitializer = option
    (node "VariableDeclaration" (Words t.DeclarationWord f.Kind ∷
    read s.DeclaratorList into f.Declarations ∷ [])
    ∷ plain (read s.Expression ∷ [])
    ∷ [])
--
-- OptionalExpression : Expression?
statement_rule s.OptionalExpression = option (plain (read s.Expression ∷ []) ∷ [])
--
-- 14.8 to 14.10, The `continue`, `break` and `return` Statements
-- ContinueStatement : `continue` OptionalLabel Semicolon
statement_rule s.ContinueStatement = Choice
    (node "ContinueStatement" (token "continue" ∷ read s.OptionalLabel into f.Label ∷
    read s.Semicolon ∷ [])
    ∷ [])
--
-- BreakStatement : `break` OptionalLabel Semicolon
statement_rule s.BreakStatement = Choice
    (node "BreakStatement" (token "break" ∷ read s.OptionalLabel into f.Label ∷ read s.Semicolon ∷
    [])
    ∷ [])
--
-- OptionalLabel : (~ Name)?
statement_rule s.OptionalLabel = option_where (c.SameLine ∷ [])
    (plain (leaf t.Name "Identifier" ∷ [])
    ∷ [])
--
-- ReturnStatement : `return` OptionalResult Semicolon
statement_rule s.ReturnStatement = Choice
    (node "ReturnStatement" (token "return" ∷ read s.OptionalResult into f.Argument ∷
    read s.Semicolon ∷ [])
    ∷ [])
--
-- OptionalResult : (~ Expression)?
statement_rule s.OptionalResult = option_where (c.SameLine ∷ [])
    (plain (read s.Expression ∷ [])
    ∷ [])
--
-- 14.11, The `with` Statement
-- WithStatement : `with` `(` ^Expression `)` ^Statement
statement_rule s.WithStatement = Choice
    (node "WithStatement" (token "with" ∷ token "(" ∷ inside s.Expression into f.Object ∷
    token ")" ∷ deeper s.Statement into f.Body ∷ [])
    ∷ [])
--
-- 14.12, The `switch` Statement
-- SwitchStatement : `switch` `(` ^Expression `)` `{` ^CaseClauses `}`
statement_rule s.SwitchStatement = Choice
    (node "SwitchStatement" (token "switch" ∷ token "(" ∷ inside s.Expression into f.Discriminant ∷
    token ")" ∷ token "{" ∷ inside s.CaseClauses into f.Cases ∷ token "}" ∷ [])
    ∷ [])
--
-- CaseClauses : CaseClause*
statement_rule s.CaseClauses = any_number (plain (read s.CaseClause ∷ []) ∷ [])
--
-- CaseClause : `case` Expression `:` StatementList / `default` `:` StatementList
statement_rule s.CaseClause = Choice
    (node "SwitchCase" (token "case" ∷ read s.Expression into f.Test ∷ token ":" ∷
    read s.StatementList into f.Consequent ∷ [])
    ∷ node "SwitchCase" (token "default" ∷ token ":" ∷ read s.StatementList into f.Consequent ∷ [])
    ∷ [])
--
-- 14.13, Labelled Statements
-- LabelledStatement : Name `:` ^Statement
statement_rule s.LabelledStatement = Choice
    (node "LabeledStatement" (leaf t.Name "Identifier" into f.Label ∷ token ":" ∷
    deeper s.Statement into f.Body ∷ [])
    ∷ [])
--
-- 14.14, The `throw` Statement
-- ThrowStatement : `throw` ~ Expression Semicolon
statement_rule s.ThrowStatement = Choice
    (node "ThrowStatement" (token "throw" ∷ Check c.SameLine ∷ read s.Expression into f.Argument ∷
    read s.Semicolon ∷ [])
    ∷ [])
--
-- 14.15, The `try` Statement
-- TryStatement : `try` Block TryClauses
statement_rule s.TryStatement = Choice
    (node "TryStatement" (token "try" ∷ read s.Block into f.Block ∷ read s.TryClauses ∷ [])
    ∷ [])
--
-- TryClauses : CatchClause OptionalFinally / Finally
statement_rule s.TryClauses = Choice
    (plain (read s.CatchClause into f.Handler ∷ read s.OptionalFinally into f.Finalizer ∷ [])
    ∷ plain (read s.Finally into f.Finalizer ∷ [])
    ∷ [])
--
-- CatchClause : `catch` CatchParameter Block
statement_rule s.CatchClause = Choice
    (node "CatchClause" (token "catch" ∷ read s.CatchParameter into f.Param ∷
    read s.Block into f.Body ∷ [])
    ∷ [])
--
-- CatchParameter : (`(` ^BindingTarget `)`)?
statement_rule s.CatchParameter = option
    (plain (token "(" ∷ inside s.BindingTarget ∷ token ")" ∷ [])
    ∷ [])
--
-- Finally : `finally` Block
statement_rule s.Finally = Choice (plain (token "finally" ∷ read s.Block ∷ []) ∷ [])
--
-- OptionalFinally : Finally?
statement_rule s.OptionalFinally = option (plain (read s.Finally ∷ []) ∷ [])
--
-- 14.16, The `debugger` Statement
-- DebuggerStatement : `debugger` Semicolon
statement_rule s.DebuggerStatement = Choice
    (node "DebuggerStatement" (token "debugger" ∷ read s.Semicolon ∷ [])
    ∷ [])
--
-- the symbols of the chapters behind this one
statement_rule other = function_rule other
