-- Expressions. ECMA-262, 13.
--
-- A production stands above each rule. `x` is a token; `^A` is A with one less room; `A / B` is the first
-- of the two that reads; `A,*` is A any number of times, separated by commas, one of which may stand at the
-- end; `~` says that no line ends before the next token; other conditions stand in braces.
use Rattle.std.specs.Prelude.{[], ◌∷◌}
use Rattle.es_grammar.specs.declared.part.Condition.TheVariants as c
use Rattle.es_grammar.specs.declared.part.Field.TheVariants as f
use Rattle.es_grammar.specs.declared.part.MemberKind.TheVariants.{Init}
use Rattle.es_grammar.specs.declared.part.Part.TheVariants.{Check, Flag, Hole, Kind, Words}
use Rattle.es_grammar.specs.declared.part.Terminal.TheVariants as t
use Rattle.es_grammar.specs.declared.symbol.Symbol.{Symbol}
use Rattle.es_grammar.specs.declared.symbol.Symbol.TheVariants as s
use Rattle.es_grammar.specs.Forms.{Form, Choice, Commas, any_number, any_number_where, becomes, becoming, behind, deeper, inside, leaf, node, operator, operator_of, option, option_where, plain, read, token, twin, ◌into◌}
use Rattle.es_grammar.specs.Terminals.{spelled}
use Rattle.es_grammar.specs.Statements.{statement_rule}

unfoldable pub expression_rule : Symbol → Form
-- 13.1, Identifiers
-- BindingIdentifier : Name
expression_rule s.BindingIdentifier = Choice (plain (leaf t.Name "Identifier" ∷ []) ∷ [])
--
-- OptionalName : Name?
expression_rule s.OptionalName = option (plain (leaf t.Name "Identifier" ∷ []) ∷ [])
--
-- 13.2, Primary Expression
-- PrimaryExpression : `this` / `null` / `true` / `false` / Number / Text / RegExp / TemplateLiteral
--     / `[` ^ElementList `]` / `{` ^PropertyDefinitionList `}` / FunctionExpression / ClassExpression / Name
--     / `(` ^Expression `)`
expression_rule s.PrimaryExpression = Choice
    (node "ThisExpression" (token "this" ∷ [])
    ∷ plain (leaf (spelled "null") "Literal" ∷ [])
    ∷ plain (leaf (spelled "true") "Literal" ∷ [])
    ∷ plain (leaf (spelled "false") "Literal" ∷ [])
    ∷ plain (leaf t.Number "Literal" ∷ [])
    ∷ plain (leaf t.Text "Literal" ∷ [])
    ∷ plain (leaf t.RegExp "Literal" ∷ [])
    ∷ plain (read s.TemplateLiteral ∷ [])
    ∷ node "ArrayExpression" (token "[" ∷ inside s.ElementList into f.Elements ∷ token "]" ∷ [])
    ∷ node "ObjectExpression" (token "{" ∷ inside s.PropertyDefinitionList into f.Properties ∷
    token "}" ∷ [])
    ∷ plain (read s.FunctionExpression ∷ [])
    ∷ plain (read s.ClassExpression ∷ [])
    ∷ plain (leaf t.Name "Identifier" ∷ [])
    ∷ plain (token "(" ∷ inside s.Expression ∷ token ")" ∷ [])
    ∷ [])
--
-- 13.2.4, Array Initializer
-- ElementList : (Hole / AssignmentExpression / `...` AssignmentExpression),*
-- A hole reads nothing, before a comma
expression_rule s.ElementList = Commas
    (plain (Check c.CommaNext ∷ Hole ∷ [])
    ∷ plain (read s.AssignmentExpression ∷ [])
    ∷ node "SpreadElement" (token "..." ∷ read s.AssignmentExpression into f.Argument ∷ [])
    ∷ [])
--
-- 13.2.5, Object Initializer
-- PropertyDefinitionList : (`...` AssignmentExpression / (`get` / `set`) PropertyName Method
--     / `async` ~ `*` PropertyName AsyncGeneratorMethod / `async` ~ PropertyName AsyncMethod
--     / `*` PropertyName GeneratorMethod / PropertyName PropertyValue / Name),*
expression_rule s.PropertyDefinitionList = Commas
    (node "SpreadElement" (token "..." ∷ read s.AssignmentExpression into f.Argument ∷ [])
    ∷ node "Property" (Words t.AccessorWord f.Kind ∷ read s.PropertyName into f.Key ∷
    read s.Method into f.Value ∷ [])
    ∷ node "Property" (token "async" ∷ Check c.SameLine ∷ token "*" ∷
    read s.PropertyName into f.Key ∷ read s.AsyncGeneratorMethod into f.Value ∷ Kind Init ∷
    Flag f.Method ∷ [])
    ∷ node "Property" (token "async" ∷ Check c.SameLine ∷ read s.PropertyName into f.Key ∷
    read s.AsyncMethod into f.Value ∷ Kind Init ∷ Flag f.Method ∷ [])
    ∷ node "Property" (token "*" ∷ read s.PropertyName into f.Key ∷
    read s.GeneratorMethod into f.Value ∷ Kind Init ∷ Flag f.Method ∷ [])
    ∷ node "Property" (read s.PropertyName into f.Key ∷ read s.PropertyValue ∷ [])
    ∷ node "Property" (twin t.Name "Identifier" into f.Key ∷ leaf t.Name "Identifier" into f.Value ∷
    Kind Init ∷ Flag f.Shorthand ∷ [])
    ∷ [])
--
-- PropertyValue : Method / `:` AssignmentExpression
expression_rule s.PropertyValue = Choice
    (plain (read s.Method into f.Value ∷ Kind Init ∷ Flag f.Method ∷ [])
    ∷ plain (token ":" ∷ read s.AssignmentExpression into f.Value ∷ Kind Init ∷ [])
    ∷ [])
--
-- PropertyName : Word / Text / Number / `[` ^AssignmentExpression `]`
expression_rule s.PropertyName = Choice
    (plain (leaf t.Word "Identifier" ∷ [])
    ∷ plain (leaf t.Text "Literal" ∷ [])
    ∷ plain (leaf t.Number "Literal" ∷ [])
    ∷ plain (token "[" ∷ inside s.AssignmentExpression ∷ token "]" ∷ Flag f.Computed ∷ [])
    ∷ [])
--
-- Initializer : (`=` ^AssignmentExpression)?
expression_rule s.Initializer = option (plain (token "=" ∷ deeper s.AssignmentExpression ∷ []) ∷ [])
--
-- 13.2.8, Template Literals
-- TemplateLiteral : Full / Head ^Expression TemplateMiddleList Tail
expression_rule s.TemplateLiteral = Choice
    (node "TemplateLiteral" (leaf t.Full "TemplateElement" into f.Quasis ∷ [])
    ∷ node "TemplateLiteral" (leaf t.Head "TemplateElement" into f.Quasis ∷
    inside s.Expression into f.Expressions ∷ read s.TemplateMiddleList ∷
    leaf t.Tail "TemplateElement" into f.Quasis ∷ [])
    ∷ [])
--
-- TemplateMiddleList : (Middle ^Expression)*
expression_rule s.TemplateMiddleList = any_number
    (plain (leaf t.Middle "TemplateElement" into f.Quasis ∷ inside s.Expression into f.Expressions ∷
    [])
    ∷ [])
--
-- 13.3, Left-Hand-Side Expressions
-- LeftHandSideExpression : CallChain
-- One with a `?.` of its own is a ChainExpression (13.3.9)
expression_rule s.LeftHandSideExpression = Choice (becoming (read s.CallChain ∷ []) ∷ [])
--
-- CallChain : CallChainStart (`.` MemberName / `[` ^Expression `]` / Arguments / TemplateLiteral
--     / `?.` (MemberName / `[` ^Expression `]` / Arguments))*
expression_rule s.CallChain = behind s.CallChainStart (any_number
    (node "MemberExpression" (token "." ∷ read s.MemberName into f.Property ∷ [])
    ∷ node "MemberExpression" (token "[" ∷ inside s.Expression into f.Property ∷ token "]" ∷
    Flag f.Computed ∷ [])
    ∷ node "CallExpression" (read s.Arguments into f.Arguments ∷ [])
    ∷ node "TaggedTemplateExpression" (read s.TemplateLiteral into f.Quasi ∷ [])
    ∷ node "MemberExpression" (token "?." ∷ read s.MemberName into f.Property ∷ Flag f.Optional ∷
    becomes "ChainExpression" ∷ [])
    ∷ node "MemberExpression" (token "?." ∷ token "[" ∷ inside s.Expression into f.Property ∷
    token "]" ∷ Flag f.Computed ∷ Flag f.Optional ∷ becomes "ChainExpression" ∷ [])
    ∷ node "CallExpression" (token "?." ∷ read s.Arguments into f.Arguments ∷ Flag f.Optional ∷
    becomes "ChainExpression" ∷ [])
    ∷ []))
--
-- MemberName : Word / Private
expression_rule s.MemberName = Choice
    (plain (leaf t.Word "Identifier" ∷ [])
    ∷ plain (leaf t.Private "PrivateIdentifier" ∷ [])
    ∷ [])
--
-- CallChainStart : `new` `.` `target` / NewExpression / `super` {`.`, `[` or `(` is next}
--     / `import` `(` ^AssignmentExpression `)` / `import` `.` `meta` / PrimaryExpression
expression_rule s.CallChainStart = Choice
    (node "MetaProperty" (leaf (spelled "new") "Identifier" into f.Meta ∷ token "." ∷
    leaf (spelled "target") "Identifier" into f.Property ∷ [])
    ∷ plain (read s.NewExpression ∷ [])
    ∷ node "Super" (token "super" ∷ Check c.MemberOrCallNext ∷ [])
    ∷ node "ImportExpression" (token "import" ∷ token "(" ∷
    inside s.AssignmentExpression into f.Source ∷ token ")" ∷ [])
    ∷ node "MetaProperty" (leaf (spelled "import") "Identifier" into f.Meta ∷ token "." ∷
    leaf (spelled "meta") "Identifier" into f.Property ∷ [])
    ∷ plain (read s.PrimaryExpression ∷ [])
    ∷ [])
--
-- 13.3.5, The `new` Operator
-- NewExpression : `new` ^NewCallee Arguments?
expression_rule s.NewExpression = Choice
    (node "NewExpression" (token "new" ∷ deeper s.NewCallee into f.Callee ∷
    read s.OptionalArguments into f.Arguments ∷ [])
    ∷ [])
--
-- OptionalArguments : Arguments?
expression_rule s.OptionalArguments = option (plain (read s.Arguments ∷ []) ∷ [])
--
-- NewCallee : NewCalleeStart (`.` MemberName / `[` ^Expression `]` / TemplateLiteral)*
expression_rule s.NewCallee = behind s.NewCalleeStart (any_number
    (node "MemberExpression" (token "." ∷ read s.MemberName into f.Property ∷ [])
    ∷ node "MemberExpression" (token "[" ∷ inside s.Expression into f.Property ∷ token "]" ∷
    Flag f.Computed ∷ [])
    ∷ node "TaggedTemplateExpression" (read s.TemplateLiteral into f.Quasi ∷ [])
    ∷ []))
--
-- NewCalleeStart : `new` `.` `target` / NewExpression / `super` {`.` or `[` is next} / `import` `.` `meta`
--     / PrimaryExpression
expression_rule s.NewCalleeStart = Choice
    (node "MetaProperty" (leaf (spelled "new") "Identifier" into f.Meta ∷ token "." ∷
    leaf (spelled "target") "Identifier" into f.Property ∷ [])
    ∷ plain (read s.NewExpression ∷ [])
    ∷ node "Super" (token "super" ∷ Check c.MemberNext ∷ [])
    ∷ node "MetaProperty" (leaf (spelled "import") "Identifier" into f.Meta ∷ token "." ∷
    leaf (spelled "meta") "Identifier" into f.Property ∷ [])
    ∷ plain (read s.PrimaryExpression ∷ [])
    ∷ [])
--
-- 13.3.8, Argument Lists
-- Arguments : `(` ^ArgumentList `)`
expression_rule s.Arguments = Choice
    (plain (token "(" ∷ inside s.ArgumentList ∷ token ")" ∷ [])
    ∷ [])
--
-- ArgumentList : (AssignmentExpression / `...` AssignmentExpression),*
expression_rule s.ArgumentList = Commas
    (plain (read s.AssignmentExpression ∷ [])
    ∷ node "SpreadElement" (token "..." ∷ read s.AssignmentExpression into f.Argument ∷ [])
    ∷ [])
--
-- 13.4, Update Expressions, and 13.5, Unary Operators
-- UnaryExpression : (`delete` / `void` / `typeof` / `+` / `-` / `~` / `!`) ^UnaryExpression
--     / {`await` is an operator} `await` ^UnaryExpression
--     / (`++` / `--`) ^UnaryExpression {a plain target} / UpdateExpression
expression_rule s.UnaryExpression = Choice
    (node "UnaryExpression" (operator_of t.UnaryOperator ∷ Flag f.Prefix ∷
    deeper s.UnaryExpression into f.Argument ∷ [])
    ∷ node "AwaitExpression" (Check c.AwaitIsOperator ∷ token "await" ∷
    deeper s.UnaryExpression into f.Argument ∷ [])
    ∷ node "UpdateExpression" (operator_of t.UpdateOperator ∷ Flag f.Prefix ∷
    deeper s.UnaryExpression into f.Argument ∷ Check c.PlainTarget ∷ [])
    ∷ plain (read s.UpdateExpression ∷ [])
    ∷ [])
--
-- UpdateExpression : LeftHandSideExpression (~ {a plain target} (`++` / `--`))?
expression_rule s.UpdateExpression = behind s.LeftHandSideExpression (option_where (c.SameLine ∷ c.PlainTarget ∷ [])
    (node "UpdateExpression" (operator_of t.UpdateOperator ∷ [])
    ∷ []))
--
-- 13.6, Exponentiation Operator
-- ExponentiationExpression : UnaryExpression
--     ({it begins with no operator of its own other than `++` or `--`} `**` ^ExponentiationExpression)?
expression_rule s.ExponentiationExpression = behind s.UnaryExpression (option_where (c.NoUnaryOperator ∷ [])
    (node "BinaryExpression" (operator "**" ∷ deeper s.ExponentiationExpression into f.Right ∷ [])
    ∷ []))
--
-- 13.7 to 13.9, Multiplicative and Additive Operators, Bitwise Shift Operators
-- MultiplicativeExpression : ExponentiationExpression ((`*` / `/` / `%`) ExponentiationExpression)*
expression_rule s.MultiplicativeExpression = behind s.ExponentiationExpression (any_number
    (node "BinaryExpression" (operator_of t.MultiplicativeOperator ∷
    read s.ExponentiationExpression into f.Right ∷ [])
    ∷ []))
--
-- AdditiveExpression : MultiplicativeExpression ((`+` / `-`) MultiplicativeExpression)*
expression_rule s.AdditiveExpression = behind s.MultiplicativeExpression (any_number
    (node "BinaryExpression" (operator_of t.AdditiveOperator ∷
    read s.MultiplicativeExpression into f.Right ∷ [])
    ∷ []))
--
-- ShiftExpression : AdditiveExpression ((`<<` / `>>` / `>>>`) AdditiveExpression)*
expression_rule s.ShiftExpression = behind s.AdditiveExpression (any_number
    (node "BinaryExpression" (operator_of t.ShiftOperator ∷ read s.AdditiveExpression into f.Right ∷
    [])
    ∷ []))
--
-- 13.10, Relational Operators
-- RelationalExpression : RelationalOperand ((`<` / `>` / `<=` / `>=` / `instanceof`) ShiftExpression
--     / {`in` is an operator} `in` ShiftExpression)*
expression_rule s.RelationalExpression = behind s.RelationalOperand (any_number
    (node "BinaryExpression" (operator_of t.RelationalOperator ∷
    read s.ShiftExpression into f.Right ∷ [])
    ∷ node "BinaryExpression" (Check c.InIsOperator ∷ operator "in" ∷
    read s.ShiftExpression into f.Right ∷ [])
    ∷ []))
--
-- RelationalOperand : Private {`in` is next} / ShiftExpression
expression_rule s.RelationalOperand = Choice
    (plain (leaf t.Private "PrivateIdentifier" ∷ Check c.InNext ∷ [])
    ∷ plain (read s.ShiftExpression ∷ [])
    ∷ [])
--
-- 13.11, Equality Operators
-- EqualityExpression : RelationalExpression ((`==` / `!=` / `===` / `!==`) RelationalExpression)*
expression_rule s.EqualityExpression = behind s.RelationalExpression (any_number
    (node "BinaryExpression" (operator_of t.EqualityOperator ∷
    read s.RelationalExpression into f.Right ∷ [])
    ∷ []))
--
-- 13.12, Binary Bitwise Operators
-- BitwiseANDExpression : EqualityExpression (`&` EqualityExpression)*
expression_rule s.BitwiseANDExpression = behind s.EqualityExpression (any_number
    (node "BinaryExpression" (operator "&" ∷ read s.EqualityExpression into f.Right ∷ [])
    ∷ []))
--
-- BitwiseXORExpression : BitwiseANDExpression (`^` BitwiseANDExpression)*
expression_rule s.BitwiseXORExpression = behind s.BitwiseANDExpression (any_number
    (node "BinaryExpression" (operator "^" ∷ read s.BitwiseANDExpression into f.Right ∷ [])
    ∷ []))
--
-- BitwiseORExpression : BitwiseXORExpression (`|` BitwiseXORExpression)*
expression_rule s.BitwiseORExpression = behind s.BitwiseXORExpression (any_number
    (node "BinaryExpression" (operator "|" ∷ read s.BitwiseXORExpression into f.Right ∷ [])
    ∷ []))
--
-- 13.13, Binary Logical Operators
-- LogicalANDExpression : BitwiseORExpression (`&&` BitwiseORExpression)*
expression_rule s.LogicalANDExpression = behind s.BitwiseORExpression (any_number
    (node "LogicalExpression" (operator "&&" ∷ read s.BitwiseORExpression into f.Right ∷ [])
    ∷ []))
--
-- LogicalORExpression : LogicalANDExpression (`||` LogicalANDExpression)*
expression_rule s.LogicalORExpression = behind s.LogicalANDExpression (any_number
    (node "LogicalExpression" (operator "||" ∷ read s.LogicalANDExpression into f.Right ∷ [])
    ∷ []))
--
-- ShortCircuitExpression : LogicalORExpression
--     ({it is no `||` or `&&` without parentheses} `??` BitwiseORExpression)*
expression_rule s.ShortCircuitExpression = behind s.LogicalORExpression (any_number_where (c.NoLogicalOperator ∷ [])
    (node "LogicalExpression" (operator "??" ∷ read s.BitwiseORExpression into f.Right ∷ [])
    ∷ []))
--
-- 13.14, Conditional Operator
-- ConditionalExpression : ShortCircuitExpression
--     (`?` ^AssignmentExpression {`in` is an operator} `:` ^AssignmentExpression)?
expression_rule s.ConditionalExpression = behind s.ShortCircuitExpression (option
    (node "ConditionalExpression" (token "?" ∷ inside s.AssignmentExpression into f.Consequent ∷
    token ":" ∷ deeper s.AssignmentExpression into f.Alternate ∷ [])
    ∷ []))
--
-- 13.15, Assignment Operators
-- AssignmentExpression : YieldExpression / ArrowFunction / DestructuringAssignment / SimpleAssignment
expression_rule s.AssignmentExpression = Choice
    (plain (read s.YieldExpression ∷ [])
    ∷ plain (read s.ArrowFunction ∷ [])
    ∷ plain (read s.DestructuringAssignment ∷ [])
    ∷ plain (read s.SimpleAssignment ∷ [])
    ∷ [])
--
-- DestructuringAssignment : {`[` or `{` is next} AssignmentPattern `=` ^AssignmentExpression
expression_rule s.DestructuringAssignment = Choice
    (node "AssignmentExpression" (Check c.BracketNext ∷ read s.AssignmentPattern into f.Left ∷
    operator "=" ∷ deeper s.AssignmentExpression into f.Right ∷ [])
    ∷ [])
--
-- SimpleAssignment : ConditionalExpression ({a plain target} AssignmentOperator ^AssignmentExpression)?
expression_rule s.SimpleAssignment = behind s.ConditionalExpression (option_where (c.PlainTarget ∷ [])
    (node "AssignmentExpression" (operator_of t.AssignmentOperator ∷
    deeper s.AssignmentExpression into f.Right ∷ [])
    ∷ []))
--
-- 13.15.5, Destructuring Assignment
-- AssignmentPattern : `[` ^AssignmentElementList `]` / `{` ^AssignmentPropertyList `}`
expression_rule s.AssignmentPattern = Choice
    (node "ArrayPattern" (token "[" ∷ inside s.AssignmentElementList into f.Elements ∷ token "]" ∷
    [])
    ∷ node "ObjectPattern" (token "{" ∷ inside s.AssignmentPropertyList into f.Properties ∷
    token "}" ∷ [])
    ∷ [])
--
-- AssignmentElementList : (Hole / AssignmentElement / `...` AssignmentTarget {no comma is next}),*
expression_rule s.AssignmentElementList = Commas
    (plain (Check c.CommaNext ∷ Hole ∷ [])
    ∷ plain (read s.AssignmentElement ∷ [])
    ∷ node "RestElement" (token "..." ∷ read s.AssignmentTarget into f.Argument ∷
    Check c.NoCommaNext ∷ [])
    ∷ [])
--
-- AssignmentPropertyList : (PropertyName `:` AssignmentElement / SingleNameBinding
--     / `...` AssignmentTarget {no comma is next}),*
expression_rule s.AssignmentPropertyList = Commas
    (node "Property" (read s.PropertyName into f.Key ∷ token ":" ∷
    read s.AssignmentElement into f.Value ∷ Kind Init ∷ [])
    ∷ node "Property" (twin t.Name "Identifier" into f.Key ∷ read s.SingleNameBinding into f.Value ∷
    Kind Init ∷ Flag f.Shorthand ∷ [])
    ∷ node "RestElement" (token "..." ∷ read s.AssignmentTarget into f.Argument ∷
    Check c.NoCommaNext ∷ [])
    ∷ [])
--
-- AssignmentElement : AssignmentTarget (`=` ^AssignmentExpression)?
expression_rule s.AssignmentElement = behind s.AssignmentTarget (option
    (node "AssignmentPattern" (token "=" ∷ deeper s.AssignmentExpression into f.Right ∷ [])
    ∷ []))
--
-- AssignmentTarget : {`[` or `{` is next} AssignmentPattern
--     / {neither is next} LeftHandSideExpression {a plain target}
expression_rule s.AssignmentTarget = Choice
    (plain (Check c.BracketNext ∷ read s.AssignmentPattern ∷ [])
    ∷ plain (Check c.NoBracketNext ∷ read s.LeftHandSideExpression ∷ Check c.PlainTarget ∷ [])
    ∷ [])
--
-- 13.16, Comma Operator
-- Expression : AssignmentExpression (`,` AssignmentExpression FurtherExpressions)?
expression_rule s.Expression = behind s.AssignmentExpression (option
    (node "SequenceExpression" (token "," ∷ read s.AssignmentExpression into f.Expressions ∷
    read s.FurtherExpressions into f.Expressions ∷ [])
    ∷ []))
--
-- FurtherExpressions : (`,` AssignmentExpression)*
expression_rule s.FurtherExpressions = any_number
    (plain (token "," ∷ read s.AssignmentExpression ∷ [])
    ∷ [])
--
-- the symbols of the chapters behind this one
expression_rule other = statement_rule other
