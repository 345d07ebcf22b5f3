-- Functions and Classes. ECMA-262, 15.
use Rattle.std.specs.Prelude.{[], ◌∷◌}
use Rattle.es_grammar.specs.declared.context.Change.TheVariants.{Plain, Async, Generator, AsyncGenerator}
use Rattle.es_grammar.specs.declared.part.Condition.TheVariants as c
use Rattle.es_grammar.specs.declared.part.Field.TheVariants as f
use Rattle.es_grammar.specs.declared.part.MemberKind.TheVariants.{Method, Constructor}
use Rattle.es_grammar.specs.declared.part.Part.TheVariants.{Check, Directives, Flag, Kind, Words}
use Rattle.es_grammar.specs.declared.part.Terminal.TheVariants as t
use Rattle.es_grammar.specs.declared.symbol.Symbol.{Symbol}
use Rattle.es_grammar.specs.declared.symbol.Symbol.TheVariants as s
use Rattle.es_grammar.specs.Forms.{Form, Choice, Commas, any_number, becomes, becoming, deeper, inside, leaf, node, option, option_where, plain, read, token, ◌into◌, ◌under◌}
use Rattle.es_grammar.specs.Modules.{module_rule}

unfoldable pub function_rule : Symbol → Form
-- 15.1, Parameter Lists
-- FormalParameters : (BindingElement / `...` BindingTarget {no comma is next}),*
function_rule s.FormalParameters = Commas
    (plain (read s.BindingElement ∷ [])
    ∷ node "RestElement" (token "..." ∷ read s.BindingTarget into f.Argument ∷ Check c.NoCommaNext ∷
    [])
    ∷ [])
--
-- FunctionRest : `(` ^FormalParameters `)` FunctionBody
function_rule s.FunctionRest = Choice
    (plain (token "(" ∷ inside s.FormalParameters into f.Params ∷ token ")" ∷
    read s.FunctionBody into f.Body ∷ [])
    ∷ [])
--
-- FunctionBody : `{` ^StatementList `}`
-- The texts at its head are directives (11.2.1)
function_rule s.FunctionBody = Choice
    (node "BlockStatement" (token "{" ∷ inside s.StatementList into f.Body ∷ Directives ∷
    token "}" ∷ [])
    ∷ [])
--
-- 15.2, 15.5, 15.6, 15.8, Function Definitions; a name is read in the context around
-- FunctionDeclaration : `async` ~ `function` `*` BindingIdentifier FunctionRest
--     / `async` ~ `function` BindingIdentifier FunctionRest / `function` `*` BindingIdentifier FunctionRest
--     / `function` BindingIdentifier FunctionRest
function_rule s.FunctionDeclaration = Choice
    (node "FunctionDeclaration" (token "async" ∷ Check c.SameLine ∷ token "function" ∷ token "*" ∷
    read s.BindingIdentifier into f.Id ∷ read s.FunctionRest under AsyncGenerator ∷ Flag f.Async ∷
    Flag f.Generator ∷ [])
    ∷ node "FunctionDeclaration" (token "async" ∷ Check c.SameLine ∷ token "function" ∷
    read s.BindingIdentifier into f.Id ∷ read s.FunctionRest under Async ∷ Flag f.Async ∷ [])
    ∷ node "FunctionDeclaration" (token "function" ∷ token "*" ∷
    read s.BindingIdentifier into f.Id ∷ read s.FunctionRest under Generator ∷ Flag f.Generator ∷
    [])
    ∷ node "FunctionDeclaration" (token "function" ∷ read s.BindingIdentifier into f.Id ∷
    read s.FunctionRest under Plain ∷ [])
    ∷ [])
--
-- DefaultFunction : FunctionDeclaration, but with OptionalName for BindingIdentifier
function_rule s.DefaultFunction = Choice
    (node "FunctionDeclaration" (token "async" ∷ Check c.SameLine ∷ token "function" ∷ token "*" ∷
    read s.OptionalName into f.Id ∷ read s.FunctionRest under AsyncGenerator ∷ Flag f.Async ∷
    Flag f.Generator ∷ [])
    ∷ node "FunctionDeclaration" (token "async" ∷ Check c.SameLine ∷ token "function" ∷
    read s.OptionalName into f.Id ∷ read s.FunctionRest under Async ∷ Flag f.Async ∷ [])
    ∷ node "FunctionDeclaration" (token "function" ∷ token "*" ∷ read s.OptionalName into f.Id ∷
    read s.FunctionRest under Generator ∷ Flag f.Generator ∷ [])
    ∷ node "FunctionDeclaration" (token "function" ∷ read s.OptionalName into f.Id ∷
    read s.FunctionRest under Plain ∷ [])
    ∷ [])
--
-- FunctionExpression : DefaultFunction, but as another kind of nodes
function_rule s.FunctionExpression = Choice
    (node "FunctionExpression" (token "async" ∷ Check c.SameLine ∷ token "function" ∷ token "*" ∷
    read s.OptionalName into f.Id ∷ read s.FunctionRest under AsyncGenerator ∷ Flag f.Async ∷
    Flag f.Generator ∷ [])
    ∷ node "FunctionExpression" (token "async" ∷ Check c.SameLine ∷ token "function" ∷
    read s.OptionalName into f.Id ∷ read s.FunctionRest under Async ∷ Flag f.Async ∷ [])
    ∷ node "FunctionExpression" (token "function" ∷ token "*" ∷ read s.OptionalName into f.Id ∷
    read s.FunctionRest under Generator ∷ Flag f.Generator ∷ [])
    ∷ node "FunctionExpression" (token "function" ∷ read s.OptionalName into f.Id ∷
    read s.FunctionRest under Plain ∷ [])
    ∷ [])
--
-- 15.3, Arrow Function Definitions, and 15.9, Async Arrow Function Definitions
-- ArrowFunction : `async` ~ ArrowParameters ~ `=>` ConciseBody / ArrowParameters ~ `=>` ConciseBody
-- In the parameters `await` and `yield` are as around the function, and so is `in` in a body without braces
function_rule s.ArrowFunction = Choice
    (node "ArrowFunctionExpression" (token "async" ∷ Check c.SameLine ∷
    read s.ArrowParameters into f.Params ∷ Check c.SameLine ∷ token "=>" ∷
    read s.ConciseBody under Async into f.Body ∷ Flag f.Async ∷ [])
    ∷ node "ArrowFunctionExpression" (read s.ArrowParameters into f.Params ∷ Check c.SameLine ∷
    token "=>" ∷ read s.ConciseBody under Plain into f.Body ∷ [])
    ∷ [])
--
-- ArrowParameters : Name / `(` ^FormalParameters `)`
function_rule s.ArrowParameters = Choice
    (plain (leaf t.Name "Identifier" ∷ [])
    ∷ plain (token "(" ∷ inside s.FormalParameters ∷ token ")" ∷ [])
    ∷ [])
--
-- ConciseBody : FunctionBody / {`{` isn't next} ^AssignmentExpression
function_rule s.ConciseBody = Choice
    (plain (read s.FunctionBody ∷ [])
    ∷ plain (Check c.NoBraceNext ∷ deeper s.AssignmentExpression ∷ Flag f.Expression ∷ [])
    ∷ [])
--
-- 15.4, Method Definitions
-- Method, AsyncMethod, GeneratorMethod, AsyncGeneratorMethod : FunctionRest
function_rule s.Method = Choice
    (node "FunctionExpression" (read s.FunctionRest under Plain ∷ [])
    ∷ [])
function_rule s.AsyncMethod = Choice
    (node "FunctionExpression" (read s.FunctionRest under Async ∷ Flag f.Async ∷ [])
    ∷ [])
function_rule s.GeneratorMethod = Choice
    (node "FunctionExpression" (read s.FunctionRest under Generator ∷ Flag f.Generator ∷ [])
    ∷ [])
function_rule s.AsyncGeneratorMethod = Choice
    (node "FunctionExpression" (read s.FunctionRest under AsyncGenerator ∷ Flag f.Async ∷
    Flag f.Generator ∷ [])
    ∷ [])
--
-- 15.5, Generator Function Definitions
-- YieldExpression : {`yield` is an operator} `yield` YieldOperand
function_rule s.YieldExpression = Choice
    (node "YieldExpression" (Check c.YieldIsOperator ∷ token "yield" ∷
    read s.YieldOperand into f.Argument ∷ [])
    ∷ [])
--
-- YieldOperand : (~ `*` ^AssignmentExpression / ~ ^AssignmentExpression)?
function_rule s.YieldOperand = option_where (c.SameLine ∷ [])
    (plain (token "*" ∷ Flag f.Delegate ∷ deeper s.AssignmentExpression ∷ [])
    ∷ plain (deeper s.AssignmentExpression ∷ [])
    ∷ [])
--
-- 15.7, Class Definitions
-- ClassDeclaration : `class` BindingIdentifier ClassHeritage ClassBody
function_rule s.ClassDeclaration = Choice
    (node "ClassDeclaration" (token "class" ∷ read s.BindingIdentifier into f.Id ∷
    read s.ClassHeritage into f.SuperClass ∷ read s.ClassBody into f.Body ∷ [])
    ∷ [])
--
-- DefaultClass : `class` OptionalName ClassHeritage ClassBody
function_rule s.DefaultClass = Choice
    (node "ClassDeclaration" (token "class" ∷ read s.OptionalName into f.Id ∷
    read s.ClassHeritage into f.SuperClass ∷ read s.ClassBody into f.Body ∷ [])
    ∷ [])
--
-- ClassExpression : `class` OptionalName ClassHeritage ClassBody
function_rule s.ClassExpression = Choice
    (node "ClassExpression" (token "class" ∷ read s.OptionalName into f.Id ∷
    read s.ClassHeritage into f.SuperClass ∷ read s.ClassBody into f.Body ∷ [])
    ∷ [])
--
-- ClassHeritage : (`extends` ^LeftHandSideExpression)?
function_rule s.ClassHeritage = option
    (plain (token "extends" ∷ deeper s.LeftHandSideExpression ∷ [])
    ∷ [])
--
-- ClassBody : `{` ^ClassElementList `}`
function_rule s.ClassBody = Choice
    (node "ClassBody" (token "{" ∷ inside s.ClassElementList into f.Body ∷ token "}" ∷ [])
    ∷ [])
--
-- ClassElementList : ClassElement*
function_rule s.ClassElementList = any_number (plain (read s.ClassElement ∷ []) ∷ [])
--
-- ClassElement : `;` / `static` `{` ^StatementList `}` / `static` Member / Member
-- Member : PrefixedMethod / ClassElementName ClassElementValue
-- The method whose key is the word or the text `constructor` is the constructor, if it isn't static
function_rule s.ClassElement = Choice
    (plain (token ";" ∷ [])
    ∷ node "StaticBlock" (token "static" ∷ token "{" ∷
    deeper s.StatementList under Plain into f.Body ∷ token "}" ∷ [])
    ∷ node "MethodDefinition" (token "static" ∷ Flag f.Static ∷ read s.PrefixedMethod ∷ [])
    ∷ becoming (token "static" ∷ Flag f.Static ∷ read s.ClassElementName into f.Key ∷
    read s.ClassElementValue ∷ [])
    ∷ node "MethodDefinition" (read s.PrefixedMethod ∷ [])
    ∷ node "MethodDefinition" (read s.ConstructorName into f.Key ∷ Check c.ConstructorKey ∷
    read s.Method into f.Value ∷ Kind Constructor ∷ [])
    ∷ becoming (read s.ClassElementName into f.Key ∷ read s.ClassElementValue ∷ [])
    ∷ [])
--
-- ClassElementValue : Method / Initializer Semicolon
function_rule s.ClassElementValue = Choice
    (plain (read s.Method into f.Value ∷ Kind Method ∷ becomes "MethodDefinition" ∷ [])
    ∷ plain (read s.Initializer under Plain into f.Value ∷ read s.Semicolon ∷
    becomes "PropertyDefinition" ∷ [])
    ∷ [])
--
-- ConstructorName : Word / Text
function_rule s.ConstructorName = Choice
    (plain (leaf t.Word "Identifier" ∷ [])
    ∷ plain (leaf t.Text "Literal" ∷ [])
    ∷ [])
--
-- PrefixedMethod : (`get` / `set`) ClassElementName Method / `async` ~ `*` ClassElementName AsyncGeneratorMethod
--     / `async` ~ ClassElementName AsyncMethod / `*` ClassElementName GeneratorMethod
function_rule s.PrefixedMethod = Choice
    (plain (Words t.AccessorWord f.Kind ∷ read s.ClassElementName into f.Key ∷
    read s.Method into f.Value ∷ [])
    ∷ plain (token "async" ∷ Check c.SameLine ∷ token "*" ∷ read s.ClassElementName into f.Key ∷
    read s.AsyncGeneratorMethod into f.Value ∷ Kind Method ∷ [])
    ∷ plain (token "async" ∷ Check c.SameLine ∷ read s.ClassElementName into f.Key ∷
    read s.AsyncMethod into f.Value ∷ Kind Method ∷ [])
    ∷ plain (token "*" ∷ read s.ClassElementName into f.Key ∷ read s.GeneratorMethod into f.Value ∷
    Kind Method ∷ [])
    ∷ [])
--
-- ClassElementName : Private / PropertyName
function_rule s.ClassElementName = Choice
    (plain (leaf t.Private "PrivateIdentifier" ∷ [])
    ∷ plain (read s.PropertyName ∷ [])
    ∷ [])
--
-- the symbols of the chapter behind this one
function_rule other = module_rule other
