-- The kinds of nodes of ESTree, with their child fields in the order of the walk and their attributes.
use Prim.Native.String.{String}
use Rattle.std.specs.Prelude.{ℕ, List, [], ◌∷◌, ◌++◌, map, Option, Some, None, IsSome, IsNone, option_and_then, option_map, unwrap_or, position, slice_get, codes}
use Rattle.std.specs.Str.{bytes_eq}
use Rattle.es_tables.specs.declared.fields.Holds.{Holds}
use Rattle.es_tables.specs.declared.fields.Holds.TheVariants.{One, Optional, Many}

pub record Child : Type 0 where
  pub name : List ℕ
  pub holds : Holds

pub record NodeRow : Type 0 where
  pub kind : List ℕ
  pub children : List Child
  pub attributes : List (List ℕ)

abbrev pub one : String → Child
one name = record { name = codes name; holds = One }

abbrev pub optional : String → Child
optional name = record { name = codes name; holds = Optional }

abbrev pub many : String → Child
many name = record { name = codes name; holds = Many }

abbrev pub node : String → List Child → List String → NodeRow
node kind children attributes = record { kind = codes kind; children = children; attributes = map codes attributes }

-- the table of nodes; a kind's code is its row's index, from 0
abbrev pub node_rows : List NodeRow
node_rows =
    node "Program" (many "body" ∷ []) ("sourceType" ∷ [])
    ∷ node "ExpressionStatement" (one "expression" ∷ []) ("directive" ∷ [])
    ∷ node "BlockStatement" (many "body" ∷ []) []
    ∷ node "StaticBlock" (many "body" ∷ []) []
    ∷ node "ClassBody" (many "body" ∷ []) []
    ∷ node "EmptyStatement" [] []
    ∷ node "DebuggerStatement" [] []
    ∷ node "ThisExpression" [] []
    ∷ node "Super" [] []
    ∷ node "WithStatement" (one "object" ∷ one "body" ∷ []) []
    ∷ node "ReturnStatement" (optional "argument" ∷ []) []
    ∷ node "ThrowStatement" (optional "argument" ∷ []) []
    ∷ node "LabeledStatement" (one "label" ∷ one "body" ∷ []) []
    ∷ node "BreakStatement" (optional "label" ∷ []) []
    ∷ node "ContinueStatement" (optional "label" ∷ []) []
    ∷ node "IfStatement" (one "test" ∷ one "consequent" ∷ optional "alternate" ∷ []) []
    ∷ node "SwitchStatement" (one "discriminant" ∷ many "cases" ∷ []) []
    ∷ node "SwitchCase" (optional "test" ∷ many "consequent" ∷ []) []
    ∷ node "TryStatement" (one "block" ∷ optional "handler" ∷ optional "finalizer" ∷ []) []
    ∷ node "CatchClause" (optional "param" ∷ one "body" ∷ []) []
    ∷ node "WhileStatement" (one "test" ∷ one "body" ∷ []) []
    ∷ node "DoWhileStatement" (one "body" ∷ one "test" ∷ []) []
    ∷ node "ForStatement" (optional "init" ∷ optional "test" ∷ optional "update" ∷ one "body" ∷ []) []
    ∷ node "ForInStatement" (one "left" ∷ one "right" ∷ one "body" ∷ []) []
    ∷ node "ForOfStatement" (one "left" ∷ one "right" ∷ one "body" ∷ []) ("await" ∷ [])
    ∷ node "FunctionDeclaration" (optional "id" ∷ many "params" ∷ one "body" ∷ []) ("async" ∷ "generator" ∷ [])
    ∷ node "FunctionExpression" (optional "id" ∷ many "params" ∷ one "body" ∷ []) ("async" ∷ "generator" ∷ [])
    ∷ node "ArrowFunctionExpression" (many "params" ∷ one "body" ∷ []) ("async" ∷ "expression" ∷ [])
    ∷ node "VariableDeclaration" (many "declarations" ∷ []) ("kind" ∷ [])
    ∷ node "VariableDeclarator" (one "id" ∷ optional "init" ∷ []) []
    ∷ node "ClassDeclaration" (optional "id" ∷ optional "superClass" ∷ one "body" ∷ []) []
    ∷ node "ClassExpression" (optional "id" ∷ optional "superClass" ∷ one "body" ∷ []) []
    ∷ node "MethodDefinition" (one "key" ∷ one "value" ∷ []) ("kind" ∷ "static" ∷ "computed" ∷ [])
    ∷ node "PropertyDefinition" (one "key" ∷ optional "value" ∷ []) ("static" ∷ "computed" ∷ [])
    ∷ node "Identifier" [] ("name" ∷ [])
    ∷ node "PrivateIdentifier" [] ("name" ∷ [])
    ∷ node "Literal" [] ("raw" ∷ "value" ∷ "regex" ∷ "bigint" ∷ [])
    ∷ node "ArrayExpression" (many "elements" ∷ []) []
    ∷ node "ArrayPattern" (many "elements" ∷ []) []
    ∷ node "ObjectExpression" (many "properties" ∷ []) []
    ∷ node "ObjectPattern" (many "properties" ∷ []) []
    ∷ node "Property" (one "key" ∷ one "value" ∷ []) ("kind" ∷ "method" ∷ "shorthand" ∷ "computed" ∷ [])
    ∷ node "UnaryExpression" (one "argument" ∷ []) ("operator" ∷ "prefix" ∷ [])
    ∷ node "UpdateExpression" (one "argument" ∷ []) ("operator" ∷ "prefix" ∷ [])
    ∷ node "BinaryExpression" (one "left" ∷ one "right" ∷ []) ("operator" ∷ [])
    ∷ node "LogicalExpression" (one "left" ∷ one "right" ∷ []) ("operator" ∷ [])
    ∷ node "AssignmentExpression" (one "left" ∷ one "right" ∷ []) ("operator" ∷ [])
    ∷ node "AssignmentPattern" (one "left" ∷ one "right" ∷ []) []
    ∷ node "MemberExpression" (one "object" ∷ one "property" ∷ []) ("computed" ∷ "optional" ∷ [])
    ∷ node "CallExpression" (one "callee" ∷ many "arguments" ∷ []) ("optional" ∷ [])
    ∷ node "NewExpression" (one "callee" ∷ many "arguments" ∷ []) []
    ∷ node "ConditionalExpression" (one "test" ∷ one "consequent" ∷ one "alternate" ∷ []) []
    ∷ node "SequenceExpression" (many "expressions" ∷ []) []
    ∷ node "YieldExpression" (optional "argument" ∷ []) ("delegate" ∷ [])
    ∷ node "AwaitExpression" (one "argument" ∷ []) []
    ∷ node "SpreadElement" (one "argument" ∷ []) []
    ∷ node "RestElement" (one "argument" ∷ []) []
    ∷ node "TemplateLiteral" (many "quasis" ∷ many "expressions" ∷ []) []
    ∷ node "TemplateElement" [] ("raw" ∷ "tail" ∷ [])
    ∷ node "TaggedTemplateExpression" (one "tag" ∷ one "quasi" ∷ []) []
    ∷ node "ChainExpression" (one "expression" ∷ []) []
    ∷ node "ImportExpression" (one "source" ∷ []) []
    ∷ node "MetaProperty" (one "meta" ∷ one "property" ∷ []) []
    ∷ node "ImportDeclaration" (many "specifiers" ∷ one "source" ∷ []) []
    ∷ node "ImportSpecifier" (one "imported" ∷ one "local" ∷ []) []
    ∷ node "ImportDefaultSpecifier" (one "local" ∷ []) []
    ∷ node "ImportNamespaceSpecifier" (one "local" ∷ []) []
    ∷ node "ExportNamedDeclaration" (optional "declaration" ∷ many "specifiers" ∷ optional "source" ∷ []) []
    ∷ node "ExportSpecifier" (one "local" ∷ one "exported" ∷ []) []
    ∷ node "ExportDefaultDeclaration" (one "declaration" ∷ []) []
    ∷ node "ExportAllDeclaration" (optional "exported" ∷ one "source" ∷ []) []
    ∷ []

abbrev pub kind_words : List (List ℕ)
kind_words = map (λ row. row.kind) node_rows

-- the names of a row, child fields first, then attributes
abbrev pub names_of : NodeRow → List (List ℕ)
names_of row = map (λ child. child.name) row.children ++ row.attributes

-- the index of the name, from 0, among those of the kind with this code: the field's code
abbrev pub field_index : ℕ → List ℕ → Option ℕ
field_index kind name = option_and_then (λ row. position (bytes_eq name) (names_of row)) (slice_get node_rows kind)

-- the name of the kind's field with this code
unfoldable pub field_name : ℕ → ℕ → Option (List ℕ)
field_name kind field = option_and_then (λ row. slice_get (names_of row) field) (slice_get node_rows kind)

-- what the child fields of the kind with this code hold, or None where no kind has it
unfoldable pub holds_of : ℕ → Option (List Holds)
holds_of kind = option_map (λ row. map (λ child. child.holds) row.children) (slice_get node_rows kind)

abbrev pub IsKind : ℕ → Type 0
IsKind kind = IsSome (holds_of kind)

-- the child fields of the kind, of which a code that is no kind's has none
abbrev pub child_fields : ℕ → List Holds
child_fields kind = unwrap_or (holds_of kind) []

-- what the child field of this code holds
abbrev pub held_by : ℕ → ℕ → Option Holds
held_by kind field = slice_get (child_fields kind) field

-- the kind has this child field
abbrev pub HasField : ℕ → ℕ → Type 0
HasField kind field = IsSome (held_by kind field)

-- the kind has this attribute: a field that is no child field
abbrev pub HasAttribute : ℕ → ℕ → Type 0
HasAttribute kind field = IsSome (field_name kind field) × IsNone (held_by kind field)

-- the fields of a row, with what they hold: an attribute holds no child
abbrev pub fields_of : NodeRow → List (List ℕ × Option Holds)
fields_of row = map (λ child. (child.name, Some child.holds)) row.children ++ map (λ name. (name, None)) row.attributes

-- the fields of the kind, of which a code that is no kind's has none
unfoldable pub kind_fields : ℕ → List (List ℕ × Option Holds)
kind_fields kind = unwrap_or (option_map fields_of (slice_get node_rows kind)) []
