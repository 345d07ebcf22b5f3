-- Scripts and Modules. ECMA-262, 16.
use Rattle.std.specs.Prelude.{[], ◌∷◌}
use Rattle.es_grammar.specs.declared.part.Condition.TheVariants as c
use Rattle.es_grammar.specs.declared.part.Field.TheVariants as f
use Rattle.es_grammar.specs.declared.part.Part.TheVariants.{Check}
use Rattle.es_grammar.specs.declared.part.Terminal.TheVariants as t
use Rattle.es_grammar.specs.declared.symbol.Symbol.{Symbol}
use Rattle.es_grammar.specs.declared.symbol.Symbol.TheVariants as s
use Rattle.es_grammar.specs.Forms.{Form, Choice, Commas, inside, leaf, node, option, plain, read, token, twin, ◌into◌}

unfoldable pub module_rule : Symbol → Form
-- 16.2, Modules
-- ModuleItem : ImportDeclaration / ExportDeclaration / StatementListItem
module_rule s.ModuleItem = Choice
    (plain (read s.ImportDeclaration ∷ [])
    ∷ plain (read s.ExportDeclaration ∷ [])
    ∷ plain (read s.StatementListItem ∷ [])
    ∷ [])
--
-- ModuleExportName : Word / Text
module_rule s.ModuleExportName = Choice
    (plain (leaf t.Word "Identifier" ∷ [])
    ∷ plain (leaf t.Text "Literal" ∷ [])
    ∷ [])
--
-- 16.2.2, Imports
-- ImportDeclaration : `import` {neither `(` nor `.` is next} (Text Semicolon / ImportClause `from` Text Semicolon)
module_rule s.ImportDeclaration = Choice
    (node "ImportDeclaration" (token "import" ∷ Check c.NoImportExpressionNext ∷
    leaf t.Text "Literal" into f.Source ∷ read s.Semicolon ∷ [])
    ∷ node "ImportDeclaration" (token "import" ∷ Check c.NoImportExpressionNext ∷
    read s.ImportClause into f.Specifiers ∷ token "from" ∷ leaf t.Text "Literal" into f.Source ∷
    read s.Semicolon ∷ [])
    ∷ [])
--
-- ImportClause : ImportedDefaultBinding FurtherImports / NameSpaceImport / NamedImports
module_rule s.ImportClause = Choice
    (plain (read s.ImportedDefaultBinding ∷ read s.FurtherImports ∷ [])
    ∷ plain (read s.NameSpaceImport ∷ [])
    ∷ plain (read s.NamedImports ∷ [])
    ∷ [])
--
-- FurtherImports : (`,` (NameSpaceImport / NamedImports))?
module_rule s.FurtherImports = option
    (plain (token "," ∷ read s.NameSpaceImport ∷ [])
    ∷ plain (token "," ∷ read s.NamedImports ∷ [])
    ∷ [])
--
-- ImportedDefaultBinding : Name
module_rule s.ImportedDefaultBinding = Choice
    (node "ImportDefaultSpecifier" (leaf t.Name "Identifier" into f.Local ∷ [])
    ∷ [])
--
-- NameSpaceImport : `*` `as` Name
module_rule s.NameSpaceImport = Choice
    (node "ImportNamespaceSpecifier" (token "*" ∷ token "as" ∷
    leaf t.Name "Identifier" into f.Local ∷ [])
    ∷ [])
--
-- NamedImports : `{` ^ImportsList `}`
module_rule s.NamedImports = Choice (plain (token "{" ∷ inside s.ImportsList ∷ token "}" ∷ []) ∷ [])
--
-- ImportsList : (ModuleExportName `as` Name / Name),*
module_rule s.ImportsList = Commas
    (node "ImportSpecifier" (read s.ModuleExportName into f.Imported ∷ token "as" ∷
    leaf t.Name "Identifier" into f.Local ∷ [])
    ∷ node "ImportSpecifier" (twin t.Name "Identifier" into f.Imported ∷
    leaf t.Name "Identifier" into f.Local ∷ [])
    ∷ [])
--
-- 16.2.3, Exports
-- ExportDeclaration : `export` (`*` ExportedName `from` Text Semicolon / `{` ^ExportsList `}` FromClause Semicolon
--     / `default` (DefaultFunction / DefaultClass / AssignmentExpression Semicolon)
--     / VariableStatement / LexicalDeclaration / FunctionDeclaration / ClassDeclaration)
module_rule s.ExportDeclaration = Choice
    (node "ExportAllDeclaration" (token "export" ∷ token "*" ∷ read s.ExportedName into f.Exported ∷
    token "from" ∷ leaf t.Text "Literal" into f.Source ∷ read s.Semicolon ∷ [])
    ∷ node "ExportNamedDeclaration" (token "export" ∷ token "{" ∷
    inside s.ExportsList into f.Specifiers ∷ token "}" ∷ read s.FromClause into f.Source ∷
    read s.Semicolon ∷ [])
    ∷ node "ExportDefaultDeclaration" (token "export" ∷ token "default" ∷
    read s.DefaultFunction into f.Declaration ∷ [])
    ∷ node "ExportDefaultDeclaration" (token "export" ∷ token "default" ∷
    read s.DefaultClass into f.Declaration ∷ [])
    ∷ node "ExportDefaultDeclaration" (token "export" ∷ token "default" ∷
    read s.AssignmentExpression into f.Declaration ∷ read s.Semicolon ∷ [])
    ∷ node "ExportNamedDeclaration" (token "export" ∷ read s.VariableStatement into f.Declaration ∷
    [])
    ∷ node "ExportNamedDeclaration" (token "export" ∷ read s.LexicalDeclaration into f.Declaration ∷
    [])
    ∷ node "ExportNamedDeclaration" (token "export" ∷
    read s.FunctionDeclaration into f.Declaration ∷ [])
    ∷ node "ExportNamedDeclaration" (token "export" ∷ read s.ClassDeclaration into f.Declaration ∷
    [])
    ∷ [])
--
-- ExportedName : (`as` ModuleExportName)?
module_rule s.ExportedName = option (plain (token "as" ∷ read s.ModuleExportName ∷ []) ∷ [])
--
-- FromClause : (`from` Text)?
module_rule s.FromClause = option (plain (token "from" ∷ leaf t.Text "Literal" ∷ []) ∷ [])
--
-- ExportsList : (ModuleExportName `as` ModuleExportName / Word / Text),*
module_rule s.ExportsList = Commas
    (node "ExportSpecifier" (read s.ModuleExportName into f.Local ∷ token "as" ∷
    read s.ModuleExportName into f.Exported ∷ [])
    ∷ node "ExportSpecifier" (twin t.Word "Identifier" into f.Local ∷
    leaf t.Word "Identifier" into f.Exported ∷ [])
    ∷ node "ExportSpecifier" (twin t.Text "Literal" into f.Local ∷
    leaf t.Text "Literal" into f.Exported ∷ [])
    ∷ [])
--
-- nothing else is a symbol
module_rule other = Choice []
