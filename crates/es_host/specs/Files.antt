-- What a rule may look at.
use Rattle.std.specs.Prelude.{◌≡◌, All, List, length, IsTrue}
use Rattle.es_text.specs.Texts.{Text, text_bytes}
use Rattle.es_tree.specs.Rows.{Row}
use Rattle.es_tree.specs.declared.parsed.Parsed.{Parsed}
use Rattle.es_parser.specs.Parsing.{IsParsed}
use Rattle.es_scopes.specs.Analysis.{Analysis, IsReferenceIn, IsVariableIn, standing}
use Rattle.es_scopes.specs.Places.{scopes}
use Rattle.es_scopes.specs.Uses.{references}
use Rattle.es_scopes.specs.Variables.{variables}
use Rattle.es_settings.specs.Settings.{Settings, settings_of}
use Rattle.es_host.specs.declared.file.Ctx.{Ctx}
use Rattle.es_host.specs.declared.file.FileView.{FileView}
use Rattle.es_host.specs.Spans.{are_parts}

-- a text, what is read from it, the scopes of that, and what is set for it
pub record File : Type 0 where
  pub text : Text
  pub parsed : Parsed
  pub scopes : Analysis
  pub settings : Settings

-- the rows of its tree
abbrev pub rows_in : File → List Row
rows_in file = file.parsed.tree

abbrev pub file_in : FileView → File
file_in view = record { text = view.source.now; parsed = view.parsed.now; scopes = view.scopes.now; settings = settings_of view.config.now }

-- the file that a rule may look at
abbrev pub file_of : Ctx → File
file_of ctx = file_in ctx.file.now

-- what is known of the scopes of a tree
abbrev pub analysis : List Row → Analysis
analysis rows = record { standing = standing rows; scopes = scopes rows; variables = variables rows; references = references rows }

-- The tree, the tokens and the comments are those that the text is parsed as, read as it is set, and the scopes are
-- those of the tree. Then each node's span lies in the text, and variables and references name nodes, scopes and
-- variables that are there.
pub record IsWhole (file : File) : Type 0 where
  pub parsed : IsParsed (text_bytes file.text) file.settings.source_type file.parsed
  pub scopes : file.scopes ≡ analysis file.parsed.tree
  pub spans : IsTrue (are_parts (text_bytes file.text) file.parsed.tree)
  pub variables : All (IsVariableIn (length file.scopes.scopes) (length file.parsed.tree)) file.scopes.variables
  pub references : All (IsReferenceIn (length file.scopes.variables) (length file.parsed.tree)) file.scopes.references
