-- Names of Identifiers, and what is said of them.
use Rattle.std.specs.Prelude.{ℕ, List, [], ◌++◌, None, codes, unwrap_or}
use Rattle.std.specs.Str.{chars}
use Rattle.es_text.specs.declared.finding.Finding.{Finding}
use Rattle.es_tree.specs.Around.{name_of}
use Rattle.es_tree.specs.Rows.{Row}
use Rattle.es_host.specs.Files.{File, rows_in}
use Rattle.es_host.specs.Nodes.{found, span_at}

-- the name of an Identifier, in UTF-8
abbrev pub name_at : List Row → ℕ → List ℕ
name_at rows node = unwrap_or (name_of rows node) []

-- a quotation mark, the name, and what follows
abbrev pub quoted : List ℕ → List ℕ → List ℕ
quoted name rest = codes "'" ++ (name ++ rest)

-- what is said of the name at an Identifier, by the text that follows the name
abbrev pub said_of_name : File → ℕ → List ℕ → Finding
said_of_name file node rest = found (span_at (rows_in file) node) (quoted (chars (name_at (rows_in file) node)) rest) None
