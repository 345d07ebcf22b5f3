-- What linting a text gives: what the rules say of it under its comments, or the one fatal report where it isn't
-- parsed. ESLint's guide, "Configure rules" and "Disable rules".
use Rattle.std.specs.Prelude.{◌≡◌, ℕ, ◌<◌, ◌++◌, length, slice_get, unwrap_or, List, [], ◌∷◌, Some, map, if◌then◌else◌}
use Rattle.es_text.specs.declared.finding.Report.{Report}
use Rattle.es_text.specs.declared.token.Comment.{Comment}
use Rattle.es_text.specs.declared.token.Token.{Token}
use Rattle.es_text.specs.Texts.{Text, text_bytes}
use Rattle.es_text.specs.Tokens.{comments_between}
use Rattle.es_tree.specs.declared.parsed.Parsed.{Parsed}
use Rattle.es_tree.specs.declared.shape.Shape.{Shape}
use Rattle.es_tree.specs.Numbering.{rows_of}
use Rattle.es_parser.specs.Parsing.{Parses, Parsing, Whole}
use Rattle.es_settings.specs.Settings.{unset}
use Rattle.es_settings.specs.Settings.{Settings}
use Rattle.es_host.specs.Files.{File, analysis}
use Rattle.es_settings.specs.declared.verdict.Verdict.TheVariants.{Fine}
use Rattle.es_host.specs.Meanings.{Meaning, meaning_at}
use Rattle.es_host.specs.Reports.{kit_says}
use Rattle.es_messages.specs.declared.directive.DirectiveList.{DirectiveList}
use Rattle.es_messages.specs.declared.suppression.Suppressed.{Suppressed}
use Rattle.es_messages.specs.Directives.{directives}
use Rattle.es_messages.specs.Suppression.{suppressed}
use Rattle.es_lint.specs.Bad.{bad_in}
use Rattle.es_lint.specs.Fatal.{fatal_of}
use Rattle.es_lint.specs.Laid.{settings_under}
use Rattle.es_lint.specs.Order.{ordered}

-- the reports that stand and those that comments suppress, each in order, and how often the rules listened
pub record Linting : Type 0 where
  pub stand : List Report
  pub suppressed : List Report
  pub heard : ℕ

-- the comments that may change what is set
abbrev pub comments_in : File → List Comment
comments_in file = if file.settings.inline then file.parsed.comments else []

-- what they say
abbrev pub said_in : File → DirectiveList
said_in file = directives file.text (comments_in file)

abbrev pub ids_of : List Meaning → List (List ℕ)
ids_of meanings = map (λ meaning. meaning.id) meanings

-- the file with what comments say laid over what is set, where the rules have these ids
abbrev pub file_under : DirectiveList → List (List ℕ) → File → File
file_under list ids file = record file { settings = settings_under list ids file.settings }

-- what becomes of all that the rules say of it
abbrev pub sorted_out : List Meaning → File → Suppressed
sorted_out meanings file =
    suppressed file.text.characters (kit_says meanings (file_under (said_in file) (ids_of meanings) file)) (said_in file).marks file.settings.unused

-- what linting a file that is parsed gives
abbrev pub linting_on : List Meaning → File → Linting
linting_on meanings file = record {
  stand = ordered ((sorted_out meanings file).kept ++ ((sorted_out meanings file).unused ++ bad_in (ids_of meanings) file.text (comments_in file)));
  suppressed = ordered (sorted_out meanings file).dropped;
  heard = 1;
}

-- and one that isn't
abbrev pub fatal_linting : Report → Linting
fatal_linting fatal = record { stand = fatal ∷ []; suppressed = []; heard = 0 }

-- the file of a text, what is read from it, and what is set
abbrev pub file_with : Text → Parsed → Settings → File
file_with text parsed settings =
    record { text = text; parsed = parsed; scopes = analysis parsed.tree; settings = settings }

-- and of a tree with its tokens
abbrev pub file_of : Settings → Text → Shape → List Token → File
file_of settings text tree tokens =
    file_with text (record { tree = rows_of tree; tokens = tokens; comments = comments_between (text_bytes text) 0 tokens }) settings

-- there is a setting for each rule, which takes its options
pub record FitsKit (meanings : List Meaning) (settings : Settings) : Type 0 where
  pub count : length settings.rules ≡ length meanings
  pub fine : (place : ℕ) → place < length meanings →
      (meaning_at meanings place).verdict (unwrap_or (slice_get settings.rules place) unset).options ≡ Fine

-- what linting the text gives, with these rules and this set
pub data Lints (meanings : List Meaning) (settings : Settings) (text : Text) (linting : Linting) : Type 0 where
  not_parsed : (parsing : Parsing) (fatal : Report) → Parses (text_bytes text) settings.source_type parsing →
      fatal_of parsing ≡ Some fatal → linting ≡ fatal_linting fatal → Lints meanings settings text linting
  parsed : (tree : Shape) (tokens : List Token) → Parses (text_bytes text) settings.source_type (Whole tree tokens) →
      linting ≡ linting_on meanings (file_of settings text tree tokens) → Lints meanings settings text linting

-- linting the text gives this and nothing else
pub record IsTheLinting (meanings : List Meaning) (settings : Settings) (text : Text) (linting : Linting) : Type 0 where
  pub gives : Lints meanings settings text linting
  pub only : (other : Linting) → Lints meanings settings text other → other ≡ linting
