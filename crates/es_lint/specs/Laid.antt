-- What the comments of a text lay over what is set for it. ESLint's guide, "Configure rules" and "Specifying
-- globals", with configuration comments.
use Rattle.std.specs.Prelude.{ℕ, List, [], ◌∷◌, ◌++◌, Option, if◌then◌else◌}
use Rattle.std.specs.Str.{bytes_eq}
use Rattle.es_text.specs.declared.finding.Severity.{Severity}
use Rattle.es_settings.specs.Globals.{Global, last_of_each}
use Rattle.es_settings.specs.Settings.{Setting, Settings}
use Rattle.es_messages.specs.declared.directive.DirectiveList.{DirectiveList}
use Rattle.es_messages.specs.declared.directive.Entry.{Entry}

-- ---- severities

-- a rule's severity under these entries: the last one for the rule counts
abbrev pub severity_under : List Entry → List ℕ → Option Severity → Option Severity
severity_under [] id severity = severity
severity_under (entry ∷ later) id severity =
    severity_under later id (if bytes_eq entry.rule id then entry.severity else severity)

-- a rule keeps its options
abbrev pub setting_under : List Entry → List ℕ → Setting → Setting
setting_under entries id setting =
    record { severity = severity_under entries id setting.severity; options = setting.options }

-- what is set for each of the rules with these ids
abbrev pub rules_under : List Entry → List (List ℕ) → List Setting → List Setting
rules_under entries [] settings = settings
rules_under entries (id ∷ ids) [] = []
rules_under entries (id ∷ ids) (setting ∷ settings) = setting_under entries id setting ∷ rules_under entries ids settings

-- ---- global variables

-- each name once, in the order of names: what was said last of it, or else what is set
abbrev pub globals_under : List Global → List Global → List Global
globals_under said set = last_of_each (set ++ said)

-- ---- both

abbrev pub settings_under : DirectiveList → List (List ℕ) → Settings → Settings
settings_under list ids settings = record {
  source_type = settings.source_type;
  globals = globals_under list.globals settings.globals;
  inline = settings.inline;
  unused = settings.unused;
  rules = rules_under list.entries ids settings.rules;
}
