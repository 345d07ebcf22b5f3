-- The reports of the rules of a kit.
use Rattle.std.specs.Prelude.{ℕ, false, List, [], length, map, Option, Some, None}
use Rattle.std.specs.List.{flat_map, range_with_len}
use Rattle.es_text.specs.declared.finding.Finding.{Finding}
use Rattle.es_text.specs.declared.finding.Report.{Report}
use Rattle.es_text.specs.declared.finding.Severity.{Severity}
use Rattle.es_host.specs.Files.{File}
use Rattle.es_host.specs.Meanings.{Meaning, meaning_at, options_at, setting_at}

-- the report of a finding by the rule of this id, which stands at this place of its kit
abbrev pub report_of : List ℕ → ℕ → Severity → Finding → Report
report_of id place severity finding = record {
  rule = Some id;
  order = place;
  severity = severity;
  text = finding.text;
  span = finding.span;
  fix = finding.fix;
  fatal = false;
}

-- a rule that is off says nothing
abbrev pub said_at : List ℕ → ℕ → Option Severity → List Finding → List Report
said_at id place None findings = []
said_at id place (Some severity) findings = map (report_of id place severity) findings

-- what the rule at this place says of the file
abbrev pub reports_at : List Meaning → File → ℕ → List Report
reports_at meanings file place =
    said_at (meaning_at meanings place).id place (setting_at file place).severity
    ((meaning_at meanings place).says file (options_at file place))

-- what a kit says of a file: the reports of its rules, rule by rule in its order
abbrev pub kit_says : List Meaning → File → List Report
kit_says meanings file = flat_map (reports_at meanings file) (range_with_len 0 (length meanings))
