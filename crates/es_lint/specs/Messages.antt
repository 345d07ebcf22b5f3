-- What is told of a report. ESLint's guide, "Custom formatters": lines and columns count from 1, and fixes are
-- given in UTF-16 units of the text.
use Rattle.std.specs.Prelude.{ℕ, List, option_map}
use Rattle.es_text.specs.declared.finding.Fix.{Fix}
use Rattle.es_text.specs.declared.finding.Report.{Report}
use Rattle.es_text.specs.Texts.{place_at, units_at}
use Rattle.es_messages.specs.declared.message.Message.{Message}
use Rattle.es_messages.specs.declared.message.UnitFix.{UnitFix}

abbrev pub unit_fix_of : List ℕ → Fix → UnitFix
unit_fix_of characters fix = record {
  start = units_at characters fix.span.start;
  end = units_at characters fix.span.end;
  text = fix.text;
}

-- in a text of these characters
abbrev pub message_of : List ℕ → Report → Message
message_of characters report = record {
  rule = report.rule;
  severity = report.severity;
  text = report.text;
  line = (place_at characters report.span.start).line;
  column = (place_at characters report.span.start).column;
  end_line = (place_at characters report.span.end).line;
  end_column = (place_at characters report.span.end).column;
  fix = option_map (unit_fix_of characters) report.fix;
  fatal = report.fatal;
}
