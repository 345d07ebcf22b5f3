-- The report of a text that isn't parsed.
use Rattle.std.specs.Prelude.{ℕ, ◌++◌, List, Option, Some, None, true, codes}
use Rattle.std.specs.Fmt.{decimal}
use Rattle.es_text.specs.declared.finding.Report.{Report}
use Rattle.es_text.specs.declared.finding.Severity.TheVariants.{Error}
use Rattle.es_text.specs.declared.span.Span.{Span}
use Rattle.es_parser.specs.declared.parser.ParseFault.{ParseFault}
use Rattle.es_parser.specs.declared.parser.ParseFault.TheVariants as fault
use Rattle.es_parser.specs.Parsing.{Deep, Parsing, Unread, Whole, Wrong}

abbrev pub fatal_report : Span → List ℕ → Report
fatal_report span text = record {
  rule = None;
  order = 0;
  severity = Error;
  text = text;
  span = span;
  fix = None;
  fatal = true;
}

-- no character, at this offset
abbrev pub empty_at : ℕ → Span
empty_at at = record { start = at; end = at }

abbrev pub early_text : ℕ → List ℕ
early_text code = codes "Parsing error: early error E" ++ (decimal code ++ codes ".")

unfoldable pub fatal_of : Parsing → Option Report
fatal_of (Whole tree tokens) = None
fatal_of (Unread at) = Some (fatal_report (empty_at at) (codes "Parsing error: unreadable item."))
fatal_of (Deep at) = Some (fatal_report (empty_at at) (codes "Parsing error: nested too deeply."))
fatal_of (Wrong early) = Some (fatal_report early.span (early_text early.code))

-- the report of a fault of parsing; being out of memory has none
abbrev pub fault_fatal : ParseFault → Option Report
fault_fatal (fault.Unread at) = fatal_of (Unread at)
fault_fatal (fault.Deep at) = fatal_of (Deep at)
fault_fatal (fault.Early code span) = fatal_of (Wrong (record { code = code; span = span }))
fault_fatal fault.NoMemory = None
