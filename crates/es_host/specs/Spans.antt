-- Whether the spans of a tree, and those of what is said of it, lie in its text, which is given in UTF-8.
use Rattle.std.specs.Prelude.{ℕ, Bool, true, Option, None, Some, ◌&&◌, List}
use Rattle.std.specs.List.{list_all}
use Rattle.es_text.specs.declared.finding.Finding.{Finding}
use Rattle.es_text.specs.declared.finding.Fix.{Fix}
use Rattle.es_text.specs.declared.finding.Report.{Report}
use Rattle.es_text.specs.Spans.{is_part}
use Rattle.es_tree.specs.Rows.{Row}

-- each node's span lies in the text
abbrev pub are_parts : List ℕ → List Row → Bool
are_parts bytes rows = list_all (λ row. is_part bytes row.span) rows

-- the span of the fix, if there is one, lies in the text
abbrev pub fix_fits : List ℕ → Option Fix → Bool
fix_fits bytes None = true
fix_fits bytes (Some fix) = is_part bytes fix.span

-- the finding's span lies in the text, and that of its fix
abbrev pub finding_fits : List ℕ → Finding → Bool
finding_fits bytes finding = fix_fits bytes finding.fix && is_part bytes finding.span

abbrev pub findings_fit : List ℕ → List Finding → Bool
findings_fit bytes findings = list_all (finding_fits bytes) findings

-- each report's span lies in the text
abbrev pub reports_fit : List ℕ → List Report → Bool
reports_fit bytes reports = list_all (λ report. is_part bytes report.span) reports

-- each report's fix lies in the text
abbrev pub fixes_fit : List ℕ → List Report → Bool
fixes_fit bytes reports = list_all (λ report. fix_fits bytes report.fix) reports
