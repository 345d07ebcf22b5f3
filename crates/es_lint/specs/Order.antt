-- The order in which the reports on a text stand: by line and column, which is by offset; those without a rule
-- first, and then by the rule's place in its kit; by end; by text.
use Rattle.std.specs.Prelude.{ℕ, suc, List, Option, None, Some}
use Rattle.std.specs.Cmp.Lexicographic.{slice_cmp}
use Rattle.std.specs.declared.cmp.Ordering.{Ordering}
use Rattle.std.specs.Ordering.{is_lt, nat_cmp, on, then_cmp}
use Rattle.std.specs.Str.{encode_utf8_all}
use Rattle.es_text.specs.declared.finding.Report.{Report}
use Rattle.es_settings.specs.Sorting.{in_order}

abbrev pub rank_by : Option (List ℕ) → ℕ → ℕ
rank_by None order = 0
rank_by (Some rule) order = suc order

abbrev pub rank_of : Report → ℕ
rank_of report = rank_by report.rule report.order

abbrev pub report_cmp : Report → Report → Ordering
report_cmp =
    then_cmp (on (λ report. report.span.start) nat_cmp)
    (then_cmp (on rank_of nat_cmp)
    (then_cmp (on (λ report. report.span.end) nat_cmp) (on (λ report. encode_utf8_all report.text) (slice_cmp nat_cmp))))

-- those that tie keep the order in which they were given
abbrev pub ordered : List Report → List Report
ordered = in_order (λ x y. is_lt (report_cmp x y))
