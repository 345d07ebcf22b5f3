use Rattle.std.proofs.Common.{◌≡◌, ◌++◌, true, not, reverse, vec_len}
use Rattle.std.specs.List.{filter}
use Rattle.es_text.specs.Texts.{text_bytes}
use Rattle.es_messages.specs.Suppression.{is_suppressed, reports_fit}
use Rattle.es_messages.proofs.suppression.split.Given as goal

abbrev pub invariant-loop-report : goal.invariant-loop-report
invariant-loop-report l =
    let passes = is_suppressed l.source.characters l.marks in
    record {
      fit : reports_fit (text_bytes l.source) (reverse l.reports.items) ≡ true;
      kept : l.kept.items ++ filter (λ report. not (passes report)) (reverse l.reports.items) ≡ filter (λ report. not (passes report)) l.fn.reports.items;
      dropped : l.dropped.items ++ filter passes (reverse l.reports.items) ≡ filter passes l.fn.reports.items;
    }

abbrev pub decreases-loop-report : goal.decreases-loop-report
decreases-loop-report l = vec_len l.reports
