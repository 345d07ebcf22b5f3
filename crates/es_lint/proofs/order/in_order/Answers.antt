use Rattle.std.proofs.Common.{rules}
use Rattle.std.specs.Cmp.{IsStrictWeakOrder}
use Rattle.std.specs.Ordering.{is_lt}
use Rattle.std.specs.Str.{encode_utf8_all}
use Rattle.std.proofs.lemmas.Cmp.{lists_total, nat_cmp_total, on_total, then_total}
use Rattle.std.proofs.lemmas.List.MinMax.{ranks_by}
use Rattle.std.proofs.lemmas.List.Sorted.{answers_always}
use Rattle.es_text.specs.declared.finding.Report.{Report}
use Rattle.es_settings.proofs.SortingLemmas.{sorted_in_order}
use Rattle.es_lint.specs.Order.{rank_of, report_cmp}
use Rattle.es_lint.proofs.order.in_order.Goals as goal

reports_order : IsStrictWeakOrder (λ (x y : Report). is_lt (report_cmp x y))
reports_order =
    ranks_by
    (then_total (on_total (λ report. report.span.start) nat_cmp_total)
    (then_total (on_total rank_of nat_cmp_total)
    (then_total (on_total (λ report. report.span.end) nat_cmp_total) (on_total (λ report. encode_utf8_all report.text) (lists_total nat_cmp_total)))))
    (λ report. report)

pub returns : goal.returns
returns c =
    sorted_in_order (λ x y. is_lt (report_cmp x y)) reports_order c.args.reports.items c.sort_by.new.self.items
    (c.in_ok-sort_by.ensures.sorted _ reports_order (answers_always _ _ _ (λ f a r g h. search rules)))
    (c.sort_by.ensures.stable _ reports_order (answers_always _ _ _ (λ f a r g h. search rules)))
