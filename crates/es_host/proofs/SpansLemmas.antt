-- Whether what is said of a file lies in its text.
use Rattle.std.proofs.Common.{◌≡◌, ◌∙◌, ℕ, zero, suc, Bool, true, List, [], ◌∷◌, ◌++◌, Some, map, refl, ap, sym}
use Rattle.std.specs.Ordering.{is_lt}
use Rattle.std.proofs.lemmas.Bool.{and_from, and_parts}
use Rattle.std.specs.List.{list_all}
use Rattle.std.proofs.lemmas.List.Folds.{list_all-append, list_all-map}
use Rattle.es_text.specs.declared.finding.Finding.{Finding}
use Rattle.es_text.specs.declared.finding.Report.{Report}
use Rattle.es_text.specs.declared.finding.Severity.{Severity}
use Rattle.es_text.specs.declared.span.Span.{Span}
use Rattle.es_text.specs.Spans.{is_part}
use Rattle.es_tree.specs.Rows.{Row, span_of}
use Rattle.es_settings.proofs.SortingLemmas.{passes_in_order}
use Rattle.es_host.specs.Order.{finding_cmp, ordered}
use Rattle.es_host.specs.Reports.{report_of}
use Rattle.es_host.specs.Spans.{are_parts, fix_fits, finding_fits, findings_fit, reports_fit, fixes_fit}

-- where findings lie in the text, their fixes do, and their own spans
parts_fit : (bytes : List ℕ) (findings : List Finding) → list_all (finding_fits bytes) findings ≡ true
    → (list_all (λ finding. fix_fits bytes finding.fix) findings ≡ true) × (list_all (λ finding. is_part bytes finding.span) findings ≡ true)
parts_fit bytes [] fit = (refl, refl)
parts_fit bytes (finding ∷ rest) fit =
    let both = and_parts (finding_fits bytes finding) (list_all (finding_fits bytes) rest) fit in
    let own = and_parts (fix_fits bytes finding.fix) (is_part bytes finding.span) both.0 in
    let others = parts_fit bytes rest both.1 in (
      and_from (fix_fits bytes finding.fix) (list_all (λ f. fix_fits bytes f.fix) rest) own.0 others.0,
      and_from (is_part bytes finding.span) (list_all (λ f. is_part bytes f.span) rest) own.1 others.1,
    )

module _ (bytes : List ℕ) (reports : List Report) (id : List ℕ) (place : ℕ) (severity : Severity) (findings : List Finding) (found : findings_fit bytes findings ≡ true) where
  abbrev made : List Report
  made = map (report_of id place severity) findings

  -- reports that lie in the text, and behind them those of findings that do
  pub reports-fit-more : reports_fit bytes reports ≡ true → reports_fit bytes (reports ++ made) ≡ true
  reports-fit-more before =
      let fits : Report → Bool = λ report. is_part bytes report.span in
      list_all-append fits reports made
      ∙ and_from (reports_fit bytes reports) (reports_fit bytes made) before (list_all-map fits (report_of id place severity) findings ∙ (parts_fit bytes findings found).1)

  -- and their fixes
  pub fixes-fit-more : fixes_fit bytes reports ≡ true → fixes_fit bytes (reports ++ made) ≡ true
  fixes-fit-more before =
      let fits : Report → Bool = λ report. fix_fits bytes report.fix in
      list_all-append fits reports made
      ∙ and_from (fixes_fit bytes reports) (fixes_fit bytes made) before (list_all-map fits (report_of id place severity) findings ∙ (parts_fit bytes findings found).0)

-- the span of a node lies in the text where those of all nodes do
pub part-at : (bytes : List ℕ) (rows : List Row) (node : ℕ) (span : Span) → are_parts bytes rows ≡ true → span_of rows node ≡ Some span → is_part bytes span ≡ true
part-at bytes [] node span fit is = cc
part-at bytes (row ∷ rest) zero span fit is =
    let same : row.span ≡ span = cc in
    ap (is_part bytes) (sym same) ∙ (and_parts (is_part bytes row.span) (are_parts bytes rest) fit).0
part-at bytes (row ∷ rest) (suc node) span fit is = part-at bytes rest node span (and_parts (is_part bytes row.span) (are_parts bytes rest) fit).1 is

-- findings that lie in the text do so in order
pub ordered-fit : (bytes : List ℕ) (findings : List Finding) → findings_fit bytes findings ≡ true → findings_fit bytes (ordered findings) ≡ true
ordered-fit bytes findings fit = passes_in_order (λ x y. is_lt (finding_cmp x y)) (finding_fits bytes) findings ∙ fit
