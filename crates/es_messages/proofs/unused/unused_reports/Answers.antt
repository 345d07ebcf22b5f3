use Rattle.std.proofs.Common.{◌≡◌, ◌∙◌, ℕ, ◌+◌, List, ◌∷◌, ◌++◌, append_assoc, drop, ap, sym}
use Rattle.std.proofs.lemmas.List.{drop_more}
use Rattle.es_text.specs.declared.finding.Report.{Report}
use Rattle.es_messages.specs.declared.directive.Mark.{Mark}
use Rattle.es_messages.specs.Suppression.{unused_in, unused_of}
use Rattle.es_messages.proofs.UnusedLemmas.{told_same}
use Rattle.es_messages.proofs.unused.unused_reports.Goals as goal

pub loop-i-preserved : goal.loop-i-preserved
loop-i-preserved c =
    let characters : List ℕ = c.args.source.now.characters in
    let i : ℕ = c.loop-i.i in
    let mark : Mark = c.index-marks-i.result in
    let before : List Report = c.loop-i.unused.items in
    let later : List Mark = drop (i + 1) c.args.marks.now in
    let rest : List Report = unused_in characters c.args.reports.now c.in-Some.severity later in
    let told = told_same characters c.args.marks.now i mark c.in-Some.severity c.as_slice.result.now c.args.reports.now
    c.loop-i-test.true c.index-marks-i.is c.loop-i.invariant.reports c.loop-i.invariant.stand in
    record {
      reports = c.loop-i.invariant.reports;
      stand = c.loop-i.invariant.stand;
      told = ap (λ xs. xs ++ rest) (c.in_ok-add_unused.ensures ∙ ap (λ xs. before ++ xs) told)
          ∙ append_assoc before (unused_of characters c.args.reports.now c.in-Some.severity mark later) rest
          ∙ ap (λ marks. before ++ unused_in characters c.args.reports.now c.in-Some.severity marks)
          (ap (λ one. one ∷ later) c.index-marks-i.is ∙ sym (drop_more c.args.marks.now i mark c.loop-i-test.true))
          ∙ c.loop-i.invariant.told;
    }
