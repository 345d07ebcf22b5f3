use Rattle.std.proofs.Common.{◌∙◌, ◌++◌, ◌∷◌, [], List, ℕ, ap, arith}
use Rattle.std.specs.Str.{chars}
use Rattle.std.proofs.lemmas.Str.{IsCharBoundary-start}
use Rattle.es_text.specs.LineStarts.{later_starts, line_starts}
use Rattle.es_text.proofs.LineStartLemmas.{starts-all, step-boundary, step-ends, step-runs}
use Rattle.es_text.proofs.source.line_starts.Goals as goal

pub loop-at-init : goal.loop-at-init
loop-at-init c = record {
  boundary = IsCharBoundary-start c.args.text.now c.utf8.text;
  starts = ap (λ (items : List ℕ). items ++ later_starts 0 (chars c.args.text.now)) (c.in_ok-push.ensures.items ∙ ap (λ (items : List ℕ). items ++ 0 ∷ []) c.new-starts.ensures.items);
}

pub loop-at-preserved-in-Continue-branch-2 : goal.loop-at-preserved-in-Continue-branch-2
loop-at-preserved-in-Continue-branch-2 c =
    let text = c.args.text.now in
    let step = c.character_at-end in
    let before = c.loop-at.invariant in
    record {
      boundary = step-boundary text c.loop-at.at step.result.0 step.result.1 c.utf8.text before.boundary step.ensures;
      starts = step-ends c.loop-at.starts.items _ text (line_starts (chars text)) c.loop-at.at step.result.0 step.result.1 c.utf8.text before.boundary step.ensures
          before.starts c.in_ok-push-2.ensures.items c.if-ends_line.true;
    }

pub loop-at-preserved : goal.loop-at-preserved
loop-at-preserved c =
    let text = c.args.text.now in
    let step = c.character_at-end in
    let before = c.loop-at.invariant in
    record {
      boundary = step-boundary text c.loop-at.at step.result.0 step.result.1 c.utf8.text before.boundary step.ensures;
      starts = step-runs c.loop-at.starts.items text (line_starts (chars text)) c.loop-at.at step.result.0 step.result.1 c.utf8.text before.boundary step.ensures
          before.starts c.if-ends_line.false;
    }

pub returns : goal.returns
returns c =
    starts-all c.loop-at.starts.items c.args.text.now (line_starts (chars c.args.text.now)) c.loop-at.at (omega (arith, c.loop-at-test.false)) c.loop-at.invariant.starts
