use Rattle.std.proofs.Common.{◌∙◌}
use Rattle.es_globs.proofs.SpellingLemmas.{joined_more}
use Rattle.es_globs.proofs.spelling.joined.Goals as goal

pub loop-first-preserved : goal.loop-first-preserved
loop-first-preserved c =
    joined_more c.loop-first.patterns c.args.firsts.now c.args.others.now c.loop-first.first-index c.as_slice.result.now c.first-item.result _ c.loop-first-test.true (c.as_slice.ensures ∙ c.first-item.is) c.in_ok-add_joined.ensures
    ∙ c.loop-first.invariant
