use Rattle.std.proofs.Common.{◌∙◌, sym, [], ◌∷◌, ◌++◌, arith}
use Rattle.std.proofs.lemmas.List.FromFn.{map-range_with_len_more}
use Rattle.es_fork.specs.Changes.{joins_reachable}
use Rattle.es_fork.proofs.lists.joined_flags.Goals as goal

pub joins_reachable-requires : goal.joins_reachable-requires
joins_reachable-requires c = record {
  within = c.requires.within;
  index = λ part held. let width = c.requires.width part held in let lt = c.loop-index-test.true in omega arith;
}

pub loop-index-preserved : goal.loop-index-preserved
loop-index-preserved c =
    let more = map-range_with_len_more (joins_reachable c.args.segments.now c.args.parts.now) 0 c.loop-index.index c.loop-index.index (omega arith) in
    c.in_ok-push.ensures.items ∙ (λ k. c.loop-index.invariant k ++ c.joins_reachable.ensures k ∷ []) ∙ sym more
