use Rattle.std.proofs.Common.{◌∙◌, arith}
use Rattle.es_lexer.proofs.ItemLemmas.{many_more, many_none}
use Rattle.es_lexer.proofs.item.past_many.Goals as goal

pub loop-end-preserved : goal.loop-end-preserved
loop-end-preserved g c =
    let moves = c.in-Some.ensures.moves in
    let before = c.loop-end.invariant.moves in
    record {
      moves = record { text = moves.text ∙ before.text; order = omega arith };
      value = many_more (g.I.Item.behind c.args.item.now) c.requires _ _ _ c.in-Some.ensures.value c.loop-end.invariant.value;
    }

pub returns-clause-value : goal.returns-clause-value
returns-clause-value g c = many_none (g.I.Item.behind c.args.item.now) _ _ c.in_default.ensures.value c.loop-end.invariant.value
