use Rattle.std.proofs.Common.{◌≡◌, ◌-◌, length}
use Rattle.es_text.specs.Rest.{many}
use Rattle.es_lexer.specs.Cursors.{GoesOn, rest_of}
use Rattle.es_lexer.proofs.item.past_many.Given as goal

abbrev pub invariant-loop-end : goal.invariant-loop-end
invariant-loop-end g l = record {
  moves : GoesOn l.start l.end;
  value : many (g.I.Item.behind l.item) (rest_of l.end) ≡ many (g.I.Item.behind l.item) (rest_of l.start);
}

abbrev pub decreases-loop-end : goal.decreases-loop-end
decreases-loop-end g l = length l.end.text.now - l.end.offset
