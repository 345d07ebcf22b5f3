use Rattle.std.proofs.Common.{◌≡◌, ◌-◌, ◌++◌, length}
use Rattle.es_lexer.specs.Pieces.{comments_from}
use Rattle.es_lexer.proofs.comment.gather.Given as goal

abbrev pub invariant-loop-piece : goal.invariant-loop-piece
invariant-loop-piece l = record {
  here : l.end.text.now ≡ l.text;
  items : l.comments.items ++ comments_from l.text l.end.offset ≡ l.fn.comments.items ++ comments_from l.text l.offset;
}

abbrev pub decreases-loop-piece : goal.decreases-loop-piece
decreases-loop-piece l = length l.end.text.now - l.end.offset
