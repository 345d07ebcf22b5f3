use Rattle.std.proofs.Common.{◌≡◌, ◌-◌, length}
use Rattle.es_text.specs.Rest.{drop_while}
use Rattle.es_lexer.specs.Classes.{is_in}
use Rattle.es_lexer.specs.Cursors.{GoesOn, rest_of}
use Rattle.es_lexer.proofs.cursor.Cursor.past.Given as goal

abbrev pub invariant-loop-next : goal.invariant-loop-next
invariant-loop-next l = record {
  moves : GoesOn l.self l.end;
  value : drop_while (is_in l.class) (rest_of l.end) ≡ drop_while (is_in l.class) (rest_of l.self);
}

abbrev pub decreases-loop-next : goal.decreases-loop-next
decreases-loop-next l = length l.end.text.now - l.end.offset
