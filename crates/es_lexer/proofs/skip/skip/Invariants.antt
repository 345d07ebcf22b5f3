use Rattle.std.proofs.Common.{◌≡◌, ◌-◌, length}
use Rattle.std.specs.Prelude.{◌||◌}
use Rattle.es_text.specs.Skipped.{behind_all, hold_line}
use Rattle.es_lexer.specs.Cursors.{GoesOn, rest_of}
use Rattle.es_lexer.specs.Pieces.{skipped_from}
use Rattle.es_lexer.proofs.skip.skip.Given as goal

abbrev pub invariant-loop-piece : goal.invariant-loop-piece
invariant-loop-piece l = record {
  moves : GoesOn l.start l.end;
  line : (l.line || hold_line (skipped_from l.end)) ≡ hold_line (skipped_from l.start);
  behind : behind_all (rest_of l.end) (skipped_from l.end) ≡ behind_all (rest_of l.start) (skipped_from l.start);
}

abbrev pub decreases-loop-piece : goal.decreases-loop-piece
decreases-loop-piece l = length l.end.text.now - l.end.offset
