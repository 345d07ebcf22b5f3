use Rattle.std.proofs.Common.{◌≡◌, ◌-◌, length, false}
use Rattle.es_text.specs.Skipped.{after_block}
use Rattle.es_lexer.specs.Cursors.{GoesOn, rest_of}
use Rattle.es_lexer.proofs.skip.block_comment.Given as goal

abbrev pub invariant-loop-c : goal.invariant-loop-c
invariant-loop-c l = record {
  moves : GoesOn l.start l.at;
  value : after_block l.line (rest_of l.at) ≡ after_block false (rest_of l.start);
}

abbrev pub decreases-loop-c : goal.decreases-loop-c
decreases-loop-c l = length l.at.text.now - l.at.offset
