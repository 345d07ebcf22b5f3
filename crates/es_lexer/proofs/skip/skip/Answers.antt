use Rattle.std.proofs.Common.{◌∙◌, sym, refl, arith}
use Rattle.es_lexer.specs.Cursors.{rest_of}
use Rattle.es_lexer.specs.Pieces.{piece_of}
use Rattle.es_lexer.proofs.SkippedLemmas.{turn_line, turn_behind, stop_line, stop_behind}
use Rattle.es_lexer.proofs.skip.skip.Goals as goal

pub loop-piece-preserved : goal.loop-piece-preserved
loop-piece-preserved c =
    let moves = c.in-Some.ensures.moves in
    let before = c.loop-piece.invariant.moves in
    let p = piece_of c.in-Some.piece in
    record {
      moves = record { text = moves.text ∙ before.text; order = omega arith };
      line = turn_line c.loop-piece.end.offset c.in-Some.piece.end.offset (rest_of c.loop-piece.end) (rest_of c.in-Some.piece.end) p c.loop-piece.line _ _
          moves.order refl c.in-Some.ensures.value refl c.loop-piece.invariant.line;
      behind = turn_behind c.loop-piece.end.offset c.in-Some.piece.end.offset (rest_of c.loop-piece.end) (rest_of c.in-Some.piece.end) _ p
          moves.order refl c.in-Some.ensures.value c.loop-piece.invariant.behind;
    }

pub returns-clause-line : goal.returns-clause-line
returns-clause-line c = sym (stop_line _ (rest_of c.loop-piece.end) c.loop-piece.line c.in_default.ensures.value) ∙ c.loop-piece.invariant.line

pub returns-clause-behind : goal.returns-clause-behind
returns-clause-behind c = sym (stop_behind _ (rest_of c.loop-piece.end) c.in_default.ensures.value) ∙ c.loop-piece.invariant.behind
