use Rattle.std.proofs.Common.{◌∙◌, ap}
use Rattle.es_lexer.proofs.PieceLemmas.{with_comment, with_blank, with_no_more}
use Rattle.es_lexer.proofs.comment.gather.Goals as goal
use Rattle.es_lexer.proofs.comment.gather.Goals.{in-Comment+in_ok-push, in_default-kind}

pub loop-piece-preserved : goal.loop-piece-preserved
loop-piece-preserved c = record {
  here = c.in-Some.ensures.moves.text ∙ c.loop-piece.invariant.here;
  items = elim c.match-piece.branch [
    | in-Comment+in_ok-push w ↦
        with_comment c.args.text.now c.loop-piece.end c.in-Some.piece w.in-Comment.block c.loop-piece.comments.items c.match-piece.comments.items _
        c.utf8.text c.loop-piece.invariant.here c.in-Some.ensures.moves c.in-Some.ensures.value w.in-Comment.is
        (ap (λ comments. comments.items) w.comments-is ∙ w.in_ok-push.ensures.items) c.loop-piece.invariant.items
    | in_default-kind w ↦
        with_blank c.args.text.now c.loop-piece.end c.in-Some.piece c.loop-piece.comments.items c.match-piece.comments.items _
        c.loop-piece.invariant.here c.in-Some.ensures.moves c.in-Some.ensures.value w.in_default-kind.is
        (ap (λ comments. comments.items) w.comments-is) c.loop-piece.invariant.items
  ];
}

pub returns : goal.returns
returns c = with_no_more c.args.text.now c.loop-piece.end c.loop-piece.comments.items _ c.loop-piece.invariant.here c.in_default.ensures.value c.loop-piece.invariant.items
