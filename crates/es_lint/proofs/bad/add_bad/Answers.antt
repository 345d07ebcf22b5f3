use Rattle.std.proofs.Common.{true, ◌&&◌, ap}
use Rattle.std.proofs.lemmas.List.Sums.{AllPass-from_list_all}
use Rattle.es_text.specs.Spans.{is_part}
use Rattle.es_text.specs.Texts.{text_bytes}
use Rattle.es_lint.proofs.bad.add_bad.Goals as goal

pub add_bad_of-requires : goal.add_bad_of-requires
add_bad_of-requires c =
    ap (λ b. b && true)
    (AllPass-from_list_all (λ comment. is_part (text_bytes c.args.source.now) comment.span) c.args.comments.now c.requires c.loop-comment.comment-index _ c.loop-comment-test.true)
