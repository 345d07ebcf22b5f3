use Rattle.std.proofs.lemmas.List.Sums.{AllPass-from_list_all}
use Rattle.es_text.specs.Spans.{is_part}
use Rattle.es_text.specs.Texts.{text_bytes}
use Rattle.es_messages.proofs.reading.directives.Goals as goal

pub read_comment-requires : goal.read_comment-requires
read_comment-requires c =
    AllPass-from_list_all (λ comment. is_part (text_bytes c.args.source.now) comment.span) c.args.comments.now c.requires c.loop-comment.comment-index _ c.loop-comment-test.true
