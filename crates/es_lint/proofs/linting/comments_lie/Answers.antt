use Rattle.std.proofs.Common.{subst, IsUtf8}
use Rattle.es_host.specs.Files.{file_in}
use Rattle.es_host.specs.TokensAround.{AreInside}
use Rattle.es_lint.proofs.CommentsLemmas.{comments_within}
use Rattle.es_lint.proofs.linting.comments_lie.Goals as goal

pub returns : goal.returns
returns c =
    comments_within (file_in c.args.file.now) c.requires c.parts_lie.ensures c.tokens_lie.ensures.comments
    (subst IsUtf8 c.text-text.ensures.bytes c.text-text.utf8) c.text-text.ensures.start
    (subst (AreInside (file_in c.args.file.now)) c.tokens_from-tokens.ensures.tokens c.tokens_from-tokens.ensures.inside)
