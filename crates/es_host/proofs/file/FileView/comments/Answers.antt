use Rattle.std.proofs.Common.{◌∙◌, List, sym, subst, refl, IsUtf8}
use Rattle.std.specs.List.Sorted.{IsNonDecreasingBy}
use Rattle.es_text.specs.declared.token.Comment.{Comment}
use Rattle.es_text.specs.declared.token.Token.{Token}
use Rattle.es_text.specs.Texts.{text_bytes}
use Rattle.es_text.specs.Tokens.{comments_between}
use Rattle.es_host.proofs.CommentsLemmas.{comments-rise, in-order}
use Rattle.es_host.proofs.ReadTokensLemmas.{items-read}
use Rattle.es_host.proofs.TokensLemmas.{reads-program}
use Rattle.es_host.proofs.file.FileView.comments.Goals as goal

pub returns-clause-order : goal.returns-clause-order
returns-clause-order c =
    let bytes = text_bytes c.args.self.now.source.now in
    let parsed = c.requires.whole.parsed in
    let source = c.args.self.now.config.now.source_type in
    let tokens : List Token = c.args.self.now.parsed.now.tokens in
    let utf8 : IsUtf8 bytes = subst IsUtf8 c.text-text.ensures.bytes c.text-text.utf8 in
    let read = items-read bytes refl (reads-program bytes source parsed.tree tokens parsed.parses) in
    let rise = comments-rise bytes utf8 c.tokens_lie.ensures.tokens 0 tokens read.0 (c.text-text.ensures.start) read.1 in
    subst (IsNonDecreasingBy (λ (comment : Comment). comment.span.start)) (sym (c.as_slice.ensures ∙ parsed.comments))
    (in-order 0 read.0 (comments_between bytes 0 tokens) rise)
