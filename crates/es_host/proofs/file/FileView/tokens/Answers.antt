use Rattle.std.proofs.Common.{List, length, sym, subst, IsUtf8}
use Rattle.std.specs.Prelude.{IsTrue}
use Rattle.std.specs.List.{All}
use Rattle.std.specs.List.Sorted.{IsNonDecreasingBy}
use Rattle.es_text.specs.declared.token.Token.{Token}
use Rattle.es_text.specs.Spans.{is_part}
use Rattle.es_text.specs.Texts.{text_bytes}
use Rattle.es_grammar.specs.Trees as trees
use Rattle.es_grammar.specs.Within.{AreBetween}
use Rattle.es_host.proofs.TokensLemmas.{reads-program, starts-rise, tokens-inside}
use Rattle.es_host.proofs.file.FileView.tokens.Goals as goal

pub returns-clause-order : goal.returns-clause-order
returns-clause-order c =
    let bytes = text_bytes c.args.self.now.source.now in
    let parsed = c.requires.whole.parsed in
    let source = c.args.self.now.config.now.source_type in
    let tokens : List Token = c.args.self.now.parsed.now.tokens in
    let utf8 : IsUtf8 bytes = subst IsUtf8 c.text-text.ensures.bytes c.text-text.utf8 in
    let between : AreBetween bytes 0 tokens (length bytes) =
    (c.nodes_lie.ensures.answers bytes source (trees.Whole parsed.tree tokens) utf8 (reads-program bytes source parsed.tree tokens parsed.parses)).1 in
    subst (IsNonDecreasingBy (λ (token : Token). token.span.start)) (sym c.as_slice.ensures) (starts-rise bytes 0 tokens (length bytes) between)

pub returns-clause-inside : goal.returns-clause-inside
returns-clause-inside c =
    let bytes = text_bytes c.args.self.now.source.now in
    let parsed = c.requires.whole.parsed in
    let source = c.args.self.now.config.now.source_type in
    let tokens : List Token = c.args.self.now.parsed.now.tokens in
    let utf8 : IsUtf8 bytes = subst IsUtf8 c.text-text.ensures.bytes c.text-text.utf8 in
    let between : AreBetween bytes 0 tokens (length bytes) =
    (c.nodes_lie.ensures.answers bytes source (trees.Whole parsed.tree tokens) utf8 (reads-program bytes source parsed.tree tokens parsed.parses)).1 in
    subst (All (λ (token : Token). IsTrue (is_part bytes token.span))) (sym c.as_slice.ensures) (tokens-inside c.parts_lie.ensures bytes 0 tokens (length bytes) between)
