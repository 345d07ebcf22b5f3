use Rattle.std.proofs.Common.{sym, subst}
use Rattle.std.specs.Prelude.{IsTrue}
use Rattle.std.specs.List.{All}
use Rattle.std.proofs.lemmas.List.Elements.{All-filter}
use Rattle.es_text.specs.declared.token.Token.{Token}
use Rattle.es_text.specs.Spans.{is_part}
use Rattle.es_text.specs.Texts.{text_bytes}
use Rattle.es_host.specs.TokensAround.{begins_in}
use Rattle.es_host.proofs.file.FileView.tokens_in.Goals as goal

pub returns-clause-inside : goal.returns-clause-inside
returns-clause-inside c =
    let inside = λ (token : Token). IsTrue (is_part (text_bytes c.args.self.now.source.now) token.span) in
    subst (All inside) (sym c.begun_in.ensures)
    (All-filter (λ (token : Token). begins_in c.args.span token.span) inside c.tokens-tokens.result.now c.tokens-tokens.ensures.inside)
