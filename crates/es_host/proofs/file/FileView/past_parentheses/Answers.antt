use Rattle.std.proofs.Common.{rules, ◌∙◌, Bool, ap, sym}
use Rattle.std.specs.Prelude.{codes, find, not}
use Rattle.es_text.specs.declared.token.Token.{Token}
use Rattle.es_host.specs.Files.{file_in}
use Rattle.es_host.specs.TokensAround.{is_token}
use Rattle.es_host.proofs.TokensLemmas.{first-here, none-more}
use Rattle.es_host.proofs.file.FileView.past_parentheses.Goals as goal

pub returns-then-not-is_some_token-clause-token : goal.returns-then-not-is_some_token-clause-token
returns-then-not-is_some_token-clause-token c =
    let test : Token → Bool = λ token. not (is_token (file_in c.args.self.now) (codes ")") token) in
    sym (first-here test c.tokens_from-token-items.result.now c.loop-token.token-index _ (search rules) c.loop-token.invariant
    (ap not (sym c.is_some_token.ensures ∙ c.if-not-is_some_token.true)))
    ∙ ap (find test) c.tokens_from-token-items.ensures.tokens

pub loop-token-preserved : goal.loop-token-preserved
loop-token-preserved c =
    let test : Token → Bool = λ token. not (is_token (file_in c.args.self.now) (codes ")") token) in
    none-more test c.tokens_from-token-items.result.now c.loop-token.token-index _ (search rules) c.loop-token.invariant
    (ap not (sym c.is_some_token.ensures ∙ c.if-not-is_some_token.false))
