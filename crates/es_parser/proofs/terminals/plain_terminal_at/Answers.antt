use Rattle.std.proofs.Common.{sym, ap, ◌∙◌}
use Rattle.es_text.specs.Tokens.{token}
use Rattle.es_parser.proofs.SetsLemmas.{is_there}
use Rattle.es_parser.proofs.terminals.plain_terminal_at.Goals as goal

pub returns-then-has-clause-token : goal.returns-then-has-clause-token
returns-then-has-clause-token g c =
    let text = c.args.reader.now in
    c.token.ensures.token ∙ ap (λ reader. token reader c.args.at c.mode_of.result) c.terminals_at-set.ensures.same
    ∙ ap (λ mode. token text c.args.at mode) c.mode_of.ensures
    ∙ sym (is_there text c.args.context c.args.terminal c.args.at c.terminals_at-set.result c.requires.plain c.terminals_at-set.ensures.set (sym c.has.ensures ∙ c.if-has.true))
