use Rattle.std.proofs.Common.{◌∙◌, List, ℕ, subst, sym}
use Rattle.es_grammar.specs.Reading.{ReadsPart}
use Rattle.es_parser.specs.Turns.{outcome_of}
use Rattle.es_parser.proofs.ReadingLemmas.{other_token, plain_read}
use Rattle.es_parser.proofs.reached.read_plain.Goals as goal

pub returns-in_default-clause-reads : goal.returns-in_default-clause-reads
returns-in_default-clause-reads g c =
    plain_read c.args.reader.now c.args.spot c.args.part c.args.draft.now c.args.draft.now (outcome_of c.in_ok-reached.reached c.plain.new.draft)
    (outcome_of c.in_ok-reached.reached c.plain.new.draft) (cc) c.in_ok-reached.ensures.outcome (cc)

pub returns-in_default-terminal_at-clause-reads : goal.returns-in_default-terminal_at-clause-reads
returns-in_default-terminal_at-clause-reads g c =
    other_token c.args.reader.now c.args.spot c.args.draft.now c.args.part c.in-Some.terminal c.in-Some.ensures
    (sym c.terminal_at.ensures.token ∙ c.in_default-terminal_at.is)

pub returns-clause-reads : goal.returns-clause-reads
returns-clause-reads g c =
    subst (λ (text : List ℕ). ReadsPart text c.args.part c.args.spot c.args.draft.now (outcome_of c.in_ok-reached-2.reached c.of_token.new.draft)) c.terminal_at.ensures.same
    (plain_read c.terminal_at.new.reader c.args.spot c.args.part c.args.draft.now c.args.draft.now (outcome_of c.in_ok-reached-2.reached c.of_token.new.draft)
    (outcome_of c.in_ok-reached-2.reached c.of_token.new.draft) (cc) c.in_ok-reached-2.ensures.outcome (cc))
