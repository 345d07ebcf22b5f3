use Rattle.std.proofs.Common.{◌≡◌, ◌∙◌, ◌≤◌, sym, subst, arith}
use Rattle.std.specs.Str.{IsCharBoundary}
use Rattle.es_grammar.specs.Reading.{ReadsPart}
use Rattle.std.specs.Prelude.{None}
use Rattle.es_parser.specs.Sketches.{ReachesFrom, Sketched}
use Rattle.es_parser.proofs.SketchesLemmas.{no_token, reached_ends, token_sketched}
use Rattle.es_parser.proofs.sketches.sketch_plain.Goals as goal

pub returns-in_default-terminal_at-clause-reads : goal.returns-in_default-terminal_at-clause-reads
returns-in_default-terminal_at-clause-reads g c = λ before faint.
    no_token c.args.reader.now c.args.spot c.args.part c.in-Some.terminal c.args.limit c.in-Some.ensures
    (sym c.terminal_at.ensures.token ∙ c.in_default-terminal_at.is) before

pub returns-clause-reads : goal.returns-clause-reads
returns-clause-reads g c = λ before faint.
    subst (λ r. Sketched c.args.limit None (ReadsPart c.args.reader.now c.args.part c.args.spot before) r) (sym c.reached_by.ensures)
    (token_sketched c.heights.ensures.bare c.heights.ensures.attribute c.heights.ensures.within c.args.reader.now c.args.spot c.args.part c.in-Some.terminal c.in-Some-terminal_at.found c.args.limit c.args.target
    (omega arith) c.in-Some.ensures (sym c.terminal_at.ensures.token ∙ c.in-Some-terminal_at.is) before faint)
