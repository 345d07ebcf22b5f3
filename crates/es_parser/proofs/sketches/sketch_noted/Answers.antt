use Rattle.std.proofs.Common.{◌∙◌}
use Rattle.es_parser.proofs.SketchesLemmas.{check_failed, check_held, flag_sketched, hole_sketched, kind_sketched}
use Rattle.es_parser.proofs.sketches.sketch_noted.Goals as goal

pub returns-then-branch-clause-reads : goal.returns-then-branch-clause-reads
returns-then-branch-clause-reads g c = λ before faint.
    check_held c.args.reader.now c.args.spot c.args.limit c.args.target c.in-Check.condition c.args.part c.in-Check.is before faint
    (c.in_ok-holds_behind-in-Check.ensures.so c.args.limit before faint ∙ c.if-branch.true)

pub returns-else-branch-clause-reads : goal.returns-else-branch-clause-reads
returns-else-branch-clause-reads g c = λ before faint.
    check_failed c.args.reader.now c.args.spot c.args.limit c.in-Check.condition c.args.part c.in-Check.is before
    (c.in_ok-holds_behind-in-Check.ensures.so c.args.limit before faint ∙ c.if-branch.false)

pub returns-in-Hole-clause-reads : goal.returns-in-Hole-clause-reads
returns-in-Hole-clause-reads g c = hole_sketched c.args.reader.now c.args.spot c.args.limit c.args.target c.args.part c.in-Hole.is c.requires.some

pub returns-in-Flag-clause-reads : goal.returns-in-Flag-clause-reads
returns-in-Flag-clause-reads g c = flag_sketched c.args.reader.now c.args.spot c.args.limit c.args.target c.in-Flag.field-0 c.args.part c.in-Flag.is

pub returns-in-Kind-clause-reads : goal.returns-in-Kind-clause-reads
returns-in-Kind-clause-reads g c = kind_sketched c.args.reader.now c.args.spot c.args.limit c.args.target c.in-Kind.field-0 c.args.part c.in-Kind.is
