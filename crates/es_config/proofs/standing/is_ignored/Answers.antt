use Rattle.std.specs.Str.{chars}
use Rattle.es_config.specs.Entries.{layers_of}
use Rattle.es_config.specs.Standing.{is_ignored}
use Rattle.es_config.proofs.StandingLemmas.{one_more_turn}
use Rattle.es_config.proofs.standing.is_ignored.Goals as goal

pub loop-entry-preserved : goal.loop-entry-preserved
loop-entry-preserved c =
    one_more_turn (chars c.args.name.now) c.loop-entry.said c.last_says-said.result
    (is_ignored (chars c.args.name.now) (layers_of c.args.entries.now)) c.args.entries.now c.loop-entry.entry-index
    c.entry-item.result c.general_ignores.result.now c.loop-entry-test.true c.entry-item.is c.general_ignores.ensures
    c.last_says-said.ensures c.loop-entry.invariant
