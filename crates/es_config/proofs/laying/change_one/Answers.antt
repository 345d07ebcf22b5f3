use Rattle.std.proofs.Common.{arith, rules}
use Rattle.es_config.specs.Entries.{change_of}
use Rattle.es_config.proofs.LayingLemmas.{one_changed}
use Rattle.es_config.proofs.laying.change_one.Goals as goal

pub returns : goal.returns
returns c =
    one_changed c.args.rules.now.items (change_of c.args.given.now) c.index_mut.result.now c.change.new.rule
    (omega arith) (search rules) c.in_ok-change.ensures
