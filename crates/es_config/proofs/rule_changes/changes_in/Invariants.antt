use Rattle.std.proofs.Common.{map}
use Rattle.std.specs.Prelude.{All}
use Rattle.es_config.specs.Entries.{change_of}
use Rattle.es_config.specs.Reading.{IsFine, change_at, known}
use Rattle.es_config.proofs.WalksLemmas.{InObject}
use Rattle.es_config.proofs.rule_changes.changes_in.Given as goal

abbrev pub invariant-loop-key : goal.invariant-loop-key
invariant-loop-key g l = let rules = known (g.K.Known.ids l.rules) (g.K.Known.verdict l.rules) in
    record {
      value : InObject (change_at rules) l.members.entries l.key-iterator (map change_of l.changes);
      fine : All (IsFine rules) (map change_of l.changes);
    }
