use Rattle.std.specs.Prelude.{All}
use Rattle.es_config.specs.Entries.{layer_of}
use Rattle.es_config.specs.Reading.{IsFine, entry_keys, known, member_of}
use Rattle.es_config.proofs.WalksLemmas.{MadeOf}
use Rattle.es_config.proofs.entry_keys.set_members.Given as goal

abbrev pub invariant-loop-key : goal.invariant-loop-key
invariant-loop-key g l = let rules = known (g.K.Known.ids l.rules) (g.K.Known.verdict l.rules) in
    record {
      value : MadeOf (member_of (entry_keys rules)) (layer_of l.initial.entry) l.members.entries l.key-iterator (layer_of l.entry);
      fine : All (IsFine rules) (layer_of l.initial.entry).rules → All (IsFine rules) (layer_of l.entry).rules;
    }
