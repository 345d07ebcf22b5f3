use Rattle.std.proofs.Common.{◌≡◌}
use Rattle.es_config.specs.Entries.{layer_of}
use Rattle.es_config.specs.Reading.{linter_keys, member_of}
use Rattle.es_config.proofs.WalksLemmas.{MadeOf}
use Rattle.es_config.proofs.entry_keys.set_linter_members.Given as goal

abbrev pub invariant-loop-key : goal.invariant-loop-key
invariant-loop-key l = record {
  value : MadeOf (member_of linter_keys) (layer_of l.initial.entry) l.members.entries l.key-iterator (layer_of l.entry);
  rules : l.entry.rules ≡ l.initial.entry.rules;
}
