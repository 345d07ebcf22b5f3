use Rattle.std.proofs.Common.{map}
use Rattle.es_config.specs.Entries.{layer_of}
use Rattle.es_config.specs.Reading.{AreFine, entry_at, known}
use Rattle.es_config.proofs.WalksLemmas.{InArray}
use Rattle.es_config.proofs.reading.entries_in.Given as goal

abbrev pub invariant-loop-index : goal.invariant-loop-index
invariant-loop-index g l = let rules = known (g.K.Known.ids l.rules) (g.K.Known.verdict l.rules) in
    record {
      value : InArray (entry_at rules) l.values l.index (map layer_of l.entries);
      fine : AreFine rules (map layer_of l.entries);
    }
