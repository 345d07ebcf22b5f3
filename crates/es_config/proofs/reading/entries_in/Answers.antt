use Rattle.std.proofs.Common.{map, arith}
use Rattle.std.specs.Prelude.{All}
use Rattle.es_config.specs.Entries.{Layer, layer_of}
use Rattle.es_config.specs.Reading.{IsFine, entry_at, known}
use Rattle.es_config.proofs.WalksLemmas.{all_pushed, array_on, map_pushed}
use Rattle.es_config.proofs.reading.entries_in.Goals as goal

pub loop-index-preserved : goal.loop-index-preserved
loop-index-preserved g c =
    let rules = known (g.K.Known.ids c.args.rules.now) (g.K.Known.verdict c.args.rules.now) in
    let pushed = map_pushed layer_of c.loop-index.entries c.push.new.self c.in-Ok.entry c.in_ok-push-in-Ok.ensures.ok in
    record {
      value = array_on (entry_at rules) c.args.values.now c.loop-index.index c.index-values-index.result (map layer_of c.loop-index.entries) (map layer_of c.push.new.self) (layer_of c.in-Ok.entry)
          (omega arith) c.index-values-index.is c.in-Ok.ensures.value pushed c.loop-index.invariant.value;
      fine = all_pushed (λ (layer : Layer). All (IsFine rules) layer.rules) (map layer_of c.loop-index.entries) (map layer_of c.push.new.self) (layer_of c.in-Ok.entry) pushed c.loop-index.invariant.fine c.in-Ok.ensures.fine;
    }
