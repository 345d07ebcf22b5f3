use Rattle.std.proofs.Common.{◌≡◌, map, take}
use Rattle.serde_json.specs.View.{view}
use Rattle.es_format.specs.Json.{result_data}
use Rattle.es_format.proofs.objects.values.Given as goal

abbrev pub invariant-loop-named : goal.invariant-loop-named
invariant-loop-named l = map view l.values.items ≡ map result_data (take l.named-index l.results)
