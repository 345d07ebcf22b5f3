use Rattle.std.proofs.Common.{rules}
use Rattle.es_format.proofs.JsonLemmas.{no_float-results}
use Rattle.es_format.proofs.objects.json.Goals as goal

pub returns : goal.returns
returns c = search (rules, no_float-results)
