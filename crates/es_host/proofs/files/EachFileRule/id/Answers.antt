use Rattle.std.proofs.Common.{◌∙◌}
use Rattle.es_host.proofs.NodesLemmas.{chars_plain}
use Rattle.es_host.proofs.files.EachFileRule.id.Goals as goal

pub returns : goal.returns
returns g c = chars_plain c.id.result.now c.id.ensures.plain ∙ c.id.ensures.id
