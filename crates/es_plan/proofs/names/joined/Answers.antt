use Rattle.std.proofs.Common.{◌∙◌, codes}
use Rattle.std.proofs.lemmas.Result.{IfOk-weaker}
use Rattle.es_plan.proofs.NamesLemmas.{joined_texts}
use Rattle.es_plan.proofs.names.joined.Goals as goal

pub returns : goal.returns
returns c = IfOk-weaker c.join.result _ _ (λ text h. h ∙ joined_texts (codes "/") c.args.parts.now) c.join.ensures.ok
