use Rattle.std.proofs.Common.{◌∙◌, arith, ap, map, string_bytes}
use Rattle.std.proofs.lemmas.Grind.{common_steps}
use Rattle.es_plan.specs.Names.{with_name}
use Rattle.es_plan.proofs.OnceLemmas.{texts_with}
use Rattle.es_plan.proofs.names.each_once.Goals as goal

pub loop-file-preserved : goal.loop-file-preserved
loop-file-preserved c =
    let more = ap (map string_bytes) c.in_ok-insert.ensures.keys ∙ texts_with c.in_ok-normalised.field-0 c.loop-file.names.keys
    ∙ ap (with_name (map string_bytes c.loop-file.names.keys)) c.in_ok-normalised.ensures in
    grind (arith, common_steps, more)
