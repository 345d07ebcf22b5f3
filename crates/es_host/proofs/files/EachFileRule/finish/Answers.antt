use Rattle.std.proofs.Common.{◌≡◌, ◌∙◌, ap}
use Rattle.std.specs.Prelude.{IsTrue}
use Rattle.std.proofs.lemmas.Result.{IfOk-weaker}
use Rattle.es_text.specs.Texts.{text_bytes}
use Rattle.es_host.proofs.SpansLemmas.{ordered-fit}
use Rattle.es_host.specs.Order.{ordered}
use Rattle.es_host.specs.Spans.{findings_fit}
use Rattle.es_host.proofs.files.EachFileRule.finish.Goals as goal

pub returns-clause-inside : goal.returns-clause-inside
returns-clause-inside g c =
    let bytes = text_bytes c.args.ctx.now.file.now.source.now in
    IfOk-weaker c.in_order.result (λ sorted. sorted.items ≡ ordered c.in_ok-findings.findings.items) (λ findings. IsTrue (findings_fit bytes findings.items))
    (λ sorted is. ap (findings_fit bytes) is ∙ ordered-fit bytes c.in_ok-findings.findings.items c.in_ok-findings.ensures.inside) c.in_order.ensures
