use Rattle.std.proofs.Common.{◌≡◌, ◌∙◌, take, ap, arith}
use Rattle.std.specs.List.{flat_map}
use Rattle.std.specs.Prelude.{IsTrue}
use Rattle.std.proofs.lemmas.List.{take_all}
use Rattle.std.proofs.lemmas.Result.{IfOk-weaker}
use Rattle.es_text.specs.Texts.{text_bytes}
use Rattle.es_host.proofs.SpansLemmas.{ordered-fit}
use Rattle.es_host.specs.Files.{file_of}
use Rattle.es_host.specs.Nodes.{finds_at}
use Rattle.es_host.specs.Order.{ordered}
use Rattle.es_host.specs.Spans.{findings_fit}
use Rattle.es_host.proofs.nodes.judge_all.Goals as goal

pub returns-clause-found : goal.returns-clause-found
returns-clause-found g c = λ options keeps.
    let finds = finds_at g.J.NodeRule.meaning (file_of c.args.ctx.now) options in
    let all : take c.loop-one.one-index c.args.asked.now ≡ c.args.asked.now = take_all c.loop-one.one-index c.args.asked.now (omega arith) in
    let found : c.loop-one.findings.items ≡ flat_map finds c.args.asked.now = c.loop-one.invariant.0 options keeps ∙ ap (flat_map finds) all in
    IfOk-weaker c.in_order.result (λ sorted. sorted.items ≡ ordered c.loop-one.findings.items) (λ findings. findings.items ≡ ordered (flat_map finds c.args.asked.now))
    (λ sorted is. is ∙ ap ordered found) c.in_order.ensures

pub returns-clause-inside : goal.returns-clause-inside
returns-clause-inside g c =
    let bytes = text_bytes c.args.ctx.now.file.now.source.now in
    IfOk-weaker c.in_order.result (λ sorted. sorted.items ≡ ordered c.loop-one.findings.items) (λ findings. IsTrue (findings_fit bytes findings.items))
    (λ sorted is. ap (findings_fit bytes) is ∙ ordered-fit bytes c.loop-one.findings.items c.loop-one.invariant.1) c.in_order.ensures
