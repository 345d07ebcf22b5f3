use Rattle.std.proofs.Common.{◌≡◌, take}
use Rattle.std.specs.List.{flat_map}
use Rattle.std.specs.Prelude.{IsTrue}
use Rattle.es_text.specs.Texts.{text_bytes}
use Rattle.es_settings.specs.Settings.{Options}
use Rattle.es_host.specs.Files.{file_of}
use Rattle.es_host.specs.Nodes.{finds_at}
use Rattle.es_host.specs.Spans.{findings_fit}
use Rattle.es_host.proofs.nodes.judge_all.Given as goal

abbrev pub invariant-loop-one : goal.invariant-loop-one
invariant-loop-one g l =
    ((options : Options) → g.J.NodeRule.keeps l.rule options
    → l.findings.items ≡ flat_map (finds_at g.J.NodeRule.meaning (file_of l.ctx) options) (take l.one-index l.asked))
    × IsTrue (findings_fit (text_bytes (file_of l.ctx).text) l.findings.items)
