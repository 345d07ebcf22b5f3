use Rattle.std.proofs.Common.{◌≡◌}
use Rattle.std.specs.List.{flat_map, range_with_len}
use Rattle.std.specs.Prelude.{IsTrue}
use Rattle.es_text.specs.Texts.{text_bytes}
use Rattle.es_host.specs.Files.{file_in}
use Rattle.es_host.specs.Spans.{findings_fit}
use Rattle.es_rules_scope.specs.NoUnusedLabels.{said_at}
use Rattle.es_rules_scope.proofs.no_unused_labels.say_all.Given as goal

abbrev pub invariant-loop-node : goal.invariant-loop-node
invariant-loop-node l = record {
  found : l.findings.items ≡ flat_map (said_at (file_in l.file)) (range_with_len 0 l.node);
  inside : IsTrue (findings_fit (text_bytes (file_in l.file).text) l.findings.items);
}
