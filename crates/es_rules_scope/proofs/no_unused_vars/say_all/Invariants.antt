use Rattle.std.proofs.Common.{◌≡◌}
use Rattle.std.specs.List.{flat_map, range_with_len}
use Rattle.std.specs.Prelude.{IsTrue}
use Rattle.es_text.specs.Texts.{text_bytes}
use Rattle.es_host.specs.Files.{file_in}
use Rattle.es_host.specs.Spans.{findings_fit}
use Rattle.es_rules_scope.specs.NoUnusedVars.{said_at}
use Rattle.es_rules_scope.proofs.no_unused_vars.say_all.Given as goal

abbrev pub invariant-loop-index : goal.invariant-loop-index
invariant-loop-index l = record {
  found : l.findings.items ≡ flat_map (said_at (file_in l.file)) (range_with_len 0 l.index);
  inside : IsTrue (findings_fit (text_bytes (file_in l.file).text) l.findings.items);
}
