use Rattle.std.proofs.Common.{◌≡◌, take}
use Rattle.std.specs.List.{flat_map}
use Rattle.std.specs.Prelude.{IsTrue}
use Rattle.es_text.specs.Texts.{text_bytes}
use Rattle.es_host.specs.Files.{file_in}
use Rattle.es_host.specs.Spans.{findings_fit}
use Rattle.es_rules_scope.specs.NoUndef.{said_of}
use Rattle.es_rules_scope.proofs.no_undef.say_all.Given as goal

abbrev pub invariant-loop-reference : goal.invariant-loop-reference
invariant-loop-reference l = record {
  found : l.findings.items ≡ flat_map (said_of (file_in l.file)) (take l.reference-index l.references);
  inside : IsTrue (findings_fit (text_bytes (file_in l.file).text) l.findings.items);
}
