use Rattle.std.proofs.Common.{◌≡◌, take}
use Rattle.std.specs.List.{flat_map}
use Rattle.std.specs.Prelude.{IsTrue}
use Rattle.es_text.specs.Texts.{text_bytes}
use Rattle.es_host.specs.Files.{file_in}
use Rattle.es_host.specs.Spans.{findings_fit}
use Rattle.es_rules_plain.specs.NoTrailingSpaces.{said_of}
use Rattle.es_rules_plain.proofs.no_trailing_spaces.say_all.Given as goal

abbrev pub invariant-loop-span : goal.invariant-loop-span
invariant-loop-span l = record {
  found : l.findings.items ≡ flat_map (said_of (file_in l.file)) (take l.span-index l.spans);
  inside : IsTrue (findings_fit (text_bytes (file_in l.file).text) l.findings.items);
}
