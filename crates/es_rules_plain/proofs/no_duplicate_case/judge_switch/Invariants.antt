use Rattle.std.proofs.Common.{◌≡◌, ◌++◌}
use Rattle.std.specs.List.{flat_map, range_with_len}
use Rattle.std.specs.Prelude.{IsTrue}
use Rattle.es_text.specs.Texts.{text_bytes}
use Rattle.es_host.specs.Files.{file_of}
use Rattle.es_host.specs.Spans.{findings_fit}
use Rattle.es_rules_plain.specs.NoDuplicateCase.{Texts, has, said_at, stands_before, texts_of}
use Rattle.es_rules_plain.proofs.no_duplicate_case.judge_switch.Given as goal

abbrev pub invariant-loop-index : goal.invariant-loop-index
invariant-loop-index l = record {
  seen : (texts : Texts) → has l.seen texts ≡ stands_before (file_of l.ctx) l.switch l.index (texts_of texts);
  found : l.findings.items ≡ l.fn.findings.items ++ flat_map (said_at (file_of l.ctx) l.switch) (range_with_len 0 l.index);
  inside : IsTrue (findings_fit (text_bytes (file_of l.ctx).text) l.fn.findings.items)
      → IsTrue (findings_fit (text_bytes (file_of l.ctx).text) l.findings.items);
}
