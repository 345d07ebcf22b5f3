use Rattle.std.proofs.Common.{◌≡◌, ◌-◌, ◌≤◌, ◌++◌, length, drop, true, IsUtf8}
use Rattle.std.specs.List.{list_all}
use Rattle.std.specs.Str.{IsCharBoundary, chars}
use Rattle.es_text.specs.Spans.{is_part}
use Rattle.es_rules_plain.specs.TrailingSpaces.{trailing}
use Rattle.es_rules_plain.proofs.TrailingLemmas.{left_over}
use Rattle.es_rules_plain.proofs.trailing_spaces.trailing.Given as goal

abbrev pub invariant-loop-at : goal.invariant-loop-at
invariant-loop-at l = record {
  utf8 : IsUtf8 (drop l.at l.text);
  place : l.at ≤ length l.text;
  order : l.from ≤ l.at;
  start : IsCharBoundary l.text l.from;
  end : IsCharBoundary l.text l.at;
  spans : l.spans.items ++ left_over l.from l.at (chars (drop l.at l.text)) ≡ trailing (chars l.text);
  parts : list_all (is_part l.text) l.spans.items ≡ true;
}

abbrev pub decreases-loop-at : goal.decreases-loop-at
decreases-loop-at l = length l.text - l.at
