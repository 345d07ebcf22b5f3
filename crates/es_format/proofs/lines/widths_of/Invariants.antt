use Rattle.std.proofs.Common.{◌≡◌, take}
use Rattle.es_format.specs.Stylish.{widest_place, widest_severity, widest_text}
use Rattle.es_format.proofs.lines.widths_of.Given as goal

abbrev pub invariant-loop-message : goal.invariant-loop-message
invariant-loop-message l = record {
  place : l.widths.place ≡ widest_place (take l.message-index l.messages);
  severity : l.widths.severity ≡ widest_severity (take l.message-index l.messages);
  text : l.widths.text ≡ widest_text (take l.message-index l.messages);
}
