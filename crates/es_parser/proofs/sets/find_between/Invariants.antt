use Rattle.std.proofs.Common.{◌≡◌}
use Rattle.es_parser.specs.Found.{Found}
use Rattle.es_parser.proofs.sets.find_between.Given as goal

abbrev pub invariant-loop-code : goal.invariant-loop-code
invariant-loop-code g l = record {
  same : l.reader ≡ l.fn.reader;
  found : Found l.fn.reader l.spot.context l.spot.at l.set l.code;
}
