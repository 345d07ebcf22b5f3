use Rattle.std.proofs.Common.{◌≡◌, drop}
use Rattle.es_parser.specs.Fronts.{at_first, lacks_part}
use Rattle.es_parser.proofs.fronts.lacks_parts.Given as goal

abbrev pub invariant-loop-each : goal.invariant-loop-each
invariant-loop-each l = record {
  rest : at_first (lacks_part l.set) l.parts ≡ at_first (lacks_part l.set) (drop l.each-index l.parts);
}
