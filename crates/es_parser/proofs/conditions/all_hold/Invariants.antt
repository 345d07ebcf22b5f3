use Rattle.std.proofs.Common.{◌≡◌, drop}
use Rattle.es_grammar.specs.Parts.{all_hold}
use Rattle.es_parser.proofs.conditions.all_hold.Given as goal

abbrev pub invariant-loop-condition : goal.invariant-loop-condition
invariant-loop-condition g l = record {
  same : l.reader ≡ l.fn.reader;
  rest : all_hold l.fn.reader l.spot l.draft l.conditions ≡ all_hold l.fn.reader l.spot l.draft (drop l.condition-index l.conditions);
}
