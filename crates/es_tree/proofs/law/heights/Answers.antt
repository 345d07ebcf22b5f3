use Rattle.std.proofs.Common.{arith}
use Rattle.es_tree.proofs.ShapesLemmas.{as_high, height-bare, height-with_child, never_lower, stays_within, with_child_beyond}
use Rattle.es_tree.proofs.law.heights.Goals as goal

pub returns : goal.returns
returns c = record {
  bare = height-bare;
  never_lower = never_lower;
  above = λ shape field child within. omega (arith, height-with_child shape field child within);
  nothing_else = with_child_beyond;
  within = stays_within;
  attribute = as_high;
}
