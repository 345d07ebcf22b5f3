use Rattle.std.proofs.Common.{◌≡◌, ℕ, length, map, drop}
use Rattle.es_fork.specs.Changes.{connected}
use Rattle.es_fork.specs.Edges.{ArePast, before}
use Rattle.es_fork.proofs.make.connect.Given as goal

abbrev pub invariant-loop-edge : goal.invariant-loop-edge
invariant-loop-edge l = record {
  rest : connected l.segments.items (drop l.edge-index l.edges) ≡ connected l.fn.segments.items l.edges;
  longer : length l.segments.items ≡ length l.fn.segments.items;
  kept : (last : ℕ) → ArePast last l.edges → map (before last) l.segments.items ≡ map (before last) l.fn.segments.items;
}
