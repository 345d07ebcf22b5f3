use Rattle.std.proofs.Common.{◌≡◌, ◌+◌, ◌-◌, ◌<◌, ◌≤◌, drop, length}
use Rattle.std.specs.List.{list_any, range_with_len}
use Rattle.es_selectors.specs.Chains.{any_in, compound_in, links_in}
use Rattle.es_selectors.specs.Selects.{above_of, below_of, earlier_spots, front, siblings_below, spot_of, stands_below}
use Rattle.es_selectors.proofs.Weights.{atoms_weight, chain_weight, chains_weight, weight}
use Rattle.std.specs.Prelude.{map}
use Rattle.es_selectors.proofs.chain.+matching.Given as goal

abbrev pub decreases-atom_holds : goal.decreases-atom_holds
decreases-atom_holds l = weight l.atom.now

abbrev pub decreases-compound_holds : goal.decreases-compound_holds
decreases-compound_holds l = atoms_weight weight l.atoms.now

abbrev pub decreases-links_at : goal.decreases-links_at
decreases-links_at l = chain_weight weight l.first.now l.links.now

abbrev pub decreases-above_at : goal.decreases-above_at
decreases-above_at l = 1 + chain_weight weight l.first.now l.links.now

abbrev pub decreases-earlier_at : goal.decreases-earlier_at
decreases-earlier_at l = 1 + chain_weight weight l.first.now l.links.now

abbrev pub decreases-any_holds : goal.decreases-any_holds
decreases-any_holds l = chains_weight weight l.chains.now

abbrev pub decreases-any_below : goal.decreases-any_below
decreases-any_below l = 1 + chains_weight weight l.chains.now

abbrev pub invariant-any_holds-loop-chain : goal.invariant-any_holds-loop-chain
invariant-any_holds-loop-chain l = any_in l.tree (drop l.chain-index l.chains) l.fn.spot ≡ any_in l.tree l.chains l.fn.spot

abbrev pub invariant-compound_holds-loop-atom : goal.invariant-compound_holds-loop-atom
invariant-compound_holds-loop-atom l = compound_in l.tree (drop l.atom-index l.atoms) l.fn.spot ≡ compound_in l.tree l.atoms l.fn.spot

-- none of the nodes that were passed
abbrev pub invariant-above_at-loop-node : goal.invariant-above_at-loop-node
invariant-above_at-loop-node l = record {
  within : l.at.node < length l.tree;
  top : l.at.top ≡ l.fn.spot.top;
  rest : list_any (links_in l.tree l.first l.links) (above_of l.tree l.at)
      ≡ list_any (links_in l.tree l.first l.links) (above_of l.tree l.fn.spot);
}

abbrev pub decreases-above_at-loop-node : goal.decreases-above_at-loop-node
decreases-above_at-loop-node l = l.at.node

abbrev pub invariant-earlier_at-loop-index : goal.invariant-earlier_at-loop-index
invariant-earlier_at-loop-index l = record {
  within : l.index ≤ l.place.index;
  rest : list_any (links_in l.tree l.first l.links) (map (spot_of l.fn.spot.top) (siblings_below l.tree l.fn.spot.top l.place l.index))
      ≡ list_any (links_in l.tree l.first l.links) (earlier_spots l.tree l.fn.spot);
}

abbrev pub decreases-earlier_at-loop-index : goal.decreases-earlier_at-loop-index
decreases-earlier_at-loop-index l = l.index

abbrev pub invariant-any_below-loop-node : goal.invariant-any_below-loop-node
invariant-any_below-loop-node l =
    list_any (any_in l.tree l.chains) (map (spot_of l.top) (front (stands_below l.tree l.top) (range_with_len l.node (length l.tree - l.node))))
    ≡ list_any (any_in l.tree l.chains) (below_of l.tree l.top)

abbrev pub decreases-any_below-loop-node : goal.decreases-any_below-loop-node
decreases-any_below-loop-node l = l.count - l.node
