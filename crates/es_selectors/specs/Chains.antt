-- What the code asks of the parts of a chain, among the rows of a tree's nodes.
use Rattle.std.specs.Prelude.{◌≡◌, Bool, true, false, List, ◌++◌}
use Rattle.es_tree.specs.Rows.{Row}
use Rattle.es_selectors.specs.declared.chain.Outcome.{Outcome}
use Rattle.es_selectors.specs.declared.chain.Outcome.TheVariants.{Holds, Fails, Never}
use Rattle.es_selectors.specs.declared.selector.Atom.{Atom}
use Rattle.es_selectors.specs.declared.selector.Link.{Link}
use Rattle.es_selectors.specs.declared.spot.Spot.{Spot}
use Rattle.es_selectors.specs.Matches.{any_holds, atom_holds, chain_holds, compound_holds}
use Rattle.es_selectors.specs.Selects.{above_of, row_sight}
use Rattle.es_selectors.specs.declared.selector.Chain.{Chain}

abbrev pub is_holding : Outcome → Bool
is_holding Holds = true
is_holding Fails = false
is_holding Never = false

abbrev pub atom_in : List Row → Atom → Spot → Bool
atom_in rows = atom_holds (row_sight rows)

abbrev pub compound_in : List Row → List Atom → Spot → Bool
compound_in rows = compound_holds (row_sight rows) (atom_in rows)

abbrev pub any_in : List Row → List (Chain Atom) → Spot → Bool
any_in rows = any_holds (row_sight rows) (atom_in rows)

-- the first compound and the links behind it hold
abbrev pub links_in : List Row → List Atom → List (Link Atom) → Spot → Bool
links_in rows first links = chain_holds (row_sight rows) (atom_in rows) (record { first = first; links = links })

-- the nodes above one are the last of those above the other
abbrev pub Nested : List Row → Spot → Spot → Type 0
Nested rows one other = (front : List Spot) × (above_of rows other ≡ front ++ above_of rows one)
