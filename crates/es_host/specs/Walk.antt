-- The walk through a tree: it enters a node, walks through the node's children in their order, and leaves it.
use Rattle.std.specs.Prelude.{ℕ, zero, suc, Bool, true, false, List, [], ◌∷◌, ◌++◌, length, unwrap_or}
use Rattle.std.specs.List.{flat_map}
use Rattle.es_tree.specs.Rows.{Row, children_of}

-- the walk enters a node, or leaves it; its ancestors are the nodes from the Program down to its parent
pub record Moment : Type 0 where
  pub leaves : Bool
  pub node : ℕ
  pub ancestors : List ℕ

abbrev pub moment : Bool → List ℕ → ℕ → Moment
moment leaves ancestors node = record { leaves = leaves; node = node; ancestors = ancestors }

abbrev pub children : List Row → ℕ → List ℕ
children rows node = unwrap_or (children_of rows node) []

-- the walk through a node with these ancestors, at most so many nodes down
abbrev pub walk_within : ℕ → List Row → List ℕ → ℕ → List Moment
walk_within zero rows ancestors node = []
walk_within (suc most) rows ancestors node =
    moment false ancestors node
    ∷ (flat_map (walk_within most rows (ancestors ++ node ∷ [])) (children rows node) ++ moment true ancestors node ∷ [])

-- a way down takes no more nodes than there are
abbrev pub walk_from : List Row → List ℕ → ℕ → List Moment
walk_from rows ancestors node = walk_within (length rows) rows ancestors node

-- the walk through a whole tree
abbrev pub walk : List Row → List Moment
walk rows = walk_from rows [] 0
