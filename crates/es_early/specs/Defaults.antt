-- A second `default` in a switch: CaseBlock has one DefaultClause (ECMA-262, 14.12).
use Rattle.std.specs.Prelude.{◌≡◌, ℕ, ◌<◌, Bool, ◌&&◌, List, [], ◌∷◌, Some, IsTrue, is_none}
use Rattle.es_tree.specs.declared.kind.TheConstants.{SWITCH_CASE}
use Rattle.es_tree.specs.Rows.{Row}
use Rattle.es_tree.specs.Around.{child, is_one_of, parent}
use Rattle.es_tree.specs.declared.field.TheConstants.{TEST}

-- the node is a DefaultClause: a case without a test
abbrev pub is_default : List Row → ℕ → Bool
is_default rows node = is_one_of (SWITCH_CASE ∷ []) rows node && is_none (child rows node TEST)

-- the node is a DefaultClause, and an earlier node is one of the same switch
pub record IsSecondDefault (rows : List Row) (node : ℕ) : Type 0 where
  pub this : IsTrue (is_default rows node)
  pub switch : ℕ
  pub inside : parent rows node ≡ Some switch
  pub other : ℕ
  pub before : other < node
  pub first : IsTrue (is_default rows other)
  pub same : parent rows other ≡ Some switch
