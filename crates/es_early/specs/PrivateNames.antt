-- A private name that no class around it declares (ECMA-262, 15.7.7 AllPrivateIdentifiersValid and
-- 15.7.8 PrivateBoundIdentifiers). A class's heritage isn't in its body.
use Rattle.std.specs.Prelude.{ℕ, Bool, ◌&&◌, List, [], ◌∷◌, Option, Some, None, IsTrue, ◌==◌}
use Rattle.std.specs.List.{list_any}
use Rattle.es_tree.specs.declared.kind.TheConstants.{CLASS_BODY, PRIVATE_IDENTIFIER}
use Rattle.es_tree.specs.Rows.{Row}
use Rattle.es_tree.specs.Around.{ancestors, is_one_of, is_some, parent, same_name, stands_as}
use Rattle.es_tree.specs.Kinds.{members}
use Rattle.es_tree.specs.declared.field.TheConstants.{KEY}

abbrev pub is_private_name : List Row → ℕ → Bool
is_private_name rows node = is_one_of (PRIVATE_IDENTIFIER ∷ []) rows node

-- the parent of a node that may be missing
abbrev pub parent_of_some : List Row → Option ℕ → Option ℕ
parent_of_some rows None = None
parent_of_some rows (Some node) = parent rows node

-- the private name is the key of a member of this class body
abbrev pub declares_private : List Row → ℕ → ℕ → Bool
declares_private rows body node =
    is_private_name rows node
    && (stands_as members KEY rows node && is_some (parent_of_some rows (parent rows node)) body)

-- the body of a class around the node declares its name
pub record IsDeclaredPrivate (rows : List Row) (node : ℕ) : Type 0 where
  pub body : ℕ
  pub around : IsTrue (list_any (λ around. around == body) (ancestors rows node))
  pub class : IsTrue (is_one_of (CLASS_BODY ∷ []) rows body)
  pub declaring : ℕ
  pub declares : IsTrue (declares_private rows body declaring)
  pub same : IsTrue (same_name rows declaring node)

pub record IsUndeclaredPrivate (rows : List Row) (node : ℕ) : Type 0 where
  pub private : IsTrue (is_private_name rows node)
  pub undeclared : IsDeclaredPrivate rows node → ⊥
