-- What stands around a node of a tree, and what a node is, by the rows of the tree.
use Rattle.std.specs.Prelude.{ℕ, zero, suc, Bool, false, ◌&&◌, ◌==◌, List, [], ◌∷◌, Option, Some, None, if◌then◌else◌}
use Rattle.std.specs.List.{list_any}
use Rattle.std.specs.Str.{bytes_eq, encode_utf8_all}
use Rattle.es_tree.specs.declared.shape.AttributeValue.{AttributeValue}
use Rattle.es_tree.specs.declared.shape.AttributeValue.TheVariants.{Flag, Words}
use Rattle.es_tree.specs.Rows.{Row, kind_of, parent_of, field_child_of, value_of}
use Rattle.es_tree.specs.declared.ancestors.Ancestors.{Ancestors}
use Rattle.es_tree.specs.declared.field.TheConstants.{NAME}

-- a value that may be missing, at a node that may be missing
abbrev pub joined : {A : Type 0} → Option (Option A) → Option A
joined None = None
joined (Some value) = value

-- the node's parent, which neither the root has nor a number that is no node's
abbrev pub parent : List Row → ℕ → Option ℕ
parent rows node = joined (parent_of rows node)

-- the one child in a field of the node
abbrev pub child : List Row → ℕ → ℕ → Option ℕ
child rows node field = joined (field_child_of rows node field 0)

-- a node, if there is one, and what stands around it
abbrev pub with_around : (ℕ → List ℕ) → Option ℕ → List ℕ
with_around around None = []
with_around around (Some node) = node ∷ around node

-- the ancestors of a node that so many steps to a parent find
abbrev pub ancestors_within : ℕ → List Row → ℕ → List ℕ
ancestors_within zero rows node = []
ancestors_within (suc steps) rows node = with_around (ancestors_within steps rows) (parent rows node)

-- the nodes around a node, from its parent out to the Program: parents have smaller numbers, so that a
-- node has no more ancestors than its number says
unfoldable pub ancestors : List Row → ℕ → List ℕ
ancestors rows node = ancestors_within node rows node

-- the nodes before the first that passes the test
abbrev pub before : (ℕ → Bool) → List ℕ → List ℕ
before test [] = []
before test (node ∷ nodes) = if test node then [] else node ∷ before test nodes

-- the nodes that an iterator over ancestors has yet to give
abbrev pub left : Ancestors → List ℕ
left above = with_around (ancestors above.tree.now) above.next

-- the kind is one of these
abbrev pub is_among : List ℕ → Option ℕ → Bool
is_among kinds None = false
is_among kinds (Some kind) = list_any (λ k. k == kind) kinds

-- the node is of one of these kinds
abbrev pub is_one_of : List ℕ → List Row → ℕ → Bool
is_one_of kinds rows node = is_among kinds (kind_of rows node)

-- there is a node, and it is of one of these kinds
abbrev pub is_some_of : List ℕ → List Row → Option ℕ → Bool
is_some_of kinds rows None = false
is_some_of kinds rows (Some node) = is_one_of kinds rows node

-- the node's parent is of one of these kinds
abbrev pub stands_in : List ℕ → List Row → ℕ → Bool
stands_in kinds rows node = is_some_of kinds rows (parent rows node)

-- there is a number, and it is this one
abbrev pub is_some : Option ℕ → ℕ → Bool
is_some None node = false
is_some (Some found) node = found == node

-- the parent is of one of these kinds, and the node is the one child in this field of it
abbrev pub stands_under : List ℕ → ℕ → List Row → ℕ → Option ℕ → Bool
stands_under kinds field rows node None = false
stands_under kinds field rows node (Some above) = is_one_of kinds rows above && is_some (child rows above field) node

-- the node's parent is of one of these kinds, and the node is the one child in this field of it
abbrev pub stands_as : List ℕ → ℕ → List Row → ℕ → Bool
stands_as kinds field rows node = stands_under kinds field rows node (parent rows node)

-- the UTF-8 of an attribute that is a text
abbrev pub utf8_in : Option AttributeValue → Option (List ℕ)
utf8_in None = None
utf8_in (Some (Flag flag)) = None
utf8_in (Some (Words words)) = Some (encode_utf8_all words)

-- the text that an attribute of the node has, in UTF-8
abbrev pub words_of : List Row → ℕ → ℕ → Option (List ℕ)
words_of rows node field = utf8_in (joined (value_of rows node field))

-- there is a text, and it is this one
abbrev pub is_text : Option (List ℕ) → List ℕ → Bool
is_text None text = false
is_text (Some words) text = bytes_eq words text

-- both texts are there, and they are the same
abbrev pub are_same : Option (List ℕ) → Option (List ℕ) → Bool
are_same words None = false
are_same words (Some text) = is_text words text

-- the name that an Identifier or a PrivateIdentifier has, in UTF-8
abbrev pub name_of : List Row → ℕ → Option (List ℕ)
name_of rows node = words_of rows node NAME

-- the nodes have the same name
abbrev pub same_name : List Row → ℕ → ℕ → Bool
same_name rows a b = are_same (name_of rows a) (name_of rows b)

-- the flag that an attribute is
abbrev pub is_set_in : Option AttributeValue → Bool
is_set_in None = false
is_set_in (Some (Flag flag)) = flag
is_set_in (Some (Words words)) = false

-- the attribute of the node is the flag `true`
abbrev pub is_set : List Row → ℕ → ℕ → Bool
is_set rows node field = is_set_in (joined (value_of rows node field))
