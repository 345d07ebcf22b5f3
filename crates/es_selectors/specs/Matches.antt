-- What a selector matches, by cases on the selector.
use Rattle.std.specs.Prelude.{ℕ, Bool, true, false, not, ◌&&◌, nat_eq, nat_le, nat_lt, List, Option, Some, None, bytes_eq, codes, decimal, encode_utf8_all, fold, if◌then◌else◌, slice_get}
use Rattle.std.specs.List.{list_all, list_any}
use Rattle.std.specs.Option.{option_eq, option_map_or}
use Rattle.es_tables.specs.declared.fields.Holds.{Holds}
use Rattle.es_tables.specs.declared.fields.Holds.TheVariants.{One, Optional, Many}
use Rattle.es_tables.specs.Nodes.{field_index, held_by, kind_words}
use Rattle.es_tree.specs.declared.shape.AttributeValue.{AttributeValue}
use Rattle.es_tree.specs.declared.shape.AttributeValue.TheVariants.{Flag, Words}
use Rattle.es_selectors.specs.declared.selector.Atom.{Atom}
use Rattle.es_selectors.specs.declared.selector.Atom.TheOpen.{Atom-F}
use Rattle.es_selectors.specs.declared.selector.Atom.TheFolds.{fold-Atom}
use Rattle.es_selectors.specs.declared.selector.Chain.{Chain}
use Rattle.es_selectors.specs.declared.selector.Link.{Link}
use Rattle.es_selectors.specs.declared.selector.Combinator.{Combinator}
use Rattle.es_selectors.specs.declared.selector.Combinator.TheVariants.{Descendant, Child, Next, Later}
use Rattle.es_selectors.specs.declared.selector.Comparison.{Comparison}
use Rattle.es_selectors.specs.declared.selector.Comparison.TheVariants.{Less, LessOrEqual, Greater, GreaterOrEqual}
use Rattle.es_selectors.specs.declared.selector.Condition.{Condition}
use Rattle.es_selectors.specs.declared.selector.Condition.TheVariants.{IsThere, Is, IsNot, Compares}
use Rattle.es_selectors.specs.declared.selector.Group.{Group}
use Rattle.es_selectors.specs.KindAtoms.{is_word, kind_named, kind_word, word_in_group}
use Rattle.es_selectors.specs.Lexical.{decimal_of}
use Rattle.es_selectors.specs.Sights.{Sight}

-- what stands at the end of a path of names
pub data Found (P : Type 0) : Type 0 where
  Nothing : Found P
  -- the attribute `type`, of a node of this kind
  KindWord : (kind : ℕ) → Found P
  Value : (value : AttributeValue) → Found P
  -- the `length` of a list field
  Count : (count : ℕ) → Found P
  Node : (node : P) → Found P
  -- the list field with this code of a node
  Field : (node : P) (field : ℕ) → Found P

abbrev pub compares : Comparison → ℕ → ℕ → Bool
compares Less count number = nat_lt count number
compares LessOrEqual count number = nat_le count number
compares Greater count number = nat_lt number count
compares GreaterOrEqual count number = nat_le number count

module _ {P : Type 0} where
  -- a child, or nothing
  abbrev pub node_or_nothing : Option P → Found P
  node_or_nothing None = Nothing
  node_or_nothing (Some node) = Node node

  abbrev pub value_or_nothing : Option AttributeValue → Found P
  value_or_nothing None = Nothing
  value_or_nothing (Some value) = Value value

  abbrev pub count_or_nothing : Option ℕ → Found P
  count_or_nothing None = Nothing
  count_or_nothing (Some count) = Count count

  -- the text of an attribute, in UTF-8; a node and a list field have none
  abbrev pub text_of : Found P → Option (List ℕ)
  text_of Nothing = None
  text_of (KindWord kind) = slice_get kind_words kind
  text_of (Value (Flag flag)) = Some (if flag then codes "true" else codes "false")
  text_of (Value (Words words)) = Some (encode_utf8_all words)
  text_of (Count count) = Some (decimal count)
  text_of (Node node) = None
  text_of (Field node field) = None

  abbrev pub is_there : Found P → Bool
  is_there Nothing = false
  is_there (KindWord kind) = true
  is_there (Value value) = true
  is_there (Count count) = true
  is_there (Node node) = true
  is_there (Field node field) = true

  abbrev pub is_length : (ℕ → Bool) → Found P → Bool
  is_length test Nothing = false
  is_length test (KindWord kind) = false
  is_length test (Value value) = false
  is_length test (Count count) = test count
  is_length test (Node node) = false
  is_length test (Field node field) = false

  abbrev pub has_text : List ℕ → Found P → Bool
  has_text text at = option_eq bytes_eq (text_of at) (Some (encode_utf8_all text))

  abbrev pub meets : Condition → Found P → Bool
  meets IsThere at = is_there at
  meets (Is text) at = has_text text at
  meets (IsNot text) at = not (has_text text at)
  meets (Compares comparison number) at = is_length (λ count. compares comparison count number) at

  -- the test holds of the node, if there is one
  abbrev pub holds_of : (P → Bool) → Option P → Bool
  holds_of test None = false
  holds_of test (Some node) = test node

module _ {P : Type 0} (sight : Sight P) where
  -- what the node has in the field with this code, which holds this
  abbrev pub in_field : P → ℕ → Option Holds → Found P
  in_field node field None = value_or_nothing (sight.value node field)
  in_field node field (Some One) = node_or_nothing (sight.child node field 0)
  in_field node field (Some Optional) = node_or_nothing (sight.child node field 0)
  in_field node field (Some Many) = Field node field

  abbrev pub in_named : P → Option ℕ → Found P
  in_named node None = Nothing
  in_named node (Some field) = in_field node field (held_by (sight.kind node) field)

  -- the attribute or child with this name
  abbrev pub of_node : P → List ℕ → Found P
  of_node node name =
      if is_word "type" name then KindWord (sight.kind node)
      else in_named node (field_index (sight.kind node) name)

  -- a list field has its length and, by decimal numbers, its children
  abbrev pub of_field : P → ℕ → List ℕ → Found P
  of_field node field name =
      if is_word "length" name then count_or_nothing (sight.count node field)
      else option_map_or (λ index. node_or_nothing (sight.child node field index)) (decimal_of name) Nothing

  abbrev pub step : Found P → List ℕ → Found P
  step (Node node) name = of_node node name
  step (Field node field) name = of_field node field name
  step Nothing name = Nothing
  step (KindWord kind) name = Nothing
  step (Value value) name = Nothing
  step (Count count) name = Nothing

  -- what stands at the end of the names, from the node on; the steps take their UTF-8
  abbrev pub found : List (List ℕ) → P → Found P
  found names node = fold (λ at name. step at (encode_utf8_all name)) (Node node) names

  -- the node is of the kind with this word
  abbrev pub has_kind : List ℕ → P → Bool
  has_kind word node = option_eq nat_eq (kind_named word) (Some (sight.kind node))

  -- an Identifier in a MetaProperty is no expression
  abbrev pub in_meta_property : P → Bool
  in_meta_property node = has_kind (codes "Identifier") node && holds_of (has_kind (codes "MetaProperty")) (sight.parent node)

  abbrev pub in_group : Group → P → Bool
  in_group group node = word_in_group group (kind_word (sight.kind node)) && not (in_meta_property node)

  -- the node stands in the field with this name of its parent
  abbrev pub stands_in : List ℕ → P → Bool
  stands_in name node =
      holds_of
      (λ parent. option_map_or (sight.stands_in node) (field_index (sight.kind parent) (encode_utf8_all name)) false)
      (sight.parent node)

  -- some node that stands so to this one passes
  abbrev pub reaches : Combinator → (P → Bool) → P → Bool
  reaches Descendant before node = list_any before (sight.above node)
  reaches Child before node = holds_of before (sight.parent node)
  reaches Next before node = holds_of before (sight.previous node)
  reaches Later before node = list_any before (sight.earlier node)

  module _ {A : Type 0} (holds : A → P → Bool) where
    -- each atom of a compound holds
    abbrev pub compound_holds : List A → P → Bool
    compound_holds atoms node = list_all (λ atom. holds atom node) atoms

    -- the compound of the link holds, and what stands before it is reached
    abbrev pub link_holds : (P → Bool) → Link A → P → Bool
    link_holds before link node = compound_holds link.compound node && reaches link.combinator before node

    abbrev pub chain_holds : Chain A → P → Bool
    chain_holds chain = fold link_holds (compound_holds chain.first) chain.links

    -- one of the chains holds
    abbrev pub any_holds : List (Chain A) → P → Bool
    any_holds chains node = list_any (λ chain. chain_holds chain node) chains

  abbrev pub atom_step : Atom-F (P → Bool) → P → Bool
  atom_step Atom-F.Any node = true
  atom_step (Atom-F.Kind kind) node = option_eq nat_eq kind (Some (sight.kind node))
  atom_step (Atom-F.Attribute names condition) node = meets condition (found names node)
  atom_step (Atom-F.Field name) node = stands_in name node
  atom_step (Atom-F.FieldOf outer inner) node = stands_in inner node && holds_of (stands_in outer) (sight.parent node)
  atom_step (Atom-F.Group group) node = in_group group node
  atom_step (Atom-F.Not chains) node = not (any_holds (λ atom. atom) chains node)
  atom_step (Atom-F.Is chains) node = any_holds (λ atom. atom) chains node
  atom_step (Atom-F.Has chains) node = list_any (any_holds (λ atom. atom) chains) (sight.below node)
  atom_step (Atom-F.NthChild number) node = sight.is_nth node number
  atom_step (Atom-F.NthLastChild number) node = sight.is_nth_last node number

  abbrev pub atom_holds : Atom → P → Bool
  atom_holds = fold-Atom (P → Bool) atom_step

  -- a selector with these chains matches the node
  abbrev pub chains_match : List (Chain Atom) → P → Bool
  chains_match chains node = any_holds atom_holds chains node
