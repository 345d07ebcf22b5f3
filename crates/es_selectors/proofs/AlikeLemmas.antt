-- Two ways of seeing a tree: where nodes that stand for each other look alike, atoms hold of both or of none.
use Rattle.std.proofs.Common.{◌≡◌, ℕ, Bool, true, false, not, ◌&&◌, ◌||◌, List, [], ◌∷◌, cond, fold, map, nat_eq, refl, sym, ap, subst, ◌∙◌}
use Rattle.std.specs.Prelude.{Option, Some, None, bytes_eq, codes, encode_utf8_all}
use Rattle.std.specs.List.{list_any}
use Rattle.std.specs.Option.{option_eq, option_map_or}
use Rattle.es_tables.specs.declared.fields.Holds.{Holds}
use Rattle.es_tables.specs.declared.fields.Holds.TheVariants.{One, Optional, Many}
use Rattle.es_tables.specs.Nodes.{field_index, held_by}
use Rattle.es_tree.specs.declared.shape.AttributeValue.{AttributeValue}
use Rattle.es_tree.specs.declared.shape.AttributeValue.TheVariants.{Flag, Words}
use Rattle.es_selectors.specs.declared.selector.Atom.{Atom}
use Rattle.es_selectors.specs.declared.selector.Atom.TheOpen.{Atom-F}
use Rattle.es_selectors.specs.declared.selector.Atom.TheFolds.{ind-Atom, fold-roll-Atom, map-Atom}
use Rattle.es_selectors.specs.declared.selector.Atom.TheShapes.{former-Atom-Not-0, former-Atom-Not-0-at-5}
use Rattle.es_selectors.specs.declared.selector.Atom.TheViews.{roll-Atom}
use Rattle.es_selectors.specs.declared.selector.Chain.{Chain}
use Rattle.es_selectors.specs.declared.selector.Combinator.{Combinator}
use Rattle.es_selectors.specs.declared.selector.Combinator.TheVariants.{Descendant, Child, Next, Later}
use Rattle.es_selectors.specs.declared.selector.Condition.{Condition}
use Rattle.es_selectors.specs.declared.selector.Condition.TheVariants.{IsThere, Is, IsNot, Compares}
use Rattle.es_selectors.specs.declared.selector.Group.{Group}
use Rattle.es_selectors.specs.declared.selector.Link.{Link}
use Rattle.es_selectors.specs.KindAtoms.{is_word, kind_named, kind_word, word_in_group}
use Rattle.es_selectors.specs.Lexical.{decimal_of}
use Rattle.es_selectors.specs.Matches.{Found, Nothing, KindWord, Value, Count, Node, Field, any_holds, atom_holds, atom_step, chains_match, compares, compound_holds, count_or_nothing, found, has_kind, holds_of, in_field, in_group, in_named, is_length, is_there, link_holds, meets, node_or_nothing, of_field, of_node, reaches, stands_in, step, text_of, value_or_nothing}
use Rattle.es_selectors.specs.Sights.{Sight}
use Rattle.es_selectors.proofs.AtomLemmas.{has_holds, is_holds, not_holds}

-- a node in both, or in none
abbrev pub BothOrNone : {P Q : Type 0} → (P → Q → Type 0) → Option P → Option Q → Type 0
BothOrNone alike None None = Unit {0}
BothOrNone alike None (Some q) = ⊥
BothOrNone alike (Some p) None = ⊥
BothOrNone alike (Some p) (Some q) = alike p q

abbrev pub SameTests : {P Q : Type 0} → (P → Q → Type 0) → (P → Bool) → (Q → Bool) → Type 0
SameTests {P} {Q} alike one other = (p : P) (q : Q) → alike p q → one p ≡ other q

pub record LookAlike {P Q : Type 0} (s : Sight P) (t : Sight Q) (alike : P → Q → Type 0) : Type 0 where
  pub kind : (p : P) (q : Q) → alike p q → s.kind p ≡ t.kind q
  pub value : (p : P) (q : Q) → alike p q → (field : ℕ) → s.value p field ≡ t.value q field
  pub count : (p : P) (q : Q) → alike p q → (field : ℕ) → s.count p field ≡ t.count q field
  pub child : (p : P) (q : Q) → alike p q → (field index : ℕ) → BothOrNone alike (s.child p field index) (t.child q field index)
  pub parent : (p : P) (q : Q) → alike p q → BothOrNone alike (s.parent p) (t.parent q)
  pub stands_in : (p : P) (q : Q) → alike p q → (field : ℕ) → s.stands_in p field ≡ t.stands_in q field
  pub is_nth : (p : P) (q : Q) → alike p q → (number : ℕ) → s.is_nth p number ≡ t.is_nth q number
  pub is_nth_last : (p : P) (q : Q) → alike p q → (number : ℕ) → s.is_nth_last p number ≡ t.is_nth_last q number
  pub previous : (p : P) (q : Q) → alike p q → BothOrNone alike (s.previous p) (t.previous q)
  pub earlier : (p : P) (q : Q) → alike p q → (one : P → Bool) (other : Q → Bool) → SameTests alike one other →
      list_any one (s.earlier p) ≡ list_any other (t.earlier q)
  pub above : (p : P) (q : Q) → alike p q → (one : P → Bool) (other : Q → Bool) → SameTests alike one other →
      list_any one (s.above p) ≡ list_any other (t.above q)
  pub below : (p : P) (q : Q) → alike p q → (one : P → Bool) (other : Q → Bool) → SameTests alike one other →
      list_any one (s.below p) ≡ list_any other (t.below q)

module _ {P Q : Type 0} (s : Sight P) (t : Sight Q) (alike : P → Q → Type 0) (look : LookAlike s t alike) where
  same_of : (one : P → Bool) (other : Q → Bool) → SameTests alike one other → (a : Option P) (b : Option Q) → BothOrNone alike a b → holds_of one a ≡ holds_of other b
  same_of one other same None None both = refl
  same_of one other same None (Some q) both = absurd both
  same_of one other same (Some p) None both = absurd both
  same_of one other same (Some p) (Some q) both = same p q both

  in_some_field : (p : P) (q : Q) → alike p q → (o : Option ℕ) → option_map_or (s.stands_in p) o false ≡ option_map_or (t.stands_in q) o false
  in_some_field p q r None = refl
  in_some_field p q r (Some field) = look.stands_in p q r field

  stands_same : (name : List ℕ) → SameTests alike (stands_in s name) (stands_in t name)
  stands_same name p q r =
      same_of
      (λ parent. option_map_or (s.stands_in p) (field_index (s.kind parent) (encode_utf8_all name)) false)
      (λ parent. option_map_or (t.stands_in q) (field_index (t.kind parent) (encode_utf8_all name)) false)
      (λ x y u. ap (λ k. option_map_or (s.stands_in p) (field_index k (encode_utf8_all name)) false) (look.kind x y u) ∙ in_some_field p q r (field_index (t.kind y) (encode_utf8_all name)))
      (s.parent p) (t.parent q) (look.parent p q r)

  kind_same : (word : List ℕ) → SameTests alike (has_kind s word) (has_kind t word)
  kind_same word p q r = ap (λ k. option_eq nat_eq (kind_named word) (Some k)) (look.kind p q r)

  group_same : (group : Group) → SameTests alike (in_group s group) (in_group t group)
  group_same group p q r = λ i.
      word_in_group group (kind_word (look.kind p q r i))
      && not (kind_same (codes "Identifier") p q r i
      && same_of (has_kind s (codes "MetaProperty")) (has_kind t (codes "MetaProperty")) (kind_same (codes "MetaProperty")) (s.parent p) (t.parent q) (look.parent p q r) i)

  -- what was found at the end of the same names
  abbrev FoundAlike : Found P → Found Q → Type 0
  FoundAlike (Node p) (Node q) = alike p q
  FoundAlike (Field p field) (Field q other) = alike p q × (field ≡ other)
  FoundAlike Nothing Nothing = Unit {0}
  FoundAlike (KindWord kind) (KindWord other) = kind ≡ other
  FoundAlike (Value value) (Value other) = value ≡ other
  FoundAlike (Count count) (Count other) = count ≡ other
  FoundAlike _ _ = ⊥

  node_alike : (a : Option P) (b : Option Q) → BothOrNone alike a b → FoundAlike (node_or_nothing a) (node_or_nothing b)
  node_alike None None both = tt
  node_alike None (Some q) both = absurd both
  node_alike (Some p) None both = absurd both
  node_alike (Some p) (Some q) both = both

  value_alike : (a : Option AttributeValue) → FoundAlike (value_or_nothing a) (value_or_nothing a)
  value_alike None = tt
  value_alike (Some value) = refl

  count_alike : (a : Option ℕ) → FoundAlike (count_or_nothing a) (count_or_nothing a)
  count_alike None = tt
  count_alike (Some count) = refl

  field_alike : (p : P) (q : Q) → alike p q → (field : ℕ) (held : Option Holds) → FoundAlike (in_field s p field held) (in_field t q field held)
  field_alike p q r field None = subst (λ v. FoundAlike (value_or_nothing (s.value p field)) (value_or_nothing v)) (look.value p q r field) (value_alike (s.value p field))
  field_alike p q r field (Some One) = node_alike (s.child p field 0) (t.child q field 0) (look.child p q r field 0)
  field_alike p q r field (Some Optional) = node_alike (s.child p field 0) (t.child q field 0) (look.child p q r field 0)
  field_alike p q r field (Some Many) = (r, refl)

  named_alike : (p : P) (q : Q) → alike p q → (o : Option ℕ) → FoundAlike (in_named s p o) (in_named t q o)
  named_alike p q r None = tt
  named_alike p q r (Some field) =
      subst (λ k. FoundAlike (in_field s p field (held_by (s.kind p) field)) (in_field t q field (held_by k field))) (look.kind p q r)
      (field_alike p q r field (held_by (s.kind p) field))

  of_node_alike : (p : P) (q : Q) → alike p q → (name : List ℕ) → FoundAlike (of_node s p name) (of_node t q name)
  of_node_alike p q r name =
      elim (is_word "type" name) as (λ b. FoundAlike
      (cond b (KindWord (s.kind p)) (in_named s p (field_index (s.kind p) name)))
      (cond b (KindWord (t.kind q)) (in_named t q (field_index (t.kind q) name)))) [
        | true ↦ look.kind p q r
        | false ↦ subst (λ k. FoundAlike (in_named s p (field_index (s.kind p) name)) (in_named t q (field_index k name))) (look.kind p q r) (named_alike p q r (field_index (s.kind p) name))
      ]

  numbered_alike : (p : P) (q : Q) → alike p q → (field : ℕ) (o : Option ℕ) →
      FoundAlike (option_map_or (λ index. node_or_nothing (s.child p field index)) o Nothing) (option_map_or (λ index. node_or_nothing (t.child q field index)) o Nothing)
  numbered_alike p q r field None = tt
  numbered_alike p q r field (Some index) = node_alike (s.child p field index) (t.child q field index) (look.child p q r field index)

  of_field_alike : (p : P) (q : Q) → alike p q → (field : ℕ) (name : List ℕ) → FoundAlike (of_field s p field name) (of_field t q field name)
  of_field_alike p q r field name =
      elim (is_word "length" name) as (λ b. FoundAlike
      (cond b (count_or_nothing (s.count p field)) (option_map_or (λ index. node_or_nothing (s.child p field index)) (decimal_of name) Nothing))
      (cond b (count_or_nothing (t.count q field)) (option_map_or (λ index. node_or_nothing (t.child q field index)) (decimal_of name) Nothing))) [
        | true ↦ subst (λ c. FoundAlike (count_or_nothing (s.count p field)) (count_or_nothing c)) (look.count p q r field) (count_alike (s.count p field))
        | false ↦ numbered_alike p q r field (decimal_of name)
      ]

  step_alike : (a : Found P) (b : Found Q) → FoundAlike a b → (name : List ℕ) → FoundAlike (step s a name) (step t b name)
  step_alike (Node p) (Node q) both name = of_node_alike p q both name
  step_alike (Field p field) (Field q other) both name = subst (λ f. FoundAlike (of_field s p field name) (of_field t q f name)) both.1 (of_field_alike p q both.0 field name)
  step_alike Nothing Nothing both name = tt
  step_alike (KindWord kind) (KindWord other) both name = tt
  step_alike (Value value) (Value other) both name = tt
  step_alike (Count count) (Count other) both name = tt
  step_alike _ _ both name = absurd both

  found_alike : (names : List (List ℕ)) (a : Found P) (b : Found Q) → FoundAlike a b →
      FoundAlike (fold (λ at name. step s at (encode_utf8_all name)) a names) (fold (λ at name. step t at (encode_utf8_all name)) b names)
  found_alike [] a b both = both
  found_alike (name ∷ names) a b both = found_alike names _ _ (step_alike a b both (encode_utf8_all name))

  text_same : (a : Found P) (b : Found Q) → FoundAlike a b → text_of a ≡ text_of b
  text_same (Node p) (Node q) both = refl
  text_same (Field p field) (Field q other) both = refl
  text_same Nothing Nothing both = refl
  text_same (KindWord kind) (KindWord other) both = ap (λ k. text_of {P = P} (KindWord k)) both
  text_same (Value value) (Value other) both = ap (λ v. text_of {P = P} (Value v)) both ∙ value_text other
    where
      value_text : (v : AttributeValue) → text_of {P = P} (Value v) ≡ text_of {P = Q} (Value v)
      value_text (Flag flag) = refl
      value_text (Words words) = refl
  text_same (Count count) (Count other) both = ap (λ c. text_of {P = P} (Count c)) both
  text_same _ _ both = absurd both

  there_same : (a : Found P) (b : Found Q) → FoundAlike a b → is_there a ≡ is_there b
  there_same (Node p) (Node q) both = refl
  there_same (Field p field) (Field q other) both = refl
  there_same Nothing Nothing both = refl
  there_same (KindWord kind) (KindWord other) both = refl
  there_same (Value value) (Value other) both = refl
  there_same (Count count) (Count other) both = refl
  there_same _ _ both = absurd both

  length_same : (test : ℕ → Bool) (a : Found P) (b : Found Q) → FoundAlike a b → is_length test a ≡ is_length test b
  length_same test (Node p) (Node q) both = refl
  length_same test (Field p field) (Field q other) both = refl
  length_same test Nothing Nothing both = refl
  length_same test (KindWord kind) (KindWord other) both = refl
  length_same test (Value value) (Value other) both = refl
  length_same test (Count count) (Count other) both = ap test both
  length_same test _ _ both = absurd both

  meets_same : (condition : Condition) (a : Found P) (b : Found Q) → FoundAlike a b → meets condition a ≡ meets condition b
  meets_same IsThere a b both = there_same a b both
  meets_same (Is text) a b both = ap (λ o. option_eq bytes_eq o (Some (encode_utf8_all text))) (text_same a b both)
  meets_same (IsNot text) a b both = ap (λ o. not (option_eq bytes_eq o (Some (encode_utf8_all text)))) (text_same a b both)
  meets_same (Compares comparison number) a b both = length_same (λ count. compares comparison count number) a b both

  reaches_same : (joined : Combinator) (one : P → Bool) (other : Q → Bool) → SameTests alike one other → SameTests alike (reaches s joined one) (reaches t joined other)
  reaches_same Descendant one other same p q r = look.above p q r one other same
  reaches_same Child one other same p q r = same_of one other same (s.parent p) (t.parent q) (look.parent p q r)
  reaches_same Next one other same p q r = same_of one other same (s.previous p) (t.previous q) (look.previous p q r)
  reaches_same Later one other same p q r = look.earlier p q r one other same

  abbrev AtomSame : Atom → Type 0
  AtomSame atom = SameTests alike (atom_holds s atom) (atom_holds t atom)

  abbrev Proved : Type 0
  Proved = (atom : Atom) × AtomSame atom

  abbrev atoms_in : List Proved → List Atom
  atoms_in = map (λ e. e.0)

  abbrev links_in : List (Link Proved) → List (Link Atom)
  links_in = map (former-Atom-Not-0-at-5.map Proved Atom (λ e. e.0))

  abbrev chains_in : List (Chain Proved) → List (Chain Atom)
  chains_in = former-Atom-Not-0.map Proved Atom (λ e. e.0)

  compound_same : (atoms : List Proved) → SameTests alike (compound_holds s (atom_holds s) (atoms_in atoms)) (compound_holds t (atom_holds t) (atoms_in atoms))
  compound_same [] p q r = refl
  compound_same (atom ∷ atoms) p q r = λ i. atom.1 p q r i && compound_same atoms p q r i

  links_same : (links : List (Link Proved)) (one : P → Bool) (other : Q → Bool) → SameTests alike one other →
      SameTests alike (fold (link_holds s (atom_holds s)) one (links_in links)) (fold (link_holds t (atom_holds t)) other (links_in links))
  links_same [] one other same = same
  links_same (link ∷ links) one other same =
      links_same links _ _ (λ p q r i. compound_same link.compound p q r i && reaches_same link.combinator one other same p q r i)

  any_same : (chains : List (Chain Proved)) → SameTests alike (any_holds s (atom_holds s) (chains_in chains)) (any_holds t (atom_holds t) (chains_in chains))
  any_same [] p q r = refl
  any_same (chain ∷ chains) p q r = λ i.
      links_same chain.links (compound_holds s (atom_holds s) (atoms_in chain.first)) (compound_holds t (atom_holds t) (atoms_in chain.first)) (compound_same chain.first) p q r i
      || any_same chains p q r i

  layer_same : (layer : Atom-F Proved) → AtomSame (roll-Atom (map-Atom Proved Atom (λ e. e.0) layer))
  layer_same Atom-F.Any p q r =
      ap (λ h. h p) (fold-roll-Atom (P → Bool) (atom_step s) Atom-F.Any) ∙ sym (ap (λ h. h q) (fold-roll-Atom (Q → Bool) (atom_step t) Atom-F.Any))
  layer_same (Atom-F.Kind named) p q r =
      ap (λ h. h p) (fold-roll-Atom (P → Bool) (atom_step s) (Atom-F.Kind named))
      ∙ ap (λ k. option_eq nat_eq named (Some k)) (look.kind p q r)
      ∙ sym (ap (λ h. h q) (fold-roll-Atom (Q → Bool) (atom_step t) (Atom-F.Kind named)))
  layer_same (Atom-F.Attribute names condition) p q r =
      ap (λ h. h p) (fold-roll-Atom (P → Bool) (atom_step s) (Atom-F.Attribute names condition))
      ∙ meets_same condition (found s names p) (found t names q) (found_alike names (Node p) (Node q) r)
      ∙ sym (ap (λ h. h q) (fold-roll-Atom (Q → Bool) (atom_step t) (Atom-F.Attribute names condition)))
  layer_same (Atom-F.Field name) p q r =
      ap (λ h. h p) (fold-roll-Atom (P → Bool) (atom_step s) (Atom-F.Field name))
      ∙ stands_same name p q r
      ∙ sym (ap (λ h. h q) (fold-roll-Atom (Q → Bool) (atom_step t) (Atom-F.Field name)))
  layer_same (Atom-F.FieldOf outer inner) p q r =
      ap (λ h. h p) (fold-roll-Atom (P → Bool) (atom_step s) (Atom-F.FieldOf outer inner))
      ∙ (λ i. stands_same inner p q r i && same_of (stands_in s outer) (stands_in t outer) (stands_same outer) (s.parent p) (t.parent q) (look.parent p q r) i)
      ∙ sym (ap (λ h. h q) (fold-roll-Atom (Q → Bool) (atom_step t) (Atom-F.FieldOf outer inner)))
  layer_same (Atom-F.Group group) p q r =
      ap (λ h. h p) (fold-roll-Atom (P → Bool) (atom_step s) (Atom-F.Group group))
      ∙ group_same group p q r
      ∙ sym (ap (λ h. h q) (fold-roll-Atom (Q → Bool) (atom_step t) (Atom-F.Group group)))
  layer_same (Atom-F.Not chains) p q r =
      not_holds s (chains_in chains) p ∙ ap not (any_same chains p q r) ∙ sym (not_holds t (chains_in chains) q)
  layer_same (Atom-F.Is chains) p q r =
      is_holds s (chains_in chains) p ∙ any_same chains p q r ∙ sym (is_holds t (chains_in chains) q)
  layer_same (Atom-F.Has chains) p q r =
      has_holds s (chains_in chains) p
      ∙ look.below p q r (any_holds s (atom_holds s) (chains_in chains)) (any_holds t (atom_holds t) (chains_in chains)) (any_same chains)
      ∙ sym (has_holds t (chains_in chains) q)
  layer_same (Atom-F.NthChild number) p q r =
      ap (λ h. h p) (fold-roll-Atom (P → Bool) (atom_step s) (Atom-F.NthChild number))
      ∙ look.is_nth p q r number
      ∙ sym (ap (λ h. h q) (fold-roll-Atom (Q → Bool) (atom_step t) (Atom-F.NthChild number)))
  layer_same (Atom-F.NthLastChild number) p q r =
      ap (λ h. h p) (fold-roll-Atom (P → Bool) (atom_step s) (Atom-F.NthLastChild number))
      ∙ look.is_nth_last p q r number
      ∙ sym (ap (λ h. h q) (fold-roll-Atom (Q → Bool) (atom_step t) (Atom-F.NthLastChild number)))

  atom_same : (atom : Atom) → AtomSame atom
  atom_same = ind-Atom AtomSame (λ x y is. subst (λ z. AtomSame (roll-Atom z)) is (layer_same y))

  compounds_same : (atoms : List Atom) → SameTests alike (compound_holds s (atom_holds s) atoms) (compound_holds t (atom_holds t) atoms)
  compounds_same [] p q r = refl
  compounds_same (atom ∷ atoms) p q r = λ i. atom_same atom p q r i && compounds_same atoms p q r i

  all_links_same : (links : List (Link Atom)) (one : P → Bool) (other : Q → Bool) → SameTests alike one other →
      SameTests alike (fold (link_holds s (atom_holds s)) one links) (fold (link_holds t (atom_holds t)) other links)
  all_links_same [] one other same = same
  all_links_same (link ∷ links) one other same =
      all_links_same links _ _ (λ p q r i. compounds_same link.compound p q r i && reaches_same link.combinator one other same p q r i)

  pub chains_same : (chains : List (Chain Atom)) → SameTests alike (chains_match s chains) (chains_match t chains)
  chains_same [] p q r = refl
  chains_same (chain ∷ chains) p q r = λ i.
      all_links_same chain.links (compound_holds s (atom_holds s) chain.first) (compound_holds t (atom_holds t) chain.first) (compounds_same chain.first) p q r i
      || chains_same chains p q r i
