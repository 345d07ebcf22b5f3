-- One layer of what an atom means.
use Rattle.std.proofs.Common.{◌≡◌, Bool, not, ◌&&◌, ◌||◌, List, [], ◌∷◌, ◌++◌, fold, map, refl, ap, ◌∙◌}
use Rattle.std.specs.List.{list_any}
use Rattle.es_selectors.specs.declared.selector.Atom.{Atom}
use Rattle.es_selectors.specs.declared.selector.Atom.TheOpen.{Atom-F}
use Rattle.es_selectors.specs.declared.selector.Atom.TheFolds.{fold-roll-Atom}
use Rattle.es_selectors.specs.declared.selector.Atom.TheShapes.{former-Atom-Not-0, former-Atom-Not-0-at-5}
use Rattle.es_selectors.specs.declared.selector.Atom.TheViews.{roll-Atom}
use Rattle.es_selectors.specs.declared.selector.Chain.{Chain}
use Rattle.es_selectors.specs.declared.selector.Link.{Link}
use Rattle.es_selectors.specs.Matches.{any_holds, atom_holds, atom_step, compound_holds, link_holds, reaches}
use Rattle.es_selectors.specs.Sights.{Sight}

-- a fold goes on with an item at the end
pub fold-last : {A B : Type 0} (f : B → A → B) (start : B) (items : List A) (last : A) → fold f start (items ++ last ∷ []) ≡ f (fold f start items) last
fold-last f start [] last = refl
fold-last f start (item ∷ items) last = fold-last f (f start item) items last

module _ {P : Type 0} (sight : Sight P) (f : Atom → P → Bool) where
  abbrev layered : List (Chain Atom) → List (Chain (P → Bool))
  layered = former-Atom-Not-0.map Atom (P → Bool) f

  compound_layer : (atoms : List Atom) (node : P) → compound_holds sight (λ holds. holds) (map f atoms) node ≡ compound_holds sight f atoms node
  compound_layer [] node = refl
  compound_layer (atom ∷ atoms) node = ap (λ rest. f atom node && rest) (compound_layer atoms node)

  links_layer : (links : List (Link Atom)) (one other : P → Bool) → one ≡ other →
      fold (link_holds sight (λ holds. holds)) one (map (former-Atom-Not-0-at-5.map Atom (P → Bool) f) links) ≡ fold (link_holds sight f) other links
  links_layer [] one other same = same
  links_layer (link ∷ links) one other same =
      links_layer links _ _ (λ i node. compound_layer link.compound node i && reaches sight link.combinator (same i) node)

  any_layer : (chains : List (Chain Atom)) (node : P) → any_holds sight (λ holds. holds) (layered chains) node ≡ any_holds sight f chains node
  any_layer [] node = refl
  any_layer (chain ∷ chains) node = λ i.
      links_layer chain.links (compound_holds sight (λ holds. holds) (map f chain.first)) (compound_holds sight f chain.first) (λ j n. compound_layer chain.first n j) i node
      || any_layer chains node i

module _ {P : Type 0} (sight : Sight P) where
  pub not_holds : (chains : List (Chain Atom)) (node : P) → atom_holds sight (roll-Atom (Atom-F.Not chains)) node ≡ not (any_holds sight (atom_holds sight) chains node)
  not_holds chains node =
      ap (λ holds. holds node) (fold-roll-Atom (P → Bool) (atom_step sight) (Atom-F.Not chains)) ∙ ap not (any_layer sight (atom_holds sight) chains node)

  pub is_holds : (chains : List (Chain Atom)) (node : P) → atom_holds sight (roll-Atom (Atom-F.Is chains)) node ≡ any_holds sight (atom_holds sight) chains node
  is_holds chains node =
      ap (λ holds. holds node) (fold-roll-Atom (P → Bool) (atom_step sight) (Atom-F.Is chains)) ∙ any_layer sight (atom_holds sight) chains node

  pub has_holds : (chains : List (Chain Atom)) (node : P) → atom_holds sight (roll-Atom (Atom-F.Has chains)) node ≡ list_any (any_holds sight (atom_holds sight) chains) (sight.below node)
  has_holds chains node =
      ap (λ holds. holds node) (fold-roll-Atom (P → Bool) (atom_step sight) (Atom-F.Has chains))
      ∙ (λ i. list_any (λ below. any_layer sight (atom_holds sight) chains below i) (sight.below node))
