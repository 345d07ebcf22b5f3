-- How much there is to test in an atom: a measure for the recursion over it.
use Rattle.std.proofs.Common.{◌≡◌, ℕ, zero, suc, ◌+◌, ◌<◌, ◌≤◌, List, [], ◌∷◌, ◌++◌, get_or, length, map, refl, ap, ◌∙◌, arith}
use Rattle.es_selectors.specs.declared.selector.Atom.{Atom}
use Rattle.es_selectors.specs.declared.selector.Atom.TheOpen.{Atom-F}
use Rattle.es_selectors.specs.declared.selector.Atom.TheFolds.{fold-Atom, fold-roll-Atom}
use Rattle.es_selectors.specs.declared.selector.Atom.TheShapes.{former-Atom-Not-0, former-Atom-Not-0-at-5}
use Rattle.es_selectors.specs.declared.selector.Atom.TheViews.{roll-Atom}
use Rattle.es_selectors.specs.declared.selector.Chain.{Chain}
use Rattle.es_selectors.specs.declared.selector.Link.{Link}

module _ {A : Type 0} (weight : A → ℕ) where
  abbrev pub atoms_weight : List A → ℕ
  atoms_weight [] = 1
  atoms_weight (atom ∷ atoms) = 1 + weight atom + atoms_weight atoms

  abbrev pub links_weight : List (Link A) → ℕ
  links_weight [] = 0
  links_weight (link ∷ links) = 1 + atoms_weight link.compound + links_weight links

  abbrev pub chain_weight : List A → List (Link A) → ℕ
  chain_weight first links = 2 + atoms_weight first + links_weight links

  abbrev pub chains_weight : List (Chain A) → ℕ
  chains_weight [] = 1
  chains_weight (chain ∷ chains) = 1 + chain_weight chain.first chain.links + chains_weight chains

  pub atoms_some : (atoms : List A) → 1 ≤ atoms_weight atoms
  atoms_some [] = omega arith
  atoms_some (atom ∷ atoms) = omega arith

  pub links_weight-append : (links : List (Link A)) (link : Link A) → links_weight (links ++ link ∷ []) ≡ links_weight links + 1 + atoms_weight link.compound
  links_weight-append [] link = omega arith
  links_weight-append (one ∷ links) link = omega (arith, links_weight-append links link)

abbrev pub nested_weight : List (Chain ℕ) → ℕ
nested_weight chains = 3 + chains_weight (λ weight. weight) chains

abbrev pub weight_step : Atom-F ℕ → ℕ
weight_step Atom-F.Any = 1
weight_step (Atom-F.Kind kind) = 1
weight_step (Atom-F.Attribute names condition) = 1
weight_step (Atom-F.Field name) = 1
weight_step (Atom-F.FieldOf outer inner) = 1
weight_step (Atom-F.Group group) = 1
weight_step (Atom-F.Not chains) = nested_weight chains
weight_step (Atom-F.Is chains) = nested_weight chains
weight_step (Atom-F.Has chains) = nested_weight chains
weight_step (Atom-F.NthChild number) = 1
weight_step (Atom-F.NthLastChild number) = 1

abbrev pub weight : Atom → ℕ
weight = fold-Atom ℕ weight_step

abbrev weighed : List (Chain Atom) → List (Chain ℕ)
weighed = former-Atom-Not-0.map Atom ℕ weight

weighed_atoms : (atoms : List Atom) → atoms_weight (λ w. w) (map weight atoms) ≡ atoms_weight weight atoms
weighed_atoms [] = refl
weighed_atoms (atom ∷ atoms) = ap (λ w. 1 + weight atom + w) (weighed_atoms atoms)

weighed_links : (links : List (Link Atom)) → links_weight (λ w. w) (map (former-Atom-Not-0-at-5.map Atom ℕ weight) links) ≡ links_weight weight links
weighed_links [] = refl
weighed_links (link ∷ links) = omega (arith, weighed_atoms link.compound, weighed_links links)

weighed_is : (chains : List (Chain Atom)) → chains_weight (λ w. w) (weighed chains) ≡ chains_weight weight chains
weighed_is [] = refl
weighed_is (chain ∷ chains) = omega (arith, weighed_atoms chain.first, weighed_links chain.links, weighed_is chains)

pub not_weight : (chains : List (Chain Atom)) → weight (roll-Atom (Atom-F.Not chains)) ≡ 3 + chains_weight weight chains
not_weight chains = fold-roll-Atom ℕ weight_step (Atom-F.Not chains) ∙ ap (λ w. 3 + w) (weighed_is chains)

pub is_weight : (chains : List (Chain Atom)) → weight (roll-Atom (Atom-F.Is chains)) ≡ 3 + chains_weight weight chains
is_weight chains = fold-roll-Atom ℕ weight_step (Atom-F.Is chains) ∙ ap (λ w. 3 + w) (weighed_is chains)

pub has_weight : (chains : List (Chain Atom)) → weight (roll-Atom (Atom-F.Has chains)) ≡ 3 + chains_weight weight chains
has_weight chains = fold-roll-Atom ℕ weight_step (Atom-F.Has chains) ∙ ap (λ w. 3 + w) (weighed_is chains)

-- an item weighs less than all
pub atom_less : (atoms : List Atom) (k : ℕ) (atom : Atom) → k < length atoms → atom ≡ get_or atoms k atom → weight atom < atoms_weight weight atoms
atom_less [] k atom within is = absurd (omega arith)
atom_less (one ∷ atoms) zero atom within is = let same : weight atom ≡ weight one = ap weight is in omega (arith, atoms_some weight atoms)
atom_less (one ∷ atoms) (suc k) atom within is = let less = atom_less atoms k atom (omega arith) is in omega arith

pub chain_less : (chains : List (Chain Atom)) (k : ℕ) (chain : Chain Atom) → k < length chains → chain ≡ get_or chains k chain →
    chain_weight weight chain.first chain.links < chains_weight weight chains
chain_less [] k chain within is = absurd (omega arith)
chain_less (one ∷ chains) zero chain within is =
    let same : chain_weight weight chain.first chain.links ≡ chain_weight weight one.first one.links = ap (λ (c : Chain Atom). chain_weight weight c.first c.links) is in omega arith
chain_less (one ∷ chains) (suc k) chain within is = let less = chain_less chains k chain (omega arith) is in omega arith
