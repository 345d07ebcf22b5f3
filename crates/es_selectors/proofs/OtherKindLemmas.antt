-- A selector that asks for other kinds matches no node of a kind.
use Rattle.std.proofs.Common.{◌≡◌, ℕ, zero, suc, Bool, true, false, not, ◌&&◌, ◌||◌, List, [], ◌∷◌, fold, nat_eq, refl, sym, ap, ◌∙◌, arith}
use Rattle.std.specs.Prelude.{All, Some}
use Rattle.std.specs.List.{list_all, list_any}
use Rattle.std.specs.Option.{option_eq}
use Rattle.std.proofs.lemmas.Bool.{and_parts}
use Rattle.es_selectors.specs.declared.selector.Atom.{Atom, out-Atom}
use Rattle.es_selectors.specs.declared.selector.Atom.TheOpen.{Atom-F}
use Rattle.es_selectors.specs.declared.selector.Atom.TheFolds.{fold-roll-Atom}
use Rattle.es_selectors.specs.declared.selector.Atom.TheViews.{roll-Atom, roll-out-Atom}
use Rattle.es_selectors.specs.declared.selector.Chain.{Chain}
use Rattle.es_selectors.specs.declared.selector.Link.{Link}
use Rattle.es_selectors.specs.KindAtoms.{NamesOther, asks_other, last_compound, layer_asks_other, names_other}
use Rattle.es_selectors.specs.Matches.{any_holds, atom_holds, atom_step, chain_holds, chains_match, compound_holds, link_holds, reaches}
use Rattle.es_selectors.specs.Sights.{Sight}

not_true : (b : Bool) → not b ≡ true → b ≡ false
not_true true e = cc
not_true false e = refl

module _ {P : Type 0} (sight : Sight P) (kind : ℕ) (node : P) (same : sight.kind node ≡ kind) where
  layer_fails : (layer : Atom-F Atom) → layer_asks_other kind layer ≡ true → atom_holds sight (roll-Atom layer) node ≡ false
  layer_fails (Atom-F.Kind named) e =
      ap (λ holds. holds node) (fold-roll-Atom (P → Bool) (atom_step sight) (Atom-F.Kind named))
      ∙ ap (λ k. option_eq nat_eq named (Some k)) same ∙ not_true (option_eq nat_eq named (Some kind)) e
  layer_fails Atom-F.Any e = cc
  layer_fails (Atom-F.Attribute names condition) e = cc
  layer_fails (Atom-F.Field name) e = cc
  layer_fails (Atom-F.FieldOf outer inner) e = cc
  layer_fails (Atom-F.Group group) e = cc
  layer_fails (Atom-F.Not chains) e = cc
  layer_fails (Atom-F.Is chains) e = cc
  layer_fails (Atom-F.Has chains) e = cc
  layer_fails (Atom-F.NthChild number) e = cc
  layer_fails (Atom-F.NthLastChild number) e = cc

  atom_fails : (atom : Atom) → asks_other kind atom ≡ true → atom_holds sight atom node ≡ false
  atom_fails atom e = ap (λ a. atom_holds sight a node) (sym (roll-out-Atom atom)) ∙ layer_fails (out-Atom atom) e

  compound_fails : (atoms : List Atom) → list_any (asks_other kind) atoms ≡ true → compound_holds sight (atom_holds sight) atoms node ≡ false
  compound_fails [] e = cc
  compound_fails (atom ∷ atoms) e =
      elim (asks_other kind atom) as (λ b. asks_other kind atom ≡ b → (b || list_any (asks_other kind) atoms) ≡ true → (atom_holds sight atom node && compound_holds sight (atom_holds sight) atoms node) ≡ false) [
        | true ↦ λ yes is. ap (λ b. b && compound_holds sight (atom_holds sight) atoms node) (atom_fails atom yes)
        | false ↦ λ no is. and_second (atom_holds sight atom node) (compound_holds sight (atom_holds sight) atoms node) (compound_fails atoms is)
      ] refl e
    where
      and_second : (a b : Bool) → b ≡ false → (a && b) ≡ false
      and_second true b e = e
      and_second false b e = refl

  links_fail : (links : List (Link Atom)) (compound : List Atom) (before : P → Bool) →
      (compound_holds sight (atom_holds sight) compound node ≡ false → before node ≡ false) →
      compound_holds sight (atom_holds sight) (fold (λ (c : List Atom) (link : Link Atom). link.compound) compound links) node ≡ false →
      fold (link_holds sight (atom_holds sight)) before links node ≡ false
  links_fail [] compound before fails e = fails e
  links_fail (link ∷ links) compound before fails e =
      links_fail links link.compound (link_holds sight (atom_holds sight) before link) (λ none. ap (λ b. b && reaches sight link.combinator before node) none) e

  chain_fails : (chain : Chain Atom) → names_other kind chain ≡ true → chain_holds sight (atom_holds sight) chain node ≡ false
  chain_fails chain e =
      links_fail chain.links chain.first (compound_holds sight (atom_holds sight) chain.first) (λ none. none) (compound_fails (last_compound chain) e)

  pub chains_fail : (chains : List (Chain Atom)) → list_all (names_other kind) chains ≡ true → chains_match sight chains node ≡ false
  chains_fail [] e = refl
  chains_fail (chain ∷ chains) e =
      ap (λ b. b || any_holds sight (atom_holds sight) chains node) (chain_fails chain (and_parts _ _ e).0) ∙ chains_fail chains (and_parts _ _ e).1

pub all_other : (kind : ℕ) (chains : List (Chain Atom)) → list_all (names_other kind) chains ≡ true → All (NamesOther kind) chains
all_other kind [] e k d within = absurd (omega arith)
all_other kind (chain ∷ chains) e zero d within = (and_parts _ _ e).0
all_other kind (chain ∷ chains) e (suc k) d within = all_other kind chains (and_parts _ _ e).1 k d (omega arith)

pub other_all : (kind : ℕ) (chains : List (Chain Atom)) → All (NamesOther kind) chains → list_all (names_other kind) chains ≡ true
other_all kind [] all = refl
other_all kind (chain ∷ chains) all =
    rw (all 0 chain (omega arith), other_all kind chains (λ k d within. all (suc k) d (omega arith))) refl

pub not_false : (b : Bool) → not b ≡ false → b ≡ true
not_false true e = refl
not_false false e = cc
