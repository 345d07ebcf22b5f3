-- Where a production has no reading.
use Rattle.std.specs.Prelude.{ℕ, ◌≡◌, true, List, Some, None, codes}
use Rattle.es_selectors.specs.declared.selector.Atom.{Atom}
use Rattle.es_selectors.specs.declared.selector.Chain.{Chain}
use Rattle.es_selectors.specs.declared.selector.Combinator.{Combinator}
use Rattle.es_selectors.specs.declared.word.Nest.{Nest}
use Rattle.es_selectors.specs.Lexical.{after, name, past_blanks}
use Rattle.es_selectors.specs.Spelling.{SpellsAtom, SpellsChain, SpellsCompound, SpellsList, SpellsNames, begins_atom, combinator, condition, nest_at, plain_atom}

pub data RefusesNames : List ℕ → Type 0 where
  no_name : {text : List ℕ} → name text ≡ None → RefusesNames text
  no_names : {text one behind next : List ℕ} →
      name text ≡ Some (one, behind) → after (codes ".") behind ≡ Some next → RefusesNames next → RefusesNames text

mutual
  pub data RefusesAtom : List ℕ → Type 0 where
    not_plain : {text : List ℕ} →
        after (codes "[") text ≡ None → nest_at text ≡ None → plain_atom text ≡ None → RefusesAtom text
    no_path : {text behind : List ℕ} → after (codes "[") text ≡ Some behind → RefusesNames behind → RefusesAtom text
    no_condition : {text behind next : List ℕ} {names : List (List ℕ)} →
        after (codes "[") text ≡ Some behind → SpellsNames behind names next → condition next ≡ None → RefusesAtom text
    no_group : {text behind : List ℕ} {word : Nest} →
        nest_at text ≡ Some (word, behind) → RefusesGroup behind → RefusesAtom text

  pub data RefusesGroup : List ℕ → Type 0 where
    no_list : {text : List ℕ} → RefusesList (past_blanks text) → RefusesGroup text
    not_closed : {text behind : List ℕ} {chains : List (Chain Atom)} →
        SpellsList (past_blanks text) chains behind → after (codes ")") (past_blanks behind) ≡ None → RefusesGroup text

  pub data RefusesList : List ℕ → Type 0 where
    no_chain : {text : List ℕ} → RefusesChain text → RefusesList text
    no_chains : {text behind next : List ℕ} {chain : Chain Atom} →
        SpellsChain text chain behind → after (codes ",") (past_blanks behind) ≡ Some next →
        RefusesList (past_blanks next) → RefusesList text

  pub data RefusesChain : List ℕ → Type 0 where
    no_first : {text : List ℕ} → RefusesCompound text → RefusesChain text
    bad_links : {text behind : List ℕ} {first : List Atom} →
        SpellsCompound text first behind → RefusesLinks behind → RefusesChain text

  pub data RefusesLinks : List ℕ → Type 0 where
    no_compound : {text behind : List ℕ} {joined : Combinator} →
        combinator text ≡ Some (joined, behind) → RefusesCompound behind → RefusesLinks text
    no_links : {text behind next : List ℕ} {joined : Combinator} {compound : List Atom} →
        combinator text ≡ Some (joined, behind) → SpellsCompound behind compound next → RefusesLinks next → RefusesLinks text

  pub data RefusesCompound : List ℕ → Type 0 where
    no_atom : {text : List ℕ} → RefusesAtom text → RefusesCompound text
    no_atoms : {text behind : List ℕ} {atom : Atom} →
        SpellsAtom text atom behind → begins_atom behind ≡ true → RefusesCompound behind → RefusesCompound text
