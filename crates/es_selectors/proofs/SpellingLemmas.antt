-- A text spells one thing at most, and isn't refused besides.
use Rattle.std.proofs.Common.{◌≡◌, ℕ, Bool, true, false, List, [], ◌∷◌, cond, refl, sym, ap, subst, ◌∙◌, arith}
use Rattle.std.specs.Prelude.{Option, Some, None, codes, option_and_then, ◌==◌, ◌≢◌}
use Rattle.std.proofs.lemmas.Bool.Decides.{nat_tests}
use Rattle.es_selectors.specs.declared.selector.Atom.{Atom}
use Rattle.es_selectors.specs.declared.selector.Chain.{Chain}
use Rattle.es_selectors.specs.declared.selector.Link.{Link}
use Rattle.es_selectors.specs.declared.selector.Spelling.{Spelling}
use Rattle.es_selectors.specs.declared.word.Nest.{Nest}
use Rattle.es_selectors.specs.declared.word.Word.{Word}
use Rattle.es_selectors.specs.declared.word.Word.TheVariants as word
use Rattle.es_selectors.specs.Lexical.{Read, after, past_blanks}
use Rattle.es_selectors.specs.Refusals.{RefusesAtom, RefusesChain, RefusesCompound, RefusesGroup, RefusesLinks, RefusesList, RefusesNames, no_name, no_names, not_plain, no_path, no_condition, no_group, no_list, not_closed, no_chain, no_chains, no_first, bad_links, no_compound, no_links, no_atom, no_atoms}
use Rattle.es_selectors.specs.Spelling.{Spells, SpellsOne, ending, SpellsAtom, SpellsChain, SpellsCompound, SpellsGroup, SpellsLinks, SpellsList, SpellsNames, attribute, begins_atom, chain_of, condition, link_of, nest_at, nest_word, nested, plain_atom, plain_word, word_at, one_name, more_names, plain, bracket, nests, in_parentheses, one_chain, more_chains, compounds, no_link, more_links, one_atom, more_atoms}

-- a function gives one thing
again : {A : Type 0} {o : Option A} {x y : A} → o ≡ Some x → o ≡ Some y → x ≡ y
again e f = cc

not_both : {A : Type 0} {o : Option A} {x : A} → o ≡ Some x → o ≡ None → ⊥
not_both e f = cc

first_same : {A : Type 0} {o : Read A} {x y : A} {r s : List ℕ} → o ≡ Some (x, r) → o ≡ Some (y, s) → x ≡ y
first_same {A} e f = ap (λ (p : A × List ℕ). p.0) (again e f)

rest_same : {A : Type 0} {o : Read A} {x y : A} {r s : List ℕ} → o ≡ Some (x, r) → o ≡ Some (y, s) → r ≡ s
rest_same {A} e f = ap (λ (p : A × List ℕ). p.1) (again e f)

-- what a bracket begins is no other atom
bracket_is : (text behind : List ℕ) → after (codes "[") text ≡ Some behind → text ≡ 91 ∷ behind
bracket_is [] behind e = cc
bracket_is (c ∷ cs) behind e =
    elim (c == 91) as (λ b. (c == 91) ≡ b → cond b (Some cs) None ≡ Some behind → c ∷ cs ≡ 91 ∷ behind) [
      | true ↦ λ yes is. let same : c ≡ 91 = grind (arith, nat_tests) in let rest : cs ≡ behind = cc in cc
      | false ↦ λ no is. cc
    ] refl e

bracket_plain : (behind : List ℕ) → plain_atom (91 ∷ behind) ≡ None
unfolding plain_atom
bracket_plain behind = refl

bracket_nest : (behind : List ℕ) → nest_at (91 ∷ behind) ≡ None
unfolding nest_at
bracket_nest behind = refl

bracket_no_plain : (text behind : List ℕ) → after (codes "[") text ≡ Some behind → plain_atom text ≡ None
bracket_no_plain text behind e = ap plain_atom (bracket_is text behind e) ∙ bracket_plain behind

bracket_no_nest : (text behind : List ℕ) → after (codes "[") text ≡ Some behind → nest_at text ≡ None
bracket_no_nest text behind e = ap nest_at (bracket_is text behind e) ∙ bracket_nest behind

-- a word takes a selector or none
nest_no_word : (w : Word) (rest : List ℕ) (x : Nest × List ℕ) → nest_word (w, rest) ≡ Some x → plain_word (w, rest) ≡ None
nest_no_word (word.Nest n) rest x e = refl
nest_no_word (word.Group g) rest x e = cc
nest_no_word word.FirstChild rest x e = cc
nest_no_word word.LastChild rest x e = cc
nest_no_word word.NthChild rest x e = cc
nest_no_word word.NthLastChild rest x e = cc

word_no_plain : (o : Read Word) (x : Nest × List ℕ) → option_and_then nest_word o ≡ Some x → option_and_then plain_word o ≡ None
word_no_plain None x e = refl
word_no_plain (Some (w, rest)) x e = nest_no_word w rest x e

colon_plain : (cs : List ℕ) (x : Nest × List ℕ) → option_and_then nest_word (word_at cs) ≡ Some x → plain_atom (58 ∷ cs) ≡ None
unfolding plain_atom
colon_plain cs x e = word_no_plain (word_at cs) x e

nest_no_plain : (text : List ℕ) (x : Nest × List ℕ) → nest_at text ≡ Some x → plain_atom text ≡ None
unfolding nest_at
nest_no_plain [] x e = cc
nest_no_plain (c ∷ cs) x e =
    elim (c == 58) as (λ b. (c == 58) ≡ b → cond b (option_and_then nest_word (word_at cs)) None ≡ Some x → plain_atom (c ∷ cs) ≡ None) [
      | true ↦ λ yes is. let same : c ≡ 58 = grind (arith, nat_tests) in ap (λ d. plain_atom (d ∷ cs)) same ∙ colon_plain cs x is
      | false ↦ λ no is. cc
    ] refl e

-- two readings are the same where what they stand for is, and what follows them
abbrev Same : {A : Type 0} → A → A → List ℕ → List ℕ → Type 0
Same one other rest more = (one ≡ other) × (rest ≡ more)

pub names_once : {text : List ℕ} {one other : List (List ℕ)} {rest more : List ℕ} →
    SpellsNames text one rest → SpellsNames text other more → Same one other rest more
names_once (one_name e1 d1) (one_name e2 d2) = (ap (λ n. n ∷ []) (first_same e1 e2), rest_same e1 e2)
names_once (one_name {rest = r1} e1 d1) (more_names {behind = b2} e2 d2 x2) =
    let k : b2 ≡ r1 = rest_same e2 e1 in absurd (not_both (ap (after (codes ".")) (sym k) ∙ d2) d1)
names_once (more_names {behind = b1} e1 d1 x1) (one_name {rest = r2} e2 d2) =
    let k : b1 ≡ r2 = rest_same e1 e2 in absurd (not_both (ap (after (codes ".")) (sym k) ∙ d1) d2)
names_once (more_names {one = n1} {behind = b1} {next = t1} {names = s1} e1 d1 x1) (more_names {one = n2} {behind = b2} {next = t2} {rest = r2} {names = s2} e2 d2 x2) =
    let k : b2 ≡ b1 = rest_same e2 e1 in
    let t : t2 ≡ t1 = again (ap (after (codes ".")) (sym k) ∙ d2) d1 in
    let same = names_once x1 (subst (λ u. SpellsNames u s2 r2) t x2) in
    let n : n1 ≡ n2 = first_same e1 e2 in
    (ap (λ m. m ∷ s1) n ∙ ap (λ ms. n2 ∷ ms) same.0, same.1)

names_or_not : {text : List ℕ} {one : List (List ℕ)} {rest : List ℕ} → SpellsNames text one rest → RefusesNames text → ⊥
names_or_not (one_name e1 d1) (no_name e2) = not_both e1 e2
names_or_not (one_name {rest = r1} e1 d1) (no_names {behind = b2} e2 d2 x2) =
    let k : b2 ≡ r1 = rest_same e2 e1 in not_both (ap (after (codes ".")) (sym k) ∙ d2) d1
names_or_not (more_names e1 d1 x1) (no_name e2) = not_both e1 e2
names_or_not (more_names {behind = b1} {next = t1} e1 d1 x1) (no_names {behind = b2} {next = t2} e2 d2 x2) =
    let k : b2 ≡ b1 = rest_same e2 e1 in
    let t : t2 ≡ t1 = again (ap (after (codes ".")) (sym k) ∙ d2) d1 in
    names_or_not x1 (subst RefusesNames t x2)

mutual
  pub atom_once : {text : List ℕ} {one other : Atom} {rest more : List ℕ} → SpellsAtom text one rest → SpellsAtom text other more → Same one other rest more
  atom_once (plain e1) (plain e2) = (first_same e1 e2, rest_same e1 e2)
  atom_once {text} (plain e1) (bracket {behind = b2} d2 x2 c2) = absurd (not_both e1 (bracket_no_plain text b2 d2))
  atom_once {text} (plain e1) (nests {behind = b2} {word = w2} e2 x2) = absurd (not_both e1 (nest_no_plain text (w2, b2) e2))
  atom_once {text} (bracket {behind = b1} d1 x1 c1) (plain e2) = absurd (not_both e2 (bracket_no_plain text b1 d1))
  atom_once {text} (bracket {behind = b1} {next = t1} {names = s1} {asked = q1} d1 x1 c1) (bracket {behind = b2} {next = t2} {names = s2} {asked = q2} d2 x2 c2) =
      let k : b2 ≡ b1 = again d2 d1 in
      let same = names_once x1 (subst (λ u. SpellsNames u s2 t2) k x2) in
      let c : condition t1 ≡ Some (q2, _) = ap condition same.1 ∙ c2 in
      (ap (λ s. attribute s q1) same.0 ∙ ap (λ q. attribute s2 q) (first_same c1 c), rest_same c1 c)
  atom_once {text} (bracket {behind = b1} d1 x1 c1) (nests e2 x2) = absurd (not_both e2 (bracket_no_nest text b1 d1))
  atom_once {text} (nests {behind = b1} {word = w1} e1 x1) (plain e2) = absurd (not_both e2 (nest_no_plain text (w1, b1) e1))
  atom_once {text} (nests e1 x1) (bracket {behind = b2} d2 x2 c2) = absurd (not_both e1 (bracket_no_nest text b2 d2))
  atom_once {text} {one} {other} {rest} {more} (nests {behind = b1} {word = w1} {chains = s1} e1 x1) (nests {behind = b2} {word = w2} {chains = s2} e2 x2) =
      let k : b2 ≡ b1 = rest_same e2 e1 in
      let same = group_once x1 (subst (λ u. SpellsGroup u s2 more) k x2) in
      (ap (λ w. nested w s1) (first_same e1 e2) ∙ ap (nested w2) same.0, same.1)

  pub group_once : {text : List ℕ} {one other : List (Chain Atom)} {rest more : List ℕ} →
      SpellsGroup text one rest → SpellsGroup text other more → Same one other rest more
  group_once (in_parentheses x1 c1) (in_parentheses x2 c2) =
      let same = list_once x1 x2 in (same.0, again (ap (λ b. after (codes ")") (past_blanks b)) (sym same.1) ∙ c1) c2)

  pub list_once : {text : List ℕ} {one other : List (Chain Atom)} {rest more : List ℕ} →
      SpellsList text one rest → SpellsList text other more → Same one other rest more
  list_once (one_chain x1 c1) (one_chain x2 c2) = let same = chain_once x1 x2 in (ap (λ c. c ∷ []) same.0, same.1)
  list_once (one_chain x1 c1) (more_chains y2 c2 x2) =
      let same = chain_once x1 y2 in absurd (not_both (ap (λ b. after (codes ",") (past_blanks b)) same.1 ∙ c2) c1)
  list_once (more_chains y1 c1 x1) (one_chain x2 c2) =
      let same = chain_once y1 x2 in absurd (not_both c1 (ap (λ b. after (codes ",") (past_blanks b)) same.1 ∙ c2))
  list_once {text} {one} {other} {rest} {more} (more_chains {next = t1} {chain = a1} {chains = s1} y1 c1 x1) (more_chains {next = t2} {chain = a2} {chains = s2} y2 c2 x2) =
      let first = chain_once y1 y2 in
      let t : t2 ≡ t1 = again c2 (ap (λ b. after (codes ",") (past_blanks b)) (sym first.1) ∙ c1) in
      let same = list_once x1 (subst (λ u. SpellsList (past_blanks u) s2 more) t x2) in
      (ap (λ a. a ∷ s1) first.0 ∙ ap (λ s. a2 ∷ s) same.0, same.1)

  pub chain_once : {text : List ℕ} {one other : Chain Atom} {rest more : List ℕ} →
      SpellsChain text one rest → SpellsChain text other more → Same one other rest more
  chain_once {text} {one} {other} {rest} {more} (compounds {first = f1} {links = s1} x1 y1) (compounds {first = f2} {links = s2} x2 y2) =
      let first = compound_once x1 x2 in
      let same = links_once y1 (subst (λ u. SpellsLinks u s2 more) (sym first.1) y2) in
      (ap (λ f. chain_of f s1) first.0 ∙ ap (chain_of f2) same.0, same.1)

  pub links_once : {text : List ℕ} {one other : List (Link Atom)} {rest more : List ℕ} →
      SpellsLinks text one rest → SpellsLinks text other more → Same one other rest more
  links_once (no_link e1) (no_link e2) = (refl, refl)
  links_once (no_link e1) (more_links e2 x2 y2) = absurd (not_both e2 e1)
  links_once (more_links e1 x1 y1) (no_link e2) = absurd (not_both e1 e2)
  links_once {text} {one} {other} {rest} {more} (more_links {behind = b1} {joined = j1} {compound = c1} {links = s1} e1 x1 y1) (more_links {behind = b2} {next = t2} {joined = j2} {compound = c2} {links = s2} e2 x2 y2) =
      let k : b2 ≡ b1 = rest_same e2 e1 in
      let j : j1 ≡ j2 = first_same e1 e2 in
      let first = compound_once x1 (subst (λ u. SpellsCompound u c2 t2) k x2) in
      let same = links_once y1 (subst (λ u. SpellsLinks u s2 more) (sym first.1) y2) in
      (ap (λ i. link_of i c1 ∷ s1) j ∙ ap (λ c. link_of j2 c ∷ s1) first.0 ∙ ap (λ s. link_of j2 c2 ∷ s) same.0, same.1)

  pub compound_once : {text : List ℕ} {one other : List Atom} {rest more : List ℕ} →
      SpellsCompound text one rest → SpellsCompound text other more → Same one other rest more
  compound_once (one_atom x1 e1) (one_atom x2 e2) = let same = atom_once x1 x2 in (ap (λ a. a ∷ []) same.0, same.1)
  compound_once (one_atom x1 e1) (more_atoms x2 e2 y2) =
      let same = atom_once x1 x2 in let k = ap begins_atom same.1 in cc
  compound_once (more_atoms x1 e1 y1) (one_atom x2 e2) =
      let same = atom_once x1 x2 in let k = ap begins_atom same.1 in cc
  compound_once {text} {one} {other} {rest} {more} (more_atoms {atom = a1} {atoms = s1} x1 e1 y1) (more_atoms {atom = a2} {atoms = s2} x2 e2 y2) =
      let first = atom_once x1 x2 in
      let same = compound_once y1 (subst (λ u. SpellsCompound u s2 more) (sym first.1) y2) in
      (ap (λ a. a ∷ s1) first.0 ∙ ap (λ s. a2 ∷ s) same.0, same.1)

mutual
  atom_or_not : {text : List ℕ} {one : Atom} {rest : List ℕ} → SpellsAtom text one rest → RefusesAtom text → ⊥
  atom_or_not (plain e1) (not_plain d2 n2 e2) = not_both e1 e2
  atom_or_not {text} (plain e1) (no_path {behind = b2} d2 x2) = not_both e1 (bracket_no_plain text b2 d2)
  atom_or_not {text} (plain e1) (no_condition {behind = b2} d2 x2 c2) = not_both e1 (bracket_no_plain text b2 d2)
  atom_or_not {text} (plain e1) (no_group {behind = b2} {word = w2} e2 x2) = not_both e1 (nest_no_plain text (w2, b2) e2)
  atom_or_not (bracket d1 x1 c1) (not_plain d2 n2 e2) = not_both d1 d2
  atom_or_not (bracket {behind = b1} d1 x1 c1) (no_path {behind = b2} d2 x2) =
      let k : b2 ≡ b1 = again d2 d1 in names_or_not x1 (subst RefusesNames k x2)
  atom_or_not (bracket {behind = b1} d1 x1 c1) (no_condition {behind = b2} {next = t2} {names = s2} d2 x2 c2) =
      let k : b2 ≡ b1 = again d2 d1 in
      let same = names_once x1 (subst (λ u. SpellsNames u s2 t2) k x2) in
      not_both c1 (ap condition same.1 ∙ c2)
  atom_or_not {text} (bracket {behind = b1} d1 x1 c1) (no_group e2 x2) = not_both e2 (bracket_no_nest text b1 d1)
  atom_or_not (nests e1 x1) (not_plain d2 n2 e2) = not_both e1 n2
  atom_or_not {text} (nests e1 x1) (no_path {behind = b2} d2 x2) = not_both e1 (bracket_no_nest text b2 d2)
  atom_or_not {text} (nests e1 x1) (no_condition {behind = b2} d2 x2 c2) = not_both e1 (bracket_no_nest text b2 d2)
  atom_or_not (nests {behind = b1} e1 x1) (no_group {behind = b2} e2 x2) =
      let k : b2 ≡ b1 = rest_same e2 e1 in group_or_not x1 (subst RefusesGroup k x2)

  group_or_not : {text : List ℕ} {one : List (Chain Atom)} {rest : List ℕ} → SpellsGroup text one rest → RefusesGroup text → ⊥
  group_or_not (in_parentheses x1 c1) (no_list x2) = list_or_not x1 x2
  group_or_not (in_parentheses x1 c1) (not_closed x2 c2) =
      let same = list_once x1 x2 in not_both c1 (ap (λ b. after (codes ")") (past_blanks b)) same.1 ∙ c2)

  pub list_or_not : {text : List ℕ} {one : List (Chain Atom)} {rest : List ℕ} → SpellsList text one rest → RefusesList text → ⊥
  list_or_not (one_chain x1 c1) (no_chain x2) = chain_or_not x1 x2
  list_or_not (one_chain x1 c1) (no_chains y2 c2 x2) =
      let same = chain_once x1 y2 in not_both (ap (λ b. after (codes ",") (past_blanks b)) same.1 ∙ c2) c1
  list_or_not (more_chains y1 c1 x1) (no_chain x2) = chain_or_not y1 x2
  list_or_not (more_chains {next = t1} y1 c1 x1) (no_chains {next = t2} y2 c2 x2) =
      let first = chain_once y1 y2 in
      let t : t2 ≡ t1 = again c2 (ap (λ b. after (codes ",") (past_blanks b)) (sym first.1) ∙ c1) in
      list_or_not x1 (subst (λ u. RefusesList (past_blanks u)) t x2)

  chain_or_not : {text : List ℕ} {one : Chain Atom} {rest : List ℕ} → SpellsChain text one rest → RefusesChain text → ⊥
  chain_or_not (compounds x1 y1) (no_first x2) = compound_or_not x1 x2
  chain_or_not (compounds x1 y1) (bad_links x2 y2) =
      let first = compound_once x1 x2 in links_or_not y1 (subst RefusesLinks (sym first.1) y2)

  links_or_not : {text : List ℕ} {one : List (Link Atom)} {rest : List ℕ} → SpellsLinks text one rest → RefusesLinks text → ⊥
  links_or_not (no_link e1) (no_compound e2 x2) = not_both e2 e1
  links_or_not (no_link e1) (no_links e2 x2 y2) = not_both e2 e1
  links_or_not (more_links {behind = b1} e1 x1 y1) (no_compound {behind = b2} e2 x2) =
      let k : b2 ≡ b1 = rest_same e2 e1 in compound_or_not x1 (subst RefusesCompound k x2)
  links_or_not (more_links {behind = b1} e1 x1 y1) (no_links {behind = b2} {next = t2} {compound = c2} e2 x2 y2) =
      let k : b2 ≡ b1 = rest_same e2 e1 in
      let first = compound_once x1 (subst (λ u. SpellsCompound u c2 t2) k x2) in
      links_or_not y1 (subst RefusesLinks (sym first.1) y2)

  compound_or_not : {text : List ℕ} {one : List Atom} {rest : List ℕ} → SpellsCompound text one rest → RefusesCompound text → ⊥
  compound_or_not (one_atom x1 e1) (no_atom x2) = atom_or_not x1 x2
  compound_or_not (one_atom x1 e1) (no_atoms x2 e2 y2) =
      let same = atom_once x1 x2 in let k = ap begins_atom same.1 in cc
  compound_or_not (more_atoms x1 e1 y1) (no_atom x2) = atom_or_not x1 x2
  compound_or_not (more_atoms x1 e1 y1) (no_atoms x2 e2 y2) =
      let first = atom_once x1 x2 in compound_or_not y1 (subst RefusesCompound (sym first.1) y2)

-- `:exit` isn't nothing
ending_same : (one other : Bool) → ending one ≡ ending other → one ≡ other
ending_same true true e = refl
ending_same true false e = cc
ending_same false true e = cc
ending_same false false e = refl

pub spells_one : SpellsOne
spells_one text one other x y =
    let same = list_once x y in
    ap (λ (chains : List (Chain Atom)). record { chains = chains; exit = one.exit }) same.0
    ∙ ap (λ (exit : Bool). record { chains = other.chains; exit = exit }) (ending_same one.exit other.exit same.1)

-- what is refused spells nothing
pub spells_or_not : (text : List ℕ) → RefusesList text → (spelling : Spelling) → Spells text spelling → ⊥
spells_or_not text refused spelling x = list_or_not x refused

-- and what goes on otherwise neither
pub spells_no_other : (text : List ℕ) (chains : List (Chain Atom)) (rest : List ℕ) → SpellsList text chains rest →
    ((exit : Bool) → rest ≢ ending exit) → (spelling : Spelling) → Spells text spelling → ⊥
spells_no_other text chains rest x other spelling y = other spelling.exit (list_once x y).1
