-- The function that finds the selector of a text finds what the text spells, and nothing else.
use Rattle.std.proofs.Common.{◌≡◌, ℕ, zero, suc, ◌<◌, ◌≤◌, ◌⊎◌, inl, inr, Bool, true, false, List, [], ◌∷◌, length, cond, refl, ap, sym, subst, ◌∙◌, arith}
use Rattle.std.specs.Prelude.{Option, Some, None, codes, option_and_then, option_map, ◌==◌}
use Rattle.std.specs.Option.{option_map_or, option_or}
use Rattle.std.specs.Str.{bytes_eq}
use Rattle.std.proofs.lemmas.Bool.Decides.{nat_tests}
use Rattle.std.proofs.lemmas.Slice.Eq.{bytes_eq-Decides}
use Rattle.es_selectors.specs.declared.selector.Atom.{Atom}
use Rattle.es_selectors.specs.declared.selector.Chain.{Chain}
use Rattle.es_selectors.specs.declared.selector.Combinator.{Combinator}
use Rattle.es_selectors.specs.declared.selector.Link.{Link}
use Rattle.es_selectors.specs.declared.selector.Spelling.{Spelling}
use Rattle.es_selectors.specs.declared.word.Nest.{Nest}
use Rattle.es_selectors.specs.declared.word.Word.{Word}
use Rattle.es_selectors.specs.declared.word.Word.TheVariants as word
use Rattle.es_selectors.specs.Lexical.{Read, after, closed, go_on, just_before, name, past_blanks}
use Rattle.es_selectors.specs.Spelling.{Spells, SpellsAtom, SpellsChain, SpellsCompound, SpellsGroup, SpellsLinks, SpellsList, SpellsNames, attribute, begins_atom, bracket, chain_of, combinator, compounds, condition, ending, exit_word, in_parentheses, link_of, more_atoms, more_chains, more_links, more_names, nest_at, nest_word, nested, nests, no_link, one_atom, one_chain, one_name, plain, plain_atom, plain_word, word_at}
use Rattle.es_rules_plain.specs.SpelledSelectors.{atom, atom_next, attribute_behind, chain, chain_next, compound, exit_of, group, links, list, list_within, put_before, several, spelled, with_exit, with_names}
use Rattle.es_rules_plain.proofs.ShorterLemmas.{after_is, after_le, blanks_le, combinator_le, condition_le, name_less, names_less, nest_less, plain_less, some_same}

-- ---- what an answer is made of
and_then_parts : {A B : Type 0} (o : Option A) (f : A → Option B) (b : B) → option_and_then f o ≡ Some b → (a : A) × (o ≡ Some a) × (f a ≡ Some b)
and_then_parts None f b e = cc
and_then_parts (Some a) f b e = (a, refl, e)

map_parts : {A B : Type 0} (o : Option A) (f : A → B) (b : B) → option_map f o ≡ Some b → (a : A) × (o ≡ Some a) × (f a ≡ b)
map_parts None f b e = cc
map_parts (Some a) f b e = (a, refl, some_same e)

or_either : {A : Type 0} (x y : Option A) (v : A) → option_or x y ≡ Some v → (x ≡ Some v) ⊎ (y ≡ Some v)
or_either None y v e = inr e
or_either (Some x) y v e = inl e

atom_next_none : (cs : List ℕ) → atom_next cs ≡ None → begins_atom cs ≡ false
atom_next_none cs e = elim (begins_atom cs) as (λ b. cond b (Some cs) None ≡ None → b ≡ false) [
  | true ↦ λ is. cc
  | false ↦ λ is. refl
] e

atom_next_some : (cs following : List ℕ) → atom_next cs ≡ Some following → (begins_atom cs ≡ true) × (cs ≡ following)
atom_next_some cs following e = elim (begins_atom cs) as (λ b. cond b (Some cs) None ≡ Some following → (b ≡ true) × (cs ≡ following)) [
  | true ↦ λ is. (refl, some_same is)
  | false ↦ λ is. cc
] e

chain_next_none : (cs : List ℕ) (o : Option (List ℕ)) → option_map past_blanks o ≡ None → o ≡ None
chain_next_none cs None e = refl
chain_next_none cs (Some behind) e = cc

-- ---- what is found is spelled
module _ {A : Type 0} (item : List ℕ → Read A) (next : List ℕ → Option (List ℕ)) (Spelt : List ℕ → List A → List ℕ → Type 0)
    (last : (cs rest : List ℕ) (v : A) → item cs ≡ Some (v, rest) → next rest ≡ None → Spelt cs (v ∷ []) rest)
    (more : (cs behind following rest : List ℕ) (v : A) (vs : List A) → item cs ≡ Some (v, behind) → next behind ≡ Some following →
    Spelt following vs rest → Spelt cs (v ∷ vs) rest) where
  several_step : (most : ℕ) → ((cs : List ℕ) (x : List A × List ℕ) → several item next most cs ≡ Some x → Spelt cs x.0 x.1) →
      (cs : List ℕ) (x : List A × List ℕ) → several item next (suc most) cs ≡ Some x → Spelt cs x.0 x.1
  several_step most further cs x e =
      let p = and_then_parts (item cs) (λ read. go_on (Some (read.0 ∷ [], read.1)) (λ behind. option_map (put_before read.0) (several item next most behind)) (next read.1)) x e in
      at p.0 p.1 (next p.0.1) refl p.2
    where
      at : (read : A × List ℕ) → item cs ≡ Some read → (o : Option (List ℕ)) → next read.1 ≡ o →
          go_on (Some (read.0 ∷ [], read.1)) (λ behind. option_map (put_before read.0) (several item next most behind)) o ≡ Some x → Spelt cs x.0 x.1
      at read is None over f = subst (λ (x : List A × List ℕ). Spelt cs x.0 x.1) (some_same f) (last cs read.1 read.0 is over)
      at read is (Some following) goes f =
          let q = map_parts (several item next most following) (put_before read.0) x f in
          subst (λ (x : List A × List ℕ). Spelt cs x.0 x.1) q.2 (more cs read.1 following q.0.1 read.0 q.0.0 is goes (further following q.0 q.1))

  several_sound : (most : ℕ) (cs : List ℕ) (x : List A × List ℕ) → several item next most cs ≡ Some x → Spelt cs x.0 x.1
  several_sound zero cs x e = cc
  several_sound (suc most) cs x e = several_step most (several_sound most) cs x e

names_sound : (most : ℕ) (cs : List ℕ) (x : List (List ℕ) × List ℕ) → several name (after (codes ".")) most cs ≡ Some x → SpellsNames cs x.0 x.1
names_sound most cs x e =
    several_sound name (after (codes ".")) SpellsNames (λ cs rest v is over. one_name is over)
    (λ cs behind following rest v vs is goes further. more_names is goes further) most cs x e

module _ (inner : List ℕ → Read (List (Chain Atom))) (most : ℕ)
    (inner_sound : (cs : List ℕ) (x : List (Chain Atom) × List ℕ) → inner cs ≡ Some x → SpellsList cs x.0 x.1) where
  attribute_sound : (cs : List ℕ) (x : Atom × List ℕ) → option_and_then (attribute_behind most) (after (codes "[") cs) ≡ Some x → SpellsAtom cs x.0 x.1
  attribute_sound cs x e =
      let p = and_then_parts (after (codes "[") cs) (attribute_behind most) x e in
      let q = and_then_parts (several name (after (codes ".")) most p.0) with_names x p.2 in
      let r = map_parts (condition q.0.1) (λ asked. (attribute q.0.0 asked.0, asked.1)) x q.2 in
      subst (λ (x : Atom × List ℕ). SpellsAtom cs x.0 x.1) r.2 (bracket p.1 (names_sound most p.0 q.0 q.1) r.1)

  nest_sound : (cs : List ℕ) (x : Atom × List ℕ) → option_and_then (group inner most) (nest_at cs) ≡ Some x → SpellsAtom cs x.0 x.1
  nest_sound cs x e =
      let p = and_then_parts (nest_at cs) (group inner most) x e in
      let q = map_parts (option_and_then closed (inner (past_blanks p.0.1))) (λ read. (nested p.0.0 read.0, read.1)) x p.2 in
      let r = and_then_parts (inner (past_blanks p.0.1)) closed q.0 q.1 in
      let s = map_parts (after (codes ")") (past_blanks r.0.1)) (just_before r.0.0) q.0 r.2 in
      subst (λ (x : Atom × List ℕ). SpellsAtom cs x.0 x.1) q.2
      (subst (λ (y : List (Chain Atom) × List ℕ). SpellsAtom cs (nested p.0.0 y.0) y.1) s.2
      (nests p.1 (in_parentheses (inner_sound (past_blanks p.0.1) r.0 r.1) s.1)))

  atom_sound : (cs : List ℕ) (x : Atom × List ℕ) → atom inner most cs ≡ Some x → SpellsAtom cs x.0 x.1
  atom_sound cs x e =
      elim (or_either (plain_atom cs) (option_or (option_and_then (attribute_behind most) (after (codes "[") cs)) (option_and_then (group inner most) (nest_at cs))) x e) as (λ o. SpellsAtom cs x.0 x.1) [
        | inl is ↦ plain is
        | inr other ↦ elim (or_either (option_and_then (attribute_behind most) (after (codes "[") cs)) (option_and_then (group inner most) (nest_at cs)) x other) as (λ o. SpellsAtom cs x.0 x.1) [
          | inl is ↦ attribute_sound cs x is
          | inr is ↦ nest_sound cs x is
        ]
      ]

  compound_sound : (cs : List ℕ) (x : List Atom × List ℕ) → compound inner most cs ≡ Some x → SpellsCompound cs x.0 x.1
  compound_sound cs x e =
      several_sound (atom inner most) atom_next SpellsCompound (λ cs rest v is over. one_atom (atom_sound cs (v, rest) is) (atom_next_none rest over))
      (λ cs behind following rest v vs is goes further.
      let next = atom_next_some behind following goes in
      more_atoms (atom_sound cs (v, behind) is) next.0 (subst (λ text. SpellsCompound text vs rest) (sym next.1) further)) most cs x e

  links_sound : (left : ℕ) (cs : List ℕ) (x : List (Link Atom) × List ℕ) → links inner most left cs ≡ Some x → SpellsLinks cs x.0 x.1
  links_sound zero cs x e = cc
  links_sound (suc left) cs x e = at (links_sound left) (combinator cs) refl e
    where
      at : ((cs : List ℕ) (x : List (Link Atom) × List ℕ) → links inner most left cs ≡ Some x → SpellsLinks cs x.0 x.1) →
          (o : Read Combinator) → combinator cs ≡ o →
          option_map_or (λ joined. option_and_then (λ read. option_map (put_before (link_of joined.0 read.0)) (links inner most left read.1)) (compound inner most joined.1)) o (Some ([], cs)) ≡ Some x →
          SpellsLinks cs x.0 x.1
      at further None is f = subst (λ (x : List (Link Atom) × List ℕ). SpellsLinks cs x.0 x.1) (some_same f) (no_link is)
      at further (Some joined) is f =
          let p = and_then_parts (compound inner most joined.1) (λ read. option_map (put_before (link_of joined.0 read.0)) (links inner most left read.1)) x f in
          let q = map_parts (links inner most left p.0.1) (put_before (link_of joined.0 p.0.0)) x p.2 in
          subst (λ (x : List (Link Atom) × List ℕ). SpellsLinks cs x.0 x.1) q.2 (more_links is (compound_sound joined.1 p.0 p.1) (further p.0.1 q.0 q.1))

  chain_sound : (cs : List ℕ) (x : Chain Atom × List ℕ) → chain inner most cs ≡ Some x → SpellsChain cs x.0 x.1
  chain_sound cs x e =
      let p = and_then_parts (compound inner most cs) (λ first. option_map (λ read. (chain_of first.0 read.0, read.1)) (links inner most most first.1)) x e in
      let q = map_parts (links inner most most p.0.1) (λ read. (chain_of p.0.0 read.0, read.1)) x p.2 in
      subst (λ (x : Chain Atom × List ℕ). SpellsChain cs x.0 x.1) q.2 (compounds (compound_sound cs p.0 p.1) (links_sound most p.0.1 q.0 q.1))

  list_sound : (cs : List ℕ) (x : List (Chain Atom) × List ℕ) → list inner most cs ≡ Some x → SpellsList cs x.0 x.1
  list_sound cs x e =
      several_sound (chain inner most) chain_next SpellsList
      (λ cs rest v is over. one_chain (chain_sound cs (v, rest) is) (chain_next_none rest (after (codes ",") (past_blanks rest)) over))
      (λ cs behind following rest v vs is goes further.
      let next = map_parts (after (codes ",") (past_blanks behind)) past_blanks following goes in
      more_chains (chain_sound cs (v, behind) is) next.1 (subst (λ text. SpellsList text vs rest) (sym next.2) further)) most cs x e

within_sound : (deep most : ℕ) (cs : List ℕ) (x : List (Chain Atom) × List ℕ) → list_within deep most cs ≡ Some x → SpellsList cs x.0 x.1
within_sound zero most cs x e = cc
within_sound (suc deep) most cs x e = list_sound (list_within deep most) most (within_sound deep most) cs x e

exit_is : (cs : List ℕ) (exit : Bool) → exit_of cs ≡ Some exit → cs ≡ ending exit
exit_is [] exit e = let is : false ≡ exit = some_same e in ap ending is
exit_is (c ∷ cs) exit e =
    let same = bytes_eq-Decides (c ∷ cs) exit_word in
    elim (bytes_eq (c ∷ cs) exit_word) as (λ b. bytes_eq (c ∷ cs) exit_word ≡ b → cond b (Some true) None ≡ Some exit → c ∷ cs ≡ ending exit) [
      | true ↦ λ passes f. let is : true ≡ exit = some_same f in let words : c ∷ cs ≡ exit_word = grind arith in words ∙ ap ending is
      | false ↦ λ fails f. cc
    ] refl e

pub spelled_sound : (cs : List ℕ) (spelling : Spelling) → spelled cs ≡ Some spelling → Spells cs spelling
unfolding spelled
spelled_sound cs spelling e =
    let p = and_then_parts (list_within (suc (length cs)) (suc (length cs)) cs) with_exit spelling e in
    let q = map_parts (exit_of p.0.1) (λ exit. record { chains = p.0.0; exit = exit }) spelling p.2 in
    subst (λ (s : Spelling). Spells cs s) q.2
    (subst (λ rest. SpellsList cs p.0.0 rest) (exit_is p.0.1 q.0 q.1) (within_sound (suc (length cs)) (suc (length cs)) cs p.0 p.1))

-- ---- what is spelled is found
-- what a bracket or a colon begins is no other atom
bracket_is : (cs behind : List ℕ) → after (codes "[") cs ≡ Some behind → cs ≡ 91 ∷ behind
bracket_is [] behind e = cc
bracket_is (c ∷ cs) behind e =
    elim (c == 91) as (λ b. (c == 91) ≡ b → cond b (Some cs) None ≡ Some behind → c ∷ cs ≡ 91 ∷ behind) [
      | true ↦ λ passes is. let same : c ≡ 91 = grind (arith, nat_tests) in let rest : cs ≡ behind = cc in cc
      | false ↦ λ fails is. cc
    ] refl e

bracket_plain : (behind : List ℕ) → plain_atom (91 ∷ behind) ≡ None
unfolding plain_atom
bracket_plain behind = refl

bracket_no_plain : (cs behind : List ℕ) → after (codes "[") cs ≡ Some behind → plain_atom cs ≡ None
bracket_no_plain cs behind e = ap plain_atom (bracket_is cs behind e) ∙ bracket_plain behind

nest_no_word : (w : Word) (rest : List ℕ) (x : Nest × List ℕ) → nest_word (w, rest) ≡ Some x → plain_word (w, rest) ≡ None
nest_no_word (word.Nest n) rest x e = refl
nest_no_word (word.Group g) rest x e = cc
nest_no_word word.FirstChild rest x e = cc
nest_no_word word.LastChild rest x e = cc
nest_no_word word.NthChild rest x e = cc
nest_no_word word.NthLastChild rest x e = cc

word_no_plain : (o : Read Word) (x : Nest × List ℕ) → option_and_then nest_word o ≡ Some x → option_and_then plain_word o ≡ None
word_no_plain None x e = refl
word_no_plain (Some read) x e = nest_no_word read.0 read.1 x e

colon_plain : (cs : List ℕ) (x : Nest × List ℕ) → option_and_then nest_word (word_at cs) ≡ Some x → plain_atom (58 ∷ cs) ≡ None
unfolding plain_atom
colon_plain cs x e = word_no_plain (word_at cs) x e

nest_is : (cs : List ℕ) (x : Nest × List ℕ) → nest_at cs ≡ Some x → (plain_atom cs ≡ None) × (after (codes "[") cs ≡ None)
unfolding nest_at
nest_is [] x e = cc
nest_is (c ∷ cs) x e =
    elim (c == 58) as (λ b. (c == 58) ≡ b → cond b (option_and_then nest_word (word_at cs)) None ≡ Some x → (plain_atom (c ∷ cs) ≡ None) × (after (codes "[") (c ∷ cs) ≡ None)) [
      | true ↦ λ passes is. let same : c ≡ 58 = grind (arith, nat_tests) in
          (ap (λ d. plain_atom (d ∷ cs)) same ∙ colon_plain cs x is, ap (λ d. after (codes "[") (d ∷ cs)) same)
      | false ↦ λ fails is. cc
    ] refl e

-- what follows is shorter
mutual
  atom_less : {cs : List ℕ} {one : Atom} {rest : List ℕ} → SpellsAtom cs one rest → length rest < length cs
  atom_less {cs} {one} {rest} (plain e) = plain_less cs (one, rest) e
  atom_less {cs} {one} {rest} (bracket {behind = behind} {next = next} {asked = asked} d x c) =
      let p = after_is (codes "[") cs behind d in let q = names_less x in let r = condition_le next (asked, rest) c in omega arith
  atom_less {cs} (nests {behind = behind} {word = w} e x) = let p = nest_less cs (w, behind) e in let q = group_le x in omega arith

  group_le : {cs : List ℕ} {chains : List (Chain Atom)} {rest : List ℕ} → SpellsGroup cs chains rest → length rest ≤ length cs
  group_le {cs} {chains} {rest} (in_parentheses {behind = behind} x c) =
      let p = list_less x in let q = after_le (codes ")") (past_blanks behind) rest c in let r = blanks_le behind in let s = blanks_le cs in omega arith

  list_less : {cs : List ℕ} {chains : List (Chain Atom)} {rest : List ℕ} → SpellsList cs chains rest → length rest < length cs
  list_less (one_chain x c) = chain_less x
  list_less (more_chains {behind = behind} {next = next} y c x) =
      let p = chain_less y in let q = after_le (codes ",") (past_blanks behind) next c in let r = blanks_le behind in let s = blanks_le next in
      let t = list_less x in omega arith

  chain_less : {cs : List ℕ} {one : Chain Atom} {rest : List ℕ} → SpellsChain cs one rest → length rest < length cs
  chain_less (compounds x y) = let p = compound_less x in let q = links_le y in omega arith

  links_le : {cs : List ℕ} {links : List (Link Atom)} {rest : List ℕ} → SpellsLinks cs links rest → length rest ≤ length cs
  links_le (no_link e) = omega arith
  links_le {cs} (more_links {behind = behind} {joined = joined} e x y) =
      let p = combinator_le cs (joined, behind) e in let q = compound_less x in let r = links_le y in omega arith

  compound_less : {cs : List ℕ} {atoms : List Atom} {rest : List ℕ} → SpellsCompound cs atoms rest → length rest < length cs
  compound_less (one_atom x e) = atom_less x
  compound_less (more_atoms x e y) = let p = atom_less x in let q = compound_less y in omega arith

-- one item, and one item with more behind it
module _ {A : Type 0} (item : List ℕ → Read A) (next : List ℕ → Option (List ℕ)) where
  abbrev going : (most : ℕ) → A × List ℕ → Option (List ℕ) → Read (List A)
  going most read o = go_on (Some (read.0 ∷ [], read.1)) (λ behind. option_map (put_before read.0) (several item next most behind)) o

  several_last : (left : ℕ) (cs rest : List ℕ) (v : A) → item cs ≡ Some (v, rest) → next rest ≡ None → 0 < left → several item next left cs ≡ Some (v ∷ [], rest)
  several_last zero cs rest v is over room = absurd (omega arith)
  several_last (suc most) cs rest v is over room = ap (option_and_then (λ read. going most read (next read.1))) is ∙ ap (going most (v, rest)) over

  several_more : (most : ℕ) (cs behind following rest : List ℕ) (v : A) (vs : List A) → item cs ≡ Some (v, behind) → next behind ≡ Some following →
      several item next most following ≡ Some (vs, rest) → several item next (suc most) cs ≡ Some (v ∷ vs, rest)
  several_more most cs behind following rest v vs is goes further =
      ap (option_and_then (λ read. going most read (next read.1))) is ∙ ap (going most (v, behind)) goes ∙ ap (option_map (put_before v)) further

names_found : {cs : List ℕ} {names : List (List ℕ)} {rest : List ℕ} → SpellsNames cs names rest → (left : ℕ) → length cs ≤ left →
    several name (after (codes ".")) left cs ≡ Some (names, rest)
names_found {cs} (one_name {one = one} {rest = rest} e d) left low =
    let p = name_less cs (one, rest) e in several_last name (after (codes ".")) left cs rest one e d (omega arith)
names_found {cs} (more_names {one = one} {behind = behind} e d x) zero low = let p = name_less cs (one, behind) e in absurd (omega arith)
names_found {cs} {names} {rest} (more_names {one = one} {behind = behind} {next = next} {names = more} e d x) (suc left) low =
    let p = name_less cs (one, behind) e in let q = after_le (codes ".") behind next d in
    several_more name (after (codes ".")) left cs behind next rest one more e d (names_found x left (omega arith))

begins_next : (cs : List ℕ) → begins_atom cs ≡ true → atom_next cs ≡ Some cs
begins_next cs e = ap (λ b. cond b (Some cs) None) e

begins_none : (cs : List ℕ) → begins_atom cs ≡ false → atom_next cs ≡ None
begins_none cs e = ap (λ b. cond b (Some cs) None) e

mutual
  atom_found : {cs : List ℕ} {one : Atom} {rest : List ℕ} → SpellsAtom cs one rest → (deep most : ℕ) → length cs ≤ deep → length cs ≤ most →
      atom (list_within deep most) most cs ≡ Some (one, rest)
  atom_found {cs} (plain e) deep most low less =
      ap (λ o. option_or o (option_or (option_and_then (attribute_behind most) (after (codes "[") cs)) (option_and_then (group (list_within deep most) most) (nest_at cs)))) e
  atom_found {cs} {one} {rest} (bracket {behind = behind} {next = next} {names = names} {asked = asked} d x c) deep most low less =
      let nested_atom : Read Atom = option_and_then (group (list_within deep most) most) (nest_at cs) in
      let p = after_is (codes "[") cs behind d in
      ap (λ o. option_or o (option_or (option_and_then (attribute_behind most) (after (codes "[") cs)) nested_atom)) (bracket_no_plain cs behind d)
      ∙ ap (λ o. option_or (option_and_then (attribute_behind most) o) nested_atom) d
      ∙ ap (λ o. option_or (option_and_then with_names o) nested_atom) (names_found x most (omega arith))
      ∙ ap (λ o. option_or (option_map (λ read. (attribute names read.0, read.1)) o) nested_atom) c
  atom_found {cs} (nests {behind = behind} {word = w} e x) deep most low less =
      let p = nest_less cs (w, behind) e in
      let others = nest_is cs (w, behind) e in
      ap (λ o. option_or o (option_or (option_and_then (attribute_behind most) (after (codes "[") cs)) (option_and_then (group (list_within deep most) most) (nest_at cs)))) others.0
      ∙ ap (λ o. option_or (option_and_then (attribute_behind most) o) (option_and_then (group (list_within deep most) most) (nest_at cs))) others.1
      ∙ ap (option_and_then (group (list_within deep most) most)) e
      ∙ ap (option_map (λ read. (nested w read.0, read.1))) (group_found x deep most (omega arith) (omega arith))

  group_found : {cs : List ℕ} {chains : List (Chain Atom)} {rest : List ℕ} → SpellsGroup cs chains rest → (deep most : ℕ) → length cs < deep → length cs ≤ most →
      option_and_then closed (list_within deep most (past_blanks cs)) ≡ Some (chains, rest)
  group_found (in_parentheses x c) zero most low less = absurd (omega arith)
  group_found {cs} {chains} (in_parentheses {behind = behind} x c) (suc deep) most low less =
      let p = blanks_le cs in
      ap (option_and_then closed) (list_found x deep most most (omega arith) (omega arith) (omega arith)) ∙ ap (option_map (just_before chains)) c

  list_found : {cs : List ℕ} {chains : List (Chain Atom)} {rest : List ℕ} → SpellsList cs chains rest → (deep most left : ℕ) →
      length cs ≤ deep → length cs ≤ most → length cs ≤ left → several (chain (list_within deep most) most) chain_next left cs ≡ Some (chains, rest)
  list_found {cs} {chains} {rest} (one_chain {chain = one} x c) deep most left low less room =
      let p = chain_less x in
      several_last (chain (list_within deep most) most) chain_next left cs rest one (chain_found x deep most (omega arith) (omega arith)) (ap (option_map past_blanks) c) (omega arith)
  list_found (more_chains y c x) deep most zero low less room = let p = chain_less y in absurd (omega arith)
  list_found {cs} {chains} {rest} (more_chains {behind = behind} {next = next} {chain = one} {chains = more} y c x) deep most (suc left) low less room =
      let p = chain_less y in let q = after_le (codes ",") (past_blanks behind) next c in let r = blanks_le behind in let s = blanks_le next in
      several_more (chain (list_within deep most) most) chain_next left cs behind (past_blanks next) rest one more (chain_found y deep most (omega arith) (omega arith))
      (ap (option_map past_blanks) c) (list_found x deep most left (omega arith) (omega arith) (omega arith))

  chain_found : {cs : List ℕ} {one : Chain Atom} {rest : List ℕ} → SpellsChain cs one rest → (deep most : ℕ) → length cs ≤ deep → length cs ≤ most →
      chain (list_within deep most) most cs ≡ Some (one, rest)
  chain_found {cs} {one} {rest} (compounds {behind = behind} {first = first} {links = further} x y) deep most low less =
      let p = compound_less x in
      ap (option_and_then (λ first. option_map (λ read. (chain_of first.0 read.0, read.1)) (links (list_within deep most) most most first.1)))
      (compound_found x deep most most (omega arith) (omega arith) (omega arith))
      ∙ ap (option_map (λ read. (chain_of first read.0, read.1))) (links_found y deep most most (omega arith) (omega arith) (omega arith))

  links_found : {cs : List ℕ} {further : List (Link Atom)} {rest : List ℕ} → SpellsLinks cs further rest → (deep most left : ℕ) →
      length cs ≤ deep → length cs ≤ most → length cs < left → links (list_within deep most) most left cs ≡ Some (further, rest)
  links_found x deep most zero low less room = absurd (omega arith)
  links_found {cs} (no_link e) deep most (suc left) low less room =
      ap (λ o. option_map_or (λ joined. option_and_then (λ read. option_map (put_before (link_of joined.0 read.0)) (links (list_within deep most) most left read.1)) (compound (list_within deep most) most joined.1)) o (Some ([], cs))) e
  links_found {cs} {further} {rest} (more_links {behind = behind} {next = next} {joined = joined} {compound = one} {links = more} e x y) deep most (suc left) low less room =
      let p = combinator_le cs (joined, behind) e in let q = compound_less x in
      ap (λ o. option_map_or (λ joined. option_and_then (λ read. option_map (put_before (link_of joined.0 read.0)) (links (list_within deep most) most left read.1)) (compound (list_within deep most) most joined.1)) o (Some ([], cs))) e
      ∙ ap (option_and_then (λ read. option_map (put_before (link_of joined read.0)) (links (list_within deep most) most left read.1))) (compound_found x deep most most (omega arith) (omega arith) (omega arith))
      ∙ ap (option_map (put_before (link_of joined one))) (links_found y deep most left (omega arith) (omega arith) (omega arith))

  compound_found : {cs : List ℕ} {atoms : List Atom} {rest : List ℕ} → SpellsCompound cs atoms rest → (deep most left : ℕ) →
      length cs ≤ deep → length cs ≤ most → length cs ≤ left → several (atom (list_within deep most) most) atom_next left cs ≡ Some (atoms, rest)
  compound_found {cs} {atoms} {rest} (one_atom {atom = one} x e) deep most left low less room =
      let p = atom_less x in
      several_last (atom (list_within deep most) most) atom_next left cs rest one (atom_found x deep most (omega arith) (omega arith)) (begins_none rest e) (omega arith)
  compound_found (more_atoms x e y) deep most zero low less room = let p = atom_less x in absurd (omega arith)
  compound_found {cs} {atoms} {rest} (more_atoms {behind = behind} {atom = one} {atoms = more} x e y) deep most (suc left) low less room =
      let p = atom_less x in
      several_more (atom (list_within deep most) most) atom_next left cs behind behind rest one more (atom_found x deep most (omega arith) (omega arith))
      (begins_next behind e) (compound_found y deep most left (omega arith) (omega arith) (omega arith))

exit_found : (exit : Bool) → exit_of (ending exit) ≡ Some exit
exit_found true = refl
exit_found false = refl

pub spelled_found : (cs : List ℕ) (spelling : Spelling) → Spells cs spelling → spelled cs ≡ Some spelling
unfolding spelled
spelled_found cs spelling x =
    ap (option_and_then with_exit) (list_found x (length cs) (suc (length cs)) (suc (length cs)) (omega arith) (omega arith) (omega arith))
    ∙ ap (option_map (λ exit. record { chains = spelling.chains; exit = exit })) (exit_found spelling.exit)

-- what has no reading isn't found
pub unspelled : (cs : List ℕ) → ((spelling : Spelling) → Spells cs spelling → ⊥) → spelled cs ≡ None
unspelled cs never = at (spelled cs) refl
  where
    at : (o : Option Spelling) → spelled cs ≡ o → spelled cs ≡ None
    at None is = is
    at (Some spelling) is = absurd (never spelling (spelled_sound cs spelling is))
