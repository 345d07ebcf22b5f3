-- How selectors are spelled. A production takes a text of its own from the front of the characters, and says
-- what it stands for and what follows it.
use Rattle.std.specs.Prelude.{ℕ, ◌≡◌, ◌==◌, Bool, true, false, not, ◌&&◌, ◌||◌, List, [], ◌∷◌, Some, None, codes, if◌then◌else◌, option_and_then, option_map, unwrap_or}
use Rattle.es_text.specs.Characters.{asterisk, full_stop, is_white_space, left_bracket, plus_sign}
use Rattle.es_text.specs.Rest.{begins}
use Rattle.es_selectors.specs.declared.selector.Atom.{Atom, roll-Atom}
use Rattle.es_selectors.specs.declared.selector.Atom.TheOpen.{Atom-F}
use Rattle.es_selectors.specs.declared.selector.Chain.{Chain}
use Rattle.es_selectors.specs.declared.selector.Combinator.{Combinator}
use Rattle.es_selectors.specs.declared.selector.Combinator.TheVariants.{Descendant, Child, Next, Later}
use Rattle.es_selectors.specs.declared.selector.Comparison.{Comparison}
use Rattle.es_selectors.specs.declared.selector.Comparison.TheVariants.{Less, LessOrEqual, Greater, GreaterOrEqual}
use Rattle.es_selectors.specs.declared.selector.Condition.{Condition}
use Rattle.es_selectors.specs.declared.selector.Condition.TheVariants.{IsThere, Is, IsNot, Compares}
use Rattle.es_selectors.specs.declared.selector.Group.TheVariants as group
use Rattle.es_selectors.specs.declared.selector.Link.{Link}
use Rattle.es_selectors.specs.declared.selector.Spelling.{Spelling}
use Rattle.es_selectors.specs.declared.word.Nest.{Nest}
use Rattle.es_selectors.specs.declared.word.Nest.TheVariants as nest
use Rattle.es_selectors.specs.declared.word.Word.{Word}
use Rattle.es_selectors.specs.declared.word.Word.TheVariants as word
use Rattle.es_selectors.specs.KindAtoms.{kind_named}
use Rattle.es_selectors.specs.Lexical.{Read, after, colon, first_of, go_on, greater_than, is_name_part, is_some, just, just_before, name, number, number_in_parentheses, past_blanks, tilde, value}

-- `.f.g` where it stands there, else `.f`, behind the first dot
abbrev pub field_of : List ℕ → List ℕ × List ℕ → Atom × List ℕ
field_of outer inner = (roll-Atom (Atom-F.FieldOf outer inner.0), inner.1)

-- a further dot with a name
abbrev pub inner_field : List ℕ → Read (List ℕ)
inner_field cs = option_and_then name (after (codes ".") cs)

abbrev pub field_or_field_of : List ℕ × List ℕ → Atom × List ℕ
field_or_field_of outer =
    unwrap_or (option_map (field_of outer.0) (inner_field outer.1)) (roll-Atom (Atom-F.Field outer.0), outer.1)

abbrev pub field : List ℕ → Read Atom
field cs = option_map field_or_field_of (name cs)

-- behind what an attribute is compared with: the bracket that closes
abbrev pub bracketed : {A : Type 0} → A × List ℕ → Read A
bracketed read = option_map (just_before read.0) (after (codes "]") read.1)

abbrev pub bracketed_value : List ℕ → Read (List ℕ)
bracketed_value cs = option_and_then bracketed (value (past_blanks cs))

abbrev pub bracketed_number : List ℕ → Read ℕ
bracketed_number cs = option_and_then bracketed (number (past_blanks cs))

abbrev pub with_condition : {A : Type 0} → (A → Condition) → A × List ℕ → Condition × List ℕ
with_condition condition read = (condition read.0, read.1)

abbrev pub with_value : (List ℕ → Condition) → List ℕ → Read Condition
with_value condition cs = option_map (with_condition condition) (bracketed_value cs)

abbrev pub comparison : List ℕ → Read Comparison
comparison = first_of (
    (codes "<=", just LessOrEqual) ∷ (codes "<", just Less) ∷ (codes ">=", just GreaterOrEqual) ∷ (codes ">", just Greater) ∷ [])

-- a comparison and a decimal number
abbrev pub length_test : List ℕ → Read Condition
length_test cs =
    option_and_then
    (λ read. option_map (with_condition (Compares read.0)) (bracketed_number read.1))
    (comparison cs)

-- `=` or `!=` and a text, or a test of a length
abbrev pub compared : List ℕ → Read Condition
compared cs =
    go_on (go_on (length_test cs) (with_value IsNot) (after (codes "!=") cs)) (with_value Is) (after (codes "=") cs)

-- behind the names of an attribute: what is asked of it, and the bracket that closes
abbrev pub condition : List ℕ → Read Condition
condition cs = go_on (compared (past_blanks cs)) (just IsThere) (after (codes "]") cs)

-- names that dots separate
pub data SpellsNames : List ℕ → List (List ℕ) → List ℕ → Type 0 where
  one_name : {text one rest : List ℕ} → name text ≡ Some (one, rest) → after (codes ".") rest ≡ None → SpellsNames text (one ∷ []) rest
  more_names : {text one behind next rest : List ℕ} {names : List (List ℕ)} →
      name text ≡ Some (one, behind) → after (codes ".") behind ≡ Some next → SpellsNames next names rest →
      SpellsNames text (one ∷ names) rest

-- the words behind a colon
abbrev pub words : List (List ℕ × Word)
words =
    (codes "statement", word.Group group.Statement) ∷ (codes "declaration", word.Group group.Declaration)
    ∷ (codes "expression", word.Group group.Expression) ∷ (codes "pattern", word.Group group.Pattern)
    ∷ (codes "function", word.Group group.Function)
    ∷ (codes "not(", word.Nest nest.Not) ∷ (codes "is(", word.Nest nest.Is) ∷ (codes "matches(", word.Nest nest.Is)
    ∷ (codes "has(", word.Nest nest.Has)
    ∷ (codes "first-child", word.FirstChild) ∷ (codes "last-child", word.LastChild)
    ∷ (codes "nth-child(", word.NthChild) ∷ (codes "nth-last-child(", word.NthLastChild) ∷ []

-- the first of these words that stands there; none of the words begins another
abbrev pub word_among : List (List ℕ × Word) → List ℕ → Read Word
word_among [] cs = None
word_among (row ∷ rows) cs = go_on (word_among rows cs) (just row.1) (after row.0 cs)

unfoldable pub word_at : List ℕ → Read Word
word_at cs = word_among words cs

abbrev pub with_atom : (ℕ → Atom) → ℕ × List ℕ → Atom × List ℕ
with_atom atom read = (atom read.0, read.1)

abbrev pub nth_child : ℕ → Atom
nth_child n = roll-Atom (Atom-F.NthChild n)

abbrev pub nth_last_child : ℕ → Atom
nth_last_child n = roll-Atom (Atom-F.NthLastChild n)

-- what a word that takes no selector stands for
abbrev pub plain_word : Word × List ℕ → Read Atom
plain_word (word.Group group, rest) = Some (roll-Atom (Atom-F.Group group), rest)
plain_word (word.FirstChild, rest) = Some (nth_child 1, rest)
plain_word (word.LastChild, rest) = Some (nth_last_child 1, rest)
plain_word (word.NthChild, rest) = option_map (with_atom nth_child) (number_in_parentheses rest)
plain_word (word.NthLastChild, rest) = option_map (with_atom nth_last_child) (number_in_parentheses rest)
plain_word (word.Nest nest, rest) = None

-- a word that takes a selector in parentheses
abbrev pub nest_word : Word × List ℕ → Read Nest
nest_word (word.Nest nest, rest) = Some (nest, rest)
nest_word (word.Group group, rest) = None
nest_word (word.FirstChild, rest) = None
nest_word (word.LastChild, rest) = None
nest_word (word.NthChild, rest) = None
nest_word (word.NthLastChild, rest) = None

abbrev pub kind_atom : List ℕ × List ℕ → Atom × List ℕ
kind_atom read = (roll-Atom (Atom-F.Kind (kind_named read.0)), read.1)

-- an atom that holds no selector, but for those in brackets
unfoldable pub plain_atom : List ℕ → Read Atom
plain_atom [] = None
plain_atom (c ∷ cs) =
    if c == asterisk then Some (roll-Atom Atom-F.Any, cs)
    else if c == full_stop then field cs
    else if c == colon then option_and_then plain_word (word_at cs)
    else option_map kind_atom (name (c ∷ cs))

-- a word that takes a selector, with its colon
unfoldable pub nest_at : List ℕ → Read Nest
nest_at [] = None
nest_at (c ∷ cs) = if c == colon then option_and_then nest_word (word_at cs) else None

abbrev pub nested : Nest → List (Chain Atom) → Atom
nested nest.Not chains = roll-Atom (Atom-F.Not chains)
nested nest.Is chains = roll-Atom (Atom-F.Is chains)
nested nest.Has chains = roll-Atom (Atom-F.Has chains)

abbrev pub attribute : List (List ℕ) → Condition → Atom
attribute names condition = roll-Atom (Atom-F.Attribute names condition)

abbrev pub exit_word : List ℕ
exit_word = codes ":exit"

-- An atom begins with `*`, a name, `.`, `[` or `:`; `:exit` is none
abbrev pub is_atom_start : ℕ → Bool
is_atom_start c = is_name_part c || c == asterisk || c == full_stop || c == left_bracket || c == colon

unfoldable pub begins_atom : List ℕ → Bool
begins_atom cs = begins is_atom_start cs && not (is_some (after exit_word cs))

-- white space alone is a combinator in front of an atom
abbrev pub descendant : List ℕ → Read Combinator
descendant cs = if begins is_white_space cs && begins_atom (past_blanks cs) then Some (Descendant, past_blanks cs) else None

abbrev pub combinator_or : Read Combinator → List ℕ → Read Combinator
combinator_or other [] = other
combinator_or other (c ∷ cs) =
    if c == greater_than then Some (Child, past_blanks cs)
    else if c == plus_sign then Some (Next, past_blanks cs)
    else if c == tilde then Some (Later, past_blanks cs)
    else other

unfoldable pub combinator : List ℕ → Read Combinator
combinator cs = combinator_or (descendant cs) (past_blanks cs)

abbrev pub link_of : Combinator → List Atom → Link Atom
link_of joined compound = record { combinator = joined; compound = compound }

abbrev pub chain_of : List Atom → List (Link Atom) → Chain Atom
chain_of first links = record { first = first; links = links }

mutual
  pub data SpellsAtom : List ℕ → Atom → List ℕ → Type 0 where
    plain : {text rest : List ℕ} {atom : Atom} → plain_atom text ≡ Some (atom, rest) → SpellsAtom text atom rest
    -- `[a.b = v]`
    bracket : {text behind next rest : List ℕ} {names : List (List ℕ)} {asked : Condition} →
        after (codes "[") text ≡ Some behind → SpellsNames behind names next → condition next ≡ Some (asked, rest) →
        SpellsAtom text (attribute names asked) rest
    -- `:not(S)`
    nests : {text behind rest : List ℕ} {word : Nest} {chains : List (Chain Atom)} →
        nest_at text ≡ Some (word, behind) → SpellsGroup behind chains rest → SpellsAtom text (nested word chains) rest

  -- a list in parentheses, behind the one that opens
  pub data SpellsGroup : List ℕ → List (Chain Atom) → List ℕ → Type 0 where
    in_parentheses : {text behind rest : List ℕ} {chains : List (Chain Atom)} →
        SpellsList (past_blanks text) chains behind → after (codes ")") (past_blanks behind) ≡ Some rest →
        SpellsGroup text chains rest

  -- chains that commas separate
  pub data SpellsList : List ℕ → List (Chain Atom) → List ℕ → Type 0 where
    one_chain : {text rest : List ℕ} {chain : Chain Atom} →
        SpellsChain text chain rest → after (codes ",") (past_blanks rest) ≡ None → SpellsList text (chain ∷ []) rest
    more_chains : {text behind next rest : List ℕ} {chain : Chain Atom} {chains : List (Chain Atom)} →
        SpellsChain text chain behind → after (codes ",") (past_blanks behind) ≡ Some next →
        SpellsList (past_blanks next) chains rest → SpellsList text (chain ∷ chains) rest

  -- compounds that combinators join
  pub data SpellsChain : List ℕ → Chain Atom → List ℕ → Type 0 where
    compounds : {text behind rest : List ℕ} {first : List Atom} {links : List (Link Atom)} →
        SpellsCompound text first behind → SpellsLinks behind links rest → SpellsChain text (chain_of first links) rest

  pub data SpellsLinks : List ℕ → List (Link Atom) → List ℕ → Type 0 where
    no_link : {text : List ℕ} → combinator text ≡ None → SpellsLinks text [] text
    more_links : {text behind next rest : List ℕ} {joined : Combinator} {compound : List Atom} {links : List (Link Atom)} →
        combinator text ≡ Some (joined, behind) → SpellsCompound behind compound next → SpellsLinks next links rest →
        SpellsLinks text (link_of joined compound ∷ links) rest

  -- one atom, and as many more as follow it without white space
  pub data SpellsCompound : List ℕ → List Atom → List ℕ → Type 0 where
    one_atom : {text rest : List ℕ} {atom : Atom} →
        SpellsAtom text atom rest → begins_atom rest ≡ false → SpellsCompound text (atom ∷ []) rest
    more_atoms : {text behind rest : List ℕ} {atom : Atom} {atoms : List Atom} →
        SpellsAtom text atom behind → begins_atom behind ≡ true → SpellsCompound behind atoms rest →
        SpellsCompound text (atom ∷ atoms) rest

abbrev pub ending : Bool → List ℕ
ending exit = if exit then exit_word else []

-- the whole text is chains that commas separate, with `:exit` behind them or not
abbrev pub Spells : List ℕ → Spelling → Type 0
Spells text spelling = SpellsList text spelling.chains (ending spelling.exit)

-- a text spells one selector at most
abbrev pub SpellsOne : Type 0
SpellsOne = (text : List ℕ) (one other : Spelling) → Spells text one → Spells text other → one ≡ other
