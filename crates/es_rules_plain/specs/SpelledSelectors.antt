-- The selector that a text spells, or None where it spells none: what es_selectors has a text spell is a relation, and
-- this is the function that it is. It finds a reading wherever there is one, since nothing that is read is empty.
use Rattle.std.specs.Prelude.{ℕ, zero, suc, ◌≡◌, ◌↔◌, Bool, true, false, List, [], ◌∷◌, Option, None, Some, codes, if◌then◌else◌, length, option_and_then, option_map}
use Rattle.std.specs.Option.{option_map_or, option_or}
use Rattle.std.specs.Str.{bytes_eq}
use Rattle.es_selectors.specs.declared.selector.Atom.{Atom}
use Rattle.es_selectors.specs.declared.selector.Chain.{Chain}
use Rattle.es_selectors.specs.declared.selector.Link.{Link}
use Rattle.es_selectors.specs.declared.selector.Spelling.{Spelling}
use Rattle.es_selectors.specs.declared.word.Nest.{Nest}
use Rattle.es_selectors.specs.Lexical.{Read, after, closed, go_on, name, past_blanks}
use Rattle.es_selectors.specs.Spelling.{Spells, attribute, begins_atom, chain_of, combinator, condition, exit_word, link_of, nest_at, nested, plain_atom}

abbrev pub put_before : {A : Type 0} → A → List A × List ℕ → List A × List ℕ
put_before item read = (item ∷ read.0, read.1)

-- one item, and as many more as there are behind what `next` finds between two; so many at most
abbrev pub several : {A : Type 0} → (List ℕ → Read A) → (List ℕ → Option (List ℕ)) → ℕ → List ℕ → Read (List A)
several item next zero cs = None
several item next (suc most) cs =
    option_and_then
    (λ read. go_on (Some (read.0 ∷ [], read.1)) (λ behind. option_map (put_before read.0) (several item next most behind)) (next read.1))
    (item cs)

-- the names of an attribute and what is asked of it, behind the bracket
abbrev pub with_names : List (List ℕ) × List ℕ → Read Atom
with_names names = option_map (λ asked. (attribute names.0 asked.0, asked.1)) (condition names.1)

abbrev pub attribute_behind : ℕ → List ℕ → Read Atom
attribute_behind most cs = option_and_then with_names (several name (after (codes ".")) most cs)

-- the next atom of a compound follows directly
abbrev pub atom_next : List ℕ → Option (List ℕ)
atom_next cs = if begins_atom cs then Some cs else None

-- the next chain of a list follows a comma
abbrev pub chain_next : List ℕ → Option (List ℕ)
chain_next cs = option_map past_blanks (after (codes ",") (past_blanks cs))

-- lists in parentheses are read by `inner`
module _ (inner : List ℕ → Read (List (Chain Atom))) (most : ℕ) where
  abbrev pub group : Nest × List ℕ → Read Atom
  group word = option_map (λ read. (nested word.0 read.0, read.1)) (option_and_then closed (inner (past_blanks word.1)))

  abbrev pub atom : List ℕ → Read Atom
  atom cs = option_or (plain_atom cs) (option_or (option_and_then (attribute_behind most) (after (codes "[") cs)) (option_and_then group (nest_at cs)))

  abbrev pub compound : List ℕ → Read (List Atom)
  compound cs = several atom atom_next most cs

  -- the further compounds of a chain, so many at most
  abbrev pub links : ℕ → List ℕ → Read (List (Link Atom))
  links zero cs = None
  links (suc left) cs =
      option_map_or
      (λ joined. option_and_then (λ read. option_map (put_before (link_of joined.0 read.0)) (links left read.1)) (compound joined.1))
      (combinator cs) (Some ([], cs))

  abbrev pub chain : List ℕ → Read (Chain Atom)
  chain cs = option_and_then (λ first. option_map (λ read. (chain_of first.0 read.0, read.1)) (links most first.1)) (compound cs)

  abbrev pub list : List ℕ → Read (List (Chain Atom))
  list cs = several chain chain_next most cs

-- a list whose parentheses nest so deep at most
abbrev pub list_within : ℕ → ℕ → List ℕ → Read (List (Chain Atom))
list_within zero most cs = None
list_within (suc deep) most cs = list (list_within deep most) most cs

-- `:exit`, or nothing
abbrev pub exit_of : List ℕ → Option Bool
exit_of [] = Some false
exit_of (c ∷ cs) = if bytes_eq (c ∷ cs) exit_word then Some true else None

abbrev pub with_exit : List (Chain Atom) × List ℕ → Option Spelling
with_exit read = option_map (λ exit. record { chains = read.0; exit = exit }) (exit_of read.1)

-- nothing stands there more often than there are characters, nor nests deeper
unfoldable pub spelled : List ℕ → Option Spelling
spelled cs = option_and_then with_exit (list_within (suc (length cs)) (suc (length cs)) cs)

-- this finds exactly what es_selectors has a text spell
abbrev pub FindsSpelled : Type 0
FindsSpelled = (text : List ℕ) (spelling : Spelling) → (spelled text ≡ Some spelling) ↔ Spells text spelling
