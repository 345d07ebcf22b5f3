use Rattle.std.proofs.Common.{ℕ, ◌+◌, ◌*◌, ◌≤◌, ◌++◌, List, length}
use Rattle.es_selectors.specs.declared.selector.Atom.{Atom}
use Rattle.es_selectors.specs.declared.selector.Chain.{Chain}
use Rattle.es_selectors.specs.declared.selector.Link.{Link}
use Rattle.es_selectors.specs.Refusals.{RefusesCompound, RefusesLinks, RefusesList}
use Rattle.es_selectors.specs.Spelling.{SpellsCompound, SpellsLinks, SpellsList}
use Rattle.es_selectors.proofs.reader.+reading.Given as goal

-- by the text that is left, and from a list down to an atom
abbrev pub decreases-read_group : goal.decreases-read_group
decreases-read_group l = 6 * length l.text.now + 5

abbrev pub decreases-read_list : goal.decreases-read_list
decreases-read_list l = 6 * length l.text.now + 4

abbrev pub decreases-read_chain : goal.decreases-read_chain
decreases-read_chain l = 6 * length l.text.now + 3

abbrev pub decreases-read_links : goal.decreases-read_links
decreases-read_links l = 6 * length l.text.now + 2

abbrev pub decreases-read_compound : goal.decreases-read_compound
decreases-read_compound l = 6 * length l.text.now + 1

abbrev pub decreases-read_atom : goal.decreases-read_atom
decreases-read_atom l = 6 * length l.text.now

-- what completes the rest completes the whole, behind what was read so far
abbrev pub invariant-read_compound-loop-atoms : goal.invariant-read_compound-loop-atoms
invariant-read_compound-loop-atoms l = record {
  spelled : (atoms : List Atom) (rest : List ℕ) → SpellsCompound l.rest atoms rest → SpellsCompound l.text (l.atoms ++ atoms) rest;
  refused : RefusesCompound l.rest → RefusesCompound l.text;
  no_longer : length l.rest ≤ length l.text;
}

abbrev pub decreases-read_compound-loop-atoms : goal.decreases-read_compound-loop-atoms
decreases-read_compound-loop-atoms l = length l.rest

abbrev pub invariant-read_links-loop-combinator : goal.invariant-read_links-loop-combinator
invariant-read_links-loop-combinator l = record {
  spelled : (links : List (Link Atom)) (rest : List ℕ) → SpellsLinks l.rest links rest → SpellsLinks l.text (l.links ++ links) rest;
  refused : RefusesLinks l.rest → RefusesLinks l.text;
  no_longer : length l.rest ≤ length l.text;
}

abbrev pub decreases-read_links-loop-combinator : goal.decreases-read_links-loop-combinator
decreases-read_links-loop-combinator l = length l.rest

abbrev pub invariant-read_list-loop-chains : goal.invariant-read_list-loop-chains
invariant-read_list-loop-chains l = record {
  spelled : (chains : List (Chain Atom)) (rest : List ℕ) → SpellsList l.rest chains rest → SpellsList l.text (l.chains ++ chains) rest;
  refused : RefusesList l.rest → RefusesList l.text;
  no_longer : length l.rest ≤ length l.text;
}

abbrev pub decreases-read_list-loop-chains : goal.decreases-read_list-loop-chains
decreases-read_list-loop-chains l = length l.rest
