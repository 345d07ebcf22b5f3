use Rattle.std.proofs.Common.{ℕ, ◌≤◌, ◌++◌, List, length}
use Rattle.es_selectors.specs.Refusals.{RefusesNames}
use Rattle.es_selectors.specs.Spelling.{SpellsNames}
use Rattle.es_selectors.proofs.attribute.names.Given as goal

-- what completes the rest completes the whole, behind the names so far
abbrev pub invariant-loop-word : goal.invariant-loop-word
invariant-loop-word l = record {
  spelled : (names : List (List ℕ)) (rest : List ℕ) → SpellsNames l.rest names rest → SpellsNames l.text (l.names ++ names) rest;
  refused : RefusesNames l.rest → RefusesNames l.text;
  no_longer : length l.rest ≤ length l.text;
}

abbrev pub decreases-loop-word : goal.decreases-loop-word
decreases-loop-word l = length l.rest
