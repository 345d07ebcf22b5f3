use Rattle.std.proofs.Common.{◌≡◌, ◌≤◌, ◌++◌, ℕ, List, false, length, option_map}
use Rattle.es_selectors.specs.Lexical.{quoted_from}
use Rattle.es_selectors.proofs.lexical.quoted.Given as goal

abbrev pub invariant-loop-rest : goal.invariant-loop-rest
invariant-loop-rest l = record {
  value : option_map (λ (read : List ℕ × List ℕ). (l.characters.items ++ read.0, read.1)) (quoted_from l.quote l.escaped l.rest) ≡ quoted_from l.quote false l.text;
  no_longer : length l.rest ≤ length l.text;
}

abbrev pub decreases-loop-rest : goal.decreases-loop-rest
decreases-loop-rest l = length l.rest
