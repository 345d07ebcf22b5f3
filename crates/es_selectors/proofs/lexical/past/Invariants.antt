use Rattle.std.proofs.Common.{◌≡◌, ◌≤◌, length}
use Rattle.es_text.specs.Rest.{drop_while}
use Rattle.es_selectors.specs.Classes.{is_in}
use Rattle.es_selectors.proofs.lexical.past.Given as goal

abbrev pub invariant-loop-rest : goal.invariant-loop-rest
invariant-loop-rest l = record {
  value : drop_while (is_in l.class) l.rest ≡ drop_while (is_in l.class) l.text;
  no_longer : length l.rest ≤ length l.text;
}

abbrev pub decreases-loop-rest : goal.decreases-loop-rest
decreases-loop-rest l = length l.rest
