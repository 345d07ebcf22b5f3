use Rattle.std.proofs.Common.{◌≡◌, true, length}
use Rattle.std.specs.Str.{IsUtf8, chars}
use Rattle.es_globs.specs.Fitting.{begins_wide, fits}
use Rattle.es_globs.specs.Patterns.{is_star, takes, up_to_slash}
use Rattle.es_globs.proofs.part.takes_part.Given as goal

abbrev pub invariant-loop-left : goal.invariant-loop-left
invariant-loop-left l = record {
  utf8 : IsUtf8 l.rest;
  same : fits is_star takes l.left (up_to_slash (chars l.rest)) ≡ fits is_star takes l.part (up_to_slash (chars l.text));
  star : begins_wide is_star l.left ≡ true;
}

abbrev pub decreases-loop-left : goal.decreases-loop-left
decreases-loop-left l = length l.left
