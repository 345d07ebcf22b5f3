use Rattle.std.proofs.Common.{◌≡◌, length}
use Rattle.std.specs.Str.{IsUtf8, chars}
use Rattle.es_globs.specs.Fitting.{earliest}
use Rattle.es_globs.specs.Patterns.{takes, up_to_slash}
use Rattle.es_globs.proofs.part.earliest.Given as goal

abbrev pub invariant-loop-left : goal.invariant-loop-left
invariant-loop-left l = record {
  utf8 : IsUtf8 l.rest;
  same : earliest takes l.pieces l.last (up_to_slash (chars l.rest)) ≡ earliest takes l.pieces l.last (up_to_slash (chars l.text));
}

abbrev pub decreases-loop-left : goal.decreases-loop-left
decreases-loop-left l = length l.rest
