use Rattle.std.proofs.Common.{◌≡◌, ◌≤◌, length}
use Rattle.std.specs.Str.{IsUtf8, chars}
use Rattle.es_globs.specs.Patterns.{behind_slash}
use Rattle.es_globs.proofs.path.behind_slash.Given as goal

abbrev pub invariant-loop-c : goal.invariant-loop-c
invariant-loop-c l = record {
  utf8 : IsUtf8 l.rest;
  same : behind_slash (chars l.rest) ≡ behind_slash (chars l.text);
  shorter : length l.rest ≤ length l.text;
}

abbrev pub decreases-loop-c : goal.decreases-loop-c
decreases-loop-c l = length l.rest
