use Rattle.std.proofs.Common.{◌≡◌, drop}
use Rattle.std.specs.Str.{IsUtf8, chars}
use Rattle.es_globs.specs.Fitting.{behind}
use Rattle.es_globs.specs.Patterns.{takes, up_to_slash}
use Rattle.es_globs.proofs.part.behind.Given as goal

abbrev pub invariant-loop-piece : goal.invariant-loop-piece
invariant-loop-piece l = record {
  utf8 : IsUtf8 l.rest;
  same : behind takes (drop l.piece-index l.pieces) (up_to_slash (chars l.rest)) ≡ behind takes l.pieces (up_to_slash (chars l.text));
}
