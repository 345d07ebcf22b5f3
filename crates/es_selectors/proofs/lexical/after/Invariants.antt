use Rattle.std.proofs.Common.{◌≡◌, ◌+◌, drop, length}
use Rattle.es_selectors.specs.Lexical.{after}
use Rattle.es_selectors.proofs.lexical.after.Given as goal

abbrev pub invariant-loop-byte : goal.invariant-loop-byte
invariant-loop-byte l = record {
  value : after (drop l.byte-index l.word) l.rest ≡ after l.word l.text;
  taken : length l.rest + l.byte-index ≡ length l.text;
}
