use Rattle.std.proofs.Common.{◌≡◌, string_bytes, ◌++◌, replicate}
use Rattle.es_format.proofs.lines.padded.Given as goal

abbrev pub invariant-loop : goal.invariant-loop
invariant-loop l = string_bytes l.wide ≡ l.text ++ replicate l.counter 32
