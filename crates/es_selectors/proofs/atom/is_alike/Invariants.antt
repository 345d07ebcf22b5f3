use Rattle.std.proofs.Common.{◌≡◌, drop}
use Rattle.std.specs.Str.{str_eq_ignore_ascii_case}
use Rattle.es_selectors.proofs.atom.is_alike.Given as goal

abbrev pub invariant-loop-byte : goal.invariant-loop-byte
invariant-loop-byte l =
    str_eq_ignore_ascii_case l.rest (drop l.byte-index l.byte-items) ≡ str_eq_ignore_ascii_case l.word l.text
