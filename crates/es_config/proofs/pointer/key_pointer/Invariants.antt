use Rattle.std.proofs.Common.{◌≡◌, ◌++◌, IsUtf8}
use Rattle.std.specs.Prelude.{codes, string_bytes}
use Rattle.std.specs.Str.Iter.{chars_rest}
use Rattle.es_config.proofs.PointersLemmas.{spelled}
use Rattle.es_config.proofs.pointer.key_pointer.Given as goal

abbrev pub invariant-loop-c : goal.invariant-loop-c
invariant-loop-c l = record {
  utf8 : IsUtf8 (chars_rest l.rest);
  told : string_bytes l.text ++ spelled (chars_rest l.rest) ≡ codes "/" ++ spelled l.key;
}
