use Rattle.std.proofs.Common.{◌≡◌, take, true, string_bytes}
use lib.Utf8.{scalars}
use Rattle.std.specs.Str.{encode_utf8_all}
use Rattle.es_messages.proofs.character.text_of.Given as goal

abbrev pub invariant-loop-c : goal.invariant-loop-c
invariant-loop-c l = record {
  bytes : string_bytes l.text ≡ encode_utf8_all (take l.c-index l.characters);
  scalars : scalars (take l.c-index l.characters) ≡ true;
}
