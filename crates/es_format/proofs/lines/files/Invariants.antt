use Rattle.std.proofs.Common.{◌≡◌, string_bytes, take, encode_utf8_all}
use Rattle.es_format.specs.Stylish.{files_text}
use Rattle.es_format.proofs.lines.files.Given as goal

abbrev pub invariant-loop-named : goal.invariant-loop-named
invariant-loop-named l = string_bytes l.text ≡ encode_utf8_all (files_text (take l.named-index l.results))
