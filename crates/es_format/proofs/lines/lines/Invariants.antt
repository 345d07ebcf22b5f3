use Rattle.std.proofs.Common.{◌≡◌, string_bytes, take, encode_utf8_all}
use Rattle.std.specs.List.{flat_map}
use Rattle.es_format.specs.Stylish.{message_line}
use Rattle.es_format.proofs.lines.lines.Given as goal

abbrev pub invariant-loop-message : goal.invariant-loop-message
invariant-loop-message l =
    string_bytes l.lines
    ≡ encode_utf8_all (flat_map (message_line l.widths.place l.widths.severity l.widths.text) (take l.message-index l.messages))
