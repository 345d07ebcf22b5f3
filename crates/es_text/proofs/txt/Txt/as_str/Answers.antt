use Rattle.std.proofs.Common.{sym, ◌∙◌, ap, encode_utf8_all}
use Rattle.std.specs.String.{string_bytes}
use Rattle.std.proofs.lemmas.Str.{encodes-chars, IsUtf8-string_bytes}
use Rattle.es_text.proofs.txt.Txt.as_str.Goals as goal

pub returns-clause-bytes : goal.returns-clause-bytes
returns-clause-bytes c =
    c.as_str.ensures.value
    ∙ sym (encodes-chars (string_bytes c.self.inside.text) (IsUtf8-string_bytes c.self.inside.text))
    ∙ ap encode_utf8_all c.self.view_is
