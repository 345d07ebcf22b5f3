use Rattle.std.proofs.Common.{◌∙◌, ap}
use Rattle.std.specs.Str.{encode_utf8_all}
use Rattle.std.proofs.lemmas.Str.{encodes-chars}
use Rattle.es_text.proofs.source.Source.from_text.Goals as goal

pub returns-clause-bytes : goal.returns-clause-bytes
returns-clause-bytes c =
    ap encode_utf8_all c.in_ok-copied.ensures.0 ∙ encodes-chars c.args.text.now c.utf8.text
