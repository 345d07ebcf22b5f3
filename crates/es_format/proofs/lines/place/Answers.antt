use Rattle.std.proofs.Common.{◌≡◌, rules, arith, ap, ◌∙◌, string_bytes}
use Rattle.std.specs.Str.{chars}
use Rattle.es_format.specs.Stylish.{place_text}
use Rattle.es_format.proofs.StylishLemmas.{chars-place}
use Rattle.es_format.proofs.lines.place.Goals as goal

pub returns-clause-characters : goal.returns-clause-characters
returns-clause-characters c =
    let bytes : string_bytes c.in_ok-format.field-0 ≡ place_text c.args.message.now = search rules in
    ap chars bytes ∙ chars-place c.args.message.now (omega arith) (omega arith)
