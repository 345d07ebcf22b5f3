use Rattle.std.proofs.Common.{◌∙◌, ap, sym}
use Rattle.std.specs.Str.{chars}
use Rattle.es_grammar.specs.Drafts.{ends_with_n}
use Rattle.es_parser.proofs.CharsLemmas.{ends_pushed}
use Rattle.es_parser.proofs.leaves.ends_with_n.Goals as goal

pub returns-in-Some : goal.returns-in-Some
returns-in-Some c =
    sym (ap ends_with_n c.in-Some.ensures.some ∙ ends_pushed (chars c.in-Some.field-0-0.now) c.in-Some.last)
