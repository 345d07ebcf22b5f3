use Rattle.std.proofs.Common.{sym, ◌∙◌, ap}
use Rattle.std.specs.Str.{chars}
use Rattle.es_text.specs.Texts.{ends_line}
use Rattle.es_text.proofs.LineEndLemmas.{begins-is, ends_line-return}
use Rattle.es_text.proofs.source.is_line_end.Goals as goal

pub returns-in-13 : goal.returns-in-13
returns-in-13 c =
    ends_line-return (chars c.args.following.now) c.starts_with.result (begins-is c.args.following.now c.starts_with.result c.utf8.following c.starts_with.ensures.cases)
    ∙ ap (λ n. ends_line n (chars c.args.following.now)) (sym c.in-13.is)
