use Rattle.std.proofs.Common.{sym}
use Rattle.std.specs.Str.{chars}
use Rattle.es_rules_plain.proofs.SpelledLemmas.{spelled_found, unspelled}
use Rattle.es_rules_plain.proofs.restriction.spelled.Goals as goal

pub returns-in-Ok : goal.returns-in-Ok
returns-in-Ok c = sym (spelled_found (chars c.args.text.now) c.in-Ok.selector c.in-Ok.ensures.spelled)

pub returns-in-Err-Unread : goal.returns-in-Err-Unread
returns-in-Err-Unread c = sym (unspelled (chars c.args.text.now) (c.in-Err-Unread.ensures.unread (let is = c.in-Err-Unread.field-0-is in cc)))
