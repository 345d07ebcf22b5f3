use Rattle.es_lint.proofs.FatalLemmas.{deep_told, unread_told}
use Rattle.es_lint.proofs.fatal.fatal_of.Goals as goal

pub returns-in-Unread : goal.returns-in-Unread
returns-in-Unread c = unread_told c.fatal_at.result c.args.fault c.in-Unread.at c.in-Unread.is c.fatal_at.ensures

pub returns-in-Deep : goal.returns-in-Deep
returns-in-Deep c = deep_told c.fatal_at-in-Deep.result c.args.fault c.in-Deep.at c.in-Deep.is c.fatal_at-in-Deep.ensures
