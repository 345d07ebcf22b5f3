use Rattle.std.proofs.Common.{arith}
use Rattle.std.proofs.lemmas.Grind.{common_steps}
use Rattle.es_lint.proofs.MarkLemmas.{mark_chars}
use Rattle.es_lint.proofs.result.behind_mark.Goals as goal

pub returns : goal.returns
returns c = let mark = mark_chars c.args.text.now in grind (arith, common_steps, mark)
