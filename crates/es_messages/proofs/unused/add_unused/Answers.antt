use Rattle.std.proofs.Common.{◌≡◌, ◌∙◌, ◌++◌, ◌==◌, length, ap, sym}
use Rattle.std.proofs.lemmas.Result.{on_ok_weaker}
use Rattle.es_messages.proofs.UnusedLemmas.{told_listed}
use Rattle.es_messages.proofs.unused.add_unused.Goals as goal

pub returns : goal.returns
returns c = on_ok_weaker c.add_each_unused.result (λ told. told ∙ ap (λ reports. c.args.unused.now.items ++ reports) (told_listed c.args.case.now.standings.now c.args.place c.args.case.now.severity c.args.mark.now (sym c.is_enable.ensures ∙ c.if-is_enable.false) (ap (λ rules. length rules == 0) (sym c.as_slice-rules.ensures) ∙ sym c.is_empty.ensures ∙ c.if-is_empty.false))) c.add_each_unused.ensures
