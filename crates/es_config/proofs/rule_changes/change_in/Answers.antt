use Rattle.es_config.specs.Entries.{change_of}
use Rattle.es_config.specs.Reading.{known}
use Rattle.es_config.proofs.PlacesLemmas.{along_bad, along_good, many_changes}
use Rattle.es_config.proofs.rule_changes.change_in.Goals as goal

pub returns-in-len1-up-clause-value : goal.returns-in-len1-up-clause-value
returns-in-len1-up-clause-value g c =
    let rules = known (g.K.Known.ids c.args.rules.now) (g.K.Known.verdict c.args.rules.now) in
    along_good change_of c.full_change.result _ _ (many_changes rules c.args.place c.args.values.now c.severity-item-2.result c.in-len1-up.len_at_least c.severity-item-2.is) c.full_change.ensures.value

pub returns-in-len1-up-clause-bad : goal.returns-in-len1-up-clause-bad
returns-in-len1-up-clause-bad g c =
    let rules = known (g.K.Known.ids c.args.rules.now) (g.K.Known.verdict c.args.rules.now) in
    along_bad c.full_change.result _ _ (many_changes rules c.args.place c.args.values.now c.severity-item-2.result c.in-len1-up.len_at_least c.severity-item-2.is) c.full_change.ensures.bad
