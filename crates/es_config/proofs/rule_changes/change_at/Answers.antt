use Rattle.std.proofs.Common.{ap}
use Rattle.std.specs.Str.{chars}
use Rattle.serde_json.specs.View.{view}
use Rattle.es_config.specs.declared.fault.FaultKind.TheVariants.{UnknownRule}
use Rattle.es_config.specs.Entries.{change_of}
use Rattle.es_config.specs.Reading.{change_to, known}
use Rattle.es_config.specs.Walks.{and_then, or_fault}
use Rattle.es_config.proofs.PlacesLemmas.{along_bad, along_good, place_found, place_none}
use Rattle.es_config.proofs.WalksLemmas.{fault_here}
use Rattle.es_config.proofs.rule_changes.change_at.Goals as goal

pub returns-in-None-clause-bad : goal.returns-in-None-clause-bad
returns-in-None-clause-bad g c =
    let rules = known (g.K.Known.ids c.args.rules.now) (g.K.Known.verdict c.args.rules.now) in
    let none = place_none (g.K.Known.ids c.args.rules.now) (chars c.args.id.now) c.in-None.ensures in
    fault_here _ UnknownRule c.here.result (ap (λ place. and_then (change_to rules (view c.args.value.now)) (or_fault UnknownRule place)) none) c.here.ensures

pub returns-in-Some-clause-value : goal.returns-in-Some-clause-value
returns-in-Some-clause-value g c =
    let rules = known (g.K.Known.ids c.args.rules.now) (g.K.Known.verdict c.args.rules.now) in
    let found = place_found (g.K.Known.ids c.args.rules.now) (chars c.args.id.now) c.in-Some.place c.in-Some.ensures in
    along_good change_of c.change_to.result _ _ (ap (λ place. and_then (change_to rules (view c.args.value.now)) (or_fault UnknownRule place)) found) c.change_to.ensures.value

pub returns-in-Some-clause-bad : goal.returns-in-Some-clause-bad
returns-in-Some-clause-bad g c =
    let rules = known (g.K.Known.ids c.args.rules.now) (g.K.Known.verdict c.args.rules.now) in
    let found = place_found (g.K.Known.ids c.args.rules.now) (chars c.args.id.now) c.in-Some.place c.in-Some.ensures in
    along_bad c.change_to.result _ _ (ap (λ place. and_then (change_to rules (view c.args.value.now)) (or_fault UnknownRule place)) found) c.change_to.ensures.bad
