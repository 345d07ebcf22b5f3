use Rattle.std.proofs.Common.{rules, ◌≡◌, Some, subst, sym}
use Rattle.es_config.specs.Outcomes.{outcome_in}
use Rattle.es_run.specs.Stages.{KeepsPart}
use Rattle.es_run.proofs.GatheringLemmas.{all_more, gathered_more, listed_more, names_more}
use Rattle.es_run.proofs.gathering.gather.Goals as goal

pub loop-name-preserved : goal.loop-name-preserved
loop-name-preserved g c = record {
  few = search rules;
  still = search rules;
  value = λ held is.
      gathered_more c.args.inline (outcome_in c.args.config.now) held _ c.loop-name.parts.items c.push.new.self.items c.loop-name.total
      c.bytes_in-total.result c.in-Some.name c.loop-name.name-iterator.rest.items c.next.new.self.rest.items c.in-Ok.part
      (search rules) c.bytes_in-total.ensures (search rules)
      (c.in-Ok.ensures.value held (subst (λ state. state.holds ≡ Some held) (sym c.loop-name.invariant.still) is))
      (c.loop-name.invariant.value held is);
  taken =
      all_more (λ named. KeepsPart c.args.config.now named.1) c.loop-name.parts.items c.push.new.self.items (c.in-Some.name, c.in-Ok.part)
      (search rules) c.loop-name.invariant.taken c.in-Ok.ensures.taken;
  named = names_more c.loop-name.parts.items c.push.new.self.items c.loop-name.yielded c.in-Some.name c.in-Ok.part (search rules) c.loop-name.invariant.named;
  listed =
      listed_more c.args.names c.loop-name.yielded c.loop-name.name-iterator.rest.items c.next.new.self.rest.items c.in-Some.name
      c.loop-name.invariant.listed (search rules);
}
