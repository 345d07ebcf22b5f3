use Rattle.es_config.specs.Reading.{global_at}
use Rattle.es_config.proofs.WalksLemmas.{object_on}
use Rattle.es_config.proofs.said_globals.globals_in.Goals as goal

pub loop-key-preserved : goal.loop-key-preserved
loop-key-preserved c =
    object_on global_at c.args.members.now.entries c.loop-key.key-iterator c.next.new.self c.in-Some.key.now c.in-Some.value.now c.as_str.result.now c.loop-key.globals c.push.new.self c.in-Ok.global
    c.in-Some.ensures.steps c.as_str.ensures.value c.in-Ok.ensures.value c.in_ok-push-in-Ok.ensures.ok c.loop-key.invariant
