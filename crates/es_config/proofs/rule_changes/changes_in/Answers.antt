use Rattle.std.proofs.Common.{map}
use Rattle.es_config.specs.Entries.{change_of}
use Rattle.es_config.specs.Reading.{IsFine, change_at, known}
use Rattle.es_config.proofs.WalksLemmas.{all_pushed, map_pushed, object_on}
use Rattle.es_config.proofs.rule_changes.changes_in.Goals as goal

pub loop-key-preserved : goal.loop-key-preserved
loop-key-preserved g c =
    let rules = known (g.K.Known.ids c.args.rules.now) (g.K.Known.verdict c.args.rules.now) in
    let pushed = map_pushed change_of c.loop-key.changes c.push.new.self c.in-Ok.change c.in_ok-push-in-Ok.ensures.ok in
    record {
      value = object_on (change_at rules) c.args.members.now.entries c.loop-key.key-iterator c.next.new.self c.in-Some.key.now c.in-Some.value.now c.as_str.result.now
          (map change_of c.loop-key.changes) (map change_of c.push.new.self) (change_of c.in-Ok.change)
          c.in-Some.ensures.steps c.as_str.ensures.value c.in-Ok.ensures.value pushed c.loop-key.invariant.value;
      fine = all_pushed (IsFine rules) (map change_of c.loop-key.changes) (map change_of c.push.new.self) (change_of c.in-Ok.change) pushed c.loop-key.invariant.fine c.in-Ok.ensures.fine;
    }
