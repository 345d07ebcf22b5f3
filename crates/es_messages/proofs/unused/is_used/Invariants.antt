use Rattle.std.proofs.Common.{◌≡◌, false, take, option_map}
use Rattle.es_messages.specs.Standings.{is_used_at}
use Rattle.es_messages.proofs.unused.is_used.Given as goal

abbrev pub invariant-loop-standing : goal.invariant-loop-standing
invariant-loop-standing l =
    is_used_at (take l.standing-index l.standings) l.place l.mark (option_map (λ rule. rule.now) l.rule) ≡ false
