use Rattle.std.proofs.Common.{◌≡◌, ◌++◌, reverse, vec_len}
use Rattle.es_settings.specs.Globals.{firsts, firsts_behind}
use Rattle.es_settings.proofs.globals.firsts.Given as goal

abbrev pub invariant-loop-global : goal.invariant-loop-global
invariant-loop-global l = l.each.items ++ firsts_behind l.last (reverse l.globals.items) ≡ firsts l.fn.globals.items

abbrev pub decreases-loop-global : goal.decreases-loop-global
decreases-loop-global l = vec_len l.globals
