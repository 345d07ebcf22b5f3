use Rattle.std.proofs.Common.{◌≡◌, ◌++◌, false, drop}
use Rattle.es_messages.specs.Directives.{behind_colons}
use Rattle.es_messages.proofs.global.behind_colons.Given as goal

abbrev pub invariant-loop-c : goal.invariant-loop-c
invariant-loop-c l = l.kept.items ++ behind_colons l.after (drop l.c-index l.text) ≡ behind_colons false l.text
