use Rattle.std.proofs.Common.{◌≡◌, [], map}
use Rattle.es_host.proofs.ListsLemmas.{Before}
use Rattle.es_host.specs.Files.{file_in}
use Rattle.es_host.specs.Hearing.{HasHeard}
use Rattle.es_host.proofs.begin.begin_all.Given as goal

abbrev pub invariant-loop-place : goal.invariant-loop-place
invariant-loop-place g l =
    (map g.R.Rule.meaning l.rules ≡ map g.R.Rule.meaning l.fn.rules)
    × Before l.place (HasHeard g.R.Rule.heard (file_in l.file) (λ _. [])) l.rules
