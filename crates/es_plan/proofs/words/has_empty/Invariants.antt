use Rattle.std.proofs.Common.{◌≡◌, ◌==◌, drop, length, map}
use Rattle.std.specs.List.{list_any}
use Rattle.es_plan.proofs.words.has_empty.Given as goal

abbrev pub invariant-loop-file : goal.invariant-loop-file
invariant-loop-file l =
    list_any (λ file. length file == 0) (map (λ file. file.now) (drop l.file-index l.files))
    ≡ list_any (λ file. length file == 0) (map (λ file. file.now) l.files)
