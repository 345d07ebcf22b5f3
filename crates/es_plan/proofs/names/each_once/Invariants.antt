use Rattle.std.proofs.Common.{◌≡◌, drop, fold, map, string_bytes}
use Rattle.es_plan.specs.Names.{each_once, normalised, with_name}
use Rattle.es_plan.proofs.names.each_once.Given as goal

abbrev pub invariant-loop-file : goal.invariant-loop-file
invariant-loop-file l =
    fold with_name (map string_bytes l.names.keys) (map (λ file. normalised file.now) (drop l.file-index l.files))
    ≡ each_once (map (λ file. normalised file.now) l.files)
