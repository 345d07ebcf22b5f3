use Rattle.std.proofs.Common.{◌≡◌, ◌++◌, drop, map, string_bytes}
use Rattle.std.specs.Str.{chars}
use Rattle.es_plan.proofs.names.names_of.Given as goal

abbrev pub invariant-loop-name : goal.invariant-loop-name
invariant-loop-name l =
    l.names ++ map chars (map string_bytes (drop l.name-index l.each)) ≡ map chars (map string_bytes l.each)
