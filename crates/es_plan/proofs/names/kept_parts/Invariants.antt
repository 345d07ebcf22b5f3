use Rattle.std.proofs.Common.{◌≡◌, drop, fold, map}
use Rattle.es_plan.specs.Names.{kept_parts, with_part}
use Rattle.es_plan.proofs.names.kept_parts.Given as goal

abbrev pub invariant-loop-part : goal.invariant-loop-part
invariant-loop-part l =
    fold (with_part l.absolute) (map (λ part. part.now) l.kept.items) (map (λ part. part.now) (drop l.part-index l.parts))
    ≡ kept_parts l.absolute (map (λ part. part.now) l.parts)
