use Rattle.std.proofs.Common.{length, refl}
use Rattle.std.proofs.lemmas.Option.{slice_get_past, slice_get_read}
use Rattle.es_parser.proofs.FlagsLemmas.{kept_flags, no_flags}
use Rattle.es_parser.proofs.nodes.flags_of.Goals as goal

pub returns-in-Some : goal.returns-in-Some
returns-in-Some c =
    let lookup = c.in-Some.ensures.lookup in
    kept_flags (λ flags. flags.now) _ c.all_flags.ensures c.args.kind _
    (slice_get_read c.all_flags.result.now (length c.all_flags.result.now) c.args.kind _ refl lookup.3.0 lookup.1)

pub returns-in-None : goal.returns-in-None
returns-in-None c =
    no_flags (λ flags. flags.now) _ c.all_flags.ensures c.args.kind
    (slice_get_past _ c.args.kind c.in-None.ensures.lookup.3)
