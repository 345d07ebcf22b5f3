use Rattle.std.proofs.lemmas.Option.{slice_get_past, slice_get_read}
use Rattle.std.proofs.Common.{refl, length, map}
use Rattle.es_tables.proofs.NodesLemmas.{kept_fields, no_fields}
use Rattle.es_tables.proofs.fields.fields_of.Goals as goal

pub returns-in-Some : goal.returns-in-Some
returns-in-Some c =
    let lookup = c.in-Some.ensures.lookup in
    kept_fields (λ fields. map (λ field. (field.name.now, field.holds)) fields.now) _ c.all_fields.ensures c.args.kind _
    (slice_get_read c.all_fields.result.now (length c.all_fields.result.now) c.args.kind _ refl lookup.3.0 lookup.1)

pub returns-in-None : goal.returns-in-None
returns-in-None c =
    no_fields (λ fields. map (λ field. (field.name.now, field.holds)) fields.now) _ c.all_fields.ensures c.args.kind
    (slice_get_past _ c.args.kind c.in-None.ensures.lookup.3)
