use Rattle.std.proofs.Common.{◌≡◌, ◌∙◌, Option, Some, None, sym, ap, refl, length, slice_get}
use Rattle.std.specs.Prelude.{option_and_then}
use Rattle.std.proofs.lemmas.Option.{slice_get_past, slice_get_read}
use Rattle.es_tables.proofs.NodesLemmas.{kept_holds}
use Rattle.es_tables.proofs.fields.child_field.Goals as goal

pub returns-in_err-get : goal.returns-in_err-get
returns-in_err-get c =
    c.from_residual.ensures
    ∙ (ap (option_and_then (λ field. field.holds)) (sym (slice_get_past c.fields_of.result.now c.args.field c.in_err-get.ensures.lookup.3))
    ∙ kept_holds (λ field. (field.name.now, field.holds)) c.fields_of.result.now c.args.kind c.args.field c.fields_of.ensures)

pub returns : goal.returns
returns c =
    let lookup = c.in_ok-get.ensures.lookup in
    ap (option_and_then (λ field. field.holds)) (sym (slice_get_read c.fields_of.result.now (length c.fields_of.result.now) c.args.field c.in_ok-get.field-0.now refl lookup.3.0 lookup.1))
    ∙ kept_holds (λ field. (field.name.now, field.holds)) c.fields_of.result.now c.args.kind c.args.field c.fields_of.ensures
