use Rattle.std.proofs.Common.{◌<◌, ◌∙◌, arith, sym}
use Rattle.es_tables.proofs.NodesLemmas.{kept_index, index_is_low}
use Rattle.es_tables.proofs.fields.field_of.Goals as goal

pub returns-in_err-index : goal.returns-in_err-index
returns-in_err-index c =
    c.from_residual.ensures
    ∙ (sym c.in_err-index.was ∙ (c.index_of.ensures ∙ kept_index (λ field. (field.name.now, field.holds)) _ c.args.kind c.args.name.now c.fields_of.ensures))

pub overflow_cast-result : goal.overflow_cast-result
overflow_cast-result c =
    let low : c.in_ok-index.index < 8 = index_is_low c.args.kind c.args.name.now _
    (sym (kept_index (λ field. (field.name.now, field.holds)) _ c.args.kind c.args.name.now c.fields_of.ensures) ∙ (sym c.index_of.ensures ∙ c.in_ok-index.was)) in
    omega arith

pub returns : goal.returns
returns c =
    sym c.in_ok-index.was ∙ (c.index_of.ensures ∙ kept_index (λ field. (field.name.now, field.holds)) _ c.args.kind c.args.name.now c.fields_of.ensures)
