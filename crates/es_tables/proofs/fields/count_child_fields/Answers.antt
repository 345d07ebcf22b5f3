use Rattle.std.proofs.Common.{◌≡◌, ◌∙◌, rules}
use Rattle.std.specs.Prelude.{count_by, is_some}
use Rattle.es_tables.proofs.NodesLemmas.{kept_count}
use Rattle.es_tables.proofs.fields.count_child_fields.Goals as goal

pub returns : goal.returns
returns c =
    let counted : c.count.result ≡ count_by (λ field. is_some field.holds) c.fields_of.result.now = search rules in
    counted ∙ kept_count (λ field. (field.name.now, field.holds)) c.fields_of.result.now c.args.kind c.fields_of.ensures
