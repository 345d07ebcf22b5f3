use Rattle.std.proofs.Common.{refl}
use Rattle.es_tables.proofs.fields.all_fields.Goals as goal

-- the checker computes over the whole table
pub returns : goal.returns
returns c = refl
