use Rattle.es_text.proofs.UnitMarkLemmas.{begun-since}
use Rattle.es_text.proofs.unit_counts.count_by_marks.Goals as goal

pub returns : goal.returns
returns c = begun-since c.args.bytes.now c.args.marks.now c.args.at c.count_units.result c.requires.marked c.requires.within c.count_units.ensures.units
