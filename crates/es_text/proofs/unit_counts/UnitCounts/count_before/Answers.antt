use Rattle.es_text.proofs.UnitCountLemmas.{begun-ascii}
use Rattle.es_text.proofs.unit_counts.UnitCounts.count_before.Goals as goal

pub returns-then-self : goal.returns-then-self
returns-then-self c = begun-ascii c.args.text.now c.args.at (c.requires.counted.plain c.if-self.true) c.requires.within
