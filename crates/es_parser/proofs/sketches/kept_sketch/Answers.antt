use Rattle.std.proofs.Common.{refl}
use Rattle.es_grammar.specs.Reading.{Reads}
use Rattle.es_grammar.specs.Drafts.{empty}
use Rattle.es_parser.proofs.SketchesLemmas.{faint_empty, reaches, stopped_so}
use Rattle.es_parser.proofs.sketches.kept_sketch.Goals as goal

pub returns-in_default : goal.returns-in_default
returns-in_default c = record {
  same = refl;
  sketch = (empty, faint_empty c.args.limit, stopped_so c.args.reached (Reads c.args.reader.now c.args.symbol c.args.spot) c.args.draft empty c.in_default.not-At c.requires.reads);
  ends = reaches c.args.reader.now c.args.spot.at c.args.reached c.args.draft c.requires.ends;
}
