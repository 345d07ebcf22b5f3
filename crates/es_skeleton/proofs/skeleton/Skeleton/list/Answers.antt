use Rattle.es_skeleton.proofs.ShapesLemmas.{shape_seq}
use Rattle.es_skeleton.proofs.skeleton.Skeleton.list.Goals as goal

pub returns : goal.returns
returns c = shape_seq c.args.parts
