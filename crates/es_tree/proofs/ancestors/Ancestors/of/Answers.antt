use Rattle.std.proofs.Common.{◌∙◌, ap, sym}
use Rattle.es_tree.specs.Around.{ancestors, with_around}
use Rattle.es_tree.proofs.AroundLemmas.{ancestors-step}
use Rattle.es_tree.proofs.ancestors.Ancestors.of.Goals as goal

pub returns : goal.returns
returns c =
    ap (with_around (ancestors c.args.tree.now)) c.parent.ensures.parent
    ∙ sym (ancestors-step c.args.tree.now c.parent.ensures.numbered c.args.node)
