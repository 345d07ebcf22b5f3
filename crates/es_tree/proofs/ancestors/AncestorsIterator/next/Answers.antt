use Rattle.std.proofs.Common.{◌∙◌, ◌∷◌, ap, sym, length, rules}
use Rattle.es_tree.specs.Around.{ancestors, with_around}
use Rattle.es_tree.proofs.AroundLemmas.{ancestors-step}
use Rattle.es_tree.proofs.ancestors.AncestorsIterator.next.Goals as goal

pub returns-clause-steps : goal.returns-clause-steps
returns-clause-steps c =
    ap (with_around (ancestors c.args.self.now.tree.now)) c.in_ok-node.was
    ∙ ap (λ nodes. c.in_ok-node.node ∷ nodes) (ancestors-step c.args.self.now.tree.now c.parent-self.ensures.numbered c.in_ok-node.node
    ∙ ap (with_around (ancestors c.args.self.now.tree.now)) (sym c.parent-self.ensures.parent))

pub returns-clause-goes : goal.returns-clause-goes
returns-clause-goes c =
    let shorter = ap length (returns-clause-steps c) in search (rules, shorter)
