use Rattle.std.proofs.Common.{◌∙◌, ◌-◌, ap, sym, length, arith}
use Rattle.es_grammar.specs.declared.draft.Child.{Child}
use Rattle.es_parser.proofs.ConditionsLemmas.{last_child}
use Rattle.es_parser.proofs.conditions.last_shape.Goals as goal

pub returns-in-len1-up : goal.returns-in-len1-up
returns-in-len1-up c =
    let last = c.last-item.result in
    c.shape_of.ensures ∙ ap (λ (child : Child). child.shape) c.last-item.is
    ∙ sym (last_child c.args.children.now last (length c.args.children.now - 1) (omega (arith, c.in-len1-up.len_at_least)))
