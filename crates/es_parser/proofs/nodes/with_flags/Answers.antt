use Rattle.std.proofs.Common.{◌∙◌, ap}
use Rattle.es_grammar.specs.Drafts.{flags_of, with_flags}
use Rattle.es_parser.proofs.FlagsLemmas.{all_given, given}
use Rattle.es_parser.proofs.nodes.with_flags.Goals as goal

pub loop-flag-init : goal.loop-flag-init
loop-flag-init c =
    ap (λ flags. given flags c.in_ok-node.node) c.flags_of-flag-items.ensures
    ∙ all_given c.args.kind (flags_of c.args.kind) c.in_ok-node.node
    ∙ ap (with_flags c.args.kind (flags_of c.args.kind)) c.in_ok-node.ensures.node
