use Rattle.std.proofs.Common.{◌≡◌}
use Rattle.es_grammar.specs.Drafts.{flags_of, with_flags, with_settings}
use Rattle.es_tree.specs.Shapes.{bare}
use Rattle.es_parser.proofs.nodes.with_settings.Given as goal

abbrev pub invariant-loop-setting : goal.invariant-loop-setting
invariant-loop-setting l =
    with_settings l.kind l.setting-iterator.rest.items l.node
    ≡ with_settings l.fn.kind l.fn.settings (with_flags l.fn.kind (flags_of l.fn.kind) (bare l.fn.kind l.fn.span))
