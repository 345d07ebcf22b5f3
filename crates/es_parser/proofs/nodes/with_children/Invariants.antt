use Rattle.std.proofs.Common.{◌≡◌}
use Rattle.es_grammar.specs.Drafts.{with_children}
use Rattle.es_parser.proofs.nodes.with_children.Given as goal

abbrev pub invariant-loop-child : goal.invariant-loop-child
invariant-loop-child l =
    with_children l.kind l.child-iterator.rest.items l.node ≡ with_children l.fn.kind l.fn.children l.fn.node
