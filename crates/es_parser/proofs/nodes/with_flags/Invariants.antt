use Rattle.std.proofs.Common.{◌≡◌, drop}
use Rattle.es_grammar.specs.Drafts.{flags_of, with_flags}
use Rattle.es_tree.specs.Shapes.{bare}
use Rattle.es_parser.proofs.FlagsLemmas.{given}
use Rattle.es_parser.proofs.nodes.with_flags.Given as goal

abbrev pub invariant-loop-flag : goal.invariant-loop-flag
invariant-loop-flag l =
    given (drop l.flag-index l.flag-items) l.node
    ≡ with_flags l.fn.kind (flags_of l.fn.kind) (bare l.fn.kind l.fn.span)
