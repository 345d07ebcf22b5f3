use Rattle.std.proofs.Common.{◌≡◌, ◌++◌}
use Rattle.es_grammar.specs.Parts.{told, told_child}
use Rattle.es_parser.proofs.DirectivesLemmas.{rest_told}
use Rattle.es_parser.proofs.directives.with_directives.Given as goal

abbrev pub invariant-loop-child : goal.invariant-loop-child
invariant-loop-child l =
    l.all.items ++ rest_told l.head l.child-iterator.rest.items ≡ told told_child l.fn.children
