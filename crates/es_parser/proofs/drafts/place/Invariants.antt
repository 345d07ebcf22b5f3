use Rattle.std.proofs.Common.{◌≡◌, ◌++◌, map}
use Rattle.std.specs.Prelude.{Some}
use Rattle.es_grammar.specs.Parts.{placed}
use Rattle.es_parser.proofs.drafts.place.Given as goal

abbrev pub invariant-loop-child : goal.invariant-loop-child
invariant-loop-child l =
    l.all.items ++ map (placed (Some l.field)) l.child-iterator.rest.items ≡ map (placed (Some l.field)) l.fn.children
