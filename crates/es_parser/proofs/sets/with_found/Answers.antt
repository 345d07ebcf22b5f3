use Rattle.std.specs.Int.{w128}
use Rattle.std.proofs.lemmas.Nat.Bits.{bit_at_set_same, bit_at_set_other}
use Rattle.es_parser.proofs.sets.with_found.Goals as goal

pub returns-then-found-clause-others : goal.returns-then-found-clause-others
returns-then-found-clause-others c = λ k apart. bit_at_set_other w128 c.args.set c.args.code c.requires k apart

pub returns-then-found-clause-this : goal.returns-then-found-clause-this
returns-then-found-clause-this c = λ _. bit_at_set_same w128 c.args.set c.args.code c.requires
