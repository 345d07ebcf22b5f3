use Rattle.std.proofs.Common.{refl, arith}
use Rattle.es_lexer.proofs.WordLemmas.{past_rest}
use Rattle.es_lexer.proofs.cursor.Cursor.past_word.Goals as goal

pub invariant_of-result : goal.invariant_of-result
invariant_of-result c = record { on_boundary = c.requires.behind }

pub returns-clause-value : goal.returns-clause-value
returns-clause-value c = past_rest c.args.self.text.now c.args.self.offset c.args.word.now c.requires.ascii c.requires.begins

pub returns-clause-moves : goal.returns-clause-moves
returns-clause-moves c = record { text = refl; order = omega arith }
