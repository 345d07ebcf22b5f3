use Rattle.std.proofs.Common.{rules, arith}
use Rattle.std.proofs.lemmas.Grind.{common_steps}
use Rattle.std.proofs.lemmas.Str.{IsCharBoundary-start}
use Rattle.es_messages.proofs.fixing.replace.Goals as goal

pub loop-one-init : goal.loop-one-init
loop-one-init c = record {
  short = grind (arith, common_steps);
  boundary = IsCharBoundary-start c.args.text.now c.utf8.text;
  rest = c.requires;
  value = grind (arith, common_steps);
}
