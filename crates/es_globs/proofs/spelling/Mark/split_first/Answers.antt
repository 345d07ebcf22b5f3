use Rattle.std.proofs.Common.{◌∙◌, ◌+◌, ◌∷◌, take, ap, sym, arith}
use Rattle.std.specs.List.{slice_split}
use Rattle.std.proofs.lemmas.List.{take_rest}
use Rattle.es_globs.specs.Spelling.{is_mark}
use Rattle.es_globs.proofs.SpellingLemmas.{split_found, split_whole}
use Rattle.es_globs.proofs.spelling.Mark.split_first.Goals as goal

pub returns-then-n-pieces-clause-value : goal.returns-then-n-pieces-clause-value
returns-then-n-pieces-clause-value c =
    split_found (is_mark c.args.self) c.args.pieces.now c.at-n.result c.at-n.ensures.value c.if-n-pieces.true
    ∙ ap (λ left. take c.at-n.result c.args.pieces.now ∷ slice_split (is_mark c.args.self) left) (sym (take_rest c.args.pieces.now (c.at-n.result + 1)))

pub returns-else-n-pieces-clause-value : goal.returns-else-n-pieces-clause-value
returns-else-n-pieces-clause-value c =
    split_whole (is_mark c.args.self) c.args.pieces.now (omega (arith, c.at-n.ensures.value, c.if-n-pieces.false))
