use Rattle.std.proofs.Common.{◌∙◌, ap}
use Rattle.es_rules_scope.specs.Globals.{is_word}
use Rattle.es_rules_scope.proofs.WordsLemmas.{words_in}
use Rattle.es_rules_scope.proofs.globals.is_of_commonjs.Goals as goal

pub returns : goal.returns
returns c =
    c.is_word.ensures ∙ words_in c.of_commonjs.result.now c.args.name.now ∙ ap (λ words. is_word words c.args.name.now) c.of_commonjs.ensures
