use Rattle.std.proofs.Common.{◌∙◌}
use Rattle.es_selectors.proofs.KindLemmas.{code_is}
use Rattle.es_selectors.proofs.atom.kind_named.Goals as goal

pub returns : goal.returns
returns c = c.code_named.ensures ∙ code_is c.node_kinds-kinds.result.rows.now c.args.word.now c.node_kinds-kinds.ensures.words
