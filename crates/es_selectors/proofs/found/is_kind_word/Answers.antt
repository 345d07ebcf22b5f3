use Rattle.std.proofs.Common.{subst}
use Rattle.es_tables.specs.Rows.{HasRow}
use Rattle.es_selectors.proofs.KindLemmas.{found_word, missing_word}
use Rattle.es_selectors.proofs.found.is_kind_word.Goals as goal

pub returns-in-Some : goal.returns-in-Some
returns-in-Some c =
    let rows = c.node_kinds-kinds.result.rows.now in
    let row = subst (λ text. HasRow rows text c.in-Some.row.now.code) c.in-Some.ensures.text c.in-Some.ensures.row in
    found_word rows c.args.text.now c.in-Some.row.now.code c.args.kind c.node_kinds-kinds.ensures.words row

pub returns-in-None : goal.returns-in-None
returns-in-None c = missing_word c.node_kinds-kinds.result.rows.now c.args.text.now c.args.kind c.node_kinds-kinds.ensures.words c.in-None.ensures.missing
