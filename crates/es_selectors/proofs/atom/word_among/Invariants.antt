use Rattle.std.proofs.Common.{◌≡◌, drop, map}
use Rattle.es_selectors.specs.Spelling.{word_among}
use Rattle.es_selectors.proofs.atom.word_among.Given as goal

abbrev pub invariant-loop-row : goal.invariant-loop-row
invariant-loop-row l =
    word_among (map (λ row. (row.text.now, row.word)) (drop l.row-index l.rows)) l.text
    ≡ word_among (map (λ row. (row.text.now, row.word)) l.rows) l.text
