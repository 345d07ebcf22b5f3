use Rattle.std.proofs.Common.{◌≡◌, ◌∙◌, ℕ, ◌+◌, List, ◌∷◌, ap, sym, arith}
use Rattle.std.specs.List.{slice_split}
use Rattle.es_messages.specs.Classes.{is_comma}
use Rattle.es_messages.specs.Seen.{seen}
use Rattle.es_messages.specs.Stretches.{Characters, behind, placed}
use Rattle.es_messages.proofs.PartsLemmas.{placed_first, split_whole}
use Rattle.es_messages.proofs.part.first_piece.Goals as goal

pub returns-then-n-stretch-clause-value : goal.returns-then-n-stretch-clause-value
returns-then-n-stretch-clause-value c =
    let pieces : Characters → List Characters = λ left. placed left.at (slice_split is_comma left.list) in
    let n : ℕ = c.run-n.result in
    placed_first c.args.stretch.at n c.args.stretch.list.now c.run-n.ensures.value c.if-n-stretch.true
    ∙ ap (λ piece. piece ∷ pieces (behind (n + 1) (seen c.args.stretch))) (sym c.front.ensures)
    ∙ ap (λ left. seen c.front.result ∷ pieces left) (sym c.behind.ensures)

pub returns-else-n-stretch-clause-value : goal.returns-else-n-stretch-clause-value
returns-else-n-stretch-clause-value c =
    ap (placed c.args.stretch.at) (split_whole is_comma c.args.stretch.list.now (omega (arith, c.run-n.ensures.value, c.if-n-stretch.false)))
