use Rattle.std.proofs.Common.{◌+◌, List, ℕ, refl, subst}
use Rattle.std.specs.Str.{IsCharBoundary}
use Rattle.std.proofs.lemmas.Str.{IsCharBoundary-after_ascii}
use Rattle.es_lexer.proofs.CursorLemmas.{steps_over_ascii}
use Rattle.es_lexer.proofs.cursor.Cursor.next.Goals as goal

pub invariant_of-next : goal.invariant_of-next
invariant_of-next c =
    let bytes = c.as_bytes-bytes.ensures in
    record {
      on_boundary = subst (λ (t : List ℕ). IsCharBoundary t (c.args.self.offset + 1)) bytes.value
          (IsCharBoundary-after_ascii _ c.args.self.offset bytes.utf8 c.if-self-bytes.true c.if-bytes-self-lt128.true);
    }

pub returns-then-bytes-self-lt128-clause-step : goal.returns-then-bytes-self-lt128-clause-step
returns-then-bytes-self-lt128-clause-step c =
    let bytes = c.as_bytes-bytes.ensures in
    steps_over_ascii _ c.args.self _ bytes.value bytes.utf8 c.args.self.on_boundary c.if-self-bytes.true c.if-bytes-self-lt128.true refl refl
