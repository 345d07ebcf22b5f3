use Rattle.std.proofs.Common.{ℕ, ◌≡◌, ◌<◌, None, ◌∷◌, List, [], drop, length, length-drop, refl, arith, ◌∙◌, sym}
use Rattle.es_selectors.specs.Lexical.{after}
use Rattle.es_selectors.proofs.lexical.after.Goals as goal

-- no text is too short for a word but the one that is over
over : (word rest : List ℕ) → length rest < 1 → 0 < length word → after word rest ≡ None
over [] rest e h = absurd (omega arith)
over (w ∷ word) [] e h = refl
over (w ∷ word) (c ∷ rest) e h = absurd (omega arith)

pub returns-in_default-clause-value : goal.returns-in_default-clause-value
returns-in_default-clause-value c =
    let h : 0 < length (drop c.loop-byte.byte-index c.args.word.now) = omega (arith, length-drop c.loop-byte.byte-index c.args.word.now) in
    sym (sym c.loop-byte.invariant.value ∙ over _ _ c.in_default.len_below h)
