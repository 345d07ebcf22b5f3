use Rattle.std.proofs.Common.{◌≡◌, ℕ, ◌≤◌, Bool, true, false, sym, ap, ◌∙◌, refl, arith, ltb-true}
use Rattle.std.specs.Prelude.{◌==◌, nat_lt}
use Rattle.std.specs.Int.{bit_at}
use Rattle.std.proofs.lemmas.Nat.Bits.{bit_at_above}
use Rattle.es_grammar.specs.TerminalSets.{code_of}
use Rattle.es_parser.proofs.terminals.has.Goals as goal

not_below : (k : ℕ) → 128 ≤ k → (b : Bool) → nat_lt k 128 ≡ b → nat_lt k 128 ≡ false
not_below k high true e = let low = ltb-true k 128 e in absurd (omega (arith, high, low))
not_below k high false e = e

pub returns-else-code-lt128 : goal.returns-else-code-lt128
returns-else-code-lt128 c =
    let code = code_of c.args.terminal in
    let zero : bit_at c.args.set code ≡ 0 = bit_at_above c.args.set 128 code c.ranges.set.fits (omega (arith, c.code-code.ensures, c.if-code-lt128.false)) in
    not_below c.code-code.result c.if-code-lt128.false (nat_lt c.code-code.result 128) refl ∙ sym (ap (λ bit. bit == 1) zero)
