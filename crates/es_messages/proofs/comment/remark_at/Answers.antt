use Rattle.std.proofs.Common.{◌≡◌, ◌∙◌, ℕ, ◌+◌, ◌<◌, false, cond, List, length, drop, sym, ap, arith}
use Rattle.std.proofs.lemmas.List.{drop_more, take_rest}
use Rattle.es_messages.specs.Directives.{begins_remark, remark_at}
use Rattle.es_messages.proofs.comment.remark_at.Goals as goal

more : (text : List ℕ) (i : ℕ) → i < length text → begins_remark (drop i text) ≡ false → remark_at (drop i text) ≡ 1 + remark_at (drop (i + 1) text)
more text i within none =
    let split = drop_more text i 0 within in
    ap remark_at split ∙ ap (λ b. cond b 0 (1 + remark_at (drop (i + 1) text))) (ap begins_remark (sym split) ∙ none)

pub loop-i-preserved : goal.loop-i-preserved
loop-i-preserved c =
    let text : List ℕ = c.args.text.now in
    let i : ℕ = c.loop-i.i in
    let none : begins_remark (drop i text) ≡ false =
    ap begins_remark (sym (take_rest text i)) ∙ (sym c.begins_remark.ensures ∙ c.if-begins_remark.false) in
    let step = more text i c.loop-i-test.true none in
    let whole : i + remark_at (drop i text) ≡ remark_at text = c.loop-i.invariant in
    omega (arith, step, whole)
