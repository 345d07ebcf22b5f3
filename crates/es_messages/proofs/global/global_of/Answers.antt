use Rattle.std.proofs.Common.{◌≡◌, ◌∙◌, ℕ, ◌+◌, ◌<◌, ◌≤◌, true, cond, List, length, take, drop, ap, sym, arith, Option, Some, None, option_map}
use Rattle.std.specs.List.{after_first, before_first, list_any, position_or_len}
use Rattle.std.proofs.lemmas.List.{length-take-le, take_rest}
use Rattle.es_settings.specs.declared.global_use.GlobalUse.{GlobalUse}
use Rattle.es_settings.specs.declared.global_use.GlobalUse.TheVariants.{On}
use Rattle.es_messages.specs.Classes.{is_colon}
use Rattle.es_messages.specs.Directives.{global_of, named, use_of}
use Rattle.es_messages.specs.Stretches.{holds}
use Rattle.es_messages.proofs.PartsLemmas.{colon_in, filled, no_colon}
use Rattle.es_messages.proofs.global.global_of.Goals as goal

-- without a colon, and with one
alone : (n : ℕ) (part : List ℕ) → n ≡ position_or_len is_colon part → 0 < n → n ≡ length part → Some (part, On) ≡ global_of part
alone n part here some whole =
    sym (ap (λ b. cond b (named (before_first is_colon part) (use_of (after_first is_colon part))) (named part (Some On))) (no_colon n part here (omega (arith, whole)))
    ∙ ap (λ b. cond b (Some (part, On)) None) (filled part (omega (arith, some, whole))))

with_use : (n : ℕ) (part : List ℕ) (known : Option GlobalUse) → n ≡ position_or_len is_colon part → 0 < n → n < length part → known ≡ use_of (drop (n + 1) part) → option_map (λ how. (take n part, how)) known ≡ global_of part
with_use n part known here some near is =
    let name : take n part ≡ before_first is_colon part = ap (λ k. take k part) here in
    let long : 0 < length (take n part) = omega (arith, length-take-le n part (omega arith)) in
    let whole : holds (before_first is_colon part) ≡ true = ap holds (sym name) ∙ filled (take n part) long in
    ap (λ name. option_map (λ how. (name, how)) known) name
    ∙ ap (option_map (λ how. (before_first is_colon part, how))) (is ∙ ap (λ k. use_of (drop (k + 1) part)) here)
    ∙ sym (ap (λ b. cond b (named (before_first is_colon part) (use_of (after_first is_colon part))) (named part (Some On))) (colon_in n part here near)
    ∙ ap (λ b. cond b (option_map (λ how. (before_first is_colon part, how)) (use_of (after_first is_colon part))) None) whole)

pub returns-then-n-part : goal.returns-then-n-part
returns-then-n-part c = alone c.run-n.result c.args.part.now c.run-n.ensures.value (omega (arith, c.if-n-eq0.false)) c.if-n-part.true

pub returns-in-Some : goal.returns-in-Some
returns-in-Some c =
    with_use c.run-n.result c.args.part.now (Some c.in-Some.value) c.run-n.ensures.value (omega (arith, c.if-n-eq0.false)) (omega (arith, c.run-n.ensures.bound, c.if-n-part.false))
    (c.in-Some.ensures ∙ ap use_of (take_rest c.args.part.now (c.run-n.result + 1)))

pub returns-in-None : goal.returns-in-None
returns-in-None c =
    with_use c.run-n.result c.args.part.now None c.run-n.ensures.value (omega (arith, c.if-n-eq0.false)) (omega (arith, c.run-n.ensures.bound, c.if-n-part.false))
    (c.in-None.ensures ∙ ap use_of (take_rest c.args.part.now (c.run-n.result + 1)))
