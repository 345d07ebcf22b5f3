use Rattle.std.proofs.Common.{◌+◌, ◌∙◌, ap, sym, refl, subst, List, ℕ, IsUtf8}
use Rattle.std.specs.Prelude.{slice_get}
use Rattle.std.specs.Str.{chars, IsCharBoundary}
use Rattle.std.proofs.lemmas.Str.{IsCharBoundary-past_char}
use Rattle.es_lexer.proofs.CursorLemmas.{at_end, steps_over}
use Rattle.es_lexer.proofs.cursor.Cursor.next_wide.Goals as goal

pub returns-in_err-c-clause-end : goal.returns-in_err-c-clause-end
returns-in_err-c-clause-end c =
    at_end _ c.args.self (c.in_err-c.ensures.steps.2 ∙ ap (λ x. slice_get (chars x) 0) (c.chars.ensures.rest ∙ c.rest.ensures))

pub invariant_of-result : goal.invariant_of-result
invariant_of-result c =
    let splits = sym (c.chars.ensures.rest ∙ c.rest.ensures) ∙ c.in_ok-c.ensures.steps.0 in
    let utf8 = subst (λ (s : List ℕ). IsUtf8 s) c.rest.ensures c.rest.utf8 in
    let past = IsCharBoundary-past_char c.args.self.text.now _ c.args.self.offset c.in_ok-c.c c.args.self.on_boundary.0 utf8 splits in
    record { on_boundary = subst (λ (n : ℕ). IsCharBoundary c.args.self.text.now (c.args.self.offset + n)) (sym c.len_utf8.ensures.value) past }

pub returns-clause-step : goal.returns-clause-step
returns-clause-step c =
    steps_over _ _ c.in_ok-c.c _ (subst (λ (s : List ℕ). IsUtf8 s) c.rest.ensures c.rest.utf8)
    (sym (c.chars.ensures.rest ∙ c.rest.ensures) ∙ c.in_ok-c.ensures.steps.0) refl (ap (λ n. c.args.self.offset + n) c.len_utf8.ensures.value)
