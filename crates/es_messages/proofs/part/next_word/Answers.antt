use Rattle.std.proofs.Common.{◌≡◌, ◌∙◌, ℕ, ◌-◌, ◌<◌, List, [], ◌∷◌, length, take, drop, refl, ap, sym, subst, arith}
use Rattle.std.specs.List.{position_or_len, prefix_len}
use Rattle.std.proofs.lemmas.Bool.{eqb-false, eqb-true}
use Rattle.std.proofs.lemmas.List.{drop_all, take_all, take_rest}
use Rattle.es_messages.specs.Classes.{is_separator}
use Rattle.es_messages.specs.Directives.{words}
use Rattle.es_messages.proofs.PartsLemmas.{first_other, words_first, words_skip}
use Rattle.es_messages.proofs.part.next_word.Goals as goal

-- what is left behind separators
left : (text : List ℕ) (r : ℕ) → r ≡ prefix_len is_separator text → words text ≡ words (take (length text - r) (drop r text))
left text r is =
    sym (words_skip text) ∙ ap (λ k. words (drop k text)) (sym is) ∙ ap words (sym (take_rest text r))

pub returns-then-is_empty-clause-none : goal.returns-then-is_empty-clause-none
returns-then-is_empty-clause-none c =
    let text : List ℕ = c.args.text.now in
    let r : ℕ = c.run.result in
    let rest : List ℕ = take (length text - r) (drop r text) in
    let empty : length rest ≡ 0 = eqb-true (length rest) 0 (sym c.is_empty.ensures ∙ c.if-is_empty.true) in
    left text r c.run.ensures.value ∙ ap words (sym (drop_none rest) ∙ drop_all 0 rest (omega (arith, empty)))
  where
    drop_none : (xs : List ℕ) → drop 0 xs ≡ xs
    drop_none xs = refl

pub returns-clause-some : goal.returns-clause-some
returns-clause-some c =
    let text : List ℕ = c.args.text.now in
    let r : ℕ = c.run.result in
    let rest : List ℕ = take (length text - r) (drop r text) in
    let full : 0 < length rest = positive (length rest) (eqb-false (length rest) 0 (sym c.is_empty.ensures ∙ c.if-is_empty.false)) in
    let same : rest ≡ drop (prefix_len is_separator text) text = take_rest text r ∙ ap (λ k. drop k text) c.run.ensures.value in
    let long : 0 < position_or_len is_separator rest =
    subst (λ xs. 0 < position_or_len is_separator xs) (sym same) (first_other is_separator text (subst (λ xs. 0 < length xs) same full)) in
    let n : ℕ = c.run-n.result in
    left text r c.run.ensures.value
    ∙ words_first n rest c.run-n.ensures.value (omega (arith, long, c.run-n.ensures.value)) full
    ∙ ap (λ xs. take n rest ∷ words xs) (sym (take_rest rest n))
  where
    positive : (n : ℕ) → (n ≡ 0 → ⊥) → 0 < n
    positive n some = omega (arith, some)
