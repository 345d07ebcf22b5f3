use Rattle.std.proofs.Common.{◌≡◌, [], ◌∷◌, ◌++◌, append_assoc, sym, subst, ap, ◌∙◌, arith}
use Rattle.std.specs.Prelude.{Some, None, codes}
use Rattle.es_selectors.specs.Lexical.{after, name}
use Rattle.es_selectors.specs.Refusals.{no_name, no_names}
use Rattle.es_selectors.specs.Spelling.{SpellsNames, one_name, more_names}
use Rattle.es_selectors.proofs.attribute.names.Goals as goal

pub returns-in_default-clause-told : goal.returns-in_default-clause-told
returns-in_default-clause-told c = c.loop-word.invariant.refused (no_name (sym c.in_default.ensures.value))

pub loop-word-preserved : goal.loop-word-preserved
loop-word-preserved c =
    let word = c.in-Some.word.now in
    let behind = c.in-Some.behind.now in
    let here : name c.loop-word.rest.now ≡ Some (word, behind) = sym c.in-Some.ensures.value in
    let dot : after (codes ".") behind ≡ Some c.in-Some-after.next.now = sym c.in-Some-after.ensures.value in
    let pushed : c.push.new.self ≡ c.loop-word.names ++ word ∷ [] = c.in_ok-push.ensures.ok ∙ ap (λ x. c.loop-word.names ++ x ∷ []) c.in_ok-text_of.ensures in
    record {
      spelled = λ names rest spelled.
          subst (λ ns. SpellsNames c.args.text.now ns rest) (sym (ap (λ ns. ns ++ names) pushed ∙ append_assoc c.loop-word.names (word ∷ []) names))
          (c.loop-word.invariant.spelled (word ∷ names) rest (more_names here dot spelled));
      refused = λ refused. c.loop-word.invariant.refused (no_names here dot refused);
      no_longer = omega (arith, c.in-Some-after.ensures.no_longer, c.in-Some.ensures.shorter);
    }

pub returns-in-None-clause-told : goal.returns-in-None-clause-told
returns-in-None-clause-told c =
    let word = c.in-Some.word.now in
    let behind = c.in-Some.behind.now in
    let here : name c.loop-word.rest.now ≡ Some (word, behind) = sym c.in-Some.ensures.value in
    let no_dot : after (codes ".") behind ≡ None = sym c.in-None.ensures.value in
    let pushed : c.push.new.self ≡ c.loop-word.names ++ word ∷ [] = c.in_ok-push.ensures.ok ∙ ap (λ x. c.loop-word.names ++ x ∷ []) c.in_ok-text_of.ensures in
    subst (λ ns. SpellsNames c.args.text.now ns behind) (sym pushed)
    (c.loop-word.invariant.spelled (word ∷ []) behind (one_name here no_dot))
