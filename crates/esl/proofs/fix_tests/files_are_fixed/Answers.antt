use Rattle.std.proofs.Common.{◌≡◌, [], ◌∷◌, refl}
use Rattle.es_settings.specs.declared.verdict.Verdict.TheVariants.{Fine}
use Rattle.esl.proofs.KitsLemmas.{all_listed, at_vtable}
use Rattle.esl.proofs.fix_tests.files_are_fixed.Goals as goal
use Rattle.esl.proofs.fix_tests.files_are_fixed.OwnLists

-- each rule takes no options, whatever its state
pub expect_fixed-requires-clause-options : goal.expect_fixed-requires-clause-options
expect_fixed-requires-clause-options g c =
    let fine = at_vtable (λ v x. (((OwnLists.own-1).entry v).1.meaning x).verdict [] ≡ Fine) in
    all_listed (λ rule. (((OwnLists.own-1).entry rule.vtable).1.meaning rule.value).verdict [] ≡ Fine)
    c.push-7.new.self.items
    (c.into_dyn_box.result ∷ c.into_dyn_box-in_ok-new-2.result ∷ c.into_dyn_box-in_ok-new-3.result ∷ c.into_dyn_box-in_ok-new-4.result ∷ c.into_dyn_box-in_ok-new-5.result ∷ c.into_dyn_box-in_ok-new-6.result ∷ c.into_dyn_box-in_ok-new-7.result ∷ [])
    (rw (c.in_ok-push-7.ensures.items, c.in_ok-push-6.ensures.items, c.in_ok-push-5.ensures.items, c.in_ok-push-4.ensures.items, c.in_ok-push-3.ensures.items, c.in_ok-push-2.ensures.items, c.in_ok-push.ensures.items, c.new-rules.ensures.items) refl)
    (fine _ _ c.into_dyn_box.ensures.0 (λ x. refl) c.into_dyn_box.result.value, (fine _ _ c.into_dyn_box-in_ok-new-2.ensures.0 (λ x. refl) c.into_dyn_box-in_ok-new-2.result.value, (fine _ _ c.into_dyn_box-in_ok-new-3.ensures.0 (λ x. refl) c.into_dyn_box-in_ok-new-3.result.value, (fine _ _ c.into_dyn_box-in_ok-new-4.ensures.0 (λ x. refl) c.into_dyn_box-in_ok-new-4.result.value, (fine _ _ c.into_dyn_box-in_ok-new-5.ensures.0 (λ x. refl) c.into_dyn_box-in_ok-new-5.result.value, (fine _ _ c.into_dyn_box-in_ok-new-6.ensures.0 (λ x. refl) c.into_dyn_box-in_ok-new-6.result.value, (fine _ _ c.into_dyn_box-in_ok-new-7.ensures.0 (λ x. refl) c.into_dyn_box-in_ok-new-7.result.value, tt)))))))
