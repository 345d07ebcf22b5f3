use Rattle.std.proofs.Common.{◌≡◌, ◌<◌, ◌^◌, [], ◌∷◌, arith, length, refl, subst, sym}
use Rattle.es_settings.specs.declared.verdict.Verdict.TheVariants.{Fine}
use Rattle.esl.proofs.KitsLemmas.{all_listed, at_vtable, few_listed, more}
use Rattle.esl.proofs.project_tests.runs.Goals as goal
use Rattle.esl.proofs.project_tests.runs.OwnLists

-- each rule takes no options, whatever its state
pub expect_all-requires-clause-options : goal.expect_all-requires-clause-options
expect_all-requires-clause-options g c =
    let fine = at_vtable (λ v x. (((OwnLists.own-1).entry v).1.meaning x).verdict [] ≡ Fine) in
    all_listed (λ rule. (((OwnLists.own-1).entry rule.vtable).1.meaning rule.value).verdict [] ≡ Fine)
    c.push-7.new.self.items
    (c.into_dyn_box.result ∷ c.into_dyn_box-in_ok-new-2.result ∷ c.into_dyn_box-in_ok-new-3.result ∷ c.into_dyn_box-in_ok-new-4.result ∷ c.into_dyn_box-in_ok-new-5.result ∷ c.into_dyn_box-in_ok-new-6.result ∷ c.into_dyn_box-in_ok-new-7.result ∷ [])
    (more c.into_dyn_box-in_ok-new-7.result c.in_ok-push-7.ensures.items (more c.into_dyn_box-in_ok-new-6.result c.in_ok-push-6.ensures.items (more c.into_dyn_box-in_ok-new-5.result c.in_ok-push-5.ensures.items (more c.into_dyn_box-in_ok-new-4.result c.in_ok-push-4.ensures.items (more c.into_dyn_box-in_ok-new-3.result c.in_ok-push-3.ensures.items (more c.into_dyn_box-in_ok-new-2.result c.in_ok-push-2.ensures.items (more c.into_dyn_box.result c.in_ok-push.ensures.items (c.new-rules.ensures.items))))))))
    (fine _ _ c.into_dyn_box.ensures.0 (λ x. refl) c.into_dyn_box.result.value, (fine _ _ c.into_dyn_box-in_ok-new-2.ensures.0 (λ x. refl) c.into_dyn_box-in_ok-new-2.result.value, (fine _ _ c.into_dyn_box-in_ok-new-3.ensures.0 (λ x. refl) c.into_dyn_box-in_ok-new-3.result.value, (fine _ _ c.into_dyn_box-in_ok-new-4.ensures.0 (λ x. refl) c.into_dyn_box-in_ok-new-4.result.value, (fine _ _ c.into_dyn_box-in_ok-new-5.ensures.0 (λ x. refl) c.into_dyn_box-in_ok-new-5.result.value, (fine _ _ c.into_dyn_box-in_ok-new-6.ensures.0 (λ x. refl) c.into_dyn_box-in_ok-new-6.result.value, (fine _ _ c.into_dyn_box-in_ok-new-7.ensures.0 (λ x. refl) c.into_dyn_box-in_ok-new-7.result.value, tt)))))))

-- they are few
pub expect_all-requires-clause-few : goal.expect_all-requires-clause-few
expect_all-requires-clause-few g c =
    few_listed c.push-7.new.self.items
    (c.into_dyn_box.result ∷ c.into_dyn_box-in_ok-new-2.result ∷ c.into_dyn_box-in_ok-new-3.result ∷ c.into_dyn_box-in_ok-new-4.result ∷ c.into_dyn_box-in_ok-new-5.result ∷ c.into_dyn_box-in_ok-new-6.result ∷ c.into_dyn_box-in_ok-new-7.result ∷ [])
    (more c.into_dyn_box-in_ok-new-7.result c.in_ok-push-7.ensures.items (more c.into_dyn_box-in_ok-new-6.result c.in_ok-push-6.ensures.items (more c.into_dyn_box-in_ok-new-5.result c.in_ok-push-5.ensures.items (more c.into_dyn_box-in_ok-new-4.result c.in_ok-push-4.ensures.items (more c.into_dyn_box-in_ok-new-3.result c.in_ok-push-3.ensures.items (more c.into_dyn_box-in_ok-new-2.result c.in_ok-push-2.ensures.items (more c.into_dyn_box.result c.in_ok-push.ensures.items (c.new-rules.ensures.items))))))))
    (omega arith)
