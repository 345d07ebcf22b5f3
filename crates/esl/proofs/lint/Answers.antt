use Rattle.std.proofs.Common.{◌≡◌, ◌<◌, ◌^◌, [], ◌∷◌, arith, length, refl, subst, sym}
use Rattle.es_settings.specs.declared.verdict.Verdict.TheVariants.{Fine}
use Rattle.esl.proofs.KitsLemmas.{all_listed, at_vtable, few_listed, more}
use Rattle.esl.proofs.lint.Goals as goal
use Rattle.esl.proofs.lint.OwnLists

-- each rule takes no options, whatever its state
pub run_over-requires-clause-options : goal.run_over-requires-clause-options
run_over-requires-clause-options c =
    let fine = at_vtable (λ v x. (((OwnLists.own-1).entry v).1.meaning x).verdict [] ≡ Fine) in
    all_listed (λ rule. (((OwnLists.own-1).entry rule.vtable).1.meaning rule.value).verdict [] ≡ Fine)
    c.push-19.new.self.items
    (c.into_dyn_box.result ∷ c.into_dyn_box-in_ok-new-2.result ∷ c.into_dyn_box-in_ok-new-3.result ∷ c.into_dyn_box-in_ok-new-4.result ∷ c.into_dyn_box-in_ok-new-5.result ∷ c.into_dyn_box-in_ok-new-6.result ∷ c.into_dyn_box-in_ok-new-7.result ∷ c.into_dyn_box-in_ok-new-8.result ∷ c.into_dyn_box-in_ok-new-9.result ∷ c.into_dyn_box-in_ok-new-10.result ∷ c.into_dyn_box-in_ok-new-11.result ∷ c.into_dyn_box-in_ok-new-12.result ∷ c.into_dyn_box-in_ok-new-13.result ∷ c.into_dyn_box-in_ok-new-14.result ∷ c.into_dyn_box-in_ok-new-15.result ∷ c.into_dyn_box-in_ok-new-16.result ∷ c.into_dyn_box-in_ok-new-17.result ∷ c.into_dyn_box-in_ok-new-18.result ∷ c.into_dyn_box-in_ok-new-19.result ∷ [])
    (more c.into_dyn_box-in_ok-new-19.result c.in_ok-push-19.ensures.items (more c.into_dyn_box-in_ok-new-18.result c.in_ok-push-18.ensures.items (more c.into_dyn_box-in_ok-new-17.result c.in_ok-push-17.ensures.items (more c.into_dyn_box-in_ok-new-16.result c.in_ok-push-16.ensures.items (more c.into_dyn_box-in_ok-new-15.result c.in_ok-push-15.ensures.items (more c.into_dyn_box-in_ok-new-14.result c.in_ok-push-14.ensures.items (more c.into_dyn_box-in_ok-new-13.result c.in_ok-push-13.ensures.items (more c.into_dyn_box-in_ok-new-12.result c.in_ok-push-12.ensures.items (more c.into_dyn_box-in_ok-new-11.result c.in_ok-push-11.ensures.items (more c.into_dyn_box-in_ok-new-10.result c.in_ok-push-10.ensures.items (more c.into_dyn_box-in_ok-new-9.result c.in_ok-push-9.ensures.items (more c.into_dyn_box-in_ok-new-8.result c.in_ok-push-8.ensures.items (more c.into_dyn_box-in_ok-new-7.result c.in_ok-push-7.ensures.items (more c.into_dyn_box-in_ok-new-6.result c.in_ok-push-6.ensures.items (more c.into_dyn_box-in_ok-new-5.result c.in_ok-push-5.ensures.items (more c.into_dyn_box-in_ok-new-4.result c.in_ok-push-4.ensures.items (more c.into_dyn_box-in_ok-new-3.result c.in_ok-push-3.ensures.items (more c.into_dyn_box-in_ok-new-2.result c.in_ok-push-2.ensures.items (more c.into_dyn_box.result c.in_ok-push.ensures.items (c.new-rules.ensures.items))))))))))))))))))))
    (fine _ _ c.into_dyn_box.ensures.0 (λ x. refl) c.into_dyn_box.result.value, (fine _ _ c.into_dyn_box-in_ok-new-2.ensures.0 (λ x. refl) c.into_dyn_box-in_ok-new-2.result.value, (fine _ _ c.into_dyn_box-in_ok-new-3.ensures.0 (λ x. refl) c.into_dyn_box-in_ok-new-3.result.value, (fine _ _ c.into_dyn_box-in_ok-new-4.ensures.0 (λ x. refl) c.into_dyn_box-in_ok-new-4.result.value, (fine _ _ c.into_dyn_box-in_ok-new-5.ensures.0 (λ x. refl) c.into_dyn_box-in_ok-new-5.result.value, (fine _ _ c.into_dyn_box-in_ok-new-6.ensures.0 (λ x. refl) c.into_dyn_box-in_ok-new-6.result.value, (fine _ _ c.into_dyn_box-in_ok-new-7.ensures.0 (λ x. refl) c.into_dyn_box-in_ok-new-7.result.value, (fine _ _ c.into_dyn_box-in_ok-new-8.ensures.0 (λ x. refl) c.into_dyn_box-in_ok-new-8.result.value, (fine _ _ c.into_dyn_box-in_ok-new-9.ensures.0 (λ x. refl) c.into_dyn_box-in_ok-new-9.result.value, (fine _ _ c.into_dyn_box-in_ok-new-10.ensures.0 (λ x. refl) c.into_dyn_box-in_ok-new-10.result.value, (fine _ _ c.into_dyn_box-in_ok-new-11.ensures.0 (λ x. refl) c.into_dyn_box-in_ok-new-11.result.value, (fine _ _ c.into_dyn_box-in_ok-new-12.ensures.0 (λ x. refl) c.into_dyn_box-in_ok-new-12.result.value, (fine _ _ c.into_dyn_box-in_ok-new-13.ensures.0 (λ x. refl) c.into_dyn_box-in_ok-new-13.result.value, (fine _ _ c.into_dyn_box-in_ok-new-14.ensures.0 (λ x. refl) c.into_dyn_box-in_ok-new-14.result.value, (fine _ _ c.into_dyn_box-in_ok-new-15.ensures.0 (λ x. refl) c.into_dyn_box-in_ok-new-15.result.value, (fine _ _ c.into_dyn_box-in_ok-new-16.ensures.0 (λ x. refl) c.into_dyn_box-in_ok-new-16.result.value, (fine _ _ c.into_dyn_box-in_ok-new-17.ensures.0 (λ x. refl) c.into_dyn_box-in_ok-new-17.result.value, (fine _ _ c.into_dyn_box-in_ok-new-18.ensures.0 (λ x. refl) c.into_dyn_box-in_ok-new-18.result.value, (fine _ _ c.into_dyn_box-in_ok-new-19.ensures.0 (λ x. refl) c.into_dyn_box-in_ok-new-19.result.value, tt)))))))))))))))))))

-- they are few
pub run_over-requires-clause-few : goal.run_over-requires-clause-few
run_over-requires-clause-few c =
    few_listed c.push-19.new.self.items
    (c.into_dyn_box.result ∷ c.into_dyn_box-in_ok-new-2.result ∷ c.into_dyn_box-in_ok-new-3.result ∷ c.into_dyn_box-in_ok-new-4.result ∷ c.into_dyn_box-in_ok-new-5.result ∷ c.into_dyn_box-in_ok-new-6.result ∷ c.into_dyn_box-in_ok-new-7.result ∷ c.into_dyn_box-in_ok-new-8.result ∷ c.into_dyn_box-in_ok-new-9.result ∷ c.into_dyn_box-in_ok-new-10.result ∷ c.into_dyn_box-in_ok-new-11.result ∷ c.into_dyn_box-in_ok-new-12.result ∷ c.into_dyn_box-in_ok-new-13.result ∷ c.into_dyn_box-in_ok-new-14.result ∷ c.into_dyn_box-in_ok-new-15.result ∷ c.into_dyn_box-in_ok-new-16.result ∷ c.into_dyn_box-in_ok-new-17.result ∷ c.into_dyn_box-in_ok-new-18.result ∷ c.into_dyn_box-in_ok-new-19.result ∷ [])
    (more c.into_dyn_box-in_ok-new-19.result c.in_ok-push-19.ensures.items (more c.into_dyn_box-in_ok-new-18.result c.in_ok-push-18.ensures.items (more c.into_dyn_box-in_ok-new-17.result c.in_ok-push-17.ensures.items (more c.into_dyn_box-in_ok-new-16.result c.in_ok-push-16.ensures.items (more c.into_dyn_box-in_ok-new-15.result c.in_ok-push-15.ensures.items (more c.into_dyn_box-in_ok-new-14.result c.in_ok-push-14.ensures.items (more c.into_dyn_box-in_ok-new-13.result c.in_ok-push-13.ensures.items (more c.into_dyn_box-in_ok-new-12.result c.in_ok-push-12.ensures.items (more c.into_dyn_box-in_ok-new-11.result c.in_ok-push-11.ensures.items (more c.into_dyn_box-in_ok-new-10.result c.in_ok-push-10.ensures.items (more c.into_dyn_box-in_ok-new-9.result c.in_ok-push-9.ensures.items (more c.into_dyn_box-in_ok-new-8.result c.in_ok-push-8.ensures.items (more c.into_dyn_box-in_ok-new-7.result c.in_ok-push-7.ensures.items (more c.into_dyn_box-in_ok-new-6.result c.in_ok-push-6.ensures.items (more c.into_dyn_box-in_ok-new-5.result c.in_ok-push-5.ensures.items (more c.into_dyn_box-in_ok-new-4.result c.in_ok-push-4.ensures.items (more c.into_dyn_box-in_ok-new-3.result c.in_ok-push-3.ensures.items (more c.into_dyn_box-in_ok-new-2.result c.in_ok-push-2.ensures.items (more c.into_dyn_box.result c.in_ok-push.ensures.items (c.new-rules.ensures.items))))))))))))))))))))
    (omega arith)
