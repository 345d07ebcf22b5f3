-- One more clause of a switch.
use Rattle.std.proofs.Common.{◌≡◌, ℕ, zero, suc, ◌+◌, Bool, true, false, ◌||◌, List, [], ◌∷◌, ◌++◌, refl, sym, ap, ◌∙◌, append_assoc, append-nil, arith}
use Rattle.std.specs.Prelude.{Option, Some, None, option_and_then}
use Rattle.std.specs.List.{flat_map, list_any, range_with_len}
use Rattle.std.proofs.lemmas.List.Folds.{list_any-append}
use Rattle.es_text.specs.declared.finding.Finding.{Finding}
use Rattle.es_host.specs.Files.{File}
use Rattle.es_rules_plain.specs.NoDuplicateCase.{are_texts, clause_at, has_texts, said_at, stands_before, test_texts}

range_last : (from count : ℕ) → range_with_len from (count + 1) ≡ range_with_len from count ++ (from + count) ∷ []
range_last from zero = let same : from ≡ from + 0 = omega arith in ap (λ n. n ∷ []) same
range_last from (suc count) =
    let one : suc count + 1 ≡ suc (count + 1) = omega arith in
    let same : (from + 1) + count ≡ from + suc count = omega arith in
    ap (range_with_len from) one ∙ ap (λ rest. from ∷ rest) (range_last (from + 1) count) ∙ ap (λ n. from ∷ (range_with_len (from + 1) count ++ n ∷ [])) same

or_nothing : (a b : Bool) → (a || (b || false)) ≡ (b || a)
or_nothing true true = refl
or_nothing true false = refl
or_nothing false true = refl
or_nothing false false = refl

module _ (file : File) (switch index : ℕ) where
  stands_more : (texts : List (List ℕ)) → stands_before file switch (index + 1) texts ≡ (has_texts texts file switch index || stands_before file switch index texts)
  stands_more texts =
      ap (list_any (has_texts texts file switch)) (range_last 0 index)
      ∙ list_any-append (has_texts texts file switch) (range_with_len 0 index) ((0 + index) ∷ [])
      ∙ ap (λ n. stands_before file switch index texts || (has_texts texts file switch n || false)) zero_and
      ∙ or_nothing (stands_before file switch index texts) (has_texts texts file switch index)
    where
      zero_and : 0 + index ≡ index
      zero_and = omega arith

  pub seen_none : (texts : List (List ℕ)) (before : Bool) → clause_at file switch index ≡ None → before ≡ stands_before file switch index texts →
      before ≡ stands_before file switch (index + 1) texts
  seen_none texts before none known =
      known ∙ sym (stands_more texts ∙ ap (λ o. are_texts texts (option_and_then (test_texts file) o) || stands_before file switch index texts) none)

  pub seen_more : (clause : ℕ) (given : Option (List (List ℕ))) (texts : List (List ℕ)) (before behind : Bool) → clause_at file switch index ≡ Some clause →
      given ≡ test_texts file clause → before ≡ stands_before file switch index texts → behind ≡ (are_texts texts given || before) →
      behind ≡ stands_before file switch (index + 1) texts
  seen_more clause given texts before behind here is known more =
      more ∙ (λ i. are_texts texts (is i) || known i)
      ∙ sym (stands_more texts ∙ ap (λ o. are_texts texts (option_and_then (test_texts file) o) || stands_before file switch index texts) here)

  pub said_more : (old items more : List Finding) → items ≡ old ++ flat_map (said_at file switch) (range_with_len 0 index) → more ≡ items ++ said_at file switch index →
      more ≡ old ++ flat_map (said_at file switch) (range_with_len 0 (index + 1))
  said_more old items more known pushed =
      pushed ∙ ap (λ findings. findings ++ said_at file switch index) known
      ∙ append_assoc old (flat_map (said_at file switch) (range_with_len 0 index)) (said_at file switch index)
      ∙ ap (λ findings. old ++ findings) (sym (ap (flat_map (said_at file switch)) (range_last 0 index) ∙ flat_last (range_with_len 0 index)))
    where
      flat_last : (indices : List ℕ) → flat_map (said_at file switch) (indices ++ (0 + index) ∷ []) ≡ flat_map (said_at file switch) indices ++ said_at file switch index
      flat_last [] = let same : 0 + index ≡ index = omega arith in append-nil (said_at file switch (0 + index)) ∙ ap (said_at file switch) same
      flat_last (one ∷ indices) = ap (λ findings. said_at file switch one ++ findings) (flat_last indices) ∙ sym (append_assoc (said_at file switch one) (flat_map (said_at file switch) indices) (said_at file switch index))
