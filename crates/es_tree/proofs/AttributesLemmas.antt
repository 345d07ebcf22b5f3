-- The attribute that is found by its field, and replaced.
use Rattle.std.proofs.Common.{◌≡◌, ◌∙◌, ℕ, ◌+◌, ◌<◌, ◌≤◌, suc, Bool, true, false, cond, List, [], ◌∷◌, ◌++◌, length, arith, refl, ap, sym, Some, None, nat_lt}
use Rattle.std.proofs.Math.ListN.{set}
use Rattle.std.specs.Prelude.{position, ◌==◌}
use Rattle.std.specs.List.{position_or_len}
use Rattle.std.proofs.lemmas.Bool.Decides.{nat_tests}
use Rattle.es_tree.specs.declared.shape.SetAttribute.{SetAttribute}
use Rattle.es_tree.specs.Attributes.{attributes_with}

one_more : (n : ℕ) → 1 + n ≡ suc n
one_more n = omega arith

module _ (new : SetAttribute) where
  abbrev pub has_field : SetAttribute → Bool
  has_field given = given.field == new.field

  abbrev first : List SetAttribute → ℕ
  first given = position_or_len has_field given

  abbrev with_new : List SetAttribute → List SetAttribute
  with_new given = attributes_with given new.field new.value

  replaced_here : (one : SetAttribute) (rest : List SetAttribute) (has : Bool) → has_field one ≡ has
      → first (one ∷ rest) < length (one ∷ rest) → (first rest < length rest → set rest (first rest) new ≡ with_new rest)
      → set (one ∷ rest) (first (one ∷ rest)) new ≡ with_new (one ∷ rest)
  replaced_here one rest true is within later = rw is refl
  replaced_here one rest false is within later =
      let below : 1 + first rest < length (one ∷ rest) = rw is at within in
      rw (is, one_more (first rest)) (ap (λ given. one ∷ given) (later (omega (arith, below))))

  replaced : (given : List SetAttribute) → first given < length given → set given (first given) new ≡ with_new given
  replaced [] within = absurd (omega (arith, within))
  replaced (one ∷ rest) within = replaced_here one rest (has_field one) refl within (replaced rest)

  added_here : (one : SetAttribute) (rest : List SetAttribute) (has : Bool) → has_field one ≡ has
      → length (one ∷ rest) ≤ first (one ∷ rest) → (length rest ≤ first rest → rest ++ new ∷ [] ≡ with_new rest)
      → (one ∷ rest) ++ new ∷ [] ≡ with_new (one ∷ rest)
  added_here one rest true is past later = let none : length (one ∷ rest) ≤ 0 = rw is at past in absurd (omega (arith, none))
  added_here one rest false is past later =
      let beyond : length (one ∷ rest) ≤ 1 + first rest = rw is at past in
      rw is (ap (λ given. one ∷ given) (later (omega (arith, beyond))))

  added : (given : List SetAttribute) → length given ≤ first given → given ++ new ∷ [] ≡ with_new given
  added [] past = refl
  added (one ∷ rest) past = added_here one rest (has_field one) refl past (added rest)

  found_at : (given : List SetAttribute) (test : Bool) (index : ℕ) → nat_lt (first given) (length given) ≡ test
      → cond test (Some (first given)) None ≡ Some index → (first given < length given) × (first given ≡ index)
  found_at given true index is found = (grind (arith, nat_tests), cc)
  found_at given false index is found = cc

  found_none : (given : List SetAttribute) (test : Bool) → nat_lt (first given) (length given) ≡ test
      → cond test (Some (first given)) None ≡ None → length given ≤ first given
  found_none given true is none = cc
  found_none given false is none = grind (arith, nat_tests)

  pub set-found : (given : List SetAttribute) (index : ℕ) → position has_field given ≡ Some index → set given index new ≡ with_new given
  set-found given index found =
      let at = found_at given (nat_lt (first given) (length given)) index refl found in
      ap (λ n. set given n new) (sym at.1) ∙ replaced given at.0

  pub push-missing : (given : List SetAttribute) → position has_field given ≡ None → given ++ new ∷ [] ≡ with_new given
  push-missing given missing = added given (found_none given (nat_lt (first given) (length given)) refl missing)
