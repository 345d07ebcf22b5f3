-- Ranges of numbers, and the number of child fields.
use Rattle.std.proofs.Common.{◌≡◌, ℕ, zero, suc, ◌+◌, ◌-◌, ◌<◌, ◌≤◌, Bool, true, false, ◌||◌, cond, List, [], ◌∷◌, length, map, nat_le, refl, ap, ◌∙◌, arith, add-one}
use Rattle.std.specs.Prelude.{option_map, slice_get, unwrap_or}
use Rattle.std.specs.List.{list_all, list_any, range_with_len}
use Rattle.std.proofs.lemmas.Bool.{and_parts}
use Rattle.std.proofs.lemmas.List.{length-map}
use Rattle.std.proofs.lemmas.Bool.Decides.{nat_tests}
use Rattle.es_selectors.specs.Selects.{front}
use Rattle.es_tables.specs.Nodes.{NodeRow, child_fields, holds_of, node_rows}

pub range_next : (i n : ℕ) → i < n → range_with_len i (n - i) ≡ i ∷ range_with_len (i + 1) (n - (i + 1))
range_next i n h =
    let e : n - i ≡ suc (n - (i + 1)) = omega (arith, add-one (n - (i + 1))) in
    ap (range_with_len i) e

pub range_over : (i n : ℕ) → n ≤ i → range_with_len i (n - i) ≡ []
range_over i n h = let e : n - i ≡ 0 = omega arith in ap (range_with_len i) e

all_few : (rows : List NodeRow) → list_all (λ row. nat_le (length row.children) 4) rows ≡ true → (kind : ℕ) →
    length (unwrap_or (option_map (λ row. map (λ child. child.holds) row.children) (slice_get rows kind)) []) ≤ 4
all_few [] all kind = omega arith
all_few (row ∷ rows) all zero =
    let few = (and_parts (nat_le (length row.children) 4) (list_all (λ row. nat_le (length row.children) 4) rows) all).0 in
    rw length-map (grind (arith, nat_tests))
all_few (row ∷ rows) all (suc kind) = all_few rows (and_parts _ _ all).1 kind

pub few_fields : (kind : ℕ) → length (child_fields kind) ≤ 4
unfolding holds_of
few_fields kind = all_few node_rows refl kind

-- a number that passes, and of which a test fails
pub passed : {A : Type 0} (passes : ℕ → Bool) (test : A → Bool) (f : ℕ → A) (i n : ℕ) → i < n → passes i ≡ true → test (f i) ≡ false →
    list_any test (map f (front passes (range_with_len i (n - i)))) ≡ list_any test (map f (front passes (range_with_len (i + 1) (n - (i + 1)))))
passed passes test f i n within passing failing =
    ap (λ numbers. list_any test (map f (front passes numbers))) (range_next i n within)
    ∙ ap (λ b. list_any test (map f (cond b (i ∷ front passes (range_with_len (i + 1) (n - (i + 1)))) []))) passing
    ∙ ap (λ b. b || list_any test (map f (front passes (range_with_len (i + 1) (n - (i + 1)))))) failing
