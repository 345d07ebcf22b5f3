-- Loops over heads and parts.
use Rattle.std.proofs.Common.{◌≡◌, ℕ, zero, suc, ◌+◌, ◌<◌, ◌||◌, Bool, true, false, List, [], ◌∷◌, ◌++◌, length, refl, sym, ◌∙◌, ap, arith, get_or, take, drop, add-one}
use Rattle.std.proofs.Math.Seq.{drop-cons}
use Rattle.std.proofs.lemmas.List.Folds.{list_any_at}
use Rattle.std.specs.List.{zip, list_any, range_with_len}

pub range_more : (a n : ℕ) → range_with_len a (n + 1) ≡ range_with_len a n ++ (a + n) ∷ []
range_more a n = ap (range_with_len a) (add-one n) ∙ go a n
  where
    go : (b k : ℕ) → range_with_len b (suc k) ≡ range_with_len b k ++ (b + k) ∷ []
    go b zero = ap (λ m. m ∷ []) (let e : b ≡ b + 0 = omega arith in e)
    go b (suc k) = ap (λ l. b ∷ l) (go (b + 1) k ∙ ap (λ m. range_with_len (b + 1) k ++ m ∷ []) (let e : b + 1 + k ≡ b + suc k = omega arith in e))

pub zip_more : (xs ys : List ℕ) (i d e : ℕ) → i < length xs → length xs ≡ length ys
    → zip (take (i + 1) xs) (take (i + 1) ys) ≡ zip (take i xs) (take i ys) ++ (get_or xs i d, get_or ys i e) ∷ []
zip_more xs ys i d e lt n = ap (λ m. zip (take m xs) (take m ys)) (add-one i) ∙ go xs ys i lt n
  where
    go : (us vs : List ℕ) (j : ℕ) → j < length us → length us ≡ length vs → zip (take (suc j) us) (take (suc j) vs) ≡ zip (take j us) (take j vs) ++ (get_or us j d, get_or vs j e) ∷ []
    go [] vs j l q = absurd (omega arith)
    go (u ∷ us) [] j l q = absurd (omega arith)
    go (u ∷ us) (v ∷ vs) zero l q = refl
    go (u ∷ us) (v ∷ vs) (suc j) l q = ap (λ r. (u, v) ∷ r) (go us vs j (omega arith) (omega arith))

-- a search over a list: one that passes the test, and one that doesn't
pub any_found : {A : Type 0} → (p : A → Bool) (xs : List A) (i : ℕ) (x : A) → i < length xs → x ≡ get_or xs i x → true ≡ p x → true ≡ list_any p xs
any_found p xs i x lt e here = sym (list_any_at p xs i x lt (ap p (sym e) ∙ sym here))

pub any_passed : {A : Type 0} → (p : A → Bool) (xs : List A) (i : ℕ) (x : A) → list_any p (drop i xs) ≡ list_any p xs → i < length xs → x ≡ get_or xs i x → p x ≡ false
    → list_any p (drop (i + 1) xs) ≡ list_any p xs
any_passed p xs i x known lt e here =
    sym (ap (list_any p) (drop-cons xs i x lt ∙ ap (λ n. get_or xs i x ∷ drop n xs) (sym (add-one i))) ∙ ap (λ b. b || list_any p (drop (i + 1) xs)) (ap p (sym e) ∙ here)) ∙ known
