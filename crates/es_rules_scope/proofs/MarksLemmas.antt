-- Marks, one number after another.
use Rattle.std.proofs.Common.{◌≡◌, ◌∙◌, ◌+◌, ◌<◌, ℕ, Bool, true, false, List, length, take, refl, sym, ap}
use Rattle.std.specs.Prelude.{◌||◌, ◌==◌}
use Rattle.std.specs.List.{list_any}
use Rattle.std.proofs.Math.ListN.{get_or}
use Rattle.std.proofs.lemmas.List.Folds.{list_any_more}
use Rattle.es_rules_scope.specs.Marks.{AreMarked, has, is_marked}

turned : (a b : Bool) → (a || b) ≡ (b || a)
turned true true = refl
turned true false = refl
turned false true = refl
turned false false = refl

-- one more number is marked
pub marked_more : (numbers : List ℕ) (k d : ℕ) (old now : List Bool) → k < length numbers → AreMarked (take k numbers) old
    → ((other : ℕ) → is_marked now other ≡ ((get_or numbers k d == other) || is_marked old other)) → AreMarked (take (k + 1) numbers) now
marked_more numbers k d old now within marked one number =
    one number
    ∙ ap (λ m. (get_or numbers k d == number) || m) (marked number)
    ∙ turned (get_or numbers k d == number) (has (take k numbers) number)
    ∙ sym (list_any_more (λ n. n == number) numbers k d within)
