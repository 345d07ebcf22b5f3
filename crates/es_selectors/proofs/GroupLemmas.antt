-- The groups of a kind by its word.
use Rattle.std.proofs.Common.{◌≡◌, ℕ, zero, suc, ◌<◌, ◌≤◌, false, List, [], ◌∷◌, length, get_or, map, refl, sym, ap, subst, ◌∙◌, arith}
use Rattle.std.specs.Prelude.{slice_get, unwrap_or}
use Rattle.es_tables.specs.Nodes.{kind_words}
use Rattle.es_selectors.specs.declared.group.Groups.{Groups}
use Rattle.es_selectors.specs.KindAtoms.{groups_of, kind_word, word_in_group}

some_at : (words : List (List ℕ)) (k : ℕ) (d : Groups) → k < length (map groups_of words) → get_or (map groups_of words) k d ≡ groups_of (unwrap_or (slice_get words k) [])
some_at [] k d h = absurd (omega arith)
some_at (word ∷ words) zero d h = refl
some_at (word ∷ words) (suc k) d h = some_at words k d (omega arith)

none_at : (words : List (List ℕ)) (k : ℕ) → length (map groups_of words) ≤ k → unwrap_or (slice_get words k) [] ≡ []
none_at [] k h = refl
none_at (word ∷ words) zero h = absurd (omega arith)
none_at (word ∷ words) (suc k) h = none_at words k (omega arith)

pub groups_some : (all : List Groups) (kind : ℕ) (found : Groups) → all ≡ map groups_of kind_words → kind < length all → found ≡ get_or all kind found →
    found ≡ groups_of (kind_word kind)
unfolding kind_word
groups_some all kind found same within is =
    is ∙ ap (λ groups. get_or groups kind found) same ∙ some_at kind_words kind found (subst (λ groups. kind < length groups) same within)

pub groups_none : (all : List Groups) (kind : ℕ) → all ≡ map groups_of kind_words → length all ≤ kind →
    record { statement = false; declaration = false; expression = false; pattern = false; function = false } ≡ groups_of (kind_word kind)
unfolding kind_word word_in_group
groups_none all kind same past = ap groups_of (sym (none_at kind_words kind (subst (λ groups. length groups ≤ kind) same past)))
