-- The rules that a configuration may name.
use Rattle.std.specs.Prelude.{◌≡◌, ◌≢◌, ℕ, ◌<◌, List, [], Some, slice_get}
use Rattle.es_settings.specs.declared.verdict.Verdict.{Verdict}
use Rattle.es_settings.specs.declared.verdict.Verdict.TheVariants.{Fine}
use Rattle.es_settings.specs.Settings.{Options}

-- the id stands at this place, and at none before
pub record IsFirstAt (ids : List (List ℕ)) (id : List ℕ) (place : ℕ) : Type 0 where
  pub here : slice_get ids place ≡ Some id
  pub first : (before : ℕ) → before < place → slice_get ids before ≢ Some id

-- the id stands nowhere
abbrev pub StandsNowhere : List (List ℕ) → List ℕ → Type 0
StandsNowhere ids id = (place : ℕ) → slice_get ids place ≢ Some id

-- each of so many rules can do without options
abbrev pub DoWithoutOptions : (ℕ → Options → Verdict) → ℕ → Type 0
DoWithoutOptions verdict count = (place : ℕ) → place < count → verdict place [] ≡ Fine
