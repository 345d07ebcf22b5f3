-- Where rules take what a configuration changes, they take what is set for a file.
use Rattle.std.proofs.Common.{◌≡◌, ◌∙◌, ℕ, ◌<◌, List, [], ◌∷◌, length, replicate, slice_index_or, ap, subst, sym}
use Rattle.std.specs.Prelude.{if◌then◌else◌, All, Bool, true, false, Option, None, Some, unwrap_or, IfSome}
use Rattle.std.specs.List.{AllByRecursion, filter}
use Rattle.std.proofs.lemmas.List.{length-replicate, length-set}
use Rattle.std.proofs.lemmas.Option.{unwrap_or-slice_get}
use Rattle.es_settings.specs.declared.verdict.Verdict.{Verdict}
use Rattle.es_settings.specs.declared.verdict.Verdict.TheVariants.{Fine}
use Rattle.es_config.specs.Configurations.{AreTakenChanges, AreTakenSettings, IsTakenChange}
use Rattle.es_config.specs.Entries.{Change, Layer}
use Rattle.es_config.specs.Laying.{all_laid, defaults, laid, with_change, with_changes}
use Rattle.es_settings.specs.Settings.{unset}
use Rattle.es_config.specs.Outcomes.{settings_for}
use Rattle.es_settings.specs.Rules.{DoWithoutOptions}
use Rattle.es_settings.specs.Settings.{Options, Setting, Settings}
use Rattle.es_config.specs.Standing.{is_for}
use Rattle.es_config.proofs.EachPlaceLemmas.{HoldsAtEach, holds_replicate, holds_set}
use Rattle.es_settings.proofs.SortingLemmas.{all_from}

module _ (verdict : ℕ → Options → Verdict) (count : ℕ) where
  abbrev Takes : ℕ → Setting → Type 0
  Takes place setting = verdict place setting.options ≡ Fine

  -- there are so many settings, and each is one that its rule takes
  record Are (rules : List Setting) : Type 0 where
    each : length rules ≡ count
    fine : HoldsAtEach Takes unset count rules

  options_under : (place : ℕ) (before : Options) (given : Option Options) → verdict place before ≡ Fine
      → IfSome given (λ options. verdict place options ≡ Fine) → verdict place (unwrap_or given before) ≡ Fine
  options_under place before None was own = was
  options_under place before (Some options) was own = own

  under_change : (rules : List Setting) (change : Change) → IsTakenChange verdict count change → Are rules → Are (with_change rules change)
  under_change rules change taken are = record {
    each = length-set rules change.place _ ∙ are.each;
    fine = holds_set Takes unset count rules change.place _ (subst (λ n. change.place < n) (sym are.each) taken.there) are.fine
        (options_under change.place (slice_index_or rules change.place unset).options change.options (are.fine change.place taken.there) taken.fine);
  }

  under_changes : (rules : List Setting) (changes : List Change) → AllByRecursion (IsTakenChange verdict count) changes
      → Are rules → Are (with_changes rules changes)
  under_changes rules [] taken are = are
  under_changes rules (change ∷ changes) taken are =
      under_changes (with_change rules change) changes taken.1 (under_change rules change taken.0 are)

  under_layers : (pick : Layer → Bool) (set : Settings) (layers : List Layer)
      → AllByRecursion (λ (layer : Layer). All (IsTakenChange verdict count) layer.rules) layers → Are set.rules
      → Are (all_laid set (filter pick layers)).rules
  under_layers pick set [] taken are = are
  under_layers pick set (layer ∷ layers) taken are =
      elim (pick layer) as (λ b. Are (all_laid set (if b then layer ∷ filter pick layers else filter pick layers)).rules) [
        | true ↦ under_layers pick (laid set layer) layers taken.1
            (under_changes set.rules layer.rules (all_from (IsTakenChange verdict count) layer.rules taken.0) are)
        | false ↦ under_layers pick set layers taken.1 are
      ]

  are_unset : DoWithoutOptions verdict count → Are (replicate count unset)
  are_unset without = record {
    each = length-replicate count unset;
    fine = holds_replicate Takes unset count without;
  }

  are_taken : (rules : List Setting) → Are rules → AreTakenSettings verdict count rules
  are_taken rules are = record {
    each = are.each;
    fine = λ place within. ap (λ (setting : Setting). verdict place setting.options) (unwrap_or-slice_get rules place unset) ∙ are.fine place within;
  }

  pub settings_taken : (layers : List Layer) (name : List ℕ) → DoWithoutOptions verdict count → AreTakenChanges verdict count layers
      → AreTakenSettings verdict count (settings_for count layers name).rules
  settings_taken layers name without taken =
      are_taken (settings_for count layers name).rules
      (under_layers (is_for name) (defaults count) layers
      (all_from (λ (layer : Layer). All (IsTakenChange verdict count) layer.rules) layers taken) (are_unset without))
