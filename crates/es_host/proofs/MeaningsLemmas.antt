-- What rules mean, and what is set for them, by their places.
use Rattle.std.proofs.Common.{◌≡◌, ◌∙◌, ℕ, ◌<◌, List, slice_index_or, length, map, ap, sym, subst, arith}
use Rattle.std.specs.Prelude.{option_map, slice_get, unwrap_or, Some}
use Rattle.std.proofs.lemmas.List.{length-map}
use Rattle.std.proofs.lemmas.Option.{slice_get-map, slice_get-get_or, slice_get_within}
use Rattle.es_settings.specs.declared.file_config.RuleSetting.{RuleSetting}
use Rattle.es_settings.specs.declared.verdict.Verdict.TheVariants.{Fine}
use Rattle.es_settings.specs.Settings.{Setting, options_of, setting_of}
use Rattle.es_host.specs.declared.file.FileView.{FileView}
use Rattle.es_host.specs.Files.{file_in}
use Rattle.es_settings.specs.Settings.{unset}
use Rattle.es_host.specs.Meanings.{Fits, Meaning, interest_at, meaning_at, options_at, setting_at, silence}

module _ {R : Type 0} (meaning : R → Meaning) where
  pub meaning-here : (rules : List R) (i : ℕ) (d : R) → i < length rules → meaning_at (map meaning rules) i ≡ meaning (slice_index_or rules i d)
  meaning-here rules i d within =
      ap (λ m. unwrap_or m silence) (slice_get-map meaning rules i ∙ ap (option_map meaning) (slice_get-get_or rules i d within))

pub setting-here : (view : FileView) (i : ℕ) (d : RuleSetting) → i < length view.config.now.rules
    → setting_at (file_in view) i ≡ setting_of (slice_index_or view.config.now.rules i d)
setting-here view i d within =
    ap (λ s. unwrap_or s unset)
    (slice_get-map setting_of view.config.now.rules i ∙ ap (option_map setting_of) (slice_get-get_or view.config.now.rules i d within))

module _ {R : Type 0} (meaning : R → Meaning) (view : FileView) (first : List R) (fits : Fits (map meaning first) (file_in view)) where
  -- there is a setting for each rule
  pub set-within : (rules : List R) (i : ℕ) → map meaning rules ≡ map meaning first → i < length rules → i < length view.config.now.rules
  set-within rules i same within =
      let settings : length (map setting_of view.config.now.rules) ≡ length (map meaning first) = fits.count in
      let count : length (map setting_of view.config.now.rules) ≡ length view.config.now.rules = length-map view.config.now.rules setting_of in
      let before : length (map meaning rules) ≡ length (map meaning first) = ap length same in
      let own : length (map meaning rules) ≡ length rules = length-map rules meaning in
      omega (arith, settings, count, before, own, within)

  -- and the rule takes its options
  pub fine-here : (rules : List R) (i : ℕ) (r : R) (s : RuleSetting) → map meaning rules ≡ map meaning first → i < length rules
      → (meaning (slice_index_or rules i r)).verdict (options_of (slice_index_or view.config.now.rules i s).options) ≡ Fine
  fine-here rules i r s same within =
      let first_within : i < length (map meaning first) = omega (arith, within, ap length same, length-map rules meaning) in
      let own : meaning_at (map meaning first) i ≡ meaning (slice_index_or rules i r) =
      ap (λ ms. meaning_at ms i) (sym same) ∙ meaning-here meaning rules i r within in
      let set : setting_at (file_in view) i ≡ setting_of (slice_index_or view.config.now.rules i s) =
      setting-here view i s (set-within rules i same within) in
      sym (ap (λ (m : Meaning). m.verdict (options_at (file_in view) i)) own
      ∙ ap (λ setting. (meaning (slice_index_or rules i r)).verdict setting.options) set)
      ∙ fits.fine i first_within

-- the settings of a file, seen as the host keeps them
module _ (view : FileView) (i : ℕ) (s : RuleSetting) (within : i < length view.config.now.rules) (is : s ≡ slice_index_or view.config.now.rules i s) where
  pub here-set : setting_at (file_in view) i ≡ setting_of s
  here-set = setting-here view i s within ∙ ap setting_of (sym is)

  -- what is known of a setting is known of the one at its place
  pub of-set : (P : Setting → Type 0) → P (setting_of s) → P (setting_at (file_in view) i)
  of-set P = subst P (sym here-set)

  pub to-set : (P : Setting → Type 0) → P (setting_at (file_in view) i) → P (setting_of s)
  to-set P = subst P here-set

-- the interest of a rule under its options
pub interest-here : {R : Type 0} (meaning : R → Meaning) (view : FileView) (rules : List R) (i : ℕ) (r : R) (s : RuleSetting)
    → i < length rules → r ≡ slice_index_or rules i r → i < length view.config.now.rules → s ≡ slice_index_or view.config.now.rules i s
    → interest_at (map meaning rules) (file_in view) i ≡ (meaning r).interest (options_of s.options)
interest-here meaning view rules i r s within is set is_set =
    ap (λ (m : Meaning). m.interest (options_at (file_in view) i)) (meaning-here meaning rules i r within ∙ ap meaning (sym is))
    ∙ ap (λ setting. (meaning r).interest setting.options) (here-set view i s set is_set)

module _ {R : Type 0} (meaning : R → Meaning) (rules : List R) where
  -- the ids of the rules of a kit
  abbrev pub ids : List (List ℕ)
  ids = map (λ (m : Meaning). m.id) (map meaning rules)

  pub id-here : (i : ℕ) (d : R) → i < length rules → slice_get ids i ≡ Some ((meaning (slice_index_or rules i d)).id)
  id-here i d within =
      slice_get-map (λ (m : Meaning). m.id) (map meaning rules) i
      ∙ ap (option_map (λ (m : Meaning). m.id)) (slice_get-map meaning rules i ∙ ap (option_map meaning) (slice_get-get_or rules i d within))

  pub id-within : (i : ℕ) (id : List ℕ) → slice_get ids i ≡ Some id → i < length rules
  id-within i id is =
      let inside : i < length ids = slice_get_within ids i id is in
      omega (arith, inside, length-map (map meaning rules) (λ (m : Meaning). m.id), length-map rules meaning)
