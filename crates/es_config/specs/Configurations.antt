-- Configurations, and the entries that stand in front of each. ESLint's guide, "Configuration files".
use Rattle.std.specs.Prelude.{◌≡◌, ℕ, ◌<◌, All, Bool, true, false, List, [], ◌∷◌, codes, length, map, Option, None, Some, option_to_list, slice_get, unwrap_or, refl, IfSome}
use Rattle.std.specs.Coded.{Coded, code_by, coded×, coded_list, coded_ℕ}
use Rattle.std.specs.List.{flat_map}
use Rattle.es_text.specs.declared.token.SourceType.{SourceType}
use Rattle.es_text.specs.declared.token.SourceType.TheVariants.{Commonjs}
use Rattle.es_globs.specs.Globs.{Patterns, glob_of}
use Rattle.es_config.specs.declared.entry.Entry.{Entry}
use Rattle.es_settings.specs.declared.verdict.Verdict.{Verdict}
use Rattle.es_settings.specs.declared.verdict.Verdict.TheVariants.{Fine}
use Rattle.es_config.specs.Entries.{Change, Layer}
use Rattle.es_settings.specs.Settings.{unset}
use Rattle.es_settings.specs.Settings.{Options, Setting}

-- entries in their order, and how many rules they may speak of
pub record Configuration : Type 0 where
  pub entries : List Entry
  pub count : ℕ

-- it is stored as the pair of both
abbrev pub configuration_code : Coded Entry → Coded Configuration
configuration_code code =
    code_by (List Entry × ℕ) (coded× (coded_list code) coded_ℕ) (λ config. (config.entries, config.count)) (λ both. record { entries = both.0; count = both.1 }) (λ _. refl)

-- ---- the entries in front

abbrev pub globs_of : List (List ℕ) → List Patterns
globs_of texts = flat_map (λ text. option_to_list (glob_of text)) texts

-- for each file that one of the globs matches
abbrev pub any_of : List (List ℕ) → List (List Patterns)
any_of texts = map (λ text. globs_of (text ∷ [])) texts

-- an entry that sets a source type at most
abbrev pub front : Option (List (List Patterns)) → List Patterns → Bool → Option SourceType → Layer
front files ignores alone source_type = record {
  files = files;
  ignores = ignores;
  alone = alone;
  source_type = source_type;
  globals = [];
  inline = None;
  unused = None;
  rules = [];
}

-- what isn't the user's own is ignored
abbrev pub ignored_at_first : Layer
ignored_at_first = front None (globs_of (codes "**/node_modules/" ∷ codes ".git/" ∷ [])) true None

-- these files are taken
abbrev pub taken_at_first : Layer
taken_at_first = front (Some (any_of (codes "**/*.js" ∷ codes "**/*.mjs" ∷ codes "**/*.cjs" ∷ []))) [] false None

-- and of them these are in CommonJS
abbrev pub commonjs_at_first : Layer
commonjs_at_first = front (Some (any_of (codes "**/*.cjs" ∷ []))) [] false (Some Commonjs)

abbrev pub built_in : List Layer
built_in = ignored_at_first ∷ taken_at_first ∷ commonjs_at_first ∷ []

-- ---- what rules have to say of them

-- a change is one of a rule that there is, which takes the options that it has
pub record IsTakenChange (verdict : ℕ → Options → Verdict) (count : ℕ) (change : Change) : Type 0 where
  pub there : change.place < count
  pub fine : IfSome change.options (λ options. verdict change.place options ≡ Fine)

abbrev pub AreTakenChanges : (ℕ → Options → Verdict) → ℕ → List Layer → Type 0
AreTakenChanges verdict count layers = All (λ (layer : Layer). All (IsTakenChange verdict count) layer.rules) layers

-- there is a setting for each rule, which takes its options
pub record AreTakenSettings (verdict : ℕ → Options → Verdict) (count : ℕ) (settings : List Setting) : Type 0 where
  pub each : length settings ≡ count
  pub fine : (place : ℕ) → place < count → verdict place (unwrap_or (slice_get settings place) unset).options ≡ Fine
