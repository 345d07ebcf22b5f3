-- Configurations as JSON, and the first fault where a value is none. ESLint's guide, "Configuration files".
use Rattle.std.specs.Prelude.{◌≡◌, ◌⊎◌, ◌++◌, ℕ, All, Bool, true, false, not, ◌&&◌, ◌||◌, List, [], ◌∷◌, codes, IfSome, IsUtf8, length, if◌then◌else◌, Option, None, Some}
use Rattle.std.specs.List.{position_from}
use Rattle.std.specs.Map.{lookup}
use Rattle.std.specs.Str.{bytes_eq, chars}
use Rattle.serde_json.specs.Data.{Data, Items, no_items, item, Members, no_members, member, string, array, object}
use Rattle.serde_json.specs.Read as json
use Rattle.es_globs.specs.Globs.{Patterns, glob_of}
use Rattle.es_config.specs.declared.fault.ConfigFault.{ConfigFault}
use Rattle.es_config.specs.declared.fault.ConfigFault.TheVariants.{Bad, NoMemory}
use Rattle.es_config.specs.declared.fault.FaultKind.TheVariants.{BadGlob, BadOption, BadSelector, BadSeverity, NotJson, UnknownKey, UnknownRule, WrongShape}
use Rattle.es_settings.specs.declared.global_use.GlobalUse.{GlobalUse}
use Rattle.es_settings.specs.declared.verdict.Verdict.{Verdict}
use Rattle.es_settings.specs.declared.verdict.Verdict.TheVariants as verdict
use Rattle.es_config.specs.Configurations.{IsTakenChange, built_in}
use Rattle.es_config.specs.Entries.{Change, Layer}
use Rattle.es_settings.specs.Settings.{Options, have_float}
use Rattle.es_config.specs.Shapes.{is_object, is_text, names_edition, severity_of, truth_of, type_of, unused_of, use_of}
use Rattle.es_config.specs.Walks.{Walked, good, faulty, and_then, walked_map, or_fault, each, some_of, each_member, all_members, in_array, in_object}

-- ---- files and ignores

abbrev pub glob_at : Data → Walked Patterns
glob_at (string text) = or_fault BadGlob (glob_of (chars text))
glob_at _ = faulty WrongShape []

-- an element of `files`: a glob, or globs of which there is one
abbrev pub globs_at : Data → Walked (List Patterns)
globs_at (string text) = walked_map (λ glob. glob ∷ []) (glob_at (string text))
globs_at (array items) = some_of glob_at items
globs_at _ = faulty WrongShape []

-- ---- globals

abbrev pub global_at : List ℕ → Data → Walked (List ℕ × GlobalUse)
global_at key value = walked_map (λ use_said. (chars key, use_said)) (or_fault WrongShape (use_of value))

-- ---- rules

-- the rules that a configuration may name, and what each has to say of options
pub record KnownRules : Type 0 where
  pub ids : List (List ℕ)
  pub verdict : ℕ → Options → Verdict

abbrev pub known : List (List ℕ) → (ℕ → Options → Verdict) → KnownRules
known ids verdict = record { ids = ids; verdict = verdict }

abbrev pub elements : Items → Options
elements no_items = []
elements (item d ds) = d ∷ elements ds

-- a severity alone
abbrev pub bare_change : ℕ → Data → Walked Change
bare_change place value =
    walked_map (λ severity. record { place = place; severity = severity; options = None }) (or_fault BadSeverity (severity_of value))

-- what becomes of a change by the rule's verdict
abbrev pub judged : Change → Verdict → Walked Change
judged change verdict.Fine = good change
judged change verdict.BadOption = faulty BadOption []
judged change verdict.BadSelector = faulty BadSelector []

-- a severity and options
abbrev pub full_change : KnownRules → ℕ → Data → Options → Walked Change
full_change rules place value options =
    and_then (λ severity. judged (record { place = place; severity = severity; options = Some options }) (rules.verdict place options))
    (or_fault BadSeverity (severity_of value))

abbrev pub change_in : KnownRules → ℕ → Items → Walked Change
change_in rules place no_items = faulty BadSeverity []
change_in rules place (item d no_items) = bare_change place d
change_in rules place (item d (item first ds)) = full_change rules place d (elements (item first ds))

abbrev pub change_to : KnownRules → Data → ℕ → Walked Change
change_to rules (array items) place = change_in rules place items
change_to rules value place = bare_change place value

abbrev pub place_of : List (List ℕ) → List ℕ → Option ℕ
place_of ids id = position_from (bytes_eq id) 0 ids

abbrev pub change_at : KnownRules → List ℕ → Data → Walked Change
change_at rules key value = and_then (change_to rules value) (or_fault UnknownRule (place_of rules.ids (chars key)))

-- ---- entries

-- what a value that stands under a key makes of what an entry sets so far
abbrev pub Shape : Type 0
Shape = Layer → Data → Walked Layer

-- a value of the shape sets this
abbrev pub sets : {A : Type 0} → (A → Layer) → Walked A → Walked Layer
sets set walked = walked_map set walked

-- a value that is as it has to be sets nothing
abbrev pub is_right : Layer → Bool → Walked Layer
is_right layer right = if right then good layer else faulty WrongShape []

abbrev pub files_shape : Shape
files_shape layer value = sets (λ files. record layer { files = Some files }) (in_array (some_of globs_at) value)

abbrev pub ignores_shape : Shape
ignores_shape layer value = sets (λ ignores. record layer { ignores = ignores }) (in_array (each glob_at) value)

abbrev pub edition_shape : Shape
edition_shape layer value = is_right layer (names_edition value)

abbrev pub globals_shape : Shape
globals_shape layer value = sets (λ globals. record layer { globals = globals }) (in_object (each_member global_at) value)

abbrev pub type_shape : Shape
type_shape layer value = sets (λ type. record layer { source_type = Some type }) (or_fault WrongShape (type_of value))

abbrev pub inline_shape : Shape
inline_shape layer value = sets (λ none. record layer { inline = Some (not none) }) (or_fault WrongShape (truth_of value))

abbrev pub unused_shape : Shape
unused_shape layer value = sets (λ unused. record layer { unused = Some unused }) (or_fault WrongShape (unused_of value))

abbrev pub name_shape : Shape
name_shape layer value = is_right layer (is_text value)

abbrev pub rules_shape : KnownRules → Shape
rules_shape rules layer value = sets (λ changes. record layer { rules = changes }) (in_object (each_member (change_at rules)) value)

abbrev pub settings_shape : Shape
settings_shape layer value = is_right layer (is_object value)

-- the keys of an object with the shapes of their values
abbrev pub Table : Type 0
Table = List (List ℕ × Shape)

abbrev pub shaped_as : Option Shape → Shape
shaped_as None layer value = faulty UnknownKey []
shaped_as (Some shape) layer value = shape layer value

abbrev pub member_of : Table → Layer → List ℕ → Data → Walked Layer
member_of table layer key value = shaped_as (lookup (bytes_eq key) table) layer value

abbrev pub object_of : Table → Shape
object_of table layer value = in_object (all_members (member_of table) layer) value

abbrev pub language_keys : Table
language_keys = (codes "ecmaVersion", edition_shape) ∷ (codes "globals", globals_shape) ∷ (codes "sourceType", type_shape) ∷ []

abbrev pub linter_keys : Table
linter_keys = (codes "noInlineConfig", inline_shape) ∷ (codes "reportUnusedDisableDirectives", unused_shape) ∷ []

abbrev pub entry_keys : KnownRules → Table
entry_keys rules =
    (codes "files", files_shape)
    ∷ (codes "ignores", ignores_shape)
    ∷ (codes "languageOptions", object_of language_keys)
    ∷ (codes "linterOptions", object_of linter_keys)
    ∷ (codes "name", name_shape)
    ∷ (codes "rules", rules_shape rules)
    ∷ (codes "settings", settings_shape)
    ∷ []

-- ---- configurations

abbrev pub has_key : List ℕ → Members → Bool
has_key key no_members = false
has_key key (member found d members) = bytes_eq found key || has_key key members

abbrev pub has_only : List ℕ → List ℕ → Members → Bool
has_only one other no_members = true
has_only one other (member found d members) = (bytes_eq found one || bytes_eq found other) && has_only one other members

-- an entry with `ignores` and besides at most a name
abbrev pub stands_alone : Members → Bool
stands_alone members = has_key (codes "ignores") members && has_only (codes "ignores") (codes "name") members

-- an entry that sets nothing
abbrev pub nothing_set : Bool → Layer
nothing_set alone = record {
  files = None;
  ignores = [];
  alone = alone;
  source_type = None;
  globals = [];
  inline = None;
  unused = None;
  rules = [];
}

abbrev pub entry_in : KnownRules → Members → Walked Layer
entry_in rules members = all_members (member_of (entry_keys rules)) (nothing_set (stands_alone members)) members

abbrev pub entry_at : KnownRules → Data → Walked Layer
entry_at rules value = in_object (entry_in rules) value

-- an object is the array of that one entry
abbrev pub entries_of : KnownRules → Data → Walked (List Layer)
entries_of rules (array items) = each (entry_at rules) items
entries_of rules (object members) = each (entry_at rules) (item (object members) no_items)
entries_of rules _ = faulty WrongShape []

-- no option of a change holds a floating-point number
abbrev pub HasNoFloat : Change → Type 0
HasNoFloat change = IfSome change.options (λ options. have_float options ≡ false)

abbrev pub HaveNoFloats : List Layer → Type 0
HaveNoFloats layers = All (λ (layer : Layer). All HasNoFloat layer.rules) layers

-- a change that its rule takes, and which holds none
pub record IsFine (rules : KnownRules) (change : Change) : Type 0 where
  pub taken : IsTakenChange rules.verdict (length rules.ids) change
  pub exact : HasNoFloat change

abbrev pub AreFine : KnownRules → List Layer → Type 0
AreFine rules layers = All (λ layer. All (IsFine rules) layer.rules) layers

-- the bytes are JSON of this value
abbrev pub IsJson : List ℕ → Data → Type 0
IsJson bytes value = IsUtf8 bytes × (json.read bytes ≡ Some value)

abbrev pub IsNoJson : List ℕ → Type 0
IsNoJson bytes = (value : Data) → IsJson bytes value → ⊥

-- what the bytes come to: entries, or the first fault
abbrev pub ComeTo : KnownRules → List ℕ → Walked (List Layer) → Type 0
ComeTo rules bytes walked =
    (IsNoJson bytes × (walked ≡ faulty NotJson [])) ⊎ ((value : Data) × IsJson bytes value × (walked ≡ entries_of rules value))

-- ---- what `read` tells

-- behind the entries that stand in front of each configuration's own stand these
abbrev pub IsRead : KnownRules → List ℕ → List Layer → Type 0
IsRead rules bytes entries = (layers : List Layer) × ComeTo rules bytes (good layers) × (entries ≡ built_in ++ layers)

abbrev pub IsRefused : KnownRules → List ℕ → ConfigFault → Type 0
IsRefused rules bytes (Bad kind pointer) = ComeTo rules bytes (faulty kind pointer)
IsRefused rules bytes NoMemory = Unit {0}

-- bytes that are no JSON, as they are told
abbrev pub TellsNoJson : List ℕ → ConfigFault → Type 0
TellsNoJson bytes (Bad kind pointer) = IsNoJson bytes × (kind ≡ NotJson) × (pointer ≡ [])
TellsNoJson bytes NoMemory = Unit {0}
