-- What the single values of a configuration have to be. ESLint's guide, "Configuration files".
use Rattle.std.specs.Prelude.{ℕ, Bool, true, false, ◌&&◌, ◌==◌, nat_le, List, [], ◌∷◌, codes, if◌then◌else◌, Option, None, Some, option_and_then}
use Rattle.std.specs.Map.{lookup}
use Rattle.std.specs.Str.{bytes_eq}
use Rattle.serde_json.specs.Data.{Data, boolean, number, string, object}
use Rattle.serde_json.specs.Find.{as_u64}
use Rattle.es_text.specs.declared.finding.Severity.{Severity}
use Rattle.es_text.specs.declared.finding.Severity.TheVariants.{Error, Warn}
use Rattle.es_text.specs.declared.token.SourceType.{SourceType}
use Rattle.es_text.specs.declared.token.SourceType.TheVariants.{Commonjs, Module, Script}
use Rattle.es_settings.specs.declared.global_use.GlobalUse.{GlobalUse}
use Rattle.es_settings.specs.declared.global_use.GlobalUse.TheVariants.{Off, On}

-- what a table says of a word
abbrev pub said_of : {A : Type 0} → List (List ℕ × A) → List ℕ → Option A
said_of table word = lookup (bytes_eq word) table

abbrev pub use_words : List (List ℕ × GlobalUse)
use_words =
    (codes "readonly", On) ∷ (codes "readable", On) ∷ (codes "writable", On) ∷ (codes "writeable", On) ∷ (codes "off", Off) ∷ []

-- what is said of a global variable
abbrev pub use_of : Data → Option GlobalUse
use_of (string word) = said_of use_words word
use_of (boolean b) = Some On
use_of _ = None

-- None is off
abbrev pub severity_words : List (List ℕ × Option Severity)
severity_words = (codes "off", None) ∷ (codes "warn", Some Warn) ∷ (codes "error", Some Error) ∷ []

abbrev pub severity_at : ℕ → Option (Option Severity)
severity_at n =
    if n == 0 then Some None
    else if n == 1 then Some (Some Warn)
    else if n == 2 then Some (Some Error)
    else None

-- a severity as a word or a number, which has no dot, exponent or minus sign
abbrev pub severity_of : Data → Option (Option Severity)
severity_of (string word) = said_of severity_words word
severity_of (number n) = option_and_then severity_at (as_u64 n)
severity_of _ = None

-- how serious it is that a comment disables nothing
abbrev pub unused_of : Data → Option (Option Severity)
unused_of (boolean b) = if b then Some (Some Warn) else Some None
unused_of (string word) = severity_of (string word)
unused_of (number n) = severity_of (number n)
unused_of _ = None

abbrev pub type_words : List (List ℕ × SourceType)
type_words = (codes "module", Module) ∷ (codes "commonjs", Commonjs) ∷ (codes "script", Script) ∷ []

abbrev pub type_of : Data → Option SourceType
type_of (string word) = said_of type_words word
type_of _ = None

-- an edition of ECMAScript: all are read as that of 2022
abbrev pub is_edition : ℕ → Bool
is_edition n = nat_le 3 n && nat_le n 2030

abbrev pub is_edition_at : Option ℕ → Bool
is_edition_at None = false
is_edition_at (Some n) = is_edition n

abbrev pub names_edition : Data → Bool
names_edition (string word) = bytes_eq word (codes "latest")
names_edition (number n) = is_edition_at (as_u64 n)
names_edition _ = false

abbrev pub truth_of : Data → Option Bool
truth_of (boolean b) = Some b
truth_of _ = None

abbrev pub is_text : Data → Bool
is_text (string _) = true
is_text _ = false

abbrev pub is_object : Data → Bool
is_object (object _) = true
is_object _ = false
