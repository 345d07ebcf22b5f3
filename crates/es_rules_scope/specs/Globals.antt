-- Global variables: those that ECMAScript has by itself (ECMA-262, 19 and Annex B.2), those of CommonJS, and what is set.
use Rattle.std.specs.Prelude.{◌≡◌, ℕ, Bool, false, true, ◌&&◌, ◌||◌, List, [], ◌∷◌, ◌++◌, Option, None, Some, codes, find, map, option_map, reverse}
use Rattle.std.specs.HashMap.{get_by_text}
use Rattle.std.specs.List.{list_any}
use Rattle.std.specs.Str.{bytes_eq, encode_utf8_all}
use Rattle.es_text.specs.declared.token.SourceType.{SourceType}
use Rattle.es_text.specs.declared.token.SourceType.TheVariants.{Commonjs}
use Rattle.es_settings.specs.declared.global_use.GlobalUse.{GlobalUse}
use Rattle.es_settings.specs.declared.global_use.GlobalUse.TheVariants.{Off, On}
use Rattle.es_settings.specs.Settings.{Settings}
use Rattle.es_rules_scope.specs.declared.globals.Globals.{Globals}

unfoldable pub built_in : List (List ℕ)
built_in =
    map codes ("AggregateError" ∷ "Array" ∷ "ArrayBuffer" ∷ "Atomics" ∷ "BigInt" ∷ "BigInt64Array" ∷ "BigUint64Array"
    ∷ "Boolean" ∷ "DataView" ∷ "Date" ∷ "Error" ∷ "EvalError" ∷ "FinalizationRegistry" ∷ "Float32Array"
    ∷ "Float64Array" ∷ "Function" ∷ "Infinity" ∷ "Int16Array" ∷ "Int32Array" ∷ "Int8Array" ∷ "JSON" ∷ "Map"
    ∷ "Math" ∷ "NaN" ∷ "Number" ∷ "Object" ∷ "Promise" ∷ "Proxy" ∷ "RangeError" ∷ "ReferenceError" ∷ "Reflect"
    ∷ "RegExp" ∷ "Set" ∷ "SharedArrayBuffer" ∷ "String" ∷ "Symbol" ∷ "SyntaxError" ∷ "TypeError" ∷ "URIError"
    ∷ "Uint16Array" ∷ "Uint32Array" ∷ "Uint8Array" ∷ "Uint8ClampedArray" ∷ "WeakMap" ∷ "WeakRef" ∷ "WeakSet"
    ∷ "decodeURI" ∷ "decodeURIComponent" ∷ "encodeURI" ∷ "encodeURIComponent" ∷ "escape" ∷ "eval" ∷ "globalThis"
    ∷ "isFinite" ∷ "isNaN" ∷ "parseFloat" ∷ "parseInt" ∷ "undefined" ∷ "unescape" ∷ [])

unfoldable pub of_commonjs : List (List ℕ)
of_commonjs = map codes ("exports" ∷ "global" ∷ "module" ∷ "require" ∷ [])

-- the name is one of these words
abbrev pub is_word : List (List ℕ) → List ℕ → Bool
is_word words name = list_any (λ word. bytes_eq word name) words

abbrev pub is_commonjs : SourceType → Bool
is_commonjs Commonjs = true
is_commonjs other = false

-- a text of this source type has the global variable by itself
abbrev pub is_built_in : SourceType → List ℕ → Bool
is_built_in source name = is_word built_in name || (is_commonjs source && is_word of_commonjs name)

-- what the last entry of this name says of it, if there is one
abbrev pub use_of : List (List ℕ × GlobalUse) → List ℕ → Option GlobalUse
use_of globals name = option_map (λ global. global.1) (find (λ global. bytes_eq (encode_utf8_all global.0) name) (reverse globals))

-- what is set decides, and where nothing is, whether it is built in
abbrev pub is_global_by : Option GlobalUse → SourceType → List ℕ → Bool
is_global_by (Some On) source name = true
is_global_by (Some Off) source name = false
is_global_by None source name = is_built_in source name

-- the name is a global variable's
abbrev pub is_global : Settings → List ℕ → Bool
is_global settings name = is_global_by (use_of settings.globals name) settings.source_type name

-- the table has what is set, as the code fills it
pub record AreGlobals (settings : Settings) (globals : Globals) : Type 0 where
  pub names : (name : List ℕ) → get_by_text globals.set name ≡ use_of settings.globals name
  pub source_type : globals.source_type ≡ settings.source_type
