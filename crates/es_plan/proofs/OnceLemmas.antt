-- Names that are kept once.
use Rattle.std.proofs.Common.{◌≡◌, Bool, String, Global, true, false, ◌||◌, List, [], ◌∷◌, ◌++◌, if◌then◌else◌, map, refl, ap, string_bytes}
use Rattle.std.proofs.lemmas.List.{map-append}
use Rattle.std.specs.List.{list_any}
use Rattle.std.specs.Str.{bytes_eq}
use Rattle.std.specs.String.{string_eq}
use Rattle.indexmap.specs.IndexSet.{insert_key}
use Rattle.es_plan.specs.Names.{with_name}

any_text : (key : String Global) (keys : List (String Global))
    → list_any (bytes_eq (string_bytes key)) (map string_bytes keys) ≡ list_any (string_eq key) keys
any_text key [] = refl
any_text key (k ∷ keys) = ap (λ found. string_eq key k || found) (any_text key keys)

picked : (there : Bool) (key : String Global) (keys : List (String Global))
    → map string_bytes (if there then keys else keys ++ key ∷ [])
    ≡ (if there then map string_bytes keys else map string_bytes keys ++ string_bytes key ∷ [])
picked true key keys = refl
picked false key keys = map-append string_bytes keys (key ∷ [])

-- the texts of names where one more is put into the set
pub texts_with : (key : String Global) (keys : List (String Global))
    → map string_bytes (insert_key string_eq keys key) ≡ with_name (map string_bytes keys) (string_bytes key)
texts_with key keys = rw (any_text key keys) (picked (list_any (string_eq key) keys) key keys)
