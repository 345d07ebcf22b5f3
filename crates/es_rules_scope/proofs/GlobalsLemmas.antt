-- What is set of global variables, one entry after another.
use Rattle.std.proofs.Common.{◌≡◌, ◌∙◌, ◌+◌, ◌<◌, ◌++◌, ◌∷◌, [], ℕ, Bool, true, false, List, length, take, refl, sym, ap}
use Rattle.std.specs.Prelude.{Option, Some, None, cond, find, if◌then◌else◌, option_map, reverse}
use Rattle.std.specs.Map.{update}
use Rattle.std.specs.Str.{bytes_eq, encode_utf8_all}
use Rattle.std.proofs.Math.ListN.{get_or}
use Rattle.std.proofs.lemmas.List.{reverse-append, take_more}
use Rattle.es_settings.specs.declared.global_use.GlobalUse.{GlobalUse}
use Rattle.es_rules_scope.specs.Globals.{use_of}

abbrev Entry : Type 0
Entry = List ℕ × GlobalUse

abbrev use_in : Entry → GlobalUse
use_in entry = entry.1

step : (same : Bool) (entry : Entry) (old : Option GlobalUse) (rest : Option Entry) → old ≡ option_map use_in rest
    → cond same (Some entry.1) old ≡ option_map use_in (if same then Some entry else rest)
step true entry old rest is = refl
step false entry old rest is = is

behind : (entries : List Entry) (entry : Entry) → reverse (entries ++ entry ∷ []) ≡ entry ∷ reverse entries
behind entries entry = reverse-append entries (entry ∷ [])

-- one more entry is set
pub set_more : (entries : List Entry) (k : ℕ) (d : Entry) (old now : List ℕ → Option GlobalUse) → k < length entries
    → ((name : List ℕ) → old name ≡ use_of (take k entries) name)
    → ((name : List ℕ) → now name ≡ update bytes_eq old (encode_utf8_all (get_or entries k d).0) (Some (get_or entries k d).1) name)
    → (name : List ℕ) → now name ≡ use_of (take (k + 1) entries) name
set_more entries k d old now within before one name =
    let entry = get_or entries k d in
    one name
    ∙ step (bytes_eq (encode_utf8_all entry.0) name) entry (old name) (find (λ other. bytes_eq (encode_utf8_all other.0) name) (reverse (take k entries))) (before name)
    ∙ sym (ap (λ l. option_map use_in (find (λ (other : Entry). bytes_eq (encode_utf8_all other.0) name) l)) (ap reverse (take_more entries k d within) ∙ behind (take k entries) entry))
