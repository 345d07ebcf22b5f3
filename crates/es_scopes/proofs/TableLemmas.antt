-- The tables of variables by their names.
use Rattle.std.proofs.Common.{◌≡◌, ◌∙◌, ℕ, zero, suc, ◌+◌, ◌≤◌, List, [], ◌∷◌, ◌++◌, length, Bool, true, false, Option, Some, None, Result, Ok, Err, refl, ap, sym, subst, inl, inr, arith, eq-eqb}
use Rattle.std.specs.Prelude.{◌==◌, ◌&&◌, cond, filter, not, if◌then◌else◌, slice_get, OnOk, String, string_bytes}
use Rattle.std.specs.HashMap.{HashMap, get_by_text, hash_map_len}
use Rattle.std.specs.List.{list_all}
use Rattle.std.specs.Map.{lookup, update}
use Rattle.std.specs.Option.{option_and_then}
use Rattle.std.specs.Str.{bytes_eq}
use Rattle.std.proofs.lemmas.Bool.{cases_eq, ne_eqb}
use Rattle.std.proofs.lemmas.List.Folds.{list_all-append}
use Rattle.std.proofs.lemmas.Slice.Eq.{bytes_eq-Decides}
use Rattle.es_tree.specs.Rows.{Row}
use Rattle.es_scopes.specs.declared.declarations.Declaration.{Declaration}
use Rattle.es_scopes.specs.Declarations.{declarations, declared_in, name_declared}
use Rattle.es_scopes.specs.Gathering.{AreTables, IsFresh, IsTable, is_elsewhere, with_nodes_at}
use Rattle.es_scopes.specs.Variables.{Named, found_in, gathered, is_of, is_other, variables_below, variables_in}
use Rattle.es_scopes.proofs.ListLemmas.{flat_map-more, get-last, get-other}
use Rattle.es_scopes.proofs.VariablesLemmas.{and_false, and_right, and_true, found-more, found-new, found-with_nodes_at, fresh-none, fresh_first, other_name}

pub both_ok : {T E : Type 0} (P Q : Type 0) (r : Result T E) → OnOk r P → OnOk r Q → OnOk r (P × Q)
both_ok P Q (Ok x) p q = (p, q)
both_ok P Q (Err e) p q = tt

-- the table after a variable of its scope got further nodes
pub table-noted : (scope index : ℕ) (vs ws : List Named) (nodes : List ℕ) (found : List ℕ → Option ℕ)
    → ((name : List ℕ) → found name ≡ found_in vs name scope) → ws ≡ with_nodes_at vs index nodes
    → (name : List ℕ) → found name ≡ found_in ws name scope
table-noted scope index vs ws nodes found table noted name =
    table name
    ∙ sym (ap (λ l. found_in l name scope) noted ∙ found-with_nodes_at (is_of scope name) (λ v ns. refl) vs index nodes)

made_step : (scope : ℕ) (vs : List Named) (v : Named) (name : List ℕ) (old : Option ℕ) (same : Bool)
    → v.scope ≡ scope → bytes_eq v.name name ≡ same → found_in vs v.name scope ≡ None → old ≡ found_in vs name scope
    → cond same (Some (length vs)) old ≡ found_in (vs ++ v ∷ []) name scope
made_step scope vs v name old true mine same none found =
    let is_name : v.name ≡ name = (bytes_eq-Decides v.name name).0 same in
    let is_back : bytes_eq name v.name ≡ true = (bytes_eq-Decides name v.name).1 (sym is_name) in
    sym (found-new (is_of scope name) vs v (sym (ap (λ n. found_in vs n scope) is_name) ∙ none)
    (and_true (v.scope == scope) (bytes_eq name v.name) (eq-eqb v.scope scope mine) is_back))
made_step scope vs v name old false mine other none found =
    let never : is_of scope name v ≡ false = and_false (v.scope == scope) (bytes_eq name v.name) (other_name v.name name other) in
    found
    ∙ sym (found-more (is_of scope name) vs (v ∷ []) (ap (λ (b : Bool). if b then Some 0 else None) never))

-- the table after a variable of its scope was made
pub table-made : (scope : ℕ) (vs ws : List Named) (v : Named) (old new : List ℕ → Option ℕ)
    → v.scope ≡ scope → found_in vs v.name scope ≡ None
    → ((name : List ℕ) → old name ≡ found_in vs name scope)
    → ((name : List ℕ) → new name ≡ update bytes_eq old v.name (Some (length vs)) name)
    → ws ≡ vs ++ v ∷ [] → (name : List ℕ) → new name ≡ found_in ws name scope
table-made scope vs ws v old new mine none table made more name =
    made name
    ∙ made_step scope vs v name (old name) (bytes_eq v.name name) mine refl none (table name)
    ∙ sym (ap (λ l. found_in l name scope) more)

filtered_step : (p q : Named → Bool) (v : Named) (vs : List Named) (stays : Bool) → (p v && list_all p vs) ≡ true
    → list_all p (filter q vs) ≡ true → list_all p (if stays then v ∷ filter q vs else filter q vs) ≡ true
filtered_step p q v vs true all rest = and_true (p v) (list_all p (filter q vs)) (fresh_first (p v) (list_all p vs) all) rest
filtered_step p q v vs false all rest = rest

all_filtered : (p q : Named → Bool) (vs : List Named) → list_all p vs ≡ true → list_all p (filter q vs) ≡ true
all_filtered p q [] all = refl
all_filtered p q (v ∷ vs) all = filtered_step p q v vs (q v) all (all_filtered p q vs (and_right (p v) (list_all p vs) all))

-- the variables of one scope aren't of another
pub gathered-elsewhere : (rows : List Row) (scope other : ℕ) → (scope ≡ other → ⊥) → (ds : List Declaration) → IsFresh other (gathered rows scope ds)
gathered-elsewhere rows scope other never [] = refl
gathered-elsewhere rows scope other never (d ∷ ds) =
    let vs = gathered rows scope ds in
    let name = name_declared rows d.node in
    and_true (not (scope == other)) (list_all (is_elsewhere other) (filter (is_other name) vs)) (ap not (ne_eqb scope other never))
    (all_filtered (is_elsewhere other) (is_other name) vs (gathered-elsewhere rows scope other never ds))

fresh_below : (rows : List Row) (count scope : ℕ) → count ≤ scope → IsFresh scope (variables_below rows count)
fresh_below rows zero scope least = refl
fresh_below rows (suc count) scope least =
    let e : count + 1 ≡ suc count = omega arith in
    subst (λ (n : ℕ). IsFresh scope (variables_below rows n)) e
    (ap (list_all (is_elsewhere scope)) (flat_map-more (variables_in rows) count)
    ∙ list_all-append (is_elsewhere scope) (variables_below rows count) (variables_in rows count)
    ∙ and_true (list_all (is_elsewhere scope) (variables_below rows count)) (list_all (is_elsewhere scope) (variables_in rows count))
    (fresh_below rows count scope (omega (arith, least)))
    (gathered-elsewhere rows count scope (λ same. omega (arith, same, least)) (declared_in (declarations rows) count)))

-- none of the variables of the scopes before is of this one
pub fresh-below : (rows : List Row) (scope : ℕ) → IsFresh scope (variables_below rows scope)
fresh-below rows scope = fresh_below rows scope scope (omega arith)

pub no-tables : (Z S : Type 0) → AreTables {Z = Z} {S = S} [] []
no-tables Z S = record { found = λ scope name. refl }

-- with the variables of one more scope and their table
pub tables-more : {Z S : Type 0} (scope : ℕ) (vs ws : List Named) (tables : List (HashMap (String Z) ℕ S)) (table : HashMap (String Z) ℕ S)
    → AreTables vs tables → length tables ≡ scope → ((other : ℕ) → (scope ≡ other → ⊥) → IsFresh other ws) → IsTable scope (vs ++ ws) table
    → AreTables (vs ++ ws) (tables ++ table ∷ [])
tables-more scope vs ws tables table are long fresh is = record {
  found = λ s name. elim (cases_eq s scope) [
    | inl same ↦
        let last : s ≡ length tables = same ∙ sym long in
        ap (λ (i : ℕ). option_and_then (λ t. get_by_text t name) (slice_get (tables ++ table ∷ []) i)) last
        ∙ ap (option_and_then (λ t. get_by_text t name)) (get-last tables table)
        ∙ is name
        ∙ ap (λ (i : ℕ). found_in (vs ++ ws) name i) (sym same)
    | inr other ↦
        ap (option_and_then (λ t. get_by_text t name)) (get-other tables table s (λ last. other (last ∙ long)))
        ∙ are.found s name
        ∙ sym (found-more (is_of s name) vs ws (fresh-none s name ws (fresh s (λ same. other (sym same)))))
  ];
}

no_entry : {K X : Type 0} (test : K → Bool) (entries : List (K × X)) → length entries ≡ 0 → lookup test entries ≡ None
no_entry test [] none = refl
no_entry test (e ∷ es) none = cc

-- a table without entries has no variable at a name
pub empty_finds : {Z S : Type 0} (table : HashMap (String Z) ℕ S) (name : List ℕ) → hash_map_len table ≡ 0 → get_by_text table name ≡ None
empty_finds table name none = no_entry (λ k. bytes_eq name (string_bytes k)) table.entries none
