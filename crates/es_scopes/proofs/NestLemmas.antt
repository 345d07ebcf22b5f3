-- Each scope is in one with a smaller number.
use Rattle.std.proofs.Common.{◌≡◌, ◌∙◌, ℕ, zero, suc, ◌+◌, ◌-◌, ◌<◌, ◌≤◌, List, [], ◌∷◌, ◌++◌, length, append_assoc, append-nil, length-append, Bool, true, false, Option, Some, None, refl, ap, sym, subst, inl, inr, arith}
use Rattle.std.specs.Prelude.{if◌then◌else◌, option_map}
use Rattle.std.specs.List.{flat_map, range_with_len}
use Rattle.es_tree.specs.Around.{joined, parent}
use Rattle.es_tree.specs.Rows.{Row, IsNumbered}
use Rattle.es_tree.proofs.AroundLemmas.{parent-before}
use Rattle.es_scopes.specs.declared.scope.Scope.{Scope}
use Rattle.es_scopes.specs.declared.scope.ScopeKind.{ScopeKind}
use Rattle.es_scopes.specs.declared.scope.ScopeKind.TheVariants.{Field}
use Rattle.es_scopes.specs.Chains.{AreNested}
use Rattle.es_scopes.specs.Opened.{if_opened, is_field_value, listed, opened, own_scopes}
use Rattle.es_scopes.specs.Places.{around, first_scope, innermost, is_left_out, nested, scopes, scopes_at}
use Rattle.es_scopes.proofs.ListLemmas.{flat_map-more, get_pushed}
use Rattle.es_scopes.proofs.PlaceLemmas.{around-step, around_under, length-scopes}

first-step : (rows : List Row) (node : ℕ) → first_scope rows (node + 1) ≡ first_scope rows node + length (opened rows node)
first-step rows node =
    ap length (flat_map-more (opened rows) node) ∙ length-append (flat_map (opened rows) (range_with_len 0 node)) (opened rows node)

first_grows : (rows : List Row) (node more : ℕ) → first_scope rows node ≤ first_scope rows (node + more)
first_grows rows node zero =
    let e : node ≡ node + 0 = omega arith in
    let same = ap (first_scope rows) e in
    omega (arith, same)
first_grows rows node (suc more) =
    let inner = first_grows rows node more in
    let step = first-step rows (node + more) in
    let e : (node + more) + 1 ≡ node + suc more = omega arith in
    let same = ap (first_scope rows) e in
    omega (arith, inner, step, same)

pub first-grows : (rows : List Row) (node later : ℕ) → node ≤ later → first_scope rows node ≤ first_scope rows later
first-grows rows node later less =
    let grows = first_grows rows node (later - node) in
    let e : node + (later - node) ≡ later = omega (arith, less) in
    let same = ap (first_scope rows) e in
    omega (arith, grows, same)

-- the scopes of a node are before those of later ones
opened_before : (rows : List Row) (node later : ℕ) → node < later → first_scope rows node + length (opened rows node) ≤ first_scope rows later
opened_before rows node later less =
    let grows = first-grows rows (node + 1) later (omega (arith, less)) in
    let step = first-step rows node in
    omega (arith, grows, step)

some_same : (a b : ℕ) → Some a ≡ Some b → a ≡ b
some_same a b is = cc

field_first : (rows : List Row) (node later scope : ℕ) (is : Bool) → is_field_value rows node ≡ is → node < later
    → ((s : ℕ) → around rows node ≡ Some s → s < first_scope rows node)
    → (if is then Some (first_scope rows node) else around rows node) ≡ Some scope → scope < first_scope rows later
field_first rows node later scope true is less before found =
    let same : first_scope rows node ≡ scope = some_same (first_scope rows node) scope found in
    let some : opened rows node ≡ Field ∷ own_scopes rows node = ap (λ b. listed (if_opened b Field) ++ own_scopes rows node) is in
    let long = ap length some in
    let room = opened_before rows node later less in
    omega (arith, same, long, room)
field_first rows node later scope false is less before found =
    let here = before scope found in
    let grows = first-grows rows node later (omega (arith, less)) in
    omega (arith, here, grows)

inside_first : (rows : List Row) (node later scope : ℕ) (kinds : List ScopeKind) → opened rows node ≡ kinds → node < later
    → ((s : ℕ) → around rows node ≡ Some s → s < first_scope rows node)
    → innermost (around rows node) (first_scope rows node) kinds ≡ Some scope → scope < first_scope rows later
inside_first rows node later scope [] is less before found =
    let here = before scope found in
    let grows = first-grows rows node later (omega (arith, less)) in
    omega (arith, here, grows)
inside_first rows node later scope (kind ∷ kinds) is less before found =
    let same : first_scope rows node + length kinds ≡ scope = some_same (first_scope rows node + length kinds) scope found in
    let long = ap length is in
    let room = opened_before rows node later less in
    omega (arith, same, long, room)

under_first : (rows : List Row) (node scope : ℕ) (out : Bool) (up : Option ℕ)
    → ((above : ℕ) → up ≡ Some above → (above < node) × ((s : ℕ) → around rows above ≡ Some s → s < first_scope rows above))
    → around_under rows out up ≡ Some scope → scope < first_scope rows node
under_first rows node scope out None before found = cc
under_first rows node scope true (Some above) before found =
    let here = before above refl in field_first rows above node scope (is_field_value rows above) refl here.0 here.1 found
under_first rows node scope false (Some above) before found =
    let here = before above refl in inside_first rows above node scope (opened rows above) refl here.0 here.1 found

around_first : (rows : List Row) → IsNumbered rows → (steps node scope : ℕ) → node ≤ steps → around rows node ≡ Some scope → scope < first_scope rows node
around_first rows numbers zero node scope least found =
    under_first rows node scope (is_left_out rows node) (parent rows node)
    (λ above up. let before = parent-before rows numbers node above up in absurd (omega (arith, before, least)))
    (sym (around-step rows numbers node) ∙ found)
around_first rows numbers (suc steps) node scope least found =
    under_first rows node scope (is_left_out rows node) (parent rows node)
    (λ above up. let before = parent-before rows numbers node above up in
    (before, λ s is. around_first rows numbers steps above s (omega (arith, before, least)) is))
    (sym (around-step rows numbers node) ∙ found)

-- what is around a node has a smaller number than what it opens
pub around-first : (rows : List Row) → IsNumbered rows → (node scope : ℕ) → around rows node ≡ Some scope → scope < first_scope rows node
around-first rows numbers node scope found = around_first rows numbers node node scope (omega arith) found

nested_pushed : (scopes : List Scope) (scope : Scope) → AreNested scopes → ((above : ℕ) → scope.parent ≡ Some above → above < length scopes)
    → AreNested (scopes ++ scope ∷ [])
nested_pushed scopes scope nest before = record {
  before = λ s above is. elim (get_pushed scopes scope s) [
    | inl same ↦ nest.before s above (sym (ap (λ o. joined (option_map (λ z. z.parent) o)) same) ∙ is)
    | inr last ↦
        let here = before above (sym (ap (λ o. joined (option_map (λ z. z.parent) o)) last.1) ∙ is) in
        omega (arith, here, last.0)
  ];
}

nested_more : (outer : Option ℕ) (first : ℕ) (kinds : List ScopeKind) (scopes : List Scope) → AreNested scopes → length scopes ≡ first
    → ((above : ℕ) → outer ≡ Some above → above < first) → AreNested (scopes ++ nested outer first kinds)
nested_more outer first [] scopes nest long before = subst AreNested (sym (append-nil scopes)) nest
nested_more outer first (kind ∷ kinds) scopes nest long before =
    let one : Scope = record { kind = kind; parent = outer } in
    let more = length-append scopes (one ∷ []) in
    subst AreNested (append_assoc scopes (one ∷ []) (nested (Some first) (first + 1) kinds))
    (nested_more (Some first) (first + 1) kinds (scopes ++ one ∷ [])
    (nested_pushed scopes one nest (λ above is. let less = before above is in omega (arith, less, long)))
    (omega (arith, more, long))
    (λ above is. let same = some_same first above is in omega (arith, same)))

none_nested : AreNested []
none_nested = record { before = λ scope above is. cc }

nested_below : (rows : List Row) → IsNumbered rows → (count : ℕ) → AreNested (flat_map (scopes_at rows) (range_with_len 0 count))
nested_below rows numbers zero = none_nested
nested_below rows numbers (suc count) =
    let e : count + 1 ≡ suc count = omega arith in
    subst (λ (n : ℕ). AreNested (flat_map (scopes_at rows) (range_with_len 0 n))) e
    (subst AreNested (sym (flat_map-more (scopes_at rows) count))
    (nested_more (around rows count) (first_scope rows count) (opened rows count) (flat_map (scopes_at rows) (range_with_len 0 count))
    (nested_below rows numbers count) (length-scopes rows count) (λ above is. around-first rows numbers count above is)))

pub scopes-nested : (rows : List Row) → IsNumbered rows → AreNested (scopes rows)
scopes-nested rows numbers = nested_below rows numbers (length rows)
