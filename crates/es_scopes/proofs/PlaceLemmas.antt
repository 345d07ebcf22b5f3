-- Where nodes stand, step by step.
use Rattle.std.proofs.Common.{◌≡◌, ◌∙◌, ℕ, suc, ◌+◌, List, [], ◌∷◌, ◌++◌, length, append_assoc, append-nil, length-append, Bool, true, false, Option, Some, None, refl, ap, sym, arith}
use Rattle.std.specs.Prelude.{if◌then◌else◌}
use Rattle.std.specs.List.{flat_map, range_with_len}
use Rattle.es_tree.specs.Around.{ancestors, parent, with_around}
use Rattle.es_tree.specs.Rows.{Row, IsNumbered}
use Rattle.es_tree.proofs.AroundLemmas.{ancestors-step}
use Rattle.es_scopes.specs.declared.scope.Scope.{Scope}
use Rattle.es_scopes.specs.declared.scope.ScopeKind.{ScopeKind}
use Rattle.es_scopes.specs.declared.scope.ScopeKind.TheVariants.{Field}
use Rattle.es_scopes.specs.Opened.{field_scope, if_opened, is_field_value, listed, opened}
use Rattle.es_scopes.specs.Places.{around, first_scope, first_some, holder, holding, in_field, innermost, inside, is_left_out, nested, or_else, scopes_at, stands}

-- the scope around a node, by where its parent stands and what stands in that
abbrev pub around_under : List Row → Bool → Option ℕ → Option ℕ
around_under rows out None = None
around_under rows true (Some above) = stands rows above
around_under rows false (Some above) = inside rows above

innermost_or : (outer : Option ℕ) (first : ℕ) (kinds : List ScopeKind) → or_else (innermost None first kinds) outer ≡ innermost outer first kinds
innermost_or outer first [] = refl
innermost_or outer first (kind ∷ kinds) = refl

field_or : (rows : List Row) (node : ℕ) (outer : Option ℕ) (is : Bool) → is_field_value rows node ≡ is → or_else (in_field rows node None) outer ≡ in_field rows node outer
field_or rows node outer true is = rw is refl
field_or rows node outer false is = rw is refl

around_step : (rows : List Row) (out : Bool) (up : Option ℕ)
    → or_else (holding rows out up) (first_some (holder rows) (with_around (ancestors rows) up)) ≡ around_under rows out up
around_step rows out None = refl
around_step rows true (Some above) = field_or rows above (around rows above) (is_field_value rows above) refl
around_step rows false (Some above) = innermost_or (around rows above) (first_scope rows above) (opened rows above)

pub around-step : (rows : List Row) → IsNumbered rows → (node : ℕ) → around rows node ≡ around_under rows (is_left_out rows node) (parent rows node)
around-step rows numbers node =
    ap (λ nodes. or_else (holder rows node) (first_some (holder rows) nodes)) (ancestors-step rows numbers node)
    ∙ around_step rows (is_left_out rows node) (parent rows node)

-- a node that has no parent stands in no scope
pub around-none : (rows : List Row) → IsNumbered rows → (node : ℕ) → None ≡ parent rows node → None ≡ around rows node
around-none rows numbers node none =
    ap (around_under rows (is_left_out rows node)) none ∙ sym (around-step rows numbers node)

pub around-out : (rows : List Row) → IsNumbered rows → (node above : ℕ) → Some above ≡ parent rows node → true ≡ is_left_out rows node
    → stands rows above ≡ around rows node
around-out rows numbers node above up out =
    ap (λ is. around_under rows is (Some above)) out
    ∙ ap (around_under rows (is_left_out rows node)) up ∙ sym (around-step rows numbers node)

pub around-in : (rows : List Row) → IsNumbered rows → (node above : ℕ) → Some above ≡ parent rows node → false ≡ is_left_out rows node
    → inside rows above ≡ around rows node
around-in rows numbers node above up out =
    ap (λ is. around_under rows is (Some above)) out
    ∙ ap (around_under rows (is_left_out rows node)) up ∙ sym (around-step rows numbers node)

length_nested : (outer : Option ℕ) (first : ℕ) (kinds : List ScopeKind) → length (nested outer first kinds) ≡ length kinds
length_nested outer first [] = refl
length_nested outer first (kind ∷ kinds) = ap suc (length_nested (Some first) (first + 1) kinds)

length_scopes : (rows : List Row) (nodes : List ℕ) → length (flat_map (scopes_at rows) nodes) ≡ length (flat_map (opened rows) nodes)
length_scopes rows [] = refl
length_scopes rows (node ∷ nodes) =
    length-append (scopes_at rows node) (flat_map (scopes_at rows) nodes)
    ∙ let here = length_nested (around rows node) (first_scope rows node) (opened rows node) in
    let rest = length_scopes rows nodes in
    let both = length-append (opened rows node) (flat_map (opened rows) nodes) in
    omega (arith, here, rest, both)

-- as many scopes are opened by the nodes before a node as its first scope's number says
pub length-scopes : (rows : List Row) (node : ℕ) → length (flat_map (scopes_at rows) (range_with_len 0 node)) ≡ first_scope rows node
length-scopes rows node = length_scopes rows (range_with_len 0 node)

innermost_more : (outer : Option ℕ) (first : ℕ) (ks ls : List ScopeKind)
    → innermost (innermost outer first ks) (first + length ks) ls ≡ innermost outer first (ks ++ ls)
innermost_more outer first [] [] = refl
innermost_more outer first [] (l ∷ ls) = let e : (first + 0) + length ls ≡ first + length ls = omega arith in ap (λ (n : ℕ). Some n) e
innermost_more outer first (k ∷ ks) [] = ap (λ (l : List ScopeKind). Some (first + length l)) (sym (append-nil ks))
innermost_more outer first (k ∷ ks) (l ∷ ls) =
    let both = length-append ks (l ∷ ls) in
    let e : (first + suc (length ks)) + length ls ≡ first + length (ks ++ l ∷ ls) = omega (arith, both) in
    ap (λ (n : ℕ). Some n) e

nested_more : (outer : Option ℕ) (first : ℕ) (ks ls : List ScopeKind)
    → nested outer first ks ++ nested (innermost outer first ks) (first + length ks) ls ≡ nested outer first (ks ++ ls)
nested_more outer first [] ls = let e : first + 0 ≡ first = omega arith in ap (λ (n : ℕ). nested outer n ls) e
nested_more outer first (k ∷ []) ls =
    let e : first + 1 ≡ (first + 1) + 0 = omega arith in
    let f : first + 0 ≡ first = omega arith in
    ap (λ rest. record { kind = k; parent = outer } ∷ rest) (ap (λ (n : ℕ). nested (Some n) (first + 1) ls) f)
nested_more outer first (k ∷ (j ∷ ks)) ls =
    let inner = nested_more (Some first) (first + 1) (j ∷ ks) ls in
    let e : first + suc (suc (length ks)) ≡ (first + 1) + suc (length ks) = omega arith in
    let f : first + suc (length ks) ≡ (first + 1) + length ks = omega arith in
    ap (λ rest. record { kind = k; parent = outer } ∷ rest)
    (ap (λ (n : ℕ). nested (Some first) (first + 1) (j ∷ ks) ++ nested (Some n) (first + suc (suc (length ks))) ls) f
    ∙ ap (λ (n : ℕ). nested (Some first) (first + 1) (j ∷ ks) ++ nested (Some ((first + 1) + length ks)) n ls) e ∙ inner)

-- after these scopes were opened around, the list and the innermost scope
pub record AreOpened (before : List Scope) (outer : Option ℕ) (kinds : List ScopeKind) (after : List Scope) (inner : Option ℕ) : Type 0 where
  pub scopes : after ≡ before ++ nested outer (length before) kinds
  pub inside : inner ≡ innermost outer (length before) kinds

pub opened-length : (before : List Scope) (outer : Option ℕ) (kinds : List ScopeKind) (after : List Scope) (inner : Option ℕ)
    → AreOpened before outer kinds after inner → length after ≡ length before + length kinds
opened-length before outer kinds after inner is =
    ap length is.scopes ∙ length-append before (nested outer (length before) kinds)
    ∙ ap (λ (n : ℕ). length before + n) (length_nested outer (length before) kinds)

pub opened-more : (before : List Scope) (outer : Option ℕ) (ks ls : List ScopeKind) (mid after : List Scope) (between inner : Option ℕ)
    → AreOpened before outer ks mid between → AreOpened mid between ls after inner → AreOpened before outer (ks ++ ls) after inner
opened-more before outer ks ls mid after between inner one two =
    let long = opened-length before outer ks mid between one in
    record {
      scopes = two.scopes ∙ ap (λ l. l ++ nested between (length mid) ls) one.scopes
          ∙ ap (λ (n : ℕ). (before ++ nested outer (length before) ks) ++ nested between n ls) long
          ∙ ap (λ (i : Option ℕ). (before ++ nested outer (length before) ks) ++ nested i (length before + length ks) ls) one.inside
          ∙ append_assoc before (nested outer (length before) ks) (nested (innermost outer (length before) ks) (length before + length ks) ls)
          ∙ ap (λ l. before ++ l) (nested_more outer (length before) ks ls);
      inside = two.inside ∙ ap (λ (n : ℕ). innermost between n ls) long
          ∙ ap (λ (i : Option ℕ). innermost i (length before + length ks) ls) one.inside
          ∙ innermost_more outer (length before) ks ls;
    }

field_stands : (rows : List Row) (node : ℕ) (outer : Option ℕ) (is : Bool)
    → innermost outer (first_scope rows node) (listed (if_opened is Field)) ≡ if is then Some (first_scope rows node) else outer
field_stands rows node outer true = let e : first_scope rows node + 0 ≡ first_scope rows node = omega arith in ap (λ (n : ℕ). Some n) e
field_stands rows node outer false = refl

-- where a node stands once its field's scope is opened
pub stands-opened : (rows : List Row) (node : ℕ) → innermost (around rows node) (first_scope rows node) (field_scope rows node) ≡ stands rows node
stands-opened rows node = field_stands rows node (around rows node) (is_field_value rows node)
