-- The variables of a scope, one declaration after another.
use Rattle.std.proofs.Common.{◌≡◌, ◌∙◌, ℕ, zero, suc, ◌<◌, List, [], ◌∷◌, ◌++◌, length, map, append-nil, Bool, true, false, Option, Some, None, refl, ap, sym, arith, eq-eqb}
use Rattle.std.specs.Prelude.{◌==◌, ◌&&◌, not, filter, if◌then◌else◌, option_map}
use Rattle.std.specs.List.{flat_map, list_all}
use Rattle.std.specs.Str.{bytes_eq}
use Rattle.std.proofs.Math.ListN.{get_or, set}
use Rattle.std.proofs.lemmas.List.Concat.{flat_map-append}
use Rattle.std.proofs.lemmas.List.Elements.{filter-append}
use Rattle.std.proofs.lemmas.Slice.Eq.{bytes_eq-Decides}
use Rattle.es_tree.specs.Rows.{Row}
use Rattle.es_scopes.specs.declared.declarations.Declaration.{Declaration}
use Rattle.es_scopes.specs.declared.variable.Variable.{Variable}
use Rattle.es_scopes.specs.Declarations.{is_named, name_declared, some_list}
use Rattle.es_scopes.specs.Gathering.{IsFresh, is_elsewhere, joined, with_nodes, with_nodes_at}
use Rattle.es_scopes.specs.Variables.{Named, found_in, gathered, index_of, is_of, is_other, nodes_named, seen, variable}

pub with_nodes_at-none : (vs : List Named) (index : ℕ) → with_nodes_at vs index [] ≡ vs
with_nodes_at-none [] index = refl
with_nodes_at-none (v ∷ vs) zero = ap (λ nodes. record v { nodes = nodes } ∷ vs) (append-nil v.nodes)
with_nodes_at-none (v ∷ vs) (suc index) = ap (λ rest. v ∷ rest) (with_nodes_at-none vs index)

-- a variable that was written back with further nodes
pub seen-set : (vs : List Variable) (index : ℕ) (v : Variable) (nodes : List ℕ) → index < length vs → v ≡ get_or vs index v
    → map seen (set vs index (record { name = v.name; scope = v.scope; kind = v.kind; nodes = v.nodes ++ nodes }))
    ≡ with_nodes_at (map seen vs) index nodes
seen-set [] index v nodes within is = refl
seen-set (u ∷ vs) zero v nodes within is =
    ap (λ (w : Variable). with_nodes nodes (seen w) ∷ map seen vs) is
seen-set (u ∷ vs) (suc index) v nodes within is =
    ap (λ rest. seen u ∷ rest) (seen-set vs index v nodes (omega (arith, within)) is)

pub same_bytes : (xs : List ℕ) → bytes_eq xs xs ≡ true
same_bytes xs = (bytes_eq-Decides xs xs).1 refl

-- the nodes of a declaration alone
pub nodes-alone : (rows : List Row) (d : Declaration) → nodes_named rows (name_declared rows d.node) (d ∷ []) ≡ some_list d.node
nodes-alone rows d =
    ap (λ (b : Bool). flat_map (λ (e : Declaration). some_list e.node) (if b then d ∷ [] else [])) (same_bytes (name_declared rows d.node))
    ∙ append-nil (some_list d.node)

some_suc : (found : Option ℕ) (index : ℕ) → option_map suc found ≡ Some index → (before : ℕ) × (found ≡ Some before) × (index ≡ suc before)
some_suc None index is = cc
some_suc (Some before) index is = let same : suc before ≡ index = cc in (before, refl, sym same)

none_suc : (found : Option ℕ) → option_map suc found ≡ None → found ≡ None
none_suc None is = refl
none_suc (Some before) is = cc

zero_found : (index : ℕ) → Some 0 ≡ Some index → 0 ≡ index
zero_found index is = cc

-- a variable that is found still is, whatever nodes are added
pub found-with_nodes_at : (test : Named → Bool) → ((v : Named) (nodes : List ℕ) → test (with_nodes nodes v) ≡ test v)
    → (vs : List Named) (index : ℕ) (nodes : List ℕ) → index_of test (with_nodes_at vs index nodes) ≡ index_of test vs
found-with_nodes_at test same [] index nodes = refl
found-with_nodes_at test same (v ∷ vs) zero nodes =
    ap (λ (b : Bool). if b then Some 0 else option_map suc (index_of test vs)) (same v nodes)
found-with_nodes_at test same (v ∷ vs) (suc index) nodes =
    ap (λ (found : Option ℕ). if test v then Some 0 else option_map suc found) (found-with_nodes_at test same vs index nodes)

-- what isn't found in the second list is found as in the first
pub found-more : (test : Named → Bool) (vs ws : List Named) → index_of test ws ≡ None → index_of test (vs ++ ws) ≡ index_of test vs
found-more test [] ws none = none
found-more test (v ∷ vs) ws none =
    ap (λ (found : Option ℕ). if test v then Some 0 else option_map suc found) (found-more test vs ws none)

new_step : (is : Bool) (found more : Option ℕ) (length : ℕ) → (if is then Some 0 else option_map suc found) ≡ None
    → (found ≡ None → more ≡ Some length) → (if is then Some 0 else option_map suc more) ≡ Some (suc length)
new_step true found more length none here = cc
new_step false found more length none here = ap (option_map suc) (here (none_suc found none))

-- the last variable is found where no other is
pub found-new : (test : Named → Bool) (vs : List Named) (v : Named) → index_of test vs ≡ None → test v ≡ true
    → index_of test (vs ++ v ∷ []) ≡ Some (length vs)
found-new test [] v none is = ap (λ (b : Bool). if b then Some 0 else None) is
found-new test (u ∷ vs) v none is =
    new_step (test u) (index_of test vs) (index_of test (vs ++ v ∷ [])) (length vs) none (λ here. found-new test vs v here is)

-- a variable that is found is within the list
within_step : (is : Bool) (found : Option ℕ) (index length : ℕ) → (if is then Some 0 else option_map suc found) ≡ Some index
    → ((i : ℕ) → found ≡ Some i → i < length) → index < suc length
within_step true found index length is here = let same = zero_found index is in omega (arith, same)
within_step false found index length is here =
    let before = some_suc found index is in
    let less = here before.0 before.1 in
    omega (arith, less, before.2)

pub found-within : (test : Named → Bool) (vs : List Named) (index : ℕ) → index_of test vs ≡ Some index → index < length vs
found-within test [] index found = cc
found-within test (v ∷ vs) index found =
    within_step (test v) (index_of test vs) index (length vs) found (λ i is. found-within test vs i is)

kept : (p : Named → Bool) (v : Named) (vs : List Named) → p v ≡ true → filter p (v ∷ vs) ≡ v ∷ filter p vs
kept p v vs is = ap (λ (b : Bool). if b then v ∷ filter p vs else filter p vs) is

passed : (p : Named → Bool) (v : Named) (vs : List Named) → p v ≡ false → filter p (v ∷ vs) ≡ filter p vs
passed p v vs is = ap (λ (b : Bool). if b then v ∷ filter p vs else filter p vs) is

same_name : (a b : List ℕ) → bytes_eq a b ≡ true → a ≡ b
same_name a b is = (bytes_eq-Decides a b).0 is

pub and_true : (a b : Bool) → a ≡ true → b ≡ true → (a && b) ≡ true
and_true a b one two = ap (λ (x : Bool). x && b) one ∙ two

pub and_right : (a b : Bool) → (a && b) ≡ true → b ≡ true
and_right true b is = is
and_right false b is = cc

pub and_false : (a b : Bool) → b ≡ false → (a && b) ≡ false
and_false true b is = is
and_false false b is = refl

pub other_name : (a b : List ℕ) → bytes_eq a b ≡ false → bytes_eq b a ≡ false
other_name a b is = flipped (bytes_eq b a) refl
  where
    flipped : (is : Bool) → bytes_eq b a ≡ is → is ≡ false
    flipped true back = let same = same_name b a back in let both : bytes_eq a b ≡ true = (bytes_eq-Decides a b).1 (sym same) in cc
    flipped false back = refl

pub fresh_first : (a b : Bool) → (a && b) ≡ true → a ≡ true
fresh_first true b is = refl
fresh_first false b is = cc

not_false : (a : Bool) → not a ≡ true → a ≡ false
not_false true is = cc
not_false false is = refl

and_left_false : (a b : Bool) → a ≡ false → (a && b) ≡ false
and_left_false a b is = ap (λ (x : Bool). x && b) is

elsewhere_false : (scope : ℕ) (name : List ℕ) (v : Named) → is_elsewhere scope v ≡ true → is_of scope name v ≡ false
elsewhere_false scope name v is = and_left_false (v.scope == scope) (bytes_eq name v.name) (not_false (v.scope == scope) is)

-- nothing is found in a scope that none of the variables is of
pub fresh-none : (scope : ℕ) (name : List ℕ) (vs : List Named) → IsFresh scope vs → found_in vs name scope ≡ None
fresh-none scope name [] fresh = refl
fresh-none scope name (v ∷ vs) fresh =
    let here = elsewhere_false scope name v (fresh_first (is_elsewhere scope v) (list_all (is_elsewhere scope) vs) fresh) in
    ap (λ (b : Bool). if b then Some 0 else option_map suc (found_in vs name scope)) here
    ∙ ap (option_map suc) (fresh-none scope name vs (and_right (is_elsewhere scope v) (list_all (is_elsewhere scope) vs) fresh))

module _ (rows : List Row) (scope : ℕ) (d : Declaration) where
  joined_yes : (v : Named) (vs : List Named) → is_of scope (name_declared rows d.node) v ≡ true
      → joined rows scope (v ∷ vs) d ≡ with_nodes (some_list d.node) v ∷ vs
  joined_yes v vs is = ap (λ (b : Bool). if b then with_nodes (some_list d.node) v ∷ vs else v ∷ joined rows scope vs d) is

  joined_no : (v : Named) (vs : List Named) → is_of scope (name_declared rows d.node) v ≡ false
      → joined rows scope (v ∷ vs) d ≡ v ∷ joined rows scope vs d
  joined_no v vs is = ap (λ (b : Bool). if b then with_nodes (some_list d.node) v ∷ vs else v ∷ joined rows scope vs d) is

  found_step : (is : Bool) (v : Named) (vs rest : List Named) (found : Option ℕ) (index : ℕ)
      → ((i : ℕ) → found ≡ Some i → rest ≡ with_nodes_at vs i (some_list d.node))
      → (if is then Some 0 else option_map suc found) ≡ Some index
      → (if is then with_nodes (some_list d.node) v ∷ vs else v ∷ rest) ≡ with_nodes_at (v ∷ vs) index (some_list d.node)
  found_step true v vs rest found index here is =
      ap (λ (i : ℕ). with_nodes_at (v ∷ vs) i (some_list d.node)) (zero_found index is)
  found_step false v vs rest found index here is =
      let before = some_suc found index is in
      ap (λ l. v ∷ l) (here before.0 before.1)
      ∙ ap (λ (i : ℕ). with_nodes_at (v ∷ vs) i (some_list d.node)) (sym before.2)

  -- a further declaration joins the variable that was found
  pub joined-found : (vs : List Named) (index : ℕ) → found_in vs (name_declared rows d.node) scope ≡ Some index
      → joined rows scope vs d ≡ with_nodes_at vs index (some_list d.node)
  joined-found [] index found = cc
  joined-found (v ∷ vs) index found =
      found_step (is_of scope (name_declared rows d.node) v) v vs (joined rows scope vs d) (found_in vs (name_declared rows d.node) scope) index
      (λ i is. joined-found vs i is) found

  none_step : (is : Bool) (v new : Named) (vs rest : List Named) (found : Option ℕ) → (found ≡ None → rest ≡ vs ++ new ∷ [])
      → (if is then Some 0 else option_map suc found) ≡ None
      → (if is then with_nodes (some_list d.node) v ∷ vs else v ∷ rest) ≡ v ∷ vs ++ new ∷ []
  none_step true v new vs rest found here is = cc
  none_step false v new vs rest found here is = ap (λ l. v ∷ l) (here (none_suc found is))

  -- a first declaration makes one at the end
  pub joined-none : (vs : List Named) → found_in vs (name_declared rows d.node) scope ≡ None
      → joined rows scope vs d ≡ vs ++ variable rows scope d (d ∷ []) ∷ []
  joined-none [] found = refl
  joined-none (v ∷ vs) found =
      none_step (is_of scope (name_declared rows d.node) v) v (variable rows scope d (d ∷ [])) vs (joined rows scope vs d)
      (found_in vs (name_declared rows d.node) scope) (λ is. joined-none vs is) found

  same_step : (name : List ℕ) → bytes_eq name (name_declared rows d.node) ≡ true → (v : Named) (vs : List Named) (is : Bool)
      → is_of scope (name_declared rows d.node) v ≡ is → filter (is_other name) (joined rows scope vs d) ≡ filter (is_other name) vs
      → filter (is_other name) (joined rows scope (v ∷ vs) d) ≡ filter (is_other name) (v ∷ vs)
  same_step name same v vs true is rest =
      let mine : name ≡ v.name = same_name name (name_declared rows d.node) same ∙ same_name (name_declared rows d.node) v.name (and_right (v.scope == scope) (bytes_eq (name_declared rows d.node) v.name) is) in
      let out : is_other name v ≡ false = ap not ((bytes_eq-Decides name v.name).1 mine) in
      ap (filter (is_other name)) (joined_yes v vs is)
      ∙ passed (is_other name) (with_nodes (some_list d.node) v) vs out
      ∙ sym (passed (is_other name) v vs out)
  same_step name same v vs false is rest =
      ap (filter (is_other name)) (joined_no v vs is)
      ∙ ap (λ l. if is_other name v then v ∷ l else l) rest

  -- the variables of the same name fall out before and after
  same_left : (name : List ℕ) → bytes_eq name (name_declared rows d.node) ≡ true → (vs : List Named)
      → filter (is_other name) (joined rows scope vs d) ≡ filter (is_other name) vs
  same_left name same [] = passed (is_other name) (variable rows scope d (d ∷ [])) [] (ap not same)
  same_left name same (v ∷ vs) = same_step name same v vs (is_of scope (name_declared rows d.node) v) refl (same_left name same vs)

  other_step : (name : List ℕ) → bytes_eq name (name_declared rows d.node) ≡ false → (v : Named) (vs : List Named) (is out : Bool)
      → is_of scope (name_declared rows d.node) v ≡ is → is_other name v ≡ out
      → filter (is_other name) (joined rows scope vs d) ≡ joined rows scope (filter (is_other name) vs) d
      → filter (is_other name) (joined rows scope (v ∷ vs) d) ≡ joined rows scope (filter (is_other name) (v ∷ vs)) d
  other_step name other v vs true true is out rest =
      ap (filter (is_other name)) (joined_yes v vs is)
      ∙ kept (is_other name) (with_nodes (some_list d.node) v) vs out
      ∙ sym (ap (λ l. joined rows scope l d) (kept (is_other name) v vs out) ∙ joined_yes v (filter (is_other name) vs) is)
  other_step name other v vs true false is out rest =
      let mine : name_declared rows d.node ≡ v.name = same_name (name_declared rows d.node) v.name (and_right (v.scope == scope) (bytes_eq (name_declared rows d.node) v.name) is) in
      let differs : bytes_eq name v.name ≡ false = sym (ap (bytes_eq name) mine) ∙ other in
      let never : true ≡ false = sym (ap not differs) ∙ out in
      cc
  other_step name other v vs false true is out rest =
      ap (filter (is_other name)) (joined_no v vs is)
      ∙ kept (is_other name) v (joined rows scope vs d) out
      ∙ ap (λ l. v ∷ l) rest
      ∙ sym (ap (λ l. joined rows scope l d) (kept (is_other name) v vs out) ∙ joined_no v (filter (is_other name) vs) is)
  other_step name other v vs false false is out rest =
      ap (filter (is_other name)) (joined_no v vs is)
      ∙ passed (is_other name) v (joined rows scope vs d) out
      ∙ rest
      ∙ sym (ap (λ l. joined rows scope l d) (passed (is_other name) v vs out))

  other_left : (name : List ℕ) → bytes_eq name (name_declared rows d.node) ≡ false → (vs : List Named)
      → filter (is_other name) (joined rows scope vs d) ≡ joined rows scope (filter (is_other name) vs) d
  other_left name other [] = kept (is_other name) (variable rows scope d (d ∷ [])) [] (ap not other)
  other_left name other (v ∷ vs) =
      other_step name other v vs (is_of scope (name_declared rows d.node) v) (is_other name v) refl refl (other_left name other vs)

  -- the nodes of a name, with one more declaration
  nodes_more : (name : List ℕ) (ds : List Declaration) → nodes_named rows name (ds ++ d ∷ [])
      ≡ nodes_named rows name ds ++ (if bytes_eq name (name_declared rows d.node) then some_list d.node else [])
  nodes_more name ds =
      ap (flat_map (λ (e : Declaration). some_list e.node)) (filter-append (is_named rows name) ds (d ∷ []))
      ∙ flat_map-append (λ (e : Declaration). some_list e.node) (filter (is_named rows name) ds) (filter (is_named rows name) (d ∷ []))
      ∙ ap (λ l. nodes_named rows name ds ++ l) (nodes_one (bytes_eq name (name_declared rows d.node)))
    where
      nodes_one : (is : Bool) → flat_map (λ (e : Declaration). some_list e.node) (if is then d ∷ [] else []) ≡ (if is then some_list d.node else [])
      nodes_one true = append-nil (some_list d.node)
      nodes_one false = refl

  gather_step : (e : Declaration) (ds : List Declaration) (same : Bool) → bytes_eq (name_declared rows e.node) (name_declared rows d.node) ≡ same
      → gathered rows scope (ds ++ d ∷ []) ≡ joined rows scope (gathered rows scope ds) d
      → gathered rows scope (e ∷ (ds ++ d ∷ [])) ≡ joined rows scope (gathered rows scope (e ∷ ds)) d
  gather_step e ds true same rest =
      let name = name_declared rows e.node in
      let is_name : name ≡ name_declared rows d.node = same_name name (name_declared rows d.node) same in
      let back : bytes_eq (name_declared rows d.node) name ≡ true = (bytes_eq-Decides (name_declared rows d.node) name).1 (sym is_name) in
      ap (λ (ns : List ℕ). record { name = name; scope = scope; kind = e.kind; nodes = ns } ∷ filter (is_other name) (gathered rows scope (ds ++ d ∷ [])))
      (nodes_more name (e ∷ ds) ∙ ap (λ (b : Bool). nodes_named rows name (e ∷ ds) ++ (if b then some_list d.node else [])) same)
      ∙ ap (λ vs. with_nodes (some_list d.node) (variable rows scope e (e ∷ ds)) ∷ vs) (ap (filter (is_other name)) rest ∙ same_left name same (gathered rows scope ds))
      ∙ sym (joined_yes (variable rows scope e (e ∷ ds)) (filter (is_other name) (gathered rows scope ds)) (and_true (scope == scope) (bytes_eq (name_declared rows d.node) name) (eq-eqb scope scope refl) back))
  gather_step e ds false other rest =
      let name = name_declared rows e.node in
      ap (λ (ns : List ℕ). record { name = name; scope = scope; kind = e.kind; nodes = ns } ∷ filter (is_other name) (gathered rows scope (ds ++ d ∷ [])))
      (nodes_more name (e ∷ ds) ∙ ap (λ (b : Bool). nodes_named rows name (e ∷ ds) ++ (if b then some_list d.node else [])) other
      ∙ append-nil (nodes_named rows name (e ∷ ds)))
      ∙ ap (λ vs. variable rows scope e (e ∷ ds) ∷ vs) (ap (filter (is_other name)) rest ∙ other_left name other (gathered rows scope ds))
      ∙ sym (joined_no (variable rows scope e (e ∷ ds)) (filter (is_other name) (gathered rows scope ds)) (and_false (scope == scope) (bytes_eq (name_declared rows d.node) name) (other_name name (name_declared rows d.node) other)))

  -- the variables of one more declaration are those that it joined
  pub gathered-more : (ds : List Declaration) → gathered rows scope (ds ++ d ∷ []) ≡ joined rows scope (gathered rows scope ds) d
  gathered-more [] =
      ap (λ (ns : List ℕ). record { name = name_declared rows d.node; scope = scope; kind = d.kind; nodes = ns } ∷ []) refl
  gathered-more (e ∷ ds) =
      gather_step e ds (bytes_eq (name_declared rows e.node) (name_declared rows d.node)) refl (gathered-more ds)

  -- a declaration joins the variables of its scope
  pub joined-behind : (vs ws : List Named) → IsFresh scope vs → joined rows scope (vs ++ ws) d ≡ vs ++ joined rows scope ws d
  joined-behind [] ws fresh = refl
  joined-behind (v ∷ vs) ws fresh =
      let here = elsewhere_false scope (name_declared rows d.node) v (fresh_first (is_elsewhere scope v) (list_all (is_elsewhere scope) vs) fresh) in
      joined_no v (vs ++ ws) here
      ∙ ap (λ l. v ∷ l) (joined-behind vs ws (and_right (is_elsewhere scope v) (list_all (is_elsewhere scope) vs) fresh))
