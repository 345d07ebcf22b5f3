-- Names that are declared again by the first nodes that declare them.
use denote.Ref.{Bor}
use Rattle.std.proofs.Common.{◌≡◌, ◌∙◌, ℕ, ◌<◌, Bool, true, false, List, [], ◌∷◌, length, Option, Some, None, refl, ap, sym, arith, eqb-true, ◌+◌, ◌++◌, take, slice_index}
use Rattle.std.proofs.lemmas.List.{take_more}
use Rattle.std.specs.Prelude.{◌&&◌, ◌||◌, ◌==◌, nat_eq, if◌then◌else◌}
use Rattle.std.specs.HashMap.{HashMap}
use Rattle.std.specs.List.{list_any}
use Rattle.std.specs.Option.{is_some}
use Rattle.std.specs.Str.{bytes_eq}
use Rattle.std.proofs.lemmas.Bool.{and_from, and_parts}
use Rattle.std.proofs.lemmas.Slice.Eq.{bytes_eq-Decides}
use Rattle.es_tree.specs.Rows.{Row}
use Rattle.es_tree.specs.declared.kind.TheConstants.{IDENTIFIER}
use Rattle.es_early.specs.Lookups.{declares_beside, declares_lexically, declares_name}
use Rattle.es_tree.specs.Around.{are_same, is_one_of, is_text, name_of, same_name}
use Rattle.es_early.specs.declared.binding.Binding.{Binding}
use Rattle.es_early.specs.declared.binding.Binding.TheVariants.{Lexical, Var, Function, Parameter, Nothing}
use Rattle.es_early.specs.Declarations.{IsRedeclared, binding_of, counts_in, named_binding, declared_in, declares, is_lexical, is_lexical_binding, listed, scope_around}
use Rattle.es_early.specs.Notes.{HasFirsts, is_noted_before, noted, noted_at}
use Rattle.es_early.proofs.KindsLemmas.{any-gives, any-has, one_of-within, or_left, or_right}
use Rattle.es_early.proofs.NotesLemmas.{first_of-is_some, noted_before-gives, noted_before-holds}

itself : (text : List ℕ) → bytes_eq text text ≡ true
itself text = (bytes_eq-Decides text text).1 refl

lexical_is : (binding : Binding) → is_lexical_binding binding ≡ true → binding ≡ Lexical
lexical_is Lexical is = refl
lexical_is Var is = cc
lexical_is Function is = cc
lexical_is Parameter is = cc
lexical_is Nothing is = cc

-- a lexical declaration counts in the innermost scope around it
pub lexical-in : (rows : List Row) (node : ℕ) → is_lexical rows node ≡ true → declared_in rows node ≡ listed (scope_around rows node)
lexical-in rows node is = ap (counts_in rows node) (lexical_is (binding_of rows node) is)

or_false : (b : Bool) → b ≡ (b || false)
or_false true = refl
or_false false = refl

key_passes : (lexical : Bool) (scopes : List ℕ) (text : Option (List ℕ)) (scope other : ℕ) (name given : List ℕ)
    → lexical ≡ true → scopes ≡ scope ∷ [] → text ≡ Some name
    → (nat_eq scope other && bytes_eq name given) ≡ (lexical && (list_any (λ s. s == other) scopes && is_text text given))
key_passes lexical scopes text scope other name given a b c = rw (a, b, c) (ap (λ same. same && bytes_eq name given) (or_false (nat_eq scope other)))

-- a key that is noted is that of a lexical declaration
pub key-passes : (rows : List Row) (node scope other : ℕ) (name given : List ℕ) → is_lexical rows node ≡ true → scope_around rows node ≡ Some scope
    → name_of rows node ≡ Some name → (nat_eq scope other && bytes_eq name given) ≡ declares_lexically rows other given node
key-passes rows node scope other name given lexical around named =
    key_passes (is_lexical rows node) (declared_in rows node) (name_of rows node) scope other name given lexical
    (lexical-in rows node lexical ∙ ap listed around) named

no_text : (a b : Bool) (text : Option (List ℕ)) (given : List ℕ) → text ≡ None → (a && (b && is_text text given)) ≡ false
no_text true true text given none = rw none refl
no_text true false text given none = refl
no_text false b text given none = refl

-- what has no name declares none
pub nameless-passes : (rows : List Row) (node scope : ℕ) (given : List ℕ) → name_of rows node ≡ None → declares_lexically rows scope given node ≡ false
nameless-passes rows node scope given none = no_text (is_lexical rows node) (declares rows scope node) (name_of rows node) given none

counted : (rows : List Row) (node scope : ℕ) (named : Bool) (inner : Binding)
    → list_any (λ s. s == scope) (counts_in rows node (if named then inner else Nothing)) ≡ true → named ≡ true
counted rows node scope true inner is = refl
counted rows node scope false inner is = cc

-- what declares a name is a node
declares-within : (rows : List Row) (scope node : ℕ) → declares rows scope node ≡ true → node < length rows
declares-within rows scope node is =
    one_of-within (IDENTIFIER ∷ []) rows node (counted rows node scope (is_one_of (IDENTIFIER ∷ []) rows node) (named_binding rows node) is)

and_false : (b : Bool) → false ≡ (b && false)
and_false true = refl
and_false false = refl

both_true : (b : Bool) → b ≡ true → true ≡ (b && true)
both_true true is = refl
both_true false is = sym is

known : (test : ℕ → List ℕ → Bool) (scope other : ℕ) (name given : List ℕ) (a b : Bool) → nat_eq scope other ≡ a → bytes_eq name given ≡ b
    → test scope name ≡ true → (a && b) ≡ (test other given && (a && b))
known test scope other name given true true first second passes =
    both_true (test other given) (ap (λ s. test s given) (sym (eqb-true scope other first)) ∙ ap (test scope) (sym ((bytes_eq-Decides name given).0 second)) ∙ passes)
known test scope other name given true false first second passes = and_false (test other given)
known test scope other name given false b first second passes = and_false (test other given)

-- where a key passes, an equal one does
pub key-known : (test : ℕ → List ℕ → Bool) (scope other : ℕ) (name given : List ℕ) → test scope name ≡ true
    → (nat_eq scope other && bytes_eq name given) ≡ (test other given && (nat_eq scope other && bytes_eq name given))
key-known test scope other name given passes = known test scope other name given (nat_eq scope other) (bytes_eq name given) refl refl passes

pub noted-twice : (lexical before here same : Bool) (node : ℕ) (old : Option ℕ)
    → noted (lexical && (here && same)) node (noted (lexical && (before && same)) node old) ≡ noted (lexical && ((before || here) && same)) node old
noted-twice lexical before here same node (Some first) = refl
noted-twice false before here same node None = refl
noted-twice true true true true node None = refl
noted-twice true true true false node None = refl
noted-twice true true false true node None = refl
noted-twice true true false false node None = refl
noted-twice true false true true node None = refl
noted-twice true false true false node None = refl
noted-twice true false false true node None = refl
noted-twice true false false false node None = refl

pub any-more : (test : ℕ → Bool) (xs : List ℕ) (i : ℕ) → i < length xs → list_any test (take (i + 1) xs) ≡ (list_any test (take i xs) || test (slice_index xs i))
any-more test xs i within = ap (list_any test) (take_more xs i 0 within) ∙ any_end test (take i xs) (slice_index xs i)
  where
    or_assoc : (a b c : Bool) → (a || (b || c)) ≡ ((a || b) || c)
    or_assoc true b c = refl
    or_assoc false b c = refl

    any_end : (test : ℕ → Bool) (xs : List ℕ) (x : ℕ) → list_any test (xs ++ x ∷ []) ≡ (list_any test xs || test x)
    any_end test [] x = sym (or_false (test x))
    any_end test (y ∷ ys) x = ap (λ rest. test y || rest) (any_end test ys x) ∙ or_assoc (test y) (list_any test ys) (test x)

module _ {S : Type 0} (rows : List Row) (lexical declared : HashMap (ℕ × Bor (List ℕ)) ℕ S) (node : ℕ) (name : List ℕ)
    (has_lexical : HasFirsts (declares_lexically rows) (length rows) lexical)
    (has_declared : HasFirsts (declares_beside rows lexical) (length rows) declared)
    (named : name_of rows node ≡ Some name) where
  same : (other : ℕ) → is_text (name_of rows other) name ≡ same_name rows other node
  same other = ap (are_same (name_of rows other)) (sym named)

  abbrev again : HashMap (ℕ × Bor (List ℕ)) ℕ S → ℕ → Bool
  again notes scope = is_noted_before (noted_at notes scope name) node

  lexical_gives : is_lexical rows node ≡ true → list_any (again declared) (declared_in rows node) ≡ true → IsRedeclared rows node
  lexical_gives own any =
      let found = any-gives (again declared) (declared_in rows node) any in
      let scope = found.0 in
      let first = noted_before-gives (declares_beside rows lexical scope name) (length rows) node (ap (λ f. is_noted_before f node) (sym (has_declared scope name)) ∙ found.2) in
      let parts = and_parts (is_some (noted_at lexical scope name)) (declares_name rows scope name first.0) first.1 in
      let both = and_parts (declares rows scope first.0) (is_text (name_of rows first.0) name) parts.1 in
      record {
        other = first.0;
        before = first.2;
        same = sym (same first.0) ∙ both.1;
        scope = scope;
        first = both.0;
        later = found.1;
        lexical = or_right (is_lexical rows first.0) (is_lexical rows node) own;
      }

  own_passes : (scope : ℕ) → is_lexical rows node ≡ true → declares rows scope node ≡ true → declares_lexically rows scope name node ≡ true
  own_passes scope own declares_here =
      and_from (is_lexical rows node) (declares_name rows scope name node) own
      (and_from (declares rows scope node) (is_text (name_of rows node) name) declares_here (ap (λ text. is_text text name) named ∙ itself name))

  lexical_holds : is_lexical rows node ≡ true → IsRedeclared rows node → list_any (again declared) (declared_in rows node) ≡ true
  lexical_holds own error =
      let scope = error.scope in
      let here = declares-within rows scope node error.later in
      let beside : declares_beside rows lexical scope name error.other ≡ true =
      and_from (is_some (noted_at lexical scope name)) (declares_name rows scope name error.other)
      (ap is_some (has_lexical scope name) ∙ first_of-is_some (declares_lexically rows scope name) (length rows) node (own_passes scope own error.later) here)
      (and_from (declares rows scope error.other) (is_text (name_of rows error.other) name) error.first (same error.other ∙ error.same)) in
      any-has (again declared) (declared_in rows node) scope error.later
      (ap (λ f. is_noted_before f node) (has_declared scope name)
      ∙ noted_before-holds (declares_beside rows lexical scope name) (length rows) error.other node beside (omega (arith, error.before, here)) error.before)

  pub redeclared-lexical : is_lexical rows node ≡ true
      → (list_any (again declared) (declared_in rows node) ≡ true → IsRedeclared rows node)
      × (IsRedeclared rows node → list_any (again declared) (declared_in rows node) ≡ true)
  redeclared-lexical own = (lexical_gives own, lexical_holds own)

  other_gives : list_any (again lexical) (declared_in rows node) ≡ true → IsRedeclared rows node
  other_gives any =
      let found = any-gives (again lexical) (declared_in rows node) any in
      let scope = found.0 in
      let first = noted_before-gives (declares_lexically rows scope name) (length rows) node (ap (λ f. is_noted_before f node) (sym (has_lexical scope name)) ∙ found.2) in
      let parts = and_parts (is_lexical rows first.0) (declares_name rows scope name first.0) first.1 in
      let both = and_parts (declares rows scope first.0) (is_text (name_of rows first.0) name) parts.1 in
      record {
        other = first.0;
        before = first.2;
        same = sym (same first.0) ∙ both.1;
        scope = scope;
        first = both.0;
        later = found.1;
        lexical = or_left (is_lexical rows first.0) (is_lexical rows node) parts.0;
      }

  one_of_two : (a b : Bool) → b ≡ false → (a || b) ≡ true → a ≡ true
  one_of_two true b no_b is = refl
  one_of_two false b no_b is = cc

  other_holds : is_lexical rows node ≡ false → IsRedeclared rows node → list_any (again lexical) (declared_in rows node) ≡ true
  other_holds none error =
      let scope = error.scope in
      let here = declares-within rows scope node error.later in
      let passes : declares_lexically rows scope name error.other ≡ true =
      and_from (is_lexical rows error.other) (declares_name rows scope name error.other)
      (one_of_two (is_lexical rows error.other) (is_lexical rows node) none error.lexical)
      (and_from (declares rows scope error.other) (is_text (name_of rows error.other) name) error.first (same error.other ∙ error.same)) in
      any-has (again lexical) (declared_in rows node) scope error.later
      (ap (λ f. is_noted_before f node) (has_lexical scope name)
      ∙ noted_before-holds (declares_lexically rows scope name) (length rows) error.other node passes (omega (arith, error.before, here)) error.before)

  pub redeclared-other : is_lexical rows node ≡ false
      → (list_any (again lexical) (declared_in rows node) ≡ true → IsRedeclared rows node)
      × (IsRedeclared rows node → list_any (again lexical) (declared_in rows node) ≡ true)
  redeclared-other none = (other_gives, other_holds none)
