-- Private names by the first node that declares each in a class body.
use denote.Ref.{Bor}
use Rattle.std.proofs.Common.{◌≡◌, ◌∙◌, ℕ, ◌<◌, Bool, true, false, List, [], ◌∷◌, length, Option, Some, None, refl, ap, sym}
use Rattle.std.specs.Prelude.{◌&&◌, not, nat_eq}
use Rattle.std.specs.HashMap.{HashMap}
use Rattle.std.specs.List.{list_any}
use Rattle.std.specs.Option as std
use Rattle.std.specs.Str.{bytes_eq}
use Rattle.std.proofs.lemmas.Bool.{and_from, and_parts}
use Rattle.es_tree.specs.Rows.{Row}
use Rattle.es_tree.specs.declared.kind.TheConstants.{CLASS_BODY, PRIVATE_IDENTIFIER}
use Rattle.es_early.specs.Lookups.{declares_named}
use Rattle.es_tree.specs.Around.{ancestors, are_same, is_one_of, is_some, is_text, name_of, parent, same_name, stands_as}
use Rattle.es_tree.specs.Kinds.{members}
use Rattle.es_early.specs.Notes.{HasFirsts, noted_at}
use Rattle.es_early.specs.PrivateNames.{IsDeclaredPrivate, IsUndeclaredPrivate, declares_private, is_private_name, parent_of_some}
use Rattle.es_tree.specs.declared.field.TheConstants.{KEY}
use Rattle.es_early.proofs.KindsLemmas.{any-gives, any-has, one_of-within}
use Rattle.es_early.proofs.NotesLemmas.{first_of-is, first_of-is_some}

-- a key that is noted is that of a name which passes
pub key-passes : (private member : Bool) (body : Option ℕ) (text : Option (List ℕ)) (scope other : ℕ) (name given : List ℕ)
    → private ≡ true → member ≡ true → body ≡ Some scope → text ≡ Some name
    → (nat_eq scope other && bytes_eq name given) ≡ ((private && (member && is_some body other)) && is_text text given)
key-passes private member body text scope other name given a b c d = rw (a, b, c, d) refl

within : (rows : List Row) (body node : ℕ) (name : List ℕ) → declares_named rows body name node ≡ true → node < length rows
within rows body node name is =
    one_of-within (PRIVATE_IDENTIFIER ∷ []) rows node
    (and_parts (is_private_name rows node) (stands_as members KEY rows node && is_some (parent_of_some rows (parent rows node)) body)
    (and_parts (declares_private rows body node) (is_text (name_of rows node) name) is).0).0

abbrev pub declares_around : {S : Type 0} → List Row → HashMap (ℕ × Bor (List ℕ)) ℕ S → List ℕ → ℕ → Bool
declares_around rows notes name body = is_one_of (CLASS_BODY ∷ []) rows body && std.is_some (noted_at notes body name)

named : (rows : List Row) (a b : ℕ) (name : List ℕ) → name_of rows b ≡ Some name → is_text (name_of rows a) name ≡ same_name rows a b
named rows a b name is = ap (are_same (name_of rows a)) (sym is)

pub declared-gives : {S : Type 0} (rows : List Row) (notes : HashMap (ℕ × Bor (List ℕ)) ℕ S) (node : ℕ) (name : List ℕ)
    → HasFirsts (declares_named rows) (length rows) notes → name_of rows node ≡ Some name
    → list_any (declares_around rows notes name) (ancestors rows node) ≡ true → IsDeclaredPrivate rows node
declared-gives rows notes node name has is any =
    let found = any-gives (declares_around rows notes name) (ancestors rows node) any in
    let body = found.0 in
    let parts = and_parts (is_one_of (CLASS_BODY ∷ []) rows body) (std.is_some (noted_at notes body name)) found.2 in
    let first = first_of-is (declares_named rows body name) (length rows) (ap std.is_some (sym (has body name)) ∙ parts.1) in
    let both = and_parts (declares_private rows body first.0) (is_text (name_of rows first.0) name) first.1 in
    record {
      body = body;
      around = found.1;
      class = parts.0;
      declaring = first.0;
      declares = both.0;
      same = sym (named rows first.0 node name is) ∙ both.1;
    }

pub declared-holds : {S : Type 0} (rows : List Row) (notes : HashMap (ℕ × Bor (List ℕ)) ℕ S) (node : ℕ) (name : List ℕ)
    → HasFirsts (declares_named rows) (length rows) notes → name_of rows node ≡ Some name
    → IsDeclaredPrivate rows node → list_any (declares_around rows notes name) (ancestors rows node) ≡ true
declared-holds rows notes node name has is declared =
    let passes : declares_named rows declared.body name declared.declaring ≡ true =
    and_from (declares_private rows declared.body declared.declaring) (is_text (name_of rows declared.declaring) name) declared.declares
    (named rows declared.declaring node name is ∙ declared.same) in
    any-has (declares_around rows notes name) (ancestors rows node) declared.body declared.around
    (and_from (is_one_of (CLASS_BODY ∷ []) rows declared.body) (std.is_some (noted_at notes declared.body name)) declared.class
    (ap std.is_some (has declared.body name)
    ∙ first_of-is_some (declares_named rows declared.body name) (length rows) declared.declaring passes
    (within rows declared.body declared.declaring name passes)))

not_true : (b : Bool) → (b ≡ true → ⊥) → not b ≡ true
not_true true never = absurd (never refl)
not_true false never = refl

true_not : (b : Bool) → not b ≡ true → b ≡ true → ⊥
true_not true is holds = cc
true_not false is holds = cc

-- a private name is undeclared where no class body around it has its name noted
pub undeclared : {S : Type 0} (rows : List Row) (notes : HashMap (ℕ × Bor (List ℕ)) ℕ S) (node : ℕ) (name : List ℕ)
    → HasFirsts (declares_named rows) (length rows) notes → name_of rows node ≡ Some name → is_private_name rows node ≡ true
    → (not (list_any (declares_around rows notes name) (ancestors rows node)) ≡ true → IsUndeclaredPrivate rows node)
    × (IsUndeclaredPrivate rows node → not (list_any (declares_around rows notes name) (ancestors rows node)) ≡ true)
undeclared rows notes node name has is private =
    let any = list_any (declares_around rows notes name) (ancestors rows node) in (
      λ none. record {
        private = private;
        undeclared = λ declared. true_not any none (declared-holds rows notes node name has is declared);
      },
      λ error. not_true any (λ found. error.undeclared (declared-gives rows notes node name has is found)),
    )

nameless : (name : Option (List ℕ)) → are_same name None ≡ true → ⊥
nameless name is = cc

-- a private name without a name is undeclared
pub undeclared-nameless : (rows : List Row) (node : ℕ) → name_of rows node ≡ None → is_private_name rows node ≡ true → IsUndeclaredPrivate rows node
undeclared-nameless rows node is private = record {
  private = private;
  undeclared = λ declared. nameless (name_of rows declared.declaring) (ap (are_same (name_of rows declared.declaring)) (sym is) ∙ declared.same);
}
