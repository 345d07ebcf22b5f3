-- An option that is taken holds no floating-point number.
use Rattle.std.proofs.Common.{◌≡◌, ◌≢◌, ◌⊎◌, inl, inr, ℕ, suc, Bool, true, false, ◌||◌, List, cond, refl, sym, ap, ◌∙◌, arith}
use Rattle.std.specs.Prelude.{Option, Some, None, codes, option_and_then, ◌==◌}
use Rattle.std.specs.Ordering.{is_eq, match_ordering, nat_cmp}
use Rattle.std.specs.declared.cmp.Ordering.TheVariants.{Less, Equal, Greater}
use Rattle.std.specs.Cmp.Lexicographic.{slice_cmp}
use Rattle.std.specs.Str.{bytes_eq}
use Rattle.std.proofs.lemmas.Bool.Decides.{nat_tests}
use Rattle.std.proofs.lemmas.Map.Text.{is_eq-slice_cmp}
use Rattle.std.proofs.lemmas.Slice.Eq.{bytes_eq-Decides}
use Rattle.serde_json.specs.Data.{Data, Members, null, boolean, number, string, array, object, no_members, member}
use Rattle.serde_json.specs.Find.{as_str, get_member}
use Rattle.serde_json.specs.Written.{has_float}
use Rattle.es_rules_plain.specs.declared.restriction.Restriction.{Restriction}
use Rattle.es_rules_plain.specs.Restrictions.{by_count, count_members, message_in, restriction_in, text_at, usual}

text_float : (option : Data) (text : List ℕ) → as_str option ≡ Some text → has_float option ≡ false
text_float (string s) text e = refl
text_float null text e = cc
text_float (boolean b) text e = cc
text_float (number n) text e = cc
text_float (array ds) text e = cc
text_float (object ms) text e = cc

equal_is : (one other : List ℕ) → slice_cmp nat_cmp one other ≡ Equal → one ≡ other
equal_is one other e =
    let same = bytes_eq-Decides one other in
    let tells : bytes_eq one other ≡ true = sym (is_eq-slice_cmp one other) ∙ ap is_eq e in
    grind arith

-- the one member that is a text of this name
one_member : (name key : List ℕ) (value : Data) (text : List ℕ) → option_and_then as_str (get_member name (member key value no_members)) ≡ Some text →
    (name ≡ key) × (has_float value ≡ false)
one_member name key value text e =
    elim (slice_cmp nat_cmp name key) as (λ o. slice_cmp nat_cmp name key ≡ o → option_and_then as_str (match_ordering o None (Some value) None) ≡ Some text →
    (name ≡ key) × (has_float value ≡ false)) [
      | Less ↦ λ is f. cc
      | Equal ↦ λ is f. (equal_is name key is, text_float value text f)
      | Greater ↦ λ is f. cc
    ] refl e

-- the first of two, or the second
of_two : (name key other : List ℕ) (value second : Data) (text : List ℕ) →
    option_and_then as_str (get_member name (member key value (member other second no_members))) ≡ Some text →
    ((name ≡ key) × (has_float value ≡ false)) ⊎ ((name ≡ other) × (has_float second ≡ false))
of_two name key other value second text e =
    elim (slice_cmp nat_cmp name key) as (λ o. slice_cmp nat_cmp name key ≡ o →
    option_and_then as_str (match_ordering o (get_member name (member other second no_members)) (Some value) (get_member name (member other second no_members))) ≡ Some text →
    ((name ≡ key) × (has_float value ≡ false)) ⊎ ((name ≡ other) × (has_float second ≡ false))) [
      | Less ↦ λ is f. inr (one_member name other second text f)
      | Equal ↦ λ is f. inl (equal_is name key is, text_float value text f)
      | Greater ↦ λ is f. inr (one_member name other second text f)
    ] refl e

neither : (a b : Bool) → a ≡ false → b ≡ false → (a || (b || false)) ≡ false
neither a b e f = cc

both_texts : (one another key other : List ℕ) (value second : Data) (text message : List ℕ) → one ≢ another →
    option_and_then as_str (get_member one (member key value (member other second no_members))) ≡ Some text →
    option_and_then as_str (get_member another (member key value (member other second no_members))) ≡ Some message →
    (has_float value || (has_float second || false)) ≡ false
both_texts one another key other value second text message differ e f =
    elim (of_two one key other value second text e) as (λ o. (has_float value || (has_float second || false)) ≡ false) [
      | inl a ↦ elim (of_two another key other value second message f) as (λ o. (has_float value || (has_float second || false)) ≡ false) [
        | inl b ↦ absurd (differ (a.0 ∙ sym b.0))
        | inr b ↦ neither (has_float value) (has_float second) a.1 b.1
      ]
      | inr a ↦ elim (of_two another key other value second message f) as (λ o. (has_float value || (has_float second || false)) ≡ false) [
        | inl b ↦ neither (has_float value) (has_float second) b.1 a.1
        | inr b ↦ absurd (differ (a.0 ∙ sym b.0))
      ]
    ]

names_differ : codes "selector" ≢ codes "message"
names_differ e = let same = ap (λ name. bytes_eq name (codes "message")) e in cc

of_members : (members : Members) (selector : List ℕ) (restriction : Restriction) → text_at (codes "selector") (object members) ≡ Some selector →
    by_count (object members) selector (count_members members) ≡ Some restriction → has_float (object members) ≡ false
of_members no_members selector restriction e f = refl
of_members (member key value no_members) selector restriction e f = ap (λ b. b || false) (one_member (codes "selector") key value selector e).1
of_members (member key value (member other second no_members)) selector restriction e f = at (text_at (codes "message") (object (member key value (member other second no_members)))) refl f
  where
    at : (o : Option (List ℕ)) → text_at (codes "message") (object (member key value (member other second no_members))) ≡ o → message_in selector o ≡ Some restriction →
        (has_float value || (has_float second || false)) ≡ false
    at None is g = cc
    at (Some message) is g = both_texts (codes "selector") (codes "message") key other value second selector message names_differ e is
of_members (member key value (member other second (member third last rest))) selector restriction e f =
    let many : (suc (suc (suc (count_members rest))) == 1) ≡ false = grind (arith, nat_tests) in
    let more : (suc (suc (suc (count_members rest))) == 2) ≡ false = grind (arith, nat_tests) in
    let here = object (member key value (member other second (member third last rest))) in
    let none : None ≡ Some restriction =
    sym (ap (λ b. cond b (Some (usual selector)) (cond (suc (suc (suc (count_members rest))) == 2) (message_in selector (text_at (codes "message") here)) None)) many
    ∙ ap (λ b. cond b (message_in selector (text_at (codes "message") here)) None) more) ∙ f in
    cc

pub no_float : (option : Data) (restriction : Restriction) → restriction_in option ≡ Some restriction → has_float option ≡ false
no_float (string s) restriction e = refl
no_float (object members) restriction e = at (text_at (codes "selector") (object members)) refl e
  where
    at : (o : Option (List ℕ)) → text_at (codes "selector") (object members) ≡ o →
        option_and_then (λ selector. by_count (object members) selector (count_members members)) o ≡ Some restriction → has_float (object members) ≡ false
    at None is f = cc
    at (Some selector) is f = of_members members selector restriction is f
no_float null restriction e = cc
no_float (boolean b) restriction e = cc
no_float (number n) restriction e = cc
no_float (array ds) restriction e = cc
