-- What entries of a map of std are as a finite map, before and after one is set.
use Rattle.std.proofs.Common.{◌≡◌, ℕ, Bool, true, false, cond, List, [], ◌∷◌, Option, None, Some, refl, sym, ap, ◌∙◌}
use Rattle.std.specs.Prelude.{option_map, String, Vec, string_bytes}
use Rattle.std.specs.declared.alloc.Global.{Global}
use Rattle.std.specs.declared.cmp.Ordering.{Ordering}
use Rattle.std.specs.FinMap.{IsAntisymmetric, get, insert, get-empty, get-insert, same_map, nat_cmp-IsAntisymmetric, slice_cmp-IsAntisymmetric}
use Rattle.std.specs.Cmp.{IsTotalOrder, eq_by_cmp_equiv, nat_cmp_total}
use Rattle.std.specs.Cmp.Lexicographic.{slice_cmp, nat_list_cmp_total}
use Rattle.std.specs.Ordering.{eq_by_cmp, is_eq, nat_cmp}
use Rattle.std.specs.Map.{lookup}
use Rattle.std.specs.String.{string_cmp}
use Rattle.std.specs.BTreeMap as tree
use Rattle.std.specs.BTreeMap.{BTreeMap}
use Rattle.std.proofs.lemmas.Map.Text.{is_eq-slice_cmp, btree_map_updates_text}
use Rattle.es_files.specs.Seen.{held_of, numbers_of, seen_by}

within_cond : {X Y : Type 0} (value : X → Y) (b : Bool) (x : X) (o : Option X) → cond b (Some (value x)) (option_map value o) ≡ option_map value (cond b (Some x) o)
within_cond value true x o = refl
within_cond value false x o = refl

module _ {K Q X Y : Type 0} {order : Q → Q → Ordering} (total : IsTotalOrder order) (key : K → Q) (value : X → Y) where
  get-seen_by : (entries : List (K × X)) (q : Q) → get (seen_by order key value entries) q ≡ option_map value (lookup (λ k. is_eq (order q (key k))) entries)
  get-seen_by [] q = get-empty order q
  get-seen_by (entry ∷ entries) q =
      get-insert total (seen_by order key value entries) (key entry.0) (value entry.1) q
      ∙ ap (cond (eq_by_cmp order q (key entry.0)) (Some (value entry.1))) (get-seen_by entries q)
      ∙ within_cond value (eq_by_cmp order q (key entry.0)) entry.1 (lookup (λ k. is_eq (order q (key k))) entries)

  -- entries that have x at k, and elsewhere what the earlier ones had, are these with x put at k
  seen_by-insert : IsAntisymmetric order → (before after : List (K × X)) (k : Q) (x : X)
      → ((q : Q) → lookup (λ c. is_eq (order q (key c))) after ≡ cond (eq_by_cmp order k q) (Some x) (lookup (λ c. is_eq (order q (key c))) before))
      → seen_by order key value after ≡ insert (seen_by order key value before) k (value x)
  seen_by-insert same before after k x changed = same_map total same _ _ (λ q.
      get-seen_by after q ∙ ap (option_map value) (changed q)
      ∙ sym (within_cond value (eq_by_cmp order k q) x _)
      ∙ ap (λ b. cond b (Some (value x)) (option_map value (lookup (λ c. is_eq (order q (key c))) before))) ((eq_by_cmp_equiv total).symm k q)
      ∙ sym (get-insert total (seen_by order key value before) k (value x) q
      ∙ ap (cond (eq_by_cmp order q k) (Some (value x))) (get-seen_by before q)))

-- ---- names and what they hold

pub get-held_of : (files : BTreeMap (String Global) (Vec ℕ Global)) (name : List ℕ)
    → get (held_of files.entries) name ≡ option_map (λ bytes. bytes.items) (tree.get_by_text files name)
get-held_of files name = get-seen_by nat_list_cmp_total string_bytes (λ bytes. bytes.items) files.entries name

pub held_of-insert : (before after : BTreeMap (String Global) (Vec ℕ Global)) (name : List ℕ) (bytes : Vec ℕ Global)
    → tree.UpdatesBy string_cmp (λ key. slice_cmp nat_cmp name (string_bytes key)) before after (Some bytes)
    → held_of after.entries ≡ insert (held_of before.entries) name bytes.items
held_of-insert before after name bytes updates =
    seen_by-insert nat_list_cmp_total string_bytes (λ bytes. bytes.items) (slice_cmp-IsAntisymmetric nat_cmp-IsAntisymmetric)
    before.entries after.entries name bytes
    (λ q. btree_map_updates_text name before after (Some bytes) updates q
    ∙ ap (λ b. cond b (Some bytes) (tree.get_by_text before q)) (sym (is_eq-slice_cmp name q)))

-- ---- numbers and what belongs to them

as_it_is : {X : Type 0} (o : Option X) → option_map (λ x. x) o ≡ o
as_it_is None = refl
as_it_is (Some x) = refl

pub get-numbers_of : (numbers : BTreeMap ℕ ℕ) (number : ℕ) → get (numbers_of numbers.entries) number ≡ tree.get nat_cmp numbers number
get-numbers_of numbers number =
    get-seen_by nat_cmp_total (λ n. n) (λ n. n) numbers.entries number ∙ as_it_is (tree.get nat_cmp numbers number)

pub numbers_of-insert : (before after : BTreeMap ℕ ℕ) (number value : ℕ)
    → tree.Updates nat_cmp before after number (Some value)
    → numbers_of after.entries ≡ insert (numbers_of before.entries) number value
numbers_of-insert before after number value updates =
    seen_by-insert nat_cmp_total (λ n. n) (λ n. n) nat_cmp-IsAntisymmetric before.entries after.entries number value updates.0
