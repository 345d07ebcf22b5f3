-- Kits whose rules mean the same as before.
use Rattle.std.proofs.Common.{◌≡◌, ◌∙◌, ◌<◌, ◌^◌, zero, suc, List, [], ◌∷◌, ◌++◌, All, ap, length, map, sym, subst, arith}
use Rattle.es_settings.specs.declared.verdict.Verdict.TheVariants.{Fine}
use Rattle.es_host.specs.Kits.{KitOf, NeedsNoOptions}
use Rattle.es_host.specs.Meanings.{Meaning}

-- they still can do without options
pub needs_kept : {R : Type 0} (meaning : R → Meaning) (before now : List (KitOf R)) → map (λ kit. map meaning kit.rules) now ≡ map (λ kit. map meaning kit.rules) before
    → All (NeedsNoOptions meaning) before → All (NeedsNoOptions meaning) now
needs_kept meaning before [] same all k d h = absurd (omega (arith, h))
needs_kept meaning [] (kit ∷ kits) same all k d h = absurd (cc)
needs_kept meaning (old ∷ olds) (kit ∷ kits) same all zero d h =
    let first : map meaning kit.rules ≡ map meaning old.rules = cc in
    subst (All (λ (m : Meaning). m.verdict [] ≡ Fine)) (sym first) (all 0 old (omega arith))
needs_kept meaning (old ∷ olds) (kit ∷ kits) same all (suc k) d h =
    let rest : map (λ kit. map meaning kit.rules) kits ≡ map (λ kit. map meaning kit.rules) olds = cc in
    needs_kept meaning olds kits rest (λ j e less. all (suc j) e (omega (arith, less))) k d (omega (arith, h))

all_map : {R : Type 0} (meaning : R → Meaning) (rules : List R) → All (λ rule. (meaning rule).verdict [] ≡ Fine) rules → All (λ (m : Meaning). m.verdict [] ≡ Fine) (map meaning rules)
all_map meaning [] all k d h = absurd (omega (arith, h))
all_map meaning (rule ∷ rules) all zero d h = all 0 rule (omega arith)
all_map meaning (rule ∷ rules) all (suc k) d h = all_map meaning rules (λ j e less. all (suc j) e (omega (arith, less))) k d (omega (arith, h))

-- one kit of rules that can
pub one_needs : {R : Type 0} (meaning : R → Meaning) (rules : List R) → All (λ rule. (meaning rule).verdict [] ≡ Fine) rules
    → (kits : List (KitOf R)) (kit : KitOf R) → kits ≡ kit ∷ [] → kit.rules ≡ rules → All (NeedsNoOptions meaning) kits
one_needs {R} meaning rules all kits kit is same =
    let own : NeedsNoOptions meaning kit = all_map meaning kit.rules (subst (All (λ rule. (meaning rule).verdict [] ≡ Fine)) (sym same) all) in
    subst (All (NeedsNoOptions meaning)) (sym is) (one own)
  where
    one : NeedsNoOptions meaning kit → All (NeedsNoOptions meaning) (kit ∷ [])
    one own zero d h = own
    one own (suc k) d h = absurd (omega (arith, h))

-- it holds of each, item by item
abbrev pub Each : {R : Type 0} → (R → Type 0) → List R → Type 0
Each P [] = Unit {0}
Each P (item ∷ items) = P item × Each P items

each_all : {R : Type 0} (P : R → Type 0) (listed : List R) → Each P listed → All P listed
each_all P [] each k d h = absurd (omega (arith, h))
each_all P (item ∷ items) each zero d h = each.0
each_all P (item ∷ items) each (suc k) d h = each_all P items each.1 k d (omega (arith, h))

-- what holds of each item of a list holds of all of an equal one
pub all_listed : {R : Type 0} (P : R → Type 0) (items listed : List R) → items ≡ listed → Each P listed → All P items
all_listed P items listed same each = subst (All P) (sym same) (each_all P listed each)

-- what holds of each value of a vtable holds of each of an equal one
pub at_vtable : {X : Type 0} {Held : X → Type 0} (P : (v : X) → Held v → Type 0) (v w : X) → v ≡ w → ((x : Held w) → P w x) → (x : Held v) → P v x
at_vtable {X} {Held} P v w same at x =
    let Q : X → Type 0 = λ u. (y : Held u) → P u y in subst Q (sym same) at x

-- a list that is known, and one more
pub more : {R : Type 0} {before after listed : List R} (item : R) → after ≡ before ++ item ∷ [] → before ≡ listed → after ≡ listed ++ item ∷ []
more item pushed same = pushed ∙ ap (λ list. list ++ item ∷ []) same

-- as long as an equal one
pub few_listed : {R : Type 0} (items listed : List R) → items ≡ listed → length listed < 2 ^ 32 → length items < 2 ^ 32
few_listed items listed same few = subst (λ list. length list < 2 ^ 32) (sym same) few
