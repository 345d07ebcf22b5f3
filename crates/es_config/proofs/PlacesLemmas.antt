-- The place of an id, options as a list, and entries that stand alone.
use Rattle.std.proofs.Common.{◌≡◌, ◌≢◌, ◌∙◌, ℕ, zero, suc, ◌+◌, ◌<◌, ◌≤◌, ◌-◌, Bool, true, false, cond, List, [], ◌∷◌, Some, None, drop, get_or, length, map, refl, sym, ap, arith, take}
use Rattle.std.specs.Prelude.{IfErr, IfOk, Result, slice_get}
use Rattle.std.specs.List.{position_from}
use Rattle.std.specs.Str.{bytes_eq}
use Rattle.std.proofs.lemmas.Slice.Eq.{bytes_eq-Decides}
use Rattle.std.proofs.lemmas.List.{take_all}
use Rattle.std.proofs.lemmas.Result.{IfErr-weaker, IfOk-weaker}
use Rattle.serde_json.specs.View.{items_of, items_view, view}
use Rattle.serde_json.specs.declared.value.Value.{Value}
use Rattle.es_config.specs.declared.fault.ConfigFault.{ConfigFault}
use Rattle.es_config.specs.Reading.{KnownRules, change_in, elements, full_change, place_of}
use Rattle.es_settings.specs.Rules.{IsFirstAt, StandsNowhere}
use Rattle.es_settings.specs.Settings.{Options, options_of}
use Rattle.es_config.specs.Walks.{IsFault, Walked, good}
use Rattle.es_config.proofs.WalksLemmas.{fault_along}

same_id : (one other : List ℕ) → one ≡ other → bytes_eq one other ≡ true
same_id one other e = (bytes_eq-Decides one other).1 e

apart : (one other : List ℕ) (b : Bool) → bytes_eq one other ≡ b → Some other ≢ Some one → b ≡ false
apart one other true e differ = absurd (differ (ap Some (sym ((bytes_eq-Decides one other).0 e))))
apart one other false e differ = refl

inner : (x id : List ℕ) → Some x ≡ Some id → id ≡ x
inner x id e = cc

found_from : (id : List ℕ) (ids : List (List ℕ)) (from place : ℕ) → slice_get ids place ≡ Some id →
    ((before : ℕ) → before < place → slice_get ids before ≢ Some id) → position_from (bytes_eq id) from ids ≡ Some (from + place)
found_from id [] from place here first = cc
found_from id (x ∷ ids) from zero here first =
    ap (λ b. cond b (Some from) (position_from (bytes_eq id) (from + 1) ids)) (same_id id x (inner x id here)) ∙ ap Some (omega arith)
found_from id (x ∷ ids) from (suc place) here first =
    ap (λ b. cond b (Some from) (position_from (bytes_eq id) (from + 1) ids)) (apart id x (bytes_eq id x) refl (first 0 (omega arith)))
    ∙ found_from id ids (from + 1) place here (λ before less. first (suc before) (omega arith)) ∙ ap Some (omega arith)

nowhere_from : (id : List ℕ) (ids : List (List ℕ)) (from : ℕ) → StandsNowhere ids id → position_from (bytes_eq id) from ids ≡ None
nowhere_from id [] from none = refl
nowhere_from id (x ∷ ids) from none =
    ap (λ b. cond b (Some from) (position_from (bytes_eq id) (from + 1) ids)) (apart id x (bytes_eq id x) refl (none 0))
    ∙ nowhere_from id ids (from + 1) (λ place. none (suc place))

pub place_found : (ids : List (List ℕ)) (id : List ℕ) (place : ℕ) → IsFirstAt ids id place → place_of ids id ≡ Some place
place_found ids id place is = found_from id ids 0 place is.here is.first ∙ ap Some (omega arith)

pub place_none : (ids : List (List ℕ)) (id : List ℕ) → StandsNowhere ids id → place_of ids id ≡ None
place_none ids id none = nowhere_from id ids 0 none

elements-items_of : (ds : Options) → elements (items_of ds) ≡ ds
elements-items_of [] = refl
elements-items_of (d ∷ ds) = ap (λ more. d ∷ more) (elements-items_of ds)

pub elements-items_view : (values : List Value) → elements (items_view values) ≡ options_of values
elements-items_view values = elements-items_of (map view values)

all_behind : (rules : KnownRules) (place : ℕ) (values : List Value) (value : Value) → 2 ≤ length values → value ≡ get_or values 0 value →
    change_in rules place (items_view values) ≡ full_change rules place (view value) (options_of (drop 1 values))
all_behind rules place [] value many is = absurd (omega arith)
all_behind rules place (x ∷ []) value many is = absurd (omega arith)
all_behind rules place (x ∷ y ∷ values) value many is =
    ap (λ options. full_change rules place (view x) (view y ∷ options)) (elements-items_view values)
    ∙ ap (λ first. full_change rules place (view first) (options_of (y ∷ values))) (sym is)

behind_first : (values : List Value) → 2 ≤ length values → drop 1 values ≡ take (length values - 1) (drop 1 values)
behind_first [] more = absurd (omega arith)
behind_first (x ∷ values) more = sym (take_all (length (x ∷ values) - 1) values (omega arith))

pub many_changes : (rules : KnownRules) (place : ℕ) (values : List Value) (value : Value) → 2 ≤ length values → value ≡ get_or values 0 value →
    change_in rules place (items_view values) ≡ full_change rules place (view value) (options_of (take (length values - 1) (drop 1 values)))
many_changes rules place values value more is =
    all_behind rules place values value more is ∙ ap (λ options. full_change rules place (view value) (options_of options)) (behind_first values more)

-- ---- results along equal walks

pub along_good : {A B : Type 0} (see : B → A) (r : Result B ConfigFault) (one other : Walked A) → one ≡ other → IfOk r (λ b. other ≡ good (see b)) → IfOk r (λ b. one ≡ good (see b))
along_good see r one other e h = IfOk-weaker r (λ b. other ≡ good (see b)) (λ b. one ≡ good (see b)) (λ b. λ is. e ∙ is) h

pub along_bad : {A B : Type 0} (r : Result B ConfigFault) (one other : Walked A) → one ≡ other → IfErr r (IsFault other) → IfErr r (IsFault one)
along_bad r one other e h = IfErr-weaker r (IsFault other) (IsFault one) (λ fault. fault_along one other fault e) h
