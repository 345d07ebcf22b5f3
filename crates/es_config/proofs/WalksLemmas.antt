-- Walks, and the faults that are told of them.
use Rattle.std.proofs.Common.{◌≡◌, List, [], ◌∷◌, ◌++◌, ℕ, ◌+◌, ◌<◌, String, Global, drop, get_or, length, map, refl, string_bytes, sym, ap, ap₂, ◌∙◌, append_assoc, arith}
use Rattle.std.specs.Prelude.{All}
use Rattle.std.proofs.lemmas.List.{drop_more, map-append}
use Rattle.std.proofs.lemmas.List.Elements.{All-cons, All-head, All-nil, All-same, All-tail}
use Rattle.serde_json.specs.Data.{Data}
use Rattle.serde_json.specs.View.{items_view, members_view, view}
use Rattle.serde_json.specs.declared.value.Value.{Value}
use Rattle.es_config.specs.declared.fault.ConfigFault.{ConfigFault}
use Rattle.es_config.specs.declared.fault.ConfigFault.TheVariants.{Bad, NoMemory}
use Rattle.es_config.specs.declared.fault.FaultKind.{FaultKind}
use Rattle.es_config.specs.Walks.{Walked, good, faulty, all_members, and_then, each, each_from, each_member, index_part, key_part, some_of, walked_map, under, IsFault, IsHere}

abbrev pub Member : Type 0
Member = String Global × Value

-- ---- faults

pub fault_here : {A : Type 0} (walked : Walked A) (kind : FaultKind) (fault : ConfigFault) → walked ≡ faulty kind [] → IsHere kind fault → IsFault walked fault
fault_here walked kind (Bad told pointer) e h = e ∙ ap₂ faulty (sym h.0) (sym h.1)
fault_here walked kind NoMemory e h = tt

pub fault_along : {A : Type 0} (one other : Walked A) (fault : ConfigFault) → one ≡ other → IsFault other fault → IsFault one fault
fault_along one other (Bad kind pointer) e h = e ∙ h
fault_along one other NoMemory e h = tt

-- ---- a list of values, of which some are read

mapped : {A : Type 0} (done : List A) (a : A) (rest : Walked (List A)) →
    walked_map (λ later. done ++ later) (walked_map (λ later. a ∷ later) rest) ≡ walked_map (λ later. (done ++ a ∷ []) ++ later) rest
mapped done a (good later) = ap good (sym (append_assoc done (a ∷ []) later))
mapped done a (faulty kind pointer) = refl

-- what is read of a value at a part, and of those behind it
abbrev pub with_rest : {A : Type 0} → List ℕ → Walked A → Walked (List A) → Walked (List A)
with_rest part first rest = and_then (λ a. walked_map (λ later. a ∷ later) rest) (under part first)

pub goes_on : {A : Type 0} (part : List ℕ) (done : List A) (a : A) (first : Walked A) (rest all : Walked (List A)) → first ≡ good a →
    all ≡ walked_map (λ later. done ++ later) (with_rest part first rest) → all ≡ walked_map (λ later. (done ++ a ∷ []) ++ later) rest
goes_on part done a first rest all e known =
    known ∙ ap (λ walked. walked_map (λ later. done ++ later) (with_rest part walked rest)) e ∙ mapped done a rest

pub map_pushed : {A B : Type 0} (see : B → A) (done more : List B) (b : B) → more ≡ done ++ b ∷ [] → map see more ≡ map see done ++ see b ∷ []
map_pushed see done more b pushed = ap (map see) pushed ∙ map-append see done (b ∷ [])

all_snoc : {A : Type 0} (P : A → Type 0) (xs : List A) (a : A) → All P xs → P a → All P (xs ++ a ∷ [])
all_snoc P [] a all here = All-cons P a [] here (All-nil P)
all_snoc P (x ∷ xs) a all here = All-cons P x (xs ++ a ∷ []) (All-head P x xs all) (all_snoc P xs a (All-tail P x xs all) here)

pub all_pushed : {A : Type 0} (P : A → Type 0) (done more : List A) (a : A) → more ≡ done ++ a ∷ [] → All P done → P a → All P more
all_pushed P done more a pushed all here = All-same P more (done ++ a ∷ []) pushed (all_snoc P done a all here)

-- ---- the loops over an array

-- the elements before this index are read as these
abbrev pub InArray : {A : Type 0} → (Data → Walked A) → List Value → ℕ → List A → Type 0
InArray walk values index done =
    each walk (items_view values) ≡ walked_map (λ later. done ++ later) (each_from walk index (items_view (drop index values)))

at_index : (values : List Value) (index : ℕ) (value : Value) → index < length values → value ≡ get_or values index value → drop index values ≡ value ∷ drop (index + 1) values
at_index values index value inside is = drop_more values index value inside ∙ ap (λ found. found ∷ drop (index + 1) values) (sym is)

from_here : {A : Type 0} (walk : Data → Walked A) (values : List Value) (index : ℕ) (value : Value) (done : List A) → index < length values → value ≡ get_or values index value →
    InArray walk values index done →
    each walk (items_view values) ≡ walked_map (λ later. done ++ later) (with_rest (index_part index) (walk (view value)) (each_from walk (index + 1) (items_view (drop (index + 1) values))))
from_here walk values index value done inside is known =
    known ∙ ap (λ rest. walked_map (λ later. done ++ later) (each_from walk index (items_view rest))) (at_index values index value inside is)

pub array_on : {A : Type 0} (walk : Data → Walked A) (values : List Value) (index : ℕ) (value : Value) (done more : List A) (a : A) → index < length values → value ≡ get_or values index value →
    walk (view value) ≡ good a → more ≡ done ++ a ∷ [] → InArray walk values index done → InArray walk values (index + 1) more
array_on walk values index value done more a inside is reads pushed known =
    let rest = each_from walk (index + 1) (items_view (drop (index + 1) values)) in
    goes_on (index_part index) done a (walk (view value)) rest (each walk (items_view values)) reads (from_here walk values index value done inside is known)
    ∙ ap (λ all. walked_map (λ later. all ++ later) rest) (sym pushed)

pub some_is_each : {A : Type 0} (walk : Data → Walked A) (values : List Value) → 0 < length values → some_of walk (items_view values) ≡ each walk (items_view values)
some_is_each walk [] some = absurd (omega arith)
some_is_each walk (value ∷ values) some = refl

-- ---- the loops over an object

-- the members before these are read as these
abbrev pub InObject : {A : Type 0} → (List ℕ → Data → Walked A) → List Member → List Member → List A → Type 0
InObject walk all left done =
    each_member walk (members_view all) ≡ walked_map (λ later. done ++ later) (each_member walk (members_view left))

member_here : {A : Type 0} (walk : List ℕ → Data → Walked A) (all now left : List Member) (key : String Global) (value : Value) (text : List ℕ) (done : List A) → now ≡ (key, value) ∷ left → text ≡ string_bytes key →
    InObject walk all now done →
    each_member walk (members_view all) ≡ walked_map (λ later. done ++ later) (with_rest (key_part text) (walk text (view value)) (each_member walk (members_view left)))
member_here walk all now left key value text done step named known =
    known ∙ ap (λ members. walked_map (λ later. done ++ later) (each_member walk (members_view members))) step
    ∙ ap (λ name. walked_map (λ later. done ++ later) (with_rest (key_part name) (walk name (view value)) (each_member walk (members_view left)))) (sym named)

pub object_on : {A : Type 0} (walk : List ℕ → Data → Walked A) (all now left : List Member) (key : String Global) (value : Value) (text : List ℕ) (done more : List A) (a : A) →
    now ≡ (key, value) ∷ left → text ≡ string_bytes key → walk text (view value) ≡ good a → more ≡ done ++ a ∷ [] → InObject walk all now done → InObject walk all left more
object_on walk all now left key value text done more a step named reads pushed known =
    let rest = each_member walk (members_view left) in
    goes_on (key_part text) done a (walk text (view value)) rest (each_member walk (members_view all)) reads (member_here walk all now left key value text done step named known)
    ∙ ap (λ whole. walked_map (λ later. whole ++ later) rest) (sym pushed)

-- the members before these make this
abbrev pub MadeOf : {A : Type 0} → (A → List ℕ → Data → Walked A) → A → List Member → List Member → A → Type 0
MadeOf walk start all left now = all_members walk start (members_view all) ≡ all_members walk now (members_view left)
