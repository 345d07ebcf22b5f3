-- Walks over JSON values, which come to a value or to the first fault. A fault tells where it stands by a JSON pointer
-- (RFC 6901) from the value at which the walk began.
use Rattle.std.specs.Prelude.{◌≡◌, ℕ, ◌+◌, ◌++◌, ◌==◌, List, [], ◌∷◌, codes, decimal, flat_map, if◌then◌else◌, Option, None, Some}
use Rattle.std.specs.Str.{chars}
use Rattle.serde_json.specs.Data.{Data, Items, no_items, item, Members, no_members, member, array, object}
use Rattle.es_text.specs.Characters.{slash}
use Rattle.es_config.specs.declared.fault.ConfigFault.{ConfigFault}
use Rattle.es_config.specs.declared.fault.ConfigFault.TheVariants.{Bad, NoMemory}
use Rattle.es_config.specs.declared.fault.FaultKind.{FaultKind}
use Rattle.es_config.specs.declared.fault.FaultKind.TheVariants.{WrongShape}

pub data Walked (A : Type 0) : Type 0 where
  good : A → Walked A
  faulty : FaultKind → List ℕ → Walked A

-- a further step with the value; after a fault there is none
abbrev pub and_then : {A B : Type 0} → (A → Walked B) → Walked A → Walked B
and_then next (good a) = next a
and_then next (faulty kind pointer) = faulty kind pointer

abbrev pub walked_map : {A B : Type 0} → (A → B) → Walked A → Walked B
walked_map f walked = and_then (λ a. good (f a)) walked

-- what stands below a part of a pointer
abbrev pub under : {A : Type 0} → List ℕ → Walked A → Walked A
under part (good a) = good a
under part (faulty kind pointer) = faulty kind (part ++ pointer)

-- the value, or this fault where there is none
abbrev pub or_fault : {A : Type 0} → FaultKind → Option A → Walked A
or_fault kind None = faulty kind []
or_fault kind (Some a) = good a

abbrev pub tilde : ℕ
tilde = 126

abbrev pub escaped : ℕ → List ℕ
escaped c = if c == tilde then codes "~0" else if c == slash then codes "~1" else c ∷ []

-- the part of a pointer for a key, which JSON gives in UTF-8, and for an index
abbrev pub key_part : List ℕ → List ℕ
key_part key = slash ∷ flat_map escaped (chars key)

abbrev pub index_part : ℕ → List ℕ
index_part index = slash ∷ decimal index

-- the values of the elements from this index on, or the first fault
abbrev pub each_from : {A : Type 0} → (Data → Walked A) → ℕ → Items → Walked (List A)
each_from walk index no_items = good []
each_from walk index (item d ds) =
    and_then (λ a. walked_map (λ later. a ∷ later) (each_from walk (index + 1) ds)) (under (index_part index) (walk d))

abbrev pub each : {A : Type 0} → (Data → Walked A) → Items → Walked (List A)
each walk items = each_from walk 0 items

-- the same of elements of which there has to be one
abbrev pub some_of : {A : Type 0} → (Data → Walked A) → Items → Walked (List A)
some_of walk no_items = faulty WrongShape []
some_of walk (item d ds) = each walk (item d ds)

-- the values of the members, or the first fault
abbrev pub each_member : {A : Type 0} → (List ℕ → Data → Walked A) → Members → Walked (List A)
each_member walk no_members = good []
each_member walk (member key d members) =
    and_then (λ a. walked_map (λ later. a ∷ later) (each_member walk members)) (under (key_part key) (walk key d))

-- what the members make of a value, each of what those before made, or the first fault
abbrev pub all_members : {A : Type 0} → (A → List ℕ → Data → Walked A) → A → Members → Walked A
all_members walk a no_members = good a
all_members walk a (member key d members) = and_then (λ b. all_members walk b members) (under (key_part key) (walk a key d))

-- a walk over an array alone, and over an object alone
abbrev pub in_array : {A : Type 0} → (Items → Walked A) → Data → Walked A
in_array walk (array items) = walk items
in_array walk _ = faulty WrongShape []

abbrev pub in_object : {A : Type 0} → (Members → Walked A) → Data → Walked A
in_object walk (object members) = walk members
in_object walk _ = faulty WrongShape []

-- ---- what is told of a walk: its fault, unless memory was short

abbrev pub IsFault : {A : Type 0} → Walked A → ConfigFault → Type 0
IsFault walked (Bad kind pointer) = walked ≡ faulty kind pointer
IsFault walked NoMemory = Unit {0}

-- a fault of the value at hand
abbrev pub IsHere : FaultKind → ConfigFault → Type 0
IsHere kind (Bad told pointer) = (told ≡ kind) × (pointer ≡ [])
IsHere kind NoMemory = Unit {0}

-- a fault that stands below a part of a pointer
abbrev pub IsBelow : List ℕ → ConfigFault → ConfigFault → Type 0
IsBelow part (Bad kind pointer) (Bad told whole) = (told ≡ kind) × (whole ≡ part ++ pointer)
IsBelow part NoMemory (Bad told whole) = ⊥
IsBelow part fault NoMemory = Unit {0}
