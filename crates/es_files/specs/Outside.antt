-- What the outside holds and was sent, and how its faults are counted.
use Rattle.std.specs.Prelude.{ℕ, ◌+◌, ◌-◌, ◌^◌, ◌<◌, ◌≤◌, ◌≡◌, ◌⊎◌, Bool, true, false, min, List, ◌++◌, length, take, Option, None, Some, option_map}
use Rattle.std.specs.Option.{ForSome}
use Rattle.std.specs.FinMap as map
use Rattle.std.specs.Ordering.{nat_cmp}
use Rattle.std.specs.Cmp.Lexicographic.{slice_cmp}

-- ---- counts

-- the last value of a count
abbrev pub last_count : ℕ
last_count = 2 ^ 64 - 1

-- a count that rose by one, or stands at its last value
abbrev pub one_more : ℕ → ℕ
one_more count = min (count + 1) last_count

-- a count rose, or stands at its last value
abbrev pub Rose : ℕ → ℕ → Type 0
Rose before now = one_more before ≤ now

-- ---- files

-- what is held: from names, as their bytes, to bytes
abbrev pub Held : Type 0
Held = map.FinMap (slice_cmp nat_cmp) (List ℕ)

-- the name is held, with more bytes than the limit
abbrev pub HoldsMore : Held → List ℕ → ℕ → Type 0
HoldsMore held name limit = (bytes : List ℕ) × (map.get held name ≡ Some bytes) × (limit < length bytes)

-- a call of the files: the name that it was given, and whether it was a write
pub record Call : Type 0 where
  pub name : List ℕ
  pub writes : Bool

abbrev pub reading : List ℕ → Call
reading name = record { name = name; writes = false }

abbrev pub writing : List ℕ → Call
writing name = record { name = name; writes = true }

-- the state of files: what is held, where this is told; how many calls have failed; and the last call that failed
pub record FilesState : Type 0 where
  pub holds : Option Held
  pub faults : ℕ
  pub failed : Option Call

-- where it is told what is held, the name is held with these bytes
abbrev pub IsHeld : FilesState → List ℕ → List ℕ → Type 0
IsHeld files name bytes = ForSome files.holds (λ held. map.get held name ≡ Some bytes)

-- where it is told what is held, the name is not held
abbrev pub IsMissing : FilesState → List ℕ → Type 0
IsMissing files name = ForSome files.holds (λ held. map.get held name ≡ None)

-- where it is told what is held, the name is held with more bytes than the limit
abbrev pub IsTooLong : FilesState → List ℕ → ℕ → Type 0
IsTooLong files name limit = ForSome files.holds (λ held. HoldsMore held name limit)

-- the name holds these bytes now, and all else is as it was
abbrev pub with_bytes : FilesState → List ℕ → List ℕ → FilesState
with_bytes files name bytes = record files { holds = option_map (λ held. map.insert held name bytes) files.holds }

-- what a failed write leaves of what is held: all as it was, or the name holds the first of the bytes
abbrev pub LeavesPart : FilesState → List ℕ → List ℕ → FilesState → Type 0
LeavesPart before name bytes now =
    (now.holds ≡ before.holds) ⊎ ((left : ℕ) × (now.holds ≡ (with_bytes before name (take left bytes)).holds))

-- some call failed: the count rose
abbrev pub FilesFailed : FilesState → FilesState → Type 0
FilesFailed before now = Rose before.faults now.faults

-- this call failed: the count rose, and it is the last call that failed
pub record HasFailed (before : FilesState) (call : Call) (now : FilesState) : Type 0 where
  pub rose : FilesFailed before now
  pub last : now.failed ≡ Some call

-- ---- sinks

-- the state of a sink: what it was sent, where this is told, and how many calls have failed
pub record SinkState : Type 0 where
  pub got : Option (List ℕ)
  pub faults : ℕ

-- these bytes were sent after what was sent before, and no call failed
abbrev pub with_sent : SinkState → List ℕ → SinkState
with_sent sink bytes = record sink { got = option_map (λ got. got ++ bytes) sink.got }

-- some call failed: the count rose
abbrev pub SinkFailed : SinkState → SinkState → Type 0
SinkFailed before now = Rose before.faults now.faults

-- sending these bytes failed: the count rose, and some first part of them was sent
pub record SentPart (before : SinkState) (bytes : List ℕ) (now : SinkState) : Type 0 where
  pub left : ℕ
  pub part : now.got ≡ (with_sent before (take left bytes)).got
  pub rose : SinkFailed before now
