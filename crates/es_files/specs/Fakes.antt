-- What contracts see of the files and the sink that are kept in memory and fail by plan.
use Rattle.std.specs.Prelude.{◌≡◌, ℕ, Bool, true, false, List, [], ◌++◌, take, Option, Some, None, refl}
use Rattle.std.specs.FinMap as map
use Rattle.std.specs.Ordering.{nat_cmp}
use Rattle.std.specs.Coded.{Coded, code_by, coded×, coded_list, coded_option, coded_ℕ, coded_bool}
use Rattle.es_files.specs.Outside.{Held, Call, one_more, writing}

-- the calls of one kind: how many were made, and the number of each that is to fail, from 1, with how many bytes it leaves
pub record Calls : Type 0 where
  pub made : ℕ
  pub fails : map.FinMap nat_cmp ℕ

abbrev pub no_calls : Calls
no_calls = record { made = 0; fails = map.empty }

-- how many bytes the next call leaves, where it is to fail
abbrev pub next_failure : Calls → Option ℕ
next_failure calls = map.get calls.fails (one_more calls.made)

-- after one more call
abbrev pub counted : Calls → Calls
counted calls = record calls { made = one_more calls.made }

-- the call of this number is to fail, in place of what was planned for it before
abbrev pub with_failure : Calls → ℕ → ℕ → Calls
with_failure calls call left = record calls { fails = map.insert calls.fails call left }

pub record FakeFiles : Type 0 where
  pub holds : Held
  pub faults : ℕ
  pub failed : Option Call
  pub reads : Calls
  pub writes : Calls

abbrev pub no_files : FakeFiles
no_files = record { holds = map.empty; faults = 0; failed = None; reads = no_calls; writes = no_calls }

abbrev pub with_held : FakeFiles → List ℕ → List ℕ → FakeFiles
with_held files name bytes = record files { holds = map.insert files.holds name bytes }

-- a failure is planned for a write or a read
abbrev pub with_planned : FakeFiles → Bool → ℕ → ℕ → FakeFiles
with_planned files true call left = record files { writes = with_failure files.writes call left }
with_planned files false call left = record files { reads = with_failure files.reads call left }

abbrev pub read_counted : FakeFiles → FakeFiles
read_counted files = record files { reads = counted files.reads }

abbrev pub write_counted : FakeFiles → FakeFiles
write_counted files = record files { writes = counted files.writes }

-- this call failed
abbrev pub with_fault : FakeFiles → Call → FakeFiles
with_fault files call = record files { faults = one_more files.faults; failed = Some call }

-- the write was to fail, and the name holds the planned first part of the bytes
abbrev pub IsFailedWrite : FakeFiles → List ℕ → List ℕ → FakeFiles → Type 0
IsFailedWrite before name bytes after =
    (left : ℕ) × (next_failure before.writes ≡ Some left)
    × (after ≡ with_fault (with_held (write_counted before) name (take left bytes)) (writing name))

pub record FakeSink : Type 0 where
  pub got : List ℕ
  pub faults : ℕ
  pub writes : Calls

abbrev pub no_bytes : FakeSink
no_bytes = record { got = []; faults = 0; writes = no_calls }

abbrev pub send_counted : FakeSink → FakeSink
send_counted sink = record sink { writes = counted sink.writes }

abbrev pub with_more : FakeSink → List ℕ → FakeSink
with_more sink bytes = record sink { got = sink.got ++ bytes }

abbrev pub with_planned_send : FakeSink → ℕ → ℕ → FakeSink
with_planned_send sink call left = record sink { writes = with_failure sink.writes call left }

-- the call was to fail, and the sink took the planned first part of its bytes
abbrev pub IsFailedSend : FakeSink → List ℕ → FakeSink → Type 0
IsFailedSend before bytes after =
    (left : ℕ) × (next_failure before.writes ≡ Some left)
    × (after ≡ record (with_more (send_counted before) (take left bytes)) { faults = one_more before.faults })

-- ---- each of these as numbers and lists

abbrev pub coded_call : Coded Call
coded_call = code_by (List ℕ × Bool) (coded× (coded_list coded_ℕ) coded_bool) (λ c. (c.name, c.writes)) (λ p. record { name = p.0; writes = p.1 }) (λ _. refl)

abbrev pub coded_calls : Coded Calls
coded_calls = code_by (ℕ × map.FinMap nat_cmp ℕ) (coded× coded_ℕ (map.code coded_ℕ coded_ℕ)) (λ c. (c.made, c.fails)) (λ p. record { made = p.0; fails = p.1 }) (λ _. refl)

abbrev pub coded_files : Coded FakeFiles
coded_files =
    code_by (Held × (ℕ × (Option Call × (Calls × Calls))))
    (coded× (map.code (coded_list coded_ℕ) (coded_list coded_ℕ)) (coded× coded_ℕ (coded× (coded_option coded_call) (coded× coded_calls coded_calls))))
    (λ f. (f.holds, (f.faults, (f.failed, (f.reads, f.writes)))))
    (λ p. record { holds = p.0; faults = p.1.0; failed = p.1.1.0; reads = p.1.1.1.0; writes = p.1.1.1.1 })
    (λ _. refl)

abbrev pub coded_sink : Coded FakeSink
coded_sink =
    code_by (List ℕ × (ℕ × Calls)) (coded× (coded_list coded_ℕ) (coded× coded_ℕ coded_calls))
    (λ s. (s.got, (s.faults, s.writes)))
    (λ p. record { got = p.0; faults = p.1.0; writes = p.1.1 })
    (λ _. refl)
