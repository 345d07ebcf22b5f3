-- Entries of a map of std as a finite map: each key and each value by what is seen of it.
use Rattle.std.specs.Prelude.{ℕ, List, [], ◌∷◌, String, Vec, string_bytes}
use Rattle.std.specs.declared.cmp.Ordering.{Ordering}
use Rattle.std.specs.FinMap as map
use Rattle.std.specs.declared.alloc.Global.{Global}
use Rattle.std.specs.Ordering.{nat_cmp}
use Rattle.es_files.specs.Outside.{Held}

abbrev pub seen_by : {K Q X Y : Type 0} (order : Q → Q → Ordering) → (K → Q) → (X → Y) → List (K × X) → map.FinMap order Y
seen_by order key value [] = map.empty
seen_by order key value (entry ∷ entries) = map.insert (seen_by order key value entries) (key entry.0) (value entry.1)

-- names and what they hold
abbrev pub held_of : List (String Global × Vec ℕ Global) → Held
held_of entries = seen_by _ string_bytes (λ bytes. bytes.items) entries

-- numbers and what belongs to them
abbrev pub numbers_of : List (ℕ × ℕ) → map.FinMap nat_cmp ℕ
numbers_of entries = seen_by nat_cmp (λ number. number) (λ number. number) entries
