-- What contracts see of the real outside: its faults alone.
use Rattle.std.specs.Prelude.{ℕ, Option, None, refl}
use Rattle.std.specs.Coded.{Coded, code_by, coded×, coded_option, coded_ℕ}
use Rattle.es_files.specs.Outside.{Call}
use Rattle.es_files.specs.Fakes.{coded_call}

-- how many calls failed, and the last of them
pub record Faults : Type 0 where
  pub count : ℕ
  pub last : Option Call

abbrev pub no_faults : Faults
no_faults = record { count = 0; last = None }

abbrev pub coded_faults : Coded Faults
coded_faults = code_by (ℕ × Option Call) (coded× coded_ℕ (coded_option coded_call)) (λ f. (f.count, f.last)) (λ p. record { count = p.0; last = p.1 }) (λ _. refl)
