use Rattle.std.proofs.Common.{◌≡◌, ℕ, drop, map}
use Rattle.std.specs.List.{list_all}
use Rattle.std.specs.Prelude.{nat_lt}
use Rattle.es_messages.specs.Fixes.{end_of, taken_behind, taken_of}
use Rattle.es_messages.specs.NumberedFixes.{may_start, seen}
use Rattle.es_messages.proofs.fixing.take.Given as goal

abbrev pub invariant-loop-one : goal.invariant-loop-one
invariant-loop-one l = record {
  value : taken_behind (map seen l.taken.items) (map seen (drop l.one-index l.order)) ≡ taken_of (map seen l.order);
  last : (start : ℕ) → list_all (λ other. nat_lt (end_of other) start) (map seen l.taken.items) ≡ may_start l.last start;
}
