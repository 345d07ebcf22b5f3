use Rattle.std.proofs.Common.{◌≡◌, ◌-◌, ◌≤◌, false, length, take}
use Rattle.std.specs.List.{list_any}
use Rattle.es_globs.specs.Patterns.{is_folders}
use Rattle.es_globs.proofs.path.split_at_folders.Given as goal

abbrev pub invariant-loop-n : goal.invariant-loop-n
invariant-loop-n l = record {
  within : l.n ≤ length l.parts;
  plain : list_any is_folders (take l.n l.parts) ≡ false;
}

abbrev pub decreases-loop-n : goal.decreases-loop-n
decreases-loop-n l = length l.parts - l.n
