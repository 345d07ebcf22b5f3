use Rattle.std.proofs.Common.{◌≡◌, true, length}
use Rattle.std.specs.Str.{chars}
use Rattle.es_globs.specs.Fitting.{begins_wide, fits}
use Rattle.es_globs.specs.Parts.{parts_in}
use Rattle.es_globs.specs.Patterns.{is_folders, name_parts, takes_part}
use Rattle.es_globs.proofs.path.pattern_matches.Given as goal

abbrev pub invariant-loop-left : goal.invariant-loop-left
invariant-loop-left l = record {
  same : fits is_folders takes_part l.left (parts_in l.rest) ≡ fits is_folders takes_part l.fn.parts (name_parts (chars l.name));
  folders : begins_wide is_folders l.left ≡ true;
}

abbrev pub decreases-loop-left : goal.decreases-loop-left
decreases-loop-left l = length l.left
