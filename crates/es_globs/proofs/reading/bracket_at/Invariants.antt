use Rattle.std.proofs.Common.{◌≡◌, ◌+◌, drop}
use Rattle.std.specs.List.{position_or_len}
use Rattle.es_globs.specs.Reading.{is_right_bracket}
use Rattle.es_globs.proofs.reading.bracket_at.Given as goal

abbrev pub invariant-loop-i : goal.invariant-loop-i
invariant-loop-i l = l.i + position_or_len is_right_bracket (drop l.i l.text) ≡ position_or_len is_right_bracket l.text
