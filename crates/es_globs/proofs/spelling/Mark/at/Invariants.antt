use Rattle.std.proofs.Common.{◌≡◌, ◌+◌, drop}
use Rattle.std.specs.List.{position_or_len}
use Rattle.es_globs.specs.Spelling.{is_mark}
use Rattle.es_globs.proofs.spelling.Mark.at.Given as goal

abbrev pub invariant-loop-i : goal.invariant-loop-i
invariant-loop-i l = l.i + position_or_len (is_mark l.self) (drop l.i l.pieces) ≡ position_or_len (is_mark l.self) l.pieces
