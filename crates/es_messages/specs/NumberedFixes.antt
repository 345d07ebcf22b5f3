-- Fixes with their positions, as the code keeps them, and that the spans of some can be replaced in order.
use Rattle.std.specs.Prelude.{◌≡◌, ℕ, ◌+◌, ◌<◌, ◌≤◌, ◌++◌, Bool, true, false, nat_lt, List, [], ◌∷◌, length, Option, None, Some}
use Rattle.es_text.specs.SourceFaults.{most_bytes}
use Rattle.es_text.specs.Spans.{LiesIn}
use Rattle.es_messages.specs.declared.fixing.NumberedFix.{NumberedFix}
use Rattle.es_messages.specs.Fixes.{Numbered, end_of, start_of}

abbrev pub seen : NumberedFix → Numbered
seen one = (one.position, one.fix.now)

-- from this offset on the spans of these can be replaced: they lie in the text, one behind the other
abbrev pub CanReplace : List ℕ → ℕ → List Numbered → Type 0
CanReplace bytes at [] = Unit {0}
CanReplace bytes at (one ∷ later) =
    (at ≤ start_of one) × (LiesIn bytes one.1.span × CanReplace bytes (end_of one) later)

-- a fix that starts at this offset may be taken behind the last one that was, which ends there
abbrev pub may_start : Option ℕ → ℕ → Bool
may_start None start = true
may_start (Some end) start = nat_lt end start

-- whether a piece was put behind a text: it is, unless the whole would be longer than a file may be
abbrev pub Joins : List ℕ → List ℕ → List ℕ → Bool → Type 0
Joins old piece new true = (new ≡ old ++ piece) × (length new ≤ most_bytes)
Joins old piece new false = (new ≡ old) × (most_bytes < length old + length piece)
