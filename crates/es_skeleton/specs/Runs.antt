-- The runs of a control skeleton: the trace of labels that a run gives, and its completion, as the
-- completion records of ECMA-262, 6.2.4, say; or the trace alone, where it is cut off.
use Rattle.std.specs.Prelude.{◌≢◌, List, [], ◌∷◌, ◌++◌}
use Rattle.es_fork.specs.declared.segment.Label.{Label}
use Rattle.es_skeleton.specs.declared.completion.Completion.{Completion}
use Rattle.es_skeleton.specs.declared.completion.Completion.TheVariants.{Normal}
use Rattle.es_skeleton.specs.Controls.{Control, Emit, Exit, Catch, Choice, Loop, Finally}

pub data Run : Control → List Label → Completion → Type 0 where
  emit : {l : Label} → Run (Emit l) (l ∷ []) Normal
  exit : {c : Completion} → Run (Exit c) [] c
  -- a completion that is caught is followed by the second part, and each other passes
  caught : {c d : Completion} {a b : Control} {t u : List Label}
      → Run a t c → Run b u d → Run (Catch c a b) (t ++ u) d
  passed : {c d : Completion} {a b : Control} {t : List Label}
      → Run a t d → d ≢ c → Run (Catch c a b) t d
  left : {d : Completion} {a b : Control} {t : List Label} → Run a t d → Run (Choice a b) t d
  right : {d : Completion} {a b : Control} {t : List Label} → Run b t d → Run (Choice a b) t d
  -- a loop goes on as long as its part ends normally
  again : {d : Completion} {a : Control} {t u : List Label}
      → Run a t Normal → Run (Loop a) u d → Run (Loop a) (t ++ u) d
  leave : {d : Completion} {a : Control} {t : List Label}
      → Run a t d → d ≢ Normal → Run (Loop a) t d
  -- a finalizer that ends normally keeps the completion, and any other replaces it
  kept : {d : Completion} {a b : Control} {t u : List Label}
      → Run a t d → Run b u Normal → Run (Finally a b) (t ++ u) d
  replaced : {c d : Completion} {a b : Control} {t u : List Label}
      → Run a t c → Run b u d → d ≢ Normal → Run (Finally a b) (t ++ u) d

-- a run that is cut off after the trace
pub data Cut : Control → List Label → Type 0 where
  at_once : {k : Control} → Cut k []
  emitted : {l : Label} → Cut (Emit l) (l ∷ [])
  in_first : {c : Completion} {a b : Control} {t : List Label} → Cut a t → Cut (Catch c a b) t
  in_second : {c : Completion} {a b : Control} {t u : List Label}
      → Run a t c → Cut b u → Cut (Catch c a b) (t ++ u)
  in_left : {a b : Control} {t : List Label} → Cut a t → Cut (Choice a b) t
  in_right : {a b : Control} {t : List Label} → Cut b t → Cut (Choice a b) t
  in_turn : {a : Control} {t : List Label} → Cut a t → Cut (Loop a) t
  in_later_turn : {a : Control} {t u : List Label}
      → Run a t Normal → Cut (Loop a) u → Cut (Loop a) (t ++ u)
  in_body : {a b : Control} {t : List Label} → Cut a t → Cut (Finally a b) t
  in_finalizer : {c : Completion} {a b : Control} {t u : List Label}
      → Run a t c → Cut b u → Cut (Finally a b) (t ++ u)
