-- Runs and cut-off runs by the trace before and the trace after, the form in which they are proved.
use Rattle.std.proofs.Common.{◌≢◌, List, [], ◌∷◌, ◌++◌}
use Rattle.es_fork.specs.declared.segment.Label.{Label}
use Rattle.es_skeleton.specs.declared.completion.Completion.{Completion}
use Rattle.es_skeleton.specs.declared.completion.Completion.TheVariants.{Normal}
use Rattle.es_skeleton.specs.Controls.{Control, Emit, Exit, Catch, Choice, Loop, Finally}

-- begun after the trace t, k can end after the trace u with the completion c
pub data Run : Control → List Label → List Label → Completion → Type 0 where
  emit : {l : Label} {t : List Label} → Run (Emit l) t (t ++ l ∷ []) Normal
  exit : {c : Completion} {t : List Label} → Run (Exit c) t t c
  caught : {c : Completion} {a b : Control} {t u v : List Label} {d : Completion} → Run a t u c → Run b u v d → Run (Catch c a b) t v d
  passed : {c : Completion} {a b : Control} {t u : List Label} {d : Completion} → Run a t u d → d ≢ c → Run (Catch c a b) t u d
  left : {a b : Control} {t u : List Label} {d : Completion} → Run a t u d → Run (Choice a b) t u d
  right : {a b : Control} {t u : List Label} {d : Completion} → Run b t u d → Run (Choice a b) t u d
  again : {a : Control} {t u v : List Label} {d : Completion} → Run a t u Normal → Run (Loop a) u v d → Run (Loop a) t v d
  leave : {a : Control} {t u : List Label} {d : Completion} → Run a t u d → d ≢ Normal → Run (Loop a) t u d
  kept : {a b : Control} {t u v : List Label} {d : Completion} → Run a t u d → Run b u v Normal → Run (Finally a b) t v d
  replaced : {a b : Control} {t u v : List Label} {c d : Completion} → Run a t u c → Run b u v d → d ≢ Normal → Run (Finally a b) t v d

-- begun after the trace t, k can have come to the trace u, and be cut off there
pub data Part : Control → List Label → List Label → Type 0 where
  none : {k : Control} {t : List Label} → Part k t t
  emitted : {l : Label} {t : List Label} → Part (Emit l) t (t ++ l ∷ [])
  in_catch : {c : Completion} {a b : Control} {t u : List Label} → Part a t u → Part (Catch c a b) t u
  after_catch : {c : Completion} {a b : Control} {t u v : List Label} → Run a t u c → Part b u v → Part (Catch c a b) t v
  in_left : {a b : Control} {t u : List Label} → Part a t u → Part (Choice a b) t u
  in_right : {a b : Control} {t u : List Label} → Part b t u → Part (Choice a b) t u
  in_loop : {a : Control} {t u : List Label} → Part a t u → Part (Loop a) t u
  after_turn : {a : Control} {t u v : List Label} → Run a t u Normal → Part (Loop a) u v → Part (Loop a) t v
  in_body : {a b : Control} {t u : List Label} → Part a t u → Part (Finally a b) t u
  in_final : {a b : Control} {t u v : List Label} {c : Completion} → Run a t u c → Part b u v → Part (Finally a b) t v
