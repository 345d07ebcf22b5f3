-- Control skeletons, from which lists of parts are gone.
use Rattle.es_fork.specs.declared.segment.Label.{Label}
use Rattle.es_skeleton.specs.declared.completion.Completion.{Completion}

pub data Control : Type 0 where
  Emit : Label → Control
  Exit : Completion → Control
  Catch : Completion → Control → Control → Control
  Choice : Control → Control → Control
  Loop : Control → Control
  Finally : Control → Control → Control
