-- The control skeleton that a value of the program stands for.
use Rattle.std.specs.Prelude.{List, [], ◌∷◌, Option, Some, None}
use Rattle.es_skeleton.specs.declared.completion.Completion.{Completion}
use Rattle.es_skeleton.specs.declared.completion.Completion.TheVariants.{Normal}
use Rattle.es_skeleton.specs.declared.skeleton.Skeleton.{Skeleton, Row_of-Skeleton, end_of-Skeleton, more_of-Skeleton}
use Rattle.es_skeleton.specs.declared.skeleton.Skeleton.TheVariants.{Emit as EmitV, Exit as ExitV, Entry, Catch', Choice', Loop', Finally', Seq'}
use Rattle.es_skeleton.specs.Controls.{Control, Emit, Exit, Catch, Choice, Loop, Finally}

-- the completion of an entry
abbrev pub entry_of : Skeleton → Option Completion
entry_of (Entry c) = Some c
entry_of _ = None

abbrev pub then_from : Option Completion → Control → Control → Control
then_from (Some c) before own = Catch c before (Exit Normal)
then_from None before own = Catch Normal before own

-- what came before, and then a member of a list, whose own shape is given
abbrev pub then : Skeleton → Control → Control → Control
then k before own = then_from (entry_of k) before own

abbrev mutual
  pub shape : Skeleton → Control
  shape (EmitV l) = Emit l
  shape (ExitV c) = Exit c
  shape (Catch' c p a q b) = Catch c (shape a) (shape b)
  shape (Choice' p a q b) = Choice (shape a) (shape b)
  shape (Loop' p a) = Loop (shape a)
  shape (Finally' p a q b) = Finally (shape a) (shape b)
  shape (Seq' s row) = shape_row row (Exit Normal)
  shape (Entry c) = Exit Normal

  -- what came before, and then the parts
  pub shape_row : {m : _} → Row_of-Skeleton m → Control → Control
  shape_row end_of-Skeleton before = before
  shape_row (more_of-Skeleton k rest) before = shape_row rest (then k before (shape k))

-- what came before, and then the members of a list
abbrev pub onto : Control → List Skeleton → Control
onto before [] = before
onto before (k ∷ ks) = onto (then k before (shape k)) ks
