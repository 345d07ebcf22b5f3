-- What a run makes, by what it has to tell.
use Rattle.std.proofs.Common.{◌≡◌, ◌∙◌, ◌&&◌, ◌++◌, ℕ, Bool, true, false, not, List, [], ◌∷◌, Option, None, ap, if◌then◌else◌, map, refl}
use Rattle.es_format.specs.Stylish.{Named}
use Rattle.es_run.specs.declared.status.Status.TheVariants.{Clean, Problems}
use Rattle.es_run.specs.Reporting.{limit_line, quiet_named, shown, writes_of, writing_of}
use Rattle.es_run.specs.Stages.{done_status}

-- the status, and the line, of a run that tells an error or not, and too many warnings or not
module _ (limit : Option ℕ) (line : List ℕ) (over clean : Bool) where
  pub made_status : (failing many : Bool) → over ≡ (not failing && many) → clean ≡ (not failing && not over) →
      done_status clean ≡ (if failing then Problems else if many then Problems else Clean)
  made_status true many is ends = ap done_status ends
  made_status false true is ends = ap done_status (ends ∙ ap not is)
  made_status false false is ends = ap done_status (ends ∙ ap not is)

  pub made_line : (failing many : Bool) → over ≡ (not failing && many) → line ≡ limit_line (if over then limit else None) →
      line ≡ (if failing then [] else if many then limit_line limit else [])
  made_line true many is told = told ∙ ap (λ b. limit_line (if b then limit else None)) is
  made_line false true is told = told ∙ ap (λ b. limit_line (if b then limit else None)) is
  made_line false false is told = told ∙ ap (λ b. limit_line (if b then limit else None)) is

quiet_writes : (results : List Named) → writes_of (map quiet_named results) ≡ writes_of results
quiet_writes [] = refl
quiet_writes (named ∷ results) = ap (λ later. writing_of named.0 named.1.output ++ later) (quiet_writes results)

-- what isn't shown is written
pub shown_writes : (quiet : Bool) (results : List Named) → writes_of (shown quiet results) ≡ writes_of results
shown_writes true results = quiet_writes results
shown_writes false results = refl
