-- What the words ask for, a question after the other.
use Rattle.std.specs.Prelude.{ℕ, Bool, List, Option, None, Some, Result, Ok, Err, codes, if◌then◌else◌, length, nat_lt}
use Rattle.clap.specs.Walk.{Row, first_of}
use Rattle.es_plan.specs.Names.{Text}
use Rattle.es_plan.specs.Numbers.{number_of}
use Rattle.es_plan.specs.Plans.{MOST_LINES, MOST_NAMES, are_names, files_of, format_of, is_bare, limit_of, lint_plan}
use Rattle.es_plan.specs.declared.plan.Plan.{Plan}
use Rattle.es_plan.specs.declared.plan.Plan.TheVariants.{Generate, Lint}
use Rattle.es_plan.specs.declared.plan.PlanFault.{PlanFault}
use Rattle.es_plan.specs.declared.plan.PlanFault.TheVariants.{BadWords, TooMany}

-- the plan where no words are bad
abbrev pub counted : List Row → List Text → Bool → Option ℕ → Result Plan PlanFault
counted found files json limit = if nat_lt MOST_NAMES (length files)
    then Err (TooMany (length files)) else Ok (Lint (lint_plan found files json limit))

abbrev pub with_limit : List Row → Bool → Option (Option ℕ) → Result Plan PlanFault
with_limit found json None = Err BadWords
with_limit found json (Some limit) = counted found (files_of found) json limit

abbrev pub with_values : List Row → Option Bool → Option (Option ℕ) → Result Plan PlanFault
with_values found None limit = Err BadWords
with_values found (Some json) limit = with_limit found json limit

abbrev pub to_lint : List Row → Result Plan PlanFault
to_lint found = if are_names (files_of found)
    then with_values found (format_of (first_of (codes "format") found)) (limit_of (first_of (codes "max-warnings") found))
    else Err BadWords

abbrev pub with_count : Option ℕ → Result Plan PlanFault
with_count None = Err BadWords
with_count (Some count) = Ok (Generate count)

abbrev pub to_generate : List Row → Text → Result Plan PlanFault
to_generate found number = if is_bare found then with_count (number_of MOST_LINES number) else Err BadWords

abbrev pub to_do : List Row → Option Text → Result Plan PlanFault
to_do found None = to_lint found
to_do found (Some number) = to_generate found number

-- what the words ask for that `clap` takes
abbrev pub asked_by : List Row → Result Plan PlanFault
asked_by found = to_do found (first_of (codes "generate") found)
