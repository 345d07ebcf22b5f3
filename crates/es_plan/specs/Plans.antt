-- What the words of a command line ask for.
use Rattle.std.specs.Prelude.{ℕ, Bool, false, true, not, ◌==◌, ◌&&◌, ◌||◌, List, [], Option, None, Some, Result, Ok, Err, codes, if◌then◌else◌, is_some, length, map, nat_lt, option_map, unwrap_or}
use Rattle.std.specs.List.{list_any}
use Rattle.std.specs.Option.{option_map_or}
use Rattle.std.specs.Str.{bytes_eq, chars}
use Rattle.clap.specs.Faults.{fault_of}
use Rattle.clap.specs.Simple.{matches_of}
use Rattle.clap.specs.Walk.{Row, all_of, first_of}
use Rattle.es_settings.specs.declared.mode.Mode.{Mode}
use Rattle.es_settings.specs.declared.mode.Mode.TheVariants.{FixAll, FixErrors, Report}
use Rattle.es_plan.specs.Command.{command}
use Rattle.es_plan.specs.Names.{Text, each_once, normalised}
use Rattle.es_plan.specs.Numbers.{number_of}
use Rattle.es_plan.specs.declared.plan.LintPlan.{LintPlan}
use Rattle.es_plan.specs.declared.plan.Plan.{Plan}
use Rattle.es_plan.specs.declared.plan.Plan.TheVariants.{Generate, Lint}
use Rattle.es_plan.specs.declared.plan.PlanFault.{PlanFault}
use Rattle.es_plan.specs.declared.plan.PlanFault.TheVariants.{BadWords, TooMany}

-- ---- what `clap` found

-- an option without a value is given
abbrev pub is_on : Text → List Row → Bool
is_on name found = option_map_or (λ value. bytes_eq value (codes "true")) (first_of name found) false

abbrev pub files_of : List Row → List Text
files_of found = unwrap_or (all_of (codes "file") found) []

-- ---- values

-- whether the format is JSON
abbrev pub format_of : Option Text → Option Bool
format_of None = Some false
format_of (Some format) = if bytes_eq format (codes "json") then Some true
    else (if bytes_eq format (codes "stylish") then Some false else None)

abbrev pub MOST_WARNINGS : ℕ
MOST_WARNINGS = 4294967295

-- the most warnings, where they are limited
abbrev pub limit_of : Option Text → Option (Option ℕ)
limit_of None = Some None
limit_of (Some number) = option_map (λ most. Some most) (number_of MOST_WARNINGS number)

abbrev pub MOST_LINES : ℕ
MOST_LINES = 10000

-- the lines of a generated text, where one is asked for
abbrev pub count_of : Option Text → Option (Option ℕ)
count_of None = Some None
count_of (Some number) = option_map (λ count. Some count) (number_of MOST_LINES number)

-- from `--fix` and `--quiet`
abbrev pub mode_of : Bool → Bool → Mode
mode_of false quiet = Report
mode_of true false = FixAll
mode_of true true = FixErrors

-- ---- plans

abbrev pub name_of : Text → List ℕ
name_of name = chars (normalised name)

abbrev pub names_of : List Text → List (List ℕ)
names_of files = map chars (each_once (map normalised files))

abbrev pub lint_plan : List Row → List Text → Bool → Option ℕ → LintPlan
lint_plan found files json limit = record {
  config = name_of (unwrap_or (first_of (codes "config") found) (codes "eslint.config.json"));
  json = json;
  mode = mode_of (is_on (codes "fix") found) (is_on (codes "quiet") found);
  quiet = is_on (codes "quiet") found;
  max_warnings = limit;
  inline = not (is_on (codes "no-inline-config") found);
  names = names_of files;
}

abbrev pub MOST_NAMES : ℕ
MOST_NAMES = 10000

-- there is a name, and each has a character
abbrev pub are_names : List Text → Bool
are_names files = not (length files == 0) && not (list_any (λ file. length file == 0) files)

abbrev pub has_value : Text → List Row → Bool
has_value name found = is_some (first_of name found)

-- neither a name nor an option of linting is given
abbrev pub is_bare : List Row → Bool
is_bare found = length (files_of found) == 0
    && (not (has_value (codes "config") found) && (not (has_value (codes "format") found)
    && (not (has_value (codes "max-warnings") found) && (not (is_on (codes "fix") found)
    && (not (is_on (codes "quiet") found) && not (is_on (codes "no-inline-config") found))))))

-- a value isn't as listed
abbrev pub is_unlisted : List Row → Option Text → Bool
is_unlisted found generate = not (is_some (format_of (first_of (codes "format") found))
    && (is_some (limit_of (first_of (codes "max-warnings") found)) && is_some (count_of generate)))

-- the words that `clap` takes are bad: neither a name nor `--generate` is given, a name has no character, `--generate`
-- stands with any other option or a name, or a value isn't as listed
abbrev pub are_bad : List Row → Option Text → Bool
are_bad found generate = (length (files_of found) == 0 && not (is_some generate))
    || (list_any (λ file. length file == 0) (files_of found)
    || ((is_some generate && not (is_bare found)) || is_unlisted found generate))

-- the plan of words that aren't bad
abbrev pub plan_for : List Row → Option Text → Plan
plan_for found generate = option_map_or (λ count. Generate count) (unwrap_or (count_of generate) None)
    (Lint (lint_plan found (files_of found) (unwrap_or (format_of (first_of (codes "format") found)) false)
    (unwrap_or (limit_of (first_of (codes "max-warnings") found)) None)))

abbrev pub asked_with : List Row → Option Text → Result Plan PlanFault
asked_with found generate = if are_bad found generate then Err BadWords
    else (if nat_lt MOST_NAMES (length (files_of found)) then Err (TooMany (length (files_of found)))
    else Ok (plan_for found generate))

-- what the words ask for, or why they are refused
unfoldable pub plan_of : List Text → Result Plan PlanFault
plan_of words = if length (fault_of command words) == 0
    then asked_with (matches_of command words) (first_of (codes "generate") (matches_of command words))
    else Err BadWords
