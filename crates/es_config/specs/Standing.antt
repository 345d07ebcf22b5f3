-- Which entries of a configuration are for a file, and whether they take it. ESLint's guide, "Configuration files",
-- "Specify files and ignores".
use Rattle.std.specs.Prelude.{ℕ, Bool, true, false, not, ◌&&◌, ◌||◌, List, [], ◌∷◌, codes, Option, None, Some, if◌then◌else◌}
use Rattle.std.specs.List.{filter, flat_map, list_all, list_any}
use Rattle.std.specs.Option.{is_some}
use Rattle.std.specs.Str.{bytes_eq}
use Rattle.es_globs.specs.Fitting.{is_none_left}
use Rattle.es_globs.specs.Globs.{Patterns, matches, plain_matches}
use Rattle.es_globs.specs.Patterns.{up_to_slash}
use Rattle.es_config.specs.Entries.{Layer}

-- an absolute name, and one above the working folder: the first part is empty, or `..`
abbrev pub is_outside : List ℕ → Bool
is_outside name = is_none_left (up_to_slash name) || bytes_eq (up_to_slash name) (codes "..")

-- what the last glob of a list says, where this was said before: one with `!` takes a name out again
abbrev pub last_says : Bool → List Patterns → Bool
last_says before [] = before
last_says before (glob ∷ globs) = last_says (not glob.negated) globs

-- the globs that match a name without their `!`
abbrev pub deciding : List ℕ → List Patterns → List Patterns
deciding name globs = filter (λ glob. plain_matches glob name) globs

-- an ignore list applies to a name where the last of them has no `!`
abbrev pub applies : List ℕ → List Patterns → Bool
applies name globs = last_says false (deciding name globs)

-- what an entry ignores for all entries: an entry that has nothing else
abbrev pub general_ignores : Layer → List Patterns
general_ignores layer = if layer.alone then layer.ignores else []

abbrev pub is_ignored : List ℕ → List Layer → Bool
is_ignored name layers = applies name (flat_map general_ignores layers)

-- of one of the elements of `files` all globs match
abbrev pub files_match : List ℕ → List (List Patterns) → Bool
files_match name files = list_any (λ globs. list_all (λ glob. matches glob name) globs) files

-- an entry without `files` is for all
abbrev pub is_chosen : List ℕ → Option (List (List Patterns)) → Bool
is_chosen name None = true
is_chosen name (Some files) = files_match name files

-- what an entry sets holds for a file that is chosen, and to which its own `ignores` doesn't apply
abbrev pub is_for : List ℕ → Layer → Bool
is_for name layer = is_chosen name layer.files && not (applies name layer.ignores)

-- an entry with `files` that is for the file takes it
abbrev pub takes : List ℕ → Layer → Bool
takes name layer = is_some layer.files && is_for name layer

abbrev pub is_taken : List ℕ → List Layer → Bool
is_taken name layers = list_any (takes name) layers
