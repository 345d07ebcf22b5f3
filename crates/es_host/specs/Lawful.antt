-- Which events a rule hears of a file.
use Rattle.std.specs.Prelude.{◌≡◌, ℕ, Bool, false, not, ◌&&◌, List, [], ◌∷◌, length, if◌then◌else◌, slice_get}
use Rattle.std.specs.List.{flat_map, range_with_len}
use Rattle.std.specs.Option.{option_map_or}
use Rattle.es_tree.specs.Rows.{Row}
use Rattle.es_selectors.specs.declared.selector.Spelling.{Spelling}
use Rattle.es_selectors.specs.Selects.{selects}
use Rattle.es_settings.specs.Settings.{Options}
use Rattle.es_host.specs.Files.{File, rows_in}
use Rattle.es_host.specs.Meanings.{Event, Meaning}
use Rattle.es_host.specs.Walk.{Moment, walk}

-- the selector hears the moments of this phase: with `:exit` those at which a node is left, else the others
abbrev pub hears_phase : Spelling → Bool → Bool
hears_phase selector leaves = if selector.exit then leaves else not leaves

-- the selector at this index of the interest matches the node
abbrev pub is_asked : List Row → List Spelling → ℕ → ℕ → Bool
is_asked rows interest node which = option_map_or (λ selector. selects selector rows node) (slice_get interest which) false

-- it matches the node of the moment, and hears its phase
abbrev pub hears : List Row → List Spelling → Moment → ℕ → Bool
hears rows interest moment which =
    option_map_or (λ selector. hears_phase selector moment.leaves && selects selector rows moment.node) (slice_get interest which) false

abbrev pub event_of : Moment → ℕ → Event
event_of moment which = record { node = moment.node; which = which; ancestors = moment.ancestors }

-- what the selector at this index tells of the moment
abbrev pub told_of : List Row → List Spelling → Moment → ℕ → List Event
told_of rows interest moment which = if hears rows interest moment which then event_of moment which ∷ [] else []

-- one event for each selector of the interest, in its order, that matches and hears the phase, and no other
abbrev pub told_at : List Row → List Spelling → Moment → List Event
told_at rows interest moment = flat_map (told_of rows interest moment) (range_with_len 0 (length interest))

-- what a rule of this interest hears of these moments
abbrev pub told : List Row → List Spelling → List Moment → List Event
told rows interest moments = flat_map (told_at rows interest) moments

-- the events are those that a rule of this interest hears of the file
abbrev pub Lawful : File → List Spelling → List Event → Type 0
Lawful file interest events = events ≡ told (rows_in file) interest (walk (rows_in file))

-- all that a rule of this meaning hears of the file was heard, under some options
pub record HeardAll (file : File) (meaning : Meaning) (heard : Options → List Event → Type 0) : Type 0 where
  pub options : Options
  pub events : List Event
  pub lawful : Lawful file (meaning.interest options) events
  pub heard_them : heard options events
