-- What the rules of a kit heard of a file.
use Rattle.std.specs.Prelude.{ℕ, ◌<◌, List, length, slice_index_or, IsTrue}
use Rattle.es_settings.specs.Settings.{Options}
use Rattle.es_host.specs.Files.{File, rows_in}
use Rattle.es_host.specs.Lawful.{told}
use Rattle.es_host.specs.Meanings.{Event, Meaning, interest_at, is_on, options_at, setting_at}
use Rattle.es_host.specs.Walk.{Moment}

-- the rule at this place, if it is on, was told the events that are given by its place, under the options that are
-- set for it
abbrev pub HasHeard : {R : Type 0} → (R → File → Options → List Event → Type 0) → File → (ℕ → List Event) → ℕ → R → Type 0
HasHeard heard file events place rule =
    IsTrue (is_on (setting_at file place)) → heard rule file (options_at file place) (events place)

-- each rule of a kit was
abbrev pub EachHeard : {R : Type 0} → (R → File → Options → List Event → Type 0) → File → (ℕ → List Event) → List R → Type 0
EachHeard {R} heard file events rules = (place : ℕ) (other : R) → place < length rules →
    HasHeard heard file events place (slice_index_or rules place other)

-- what the rules of these meanings hear of these moments, by their places
abbrev pub events_of : List Meaning → File → List Moment → ℕ → List Event
events_of meanings file moments place = told (rows_in file) (interest_at meanings file place) moments
