-- Selectors that may match nodes of one kind.
use Rattle.std.specs.Prelude.{◌≡◌, ◌==◌, ℕ, All, List, [], if◌then◌else◌, Some, IsTrue, length, slice_index_or, ◌<◌}
use Rattle.std.specs.List.{flat_map}
use Rattle.es_tree.specs.Rows.{Row, kind_of}
use Rattle.es_selectors.specs.declared.selector.Spelling.{Spelling}
use Rattle.es_host.specs.declared.listeners.Listener.{Listener}
use Rattle.es_host.specs.Files.{File, rows_in}
use Rattle.es_host.specs.Lawful.{told_at, told_of}
use Rattle.es_host.specs.Meanings.{Event, Meaning, interest_at, is_on, setting_at}
use Rattle.es_host.specs.Walk.{Moment}

-- what the listener tells of the moment, where it is one of the rule at this place
abbrev pub told_by_one : List Row → List Spelling → Moment → ℕ → Listener → List Event
told_by_one rows interest moment place listener =
    if listener.rule == place then told_of rows interest moment listener.which else []

-- what these listeners tell the rule at this place of the moment
abbrev pub told_by : List Row → List Spelling → Moment → ℕ → List Listener → List Event
told_by rows interest moment place listeners = flat_map (told_by_one rows interest moment place) listeners

-- the listeners tell the rule at this place all that it hears of nodes of this kind
abbrev pub Serve : ℕ → List Spelling → ℕ → List Listener → Type 0
Serve kind interest place listeners = (rows : List Row) (moment : Moment) →
    kind_of rows moment.node ≡ Some kind → told_by rows interest moment place listeners ≡ told_at rows interest moment

-- they do so for each rule that is on
abbrev pub ServeAll : List Meaning → File → ℕ → List Listener → Type 0
ServeAll meanings file kind listeners = (place : ℕ) → place < length meanings →
    IsTrue (is_on (setting_at file place)) → Serve kind (interest_at meanings file place) place listeners

-- for each kind of the file's nodes there are listeners, which do so for that kind
pub record AreKinds (meanings : List Meaning) (file : File) (kinds : List (List Listener)) : Type 0 where
  pub all : (node kind : ℕ) → kind_of (rows_in file) node ≡ Some kind → kind < length kinds
  pub serve : (kind : ℕ) (other : List Listener) → kind < length kinds → ServeAll meanings file kind (slice_index_or kinds kind other)
  pub rules : (kind : ℕ) (other : List Listener) → kind < length kinds →
      All (λ listener. listener.rule < length meanings) (slice_index_or kinds kind other)
