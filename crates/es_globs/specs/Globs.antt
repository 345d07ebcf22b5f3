-- Globs, as ESLint's `files` and `ignores` have them: what is one, and which names it matches.
use Rattle.std.specs.Prelude.{ℕ, Bool, false, not, ◌&&◌, ◌||◌, ◌==◌, nat_le, List, [], ◌∷◌, codes, length, map, Option, None, option_and_then, option_map, if◌then◌else◌}
use Rattle.std.specs.List.{list_any}
use Rattle.es_text.specs.Characters.{exclamation_mark, full_stop, slash}
use Rattle.es_globs.specs.declared.glob.TheConstants.{MOST_CHARACTERS}
use Rattle.es_globs.specs.Fitting.{is_none_left}
use Rattle.es_globs.specs.Patterns.{Part, pattern_matches}
use Rattle.es_globs.specs.Reading.{pieces_of}
use Rattle.es_globs.specs.Spelling.{parts_of, patterns_of}

-- whether a glob is negated, and the plain patterns that it stands for
pub record Patterns : Type 0 where
  pub negated : Bool
  pub patterns : List (List Part)

abbrev pub is_negated : List ℕ → Bool
is_negated [] = false
is_negated (c ∷ cs) = c == exclamation_mark

-- without a leading `./`
abbrev pub without_here : List ℕ → List ℕ
without_here [] = []
without_here (c ∷ []) = c ∷ []
without_here (c ∷ next ∷ cs) = if c == full_stop && next == slash then cs else c ∷ next ∷ cs

-- without one leading `!`, and then without a leading `./`
abbrev pub body_of : List ℕ → List ℕ
body_of [] = []
body_of (c ∷ cs) = if c == exclamation_mark then without_here cs else without_here (c ∷ cs)

-- the characters that make a group of a parenthesis behind them
abbrev pub is_group_mark : ℕ → Bool
is_group_mark c = list_any (λ mark. c == mark) (codes "@+!?*")

abbrev pub left_parenthesis : ℕ
left_parenthesis = 40

abbrev pub has_group : List ℕ → Bool
has_group [] = false
has_group (c ∷ []) = false
has_group (c ∷ next ∷ cs) = (is_group_mark c && next == left_parenthesis) || has_group (next ∷ cs)

-- a text that isn't too long, has no group and says something
abbrev pub can_be_glob : List ℕ → Bool
can_be_glob text =
    nat_le (length text) MOST_CHARACTERS && not (has_group text) && not (is_none_left (body_of text))

-- the glob that a text is
abbrev pub glob_of : List ℕ → Option Patterns
glob_of text =
    if can_be_glob text
    then option_map (λ patterns. record { negated = is_negated text; patterns = map parts_of patterns })
    (option_and_then patterns_of (pieces_of (body_of text)))
    else None

-- whether a glob matches a name without its `!`, and with it
abbrev pub plain_matches : Patterns → List ℕ → Bool
plain_matches glob name = list_any (pattern_matches name) glob.patterns

abbrev pub matches : Patterns → List ℕ → Bool
matches glob name = if glob.negated then not (plain_matches glob name) else plain_matches glob name
