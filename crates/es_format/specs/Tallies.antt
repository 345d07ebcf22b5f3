-- What counts of a message, as the code keeps it.
use Rattle.std.specs.Prelude.{ℕ, Bool, not, ◌&&◌, is_some, List, [], ◌∷◌, ◌++◌, length}
use Rattle.std.specs.List.{filter}
use Rattle.es_messages.specs.declared.message.Message.{Message}
use Rattle.es_format.specs.declared.tally.Tally.{Tally}
use Rattle.es_format.specs.Stylish.{error, fixable_line, line_end, summary}

abbrev pub tally_of : Message → Tally
tally_of message = record { is_error = error message; has_fix = is_some message.fix }

abbrev pub tallied_error : Tally → Bool
tallied_error tally = tally.is_error

abbrev pub tallied_warning : Tally → Bool
tallied_warning tally = not tally.is_error

abbrev pub tallied_fixable_error : Tally → Bool
tallied_fixable_error tally = tally.is_error && tally.has_fix

abbrev pub tallied_fixable_warning : Tally → Bool
tallied_fixable_warning tally = not tally.is_error && tally.has_fix

abbrev pub number_in : (Tally → Bool) → List Tally → ℕ
number_in counts tallies = length (filter counts tallies)

abbrev pub numbers_in : List Tally → List ℕ
numbers_in tallies =
    summary (length tallies) (number_in tallied_error tallies) (number_in tallied_warning tallies)
    ++ fixable_line (number_in tallied_fixable_error tallies) (number_in tallied_fixable_warning tallies)

-- the lines at the end, where these are the tallies of all messages
abbrev pub end_of : List Tally → List ℕ
end_of [] = []
end_of (tally ∷ tallies) = line_end ++ numbers_in (tally ∷ tallies)
