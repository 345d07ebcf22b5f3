-- Decimal numbers, which may begin with zeros.
use Rattle.std.specs.Prelude.{ℕ, Bool, not, ◌&&◌, ◌==◌, List, Option, None, Some, if◌then◌else◌, length, nat_lt}
use Rattle.std.specs.Str.{all_ascii_digits}
use Rattle.std.specs.Str.Parse.{digits_value}

-- one digit or more, and nothing else
abbrev pub is_number : List ℕ → Bool
is_number text = not (length text == 0) && all_ascii_digits text

-- the number where it isn't more than `most`
abbrev pub number_of : ℕ → List ℕ → Option ℕ
number_of most text =
    if is_number text && not (nat_lt most (digits_value 10 text)) then Some (digits_value 10 text) else None
