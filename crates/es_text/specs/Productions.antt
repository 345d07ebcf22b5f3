-- What productions are built of. A production takes a text of its own from the front of the
-- characters, as long a one as it can, and says what follows it, or None where no text of it stands
-- there.
use Rattle.std.specs.Prelude.{ℕ, List, [], ◌∷◌, length, Bool, nat_lt, ◌==◌, Option, Some, None, if◌then◌else◌}
use Rattle.std.specs.Option.{option_and_then, unwrap_or}
use Rattle.es_text.specs.Rest.{many}

-- a character of this class
abbrev pub one_of : (ℕ → Bool) → List ℕ → Option (List ℕ)
one_of class [] = None
one_of class (c ∷ cs) = if class c then Some cs else None

-- this character
abbrev pub just : ℕ → List ℕ → Option (List ℕ)
just x cs = one_of (λ c. c == x) cs

-- each of these, one behind the other
abbrev pub sequence : List (List ℕ → Option (List ℕ)) → List ℕ → Option (List ℕ)
sequence [] cs = Some cs
sequence (part ∷ parts) cs = option_and_then (sequence parts) (part cs)

-- this or nothing
abbrev pub optional : (List ℕ → Option (List ℕ)) → List ℕ → Option (List ℕ)
optional part cs = Some (unwrap_or (part cs) cs)

-- this as many times as it stands there, or not at all
abbrev pub repeated : (List ℕ → Option (List ℕ)) → List ℕ → Option (List ℕ)
repeated part cs = Some (many part cs)

-- of two texts the longer one, behind which fewer characters follow
abbrev pub longer : Option (List ℕ) → Option (List ℕ) → Option (List ℕ)
longer None other = other
longer (Some cs) None = Some cs
longer (Some cs) (Some ds) = Some (if nat_lt (length ds) (length cs) then ds else cs)

-- that one of these that takes the longest text
abbrev pub longest_of : List (List ℕ → Option (List ℕ)) → List ℕ → Option (List ℕ)
longest_of [] cs = None
longest_of (choice ∷ choices) cs = longer (choice cs) (longest_of choices cs)
