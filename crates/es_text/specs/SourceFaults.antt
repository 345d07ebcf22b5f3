-- Why a file's bytes are no source.
use Rattle.std.specs.Prelude.{◌≡◌, ℕ, ◌<◌, ◌≤◌}
use Rattle.es_text.specs.declared.source.SourceFault.{SourceFault}
use Rattle.es_text.specs.declared.source.SourceFault.TheVariants.{TooLong, NoMemory}

-- the most bytes of a file that is read
abbrev pub most_bytes : ℕ
most_bytes = 2097152

-- what a fault says of a file with so many bytes: it is too long exactly where `TooLong` says so, with
-- that number
abbrev pub TellsLength : ℕ → SourceFault → Type 0
TellsLength len (TooLong bytes) = (bytes ≡ len) × (most_bytes < len)
TellsLength len NoMemory = len ≤ most_bytes
