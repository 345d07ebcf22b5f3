-- What a run gathers before it lints: the entries of its configuration, and of each name what becomes of it and what
-- is held under it. The first refusal in the order of the names ends it.
use Rattle.std.specs.Prelude.{◌≡◌, ℕ, ◌+◌, ◌≤◌, Bool, ◌&&◌, List, [], ◌∷◌, ◌++◌, codes, length, Option, None, Some, Result, Ok, Err, encode_utf8_all, nat_lt, if◌then◌else◌}
use Rattle.std.specs.FinMap as finite
use Rattle.std.specs.Str.{chars}
use Rattle.es_text.specs.SourceFaults.{most_bytes}
use Rattle.es_settings.specs.Settings.{Settings}
use Rattle.es_config.specs.Outcomes.{Outcome, linted, ignored, unmatched, outside}
use Rattle.es_files.specs.Outside.{Held}
use Rattle.es_run.specs.declared.status.StopCause.{StopCause}
use Rattle.es_run.specs.declared.status.StopCause.TheVariants.{NoFile, TooLong, TooMuch}

-- ---- limits, in bytes

-- of a configuration
abbrev pub most_config_bytes : ℕ
most_config_bytes = 1048576

-- of all files of a run together
abbrev pub most_total_bytes : ℕ
most_total_bytes = 134217728

-- ---- the configuration

-- these bytes are held under its name, and not too many
pub record HoldsConfig (held : Held) (name bytes : List ℕ) : Type 0 where
  pub found : finite.get held (encode_utf8_all name) ≡ Some bytes
  pub short : length bytes ≤ most_config_bytes

-- ---- what is gathered of a name

-- it is linted, and this is set for it and held under it; or it isn't, and this is told of it
pub data Part : Type 0 where
  source : Settings → List ℕ → Part
  left_out : List ℕ → Part

-- what is told of files that aren't linted, as ESLint does
abbrev pub ignored_text : List ℕ
ignored_text = chars (codes "File ignored because of a matching ignore pattern.")

abbrev pub unmatched_text : List ℕ
unmatched_text = chars (codes "File ignored because no matching configuration was supplied.")

abbrev pub outside_text : List ℕ
outside_text = chars (codes "File ignored because outside of base path.")

-- the bytes that were read for it
abbrev pub bytes_in : Part → ℕ
bytes_in (source settings bytes) = length bytes
bytes_in (left_out text) = 0

-- comments may change what is set where both the configuration and the arguments let them
abbrev pub with_inline : Bool → Settings → Settings
with_inline inline settings = record settings { inline = settings.inline && inline }

-- ---- reading

-- the bytes of a file, where so many were read before it
abbrev pub within_total : ℕ → List ℕ → Result (List ℕ) StopCause
within_total before bytes =
    if nat_lt most_total_bytes (before + length bytes) then Err (TooMuch (before + length bytes)) else Ok bytes

-- the bytes of the file of this name
abbrev pub within_limits : ℕ → List ℕ → List ℕ → Result (List ℕ) StopCause
within_limits before name bytes =
    if nat_lt most_bytes (length bytes) then Err (TooLong name) else within_total before bytes

-- what is read of a name, under which these bytes are held, or none
abbrev pub read_of : ℕ → List ℕ → Option (List ℕ) → Result (List ℕ) StopCause
read_of before name None = Err (NoFile name)
read_of before name (Some bytes) = within_limits before name bytes

-- ---- all names in their order

abbrev pub result_map : {A B : Type 0} → (A → B) → Result A StopCause → Result B StopCause
result_map f (Ok a) = Ok (f a)
result_map f (Err cause) = Err cause

abbrev pub result_then : {A B : Type 0} → (A → Result B StopCause) → Result A StopCause → Result B StopCause
result_then next (Ok a) = next a
result_then next (Err cause) = Err cause

-- what comes of a name by its outcome, where so many bytes were read before; those of a name that isn't linted aren't read
abbrev pub part_of : Bool → Held → ℕ → List ℕ → Outcome → Result Part StopCause
part_of inline held before name (linted settings) =
    result_map (source (with_inline inline settings)) (read_of before name (finite.get held (encode_utf8_all name)))
part_of inline held before name ignored = Ok (left_out ignored_text)
part_of inline held before name unmatched = Ok (left_out unmatched_text)
part_of inline held before name outside = Ok (left_out outside_text)

-- a name in characters, and what is gathered of it
abbrev pub NamedPart : Type 0
NamedPart = List ℕ × Part

-- it stands among these
pub record IsOneOf {X : Type 0} (names : List X) (name : X) : Type 0 where
  pub earlier : List X
  pub later : List X
  pub listed : names ≡ earlier ++ name ∷ later

module _ (inline : Bool) (decides : List ℕ → Outcome) (held : Held) where
  -- what is gathered of these names, where so many bytes were read before, or the cause of the first refusal
  abbrev pub gathered : ℕ → List (List ℕ) → Result (List NamedPart) StopCause
  gathered before [] = Ok []
  gathered before (name ∷ names) =
      result_then
      (λ part. result_map (λ later. (name, part) ∷ later) (gathered (before + bytes_in part) names))
      (part_of inline held before name (decides name))
