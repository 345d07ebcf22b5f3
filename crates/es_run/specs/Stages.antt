-- What the stages of a run answer.
use Rattle.std.specs.Prelude.{◌≡◌, ℕ, ◌≤◌, ◌⊎◌, ◌++◌, List, [], ◌∷◌, Bool, Vec, Option, None, Result, Ok, Err, encode_utf8_all, length, map, string_bytes, if◌then◌else◌}
use Rattle.std.specs.declared.alloc.Global.{Global}
use Rattle.std.specs.Cow.{cow_str_bytes}
use Rattle.std.specs.FinMap as finite
use Rattle.std.specs.Str.{chars}
use Rattle.es_text.specs.SourceFaults.{most_bytes}
use Rattle.es_settings.specs.Settings.{settings_of}
use Rattle.es_settings.specs.declared.mode.Mode.{Mode}
use Rattle.es_config.specs.Configurations.{Configuration}
use Rattle.es_config.specs.Entries.{Layer}
use Rattle.es_config.specs.Outcomes.{KeepsTaken, Outcome, linted}
use Rattle.es_config.specs.Reading.{ComeTo, IsRead, KnownRules}
use Rattle.es_config.specs.Walks.{faulty}
use Rattle.es_host.specs.Meanings.{Meaning}
use Rattle.es_messages.specs.declared.message.FileResult.{FileResult}
use Rattle.es_format.specs.Stylish.{Named, all_messages}
use Rattle.es_lint.specs.Lintings.{FitsKit}
use Rattle.es_lint.specs.Results.{AtMost, more}
use Rattle.es_files.specs.declared.outside.ReadFault.{ReadFault}
use Rattle.es_files.specs.declared.outside.ReadFault.TheVariants as read
use Rattle.es_files.specs.Outside.{FilesState, HasFailed, Held, HoldsMore, LeavesPart, SentPart, SinkState, reading, with_bytes, with_sent, writing}
use Rattle.es_run.specs.declared.status.Fault.{Fault}
use Rattle.es_run.specs.declared.status.Fault.TheVariants as fault
use Rattle.es_run.specs.declared.status.Status.{Status}
use Rattle.es_run.specs.declared.status.Status.TheVariants as status
use Rattle.es_run.specs.declared.status.StopCause.{StopCause}
use Rattle.es_run.specs.declared.status.StopCause.TheVariants as cause
use Rattle.es_run.specs.declared.gathering.Part.{Part}
use Rattle.es_run.specs.declared.gathering.Part.TheVariants as parts
use Rattle.es_run.specs.declared.reporting.Made.{Made}
use Rattle.es_run.specs.declared.reporting.Write.{Write}
use Rattle.es_run.specs.Gathering as gathering
use Rattle.es_run.specs.Linting.{ComeToAll, ComesTo}
use Rattle.es_run.specs.Reporting.{Writing, line_of, report_of, status_of, writes_of}
use Rattle.es_run.specs.Statuses.{fault_line}

-- ---- the configuration

-- what a fault of reading the configuration of this name is
abbrev pub config_fault_of : ReadFault → List ℕ → Fault
config_fault_of read.Missing name = fault.Stop cause.ConfigMissing
config_fault_of read.TooLong name = fault.Stop (cause.TooLong name)
config_fault_of read.Failed name = fault.Stop (cause.CannotRead name)
config_fault_of read.NoMemory name = fault.NoMemory

-- it is read as these entries
abbrev pub IsConfigured : KnownRules → Held → List ℕ → List Layer → Type 0
IsConfigured rules held name layers = (bytes : List ℕ) × gathering.HoldsConfig held name bytes × IsRead rules bytes layers

-- what each fault says of it
abbrev pub IsUnconfigured : KnownRules → Held → List ℕ → Fault → Type 0
IsUnconfigured rules held name (fault.Stop cause.ConfigMissing) = finite.get held (encode_utf8_all name) ≡ None
IsUnconfigured rules held name (fault.Stop (cause.TooLong long)) =
    (long ≡ name) × HoldsMore held (encode_utf8_all name) gathering.most_config_bytes
IsUnconfigured rules held name (fault.Stop (cause.BadConfig kind pointer)) =
    (bytes : List ℕ) × gathering.HoldsConfig held name bytes × ComeTo rules bytes (faulty kind pointer)
IsUnconfigured rules held name (fault.Stop (cause.CannotRead unread)) = Unit {0}
IsUnconfigured rules held name fault.NoMemory = Unit {0}
IsUnconfigured rules held name _ = ⊥

-- a read of this name failed, and is told so
abbrev pub IsUnread : List ℕ → FilesState → FilesState → List ℕ → Type 0
IsUnread name before now unread = (unread ≡ name) × HasFailed before (reading (encode_utf8_all name)) now

-- what each fault is to blame on, whatever is told of the files
abbrev pub blames_config : List ℕ → FilesState → FilesState → Fault → Type 0
blames_config name before now (fault.Stop cause.ConfigMissing) = now ≡ before
blames_config name before now (fault.Stop (cause.TooLong long)) = now ≡ before
blames_config name before now (fault.Stop (cause.BadConfig kind pointer)) = now ≡ before
blames_config name before now (fault.Stop (cause.CannotRead unread)) = IsUnread name before now unread
blames_config name before now fault.NoMemory = Unit {0}
blames_config name before now _ = ⊥

-- ---- names

-- what a fault of reading a name is
abbrev pub fault_of : ReadFault → List ℕ → Fault
fault_of read.Missing name = fault.Stop (cause.NoFile name)
fault_of read.TooLong name = fault.Stop (cause.TooLong name)
fault_of read.Failed name = fault.Stop (cause.CannotRead name)
fault_of read.NoMemory name = fault.NoMemory

-- a part in the words of a fresh run
abbrev pub part_in : Part → gathering.Part
part_in (parts.Source config bytes) = gathering.source (settings_of config) bytes.items
part_in (parts.LeftOut text) = gathering.left_out (chars text.now)

abbrev pub name_in : List ℕ × Part → List ℕ
name_in named = named.0

abbrev pub named_part_in : List ℕ × Part → gathering.NamedPart
named_part_in named = (named.0, part_in named.1)

-- a fresh run refuses so, or a fault of the outside or of memory came before
abbrev pub Tells : {A : Type 0} → Result A StopCause → Fault → Type 0
Tells told (fault.Stop (cause.NoFile name)) = told ≡ Err (cause.NoFile name)
Tells told (fault.Stop (cause.TooLong name)) = told ≡ Err (cause.TooLong name)
Tells told (fault.Stop (cause.TooMuch bytes)) = told ≡ Err (cause.TooMuch bytes)
Tells told (fault.Stop (cause.CannotRead name)) = Unit {0}
Tells told fault.NoMemory = Unit {0}
Tells told _ = ⊥

abbrev pub IsReadAs : Held → ℕ → List ℕ → Result (Vec ℕ Global) Fault → Type 0
IsReadAs held before name (Ok bytes) =
    gathering.read_of before name (finite.get held (encode_utf8_all name)) ≡ Ok bytes.items
IsReadAs held before name (Err given) =
    Tells (gathering.read_of before name (finite.get held (encode_utf8_all name))) given

abbrev pub IsPartOf : Bool → Held → ℕ → List ℕ → Outcome → Result Part Fault → Type 0
IsPartOf inline held before name outcome (Ok part) =
    gathering.part_of inline held before name outcome ≡ Ok (part_in part)
IsPartOf inline held before name outcome (Err given) =
    Tells (gathering.part_of inline held before name outcome) given

abbrev pub IsGatheredAs : Result (List gathering.NamedPart) StopCause → Result (Vec (List ℕ × Part) Global) Fault → Type 0
IsGatheredAs told (Ok gathered) = told ≡ Ok (map named_part_in gathered.items)
IsGatheredAs told (Err given) = Tells told given

-- what each fault is to blame on, whatever is told of the files
abbrev pub BlamesName : List ℕ → FilesState → FilesState → Fault → Type 0
BlamesName name before now (fault.Stop (cause.NoFile missing)) = now ≡ before
BlamesName name before now (fault.Stop (cause.TooLong long)) = now ≡ before
BlamesName name before now (fault.Stop (cause.TooMuch bytes)) = now ≡ before
BlamesName name before now (fault.Stop (cause.CannotRead unread)) = IsUnread name before now unread
BlamesName name before now fault.NoMemory = Unit {0}
BlamesName name before now _ = ⊥

-- and of these names one is to blame
abbrev pub BlamesNames : List (List ℕ) → FilesState → FilesState → Fault → Type 0
BlamesNames names before now (fault.Stop (cause.NoFile missing)) = now ≡ before
BlamesNames names before now (fault.Stop (cause.TooLong long)) = now ≡ before
BlamesNames names before now (fault.Stop (cause.TooMuch bytes)) = now ≡ before
BlamesNames names before now (fault.Stop (cause.CannotRead unread)) =
    gathering.IsOneOf names unread × HasFailed before (reading (encode_utf8_all unread)) now
BlamesNames names before now fault.NoMemory = Unit {0}
BlamesNames names before now _ = ⊥

-- what is set for a file is what the rules take, and it isn't too long
abbrev pub KeepsPart : Configuration → Part → Type 0
KeepsPart config (parts.Source set bytes) = KeepsTaken config (linted (settings_of set)) × (length bytes.items ≤ most_bytes)
KeepsPart config (parts.LeftOut text) = Unit {0}

-- ---- linting

-- what is set for a file fits the kit, and it isn't too long
abbrev pub FitsPart : List Meaning → Part → Type 0
FitsPart meanings (parts.Source set bytes) = FitsKit meanings (settings_of set) × (length bytes.items ≤ most_bytes)
FitsPart meanings (parts.LeftOut text) = Unit {0}

-- one for a file that is linted
abbrev pub part_count : Part → ℕ
part_count (parts.Source set bytes) = 1
part_count (parts.LeftOut text) = 0

-- a part comes to this and to nothing else, and the kit's count of lints goes up
pub record IsLintedAs (meanings : List Meaning) (mode : Mode) (part : gathering.Part) (before : ℕ) (result : FileResult) (now : ℕ) : Type 0 where
  pub heard : ℕ
  pub comes : ComesTo meanings mode part result heard
  pub only : (other : FileResult) (times : ℕ) → ComesTo meanings mode part other times → (other ≡ result) × (times ≡ heard)
  pub lints : now ≡ more heard before

-- all parts come to these and to nothing else
pub record AreLinted (meanings : List Meaning) (mode : Mode) (gathered : List gathering.NamedPart) (before : ℕ) (results : List Named) (now : ℕ) : Type 0 where
  pub heard : ℕ
  pub come : ComeToAll meanings mode gathered results heard
  pub only : (others : List Named) (times : ℕ) → ComeToAll meanings mode gathered others times → (others ≡ results) × (times ≡ heard)
  pub lints : now ≡ more heard before

-- however a part is linted, the rules listen at most as often as what it comes to says
abbrev pub ListensAtMost : List Meaning → Mode → gathering.Part → ℕ → ℕ → Type 0
ListensAtMost meanings mode part before now =
    (told : FileResult) (heard : ℕ) → ComesTo meanings mode part told heard → AtMost heard before now

-- and so with all parts
abbrev pub ListenAtMost : List Meaning → Mode → List gathering.NamedPart → ℕ → ℕ → Type 0
ListenAtMost meanings mode parts before now =
    (results : List Named) (heard : ℕ) → ComeToAll meanings mode parts results heard → AtMost heard before now

-- ---- the report

-- the status of a run that printed its report
abbrev pub done_status : Bool → Status
done_status clean = if clean then status.Clean else status.Problems

-- what is to be written, in the words of a fresh run
abbrev pub write_in : Write → Writing
write_in write = record { name = encode_utf8_all write.name; bytes = encode_utf8_all write.text }

-- the cause and the line of a failed write are those of its file, in a run with the configuration of this name
pub record IsPrepared (config : List ℕ) (write : Write) : Type 0 where
  pub cause : write.cause ≡ cause.CannotWrite write.name
  pub line : cow_str_bytes write.line ≡ fault_line config write.cause

-- what is made of what is told
pub record IsReportOn (json quiet : Bool) (limit : Option ℕ) (results : List Named) (made : Made) : Type 0 where
  pub text : string_bytes made.text ≡ report_of json quiet results
  pub status : done_status made.clean ≡ status_of limit (all_messages results)
  pub writes : map write_in made.writes.items ≡ writes_of results
  pub line : string_bytes made.line ≡ line_of limit (all_messages results)

-- ---- writing

-- the files after these are written
abbrev pub with_written : FilesState → List Writing → FilesState
with_written files [] = files
with_written files (write ∷ later) = with_written (with_bytes files write.name write.bytes) later

-- a write failed after earlier ones: its file holds what it held, or a first part of the bytes, and no later one is tried
pub record IsHalf (writes : List Write) (before : FilesState) (half : Write) (now : FilesState) : Type 0 where
  pub earlier : List Write
  pub later : List Write
  pub listed : writes ≡ earlier ++ half ∷ later
  pub failed : HasFailed before (writing (encode_utf8_all half.name)) now
  pub part : LeavesPart (with_written before (map write_in earlier)) (encode_utf8_all half.name) (encode_utf8_all half.text) now

-- some first ones of the files were written, or one failed after them
pub data WritesSome (writes : List Write) (before now : FilesState) : Type 0 where
  first : (earlier later : List Write) → writes ≡ earlier ++ later → now ≡ with_written before (map write_in earlier) →
      WritesSome writes before now
  half : (half : Write) → IsHalf writes before half now → WritesSome writes before now

-- how a run ends that can't write
pub data StopsAtWrite (config : List ℕ) (writes : List Write) (before now : FilesState) (err_before err_now : SinkState) (result : Status) : Type 0 where
  failed : (half : Write) → result ≡ status.Stopped (cause.CannotWrite half.name) → IsHalf writes before half now →
      ((err_now ≡ with_sent err_before (fault_line config (cause.CannotWrite half.name)))
      ⊎ SentPart err_before (fault_line config (cause.CannotWrite half.name)) err_now) →
      StopsAtWrite config writes before now err_before err_now result
  memoryless : result ≡ status.NoMemory → WritesSome writes before now →
      StopsAtWrite config writes before now err_before err_now result
