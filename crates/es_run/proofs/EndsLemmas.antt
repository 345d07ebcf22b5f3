-- What the clauses of a run say where it made its report, by how it ends.
use Rattle.std.proofs.Common.{◌≡◌, ℕ, List, [], ◌∷◌, Bool, true, false, refl, ap, sym, subst, ◌∙◌, inl, inr}
use Rattle.std.proofs.lemmas.List.{map-append}
use Rattle.std.specs.Prelude.{◌++◌, ◌⊎◌, Ok, Some, encode_utf8_all, map, option_map, string_bytes, take}
use Rattle.std.specs.FinMap as finite
use Rattle.es_files.specs.Outside.{FilesFailed, FilesState, Held, LeavesPart, SentPart, SinkFailed, SinkState, with_bytes}
use Rattle.es_plan.specs.declared.plan.Plan.{Plan}
use Rattle.es_plan.specs.declared.plan.Plan.TheVariants.{Generate, Lint}
use Rattle.es_plan.specs.Plans.{plan_of}
use Rattle.es_run.specs.declared.reporting.Made.{Made}
use Rattle.es_run.specs.declared.reporting.Write.{Write}
use Rattle.es_run.specs.declared.status.Status.{Status}
use Rattle.es_run.specs.declared.status.Status.TheVariants.{Clean, Problems, Stopped, NoMemory}
use Rattle.es_run.specs.declared.status.StopCause.{StopCause}
use Rattle.es_run.specs.declared.status.StopCause.TheVariants.{CannotPrint, CannotWrite}
use Rattle.es_run.specs.Courses.{IsMadeFor, answer_of}
use Rattle.es_run.specs.Ends.{Ends, done, not_printed, not_written, no_memory, World}
use Rattle.es_run.specs.Ends as ends
use Rattle.es_run.specs.Fresh.{Given, IsTheAnswer}
use Rattle.es_run.specs.Reporting.{Writing}
use Rattle.es_run.specs.Runs.{AskNoFixes, DoesAsFresh, HasNotFailed, HoldsAsFresh, IfCannotRead, IfCannotWrite, IsDone, IsRefused, IsSettled, IsSilent, IsTold, IsUnwritten, IsWritten, LeavesFiles, PrintsPart, PrintsSome, SetNoLimit, WritesPart, held_after, mode_in, sinks}
use Rattle.es_run.specs.Stages.{IsHalf, WritesSome, first, half, done_status, with_written, write_in}
use Rattle.es_run.specs.Statuses.{fault_line}

-- ---- files after writes

written_holds : (files : FilesState) (held : Held) (writes : List Writing) → files.holds ≡ Some held →
    (with_written files writes).holds ≡ Some (held_after held writes)
written_holds files held [] told = told
written_holds files held (write ∷ later) told =
    written_holds (with_bytes files write.name write.bytes) (finite.insert held write.name write.bytes) later
    (ap (option_map (λ (h : Held). finite.insert h write.name write.bytes)) told)

written_unfailed : (files : FilesState) (writes : List Writing) → HasNotFailed files (with_written files writes)
written_unfailed files [] = record { faults = refl; failed = refl }
written_unfailed files (write ∷ later) =
    let rest = written_unfailed (with_bytes files write.name write.bytes) later in
    record { faults = rest.faults; failed = rest.failed }

-- a failed write leaves the same, wherever the same was held
leaves_same : (before before' now : FilesState) (name bytes : List ℕ) → before.holds ≡ before'.holds → LeavesPart before name bytes now →
    LeavesPart before' name bytes now
leaves_same before before' now name bytes same (inl kept) = inl (kept ∙ same)
leaves_same before before' now name bytes same (inr part) =
    inr (part.0, part.1 ∙ ap (option_map (λ (h : Held). finite.insert h name (take part.0 bytes))) same)

-- ---- statuses

by_clean : (P : Status → Type 0) → P Clean → P Problems → (clean : Bool) → P (done_status clean)
by_clean P clean problems true = clean
by_clean P clean problems false = problems

pub same_cause : {a b : StopCause} → Stopped a ≡ Stopped b → a ≡ b
same_cause h = cc

pub not_stopped : {cause : StopCause} → NoMemory ≡ Stopped cause → ⊥
not_stopped h = absurd (cc)

-- a status of a run that printed its report is none of one that didn't
not_done : (clean : Bool) (P : Status → Type 0) → (P Clean → ⊥) → (P Problems → ⊥) → (result : Status) → result ≡ done_status clean →
    P result → ⊥
not_done clean P not_clean not_problems result is holds =
    by_clean (λ status. P status → ⊥) not_clean not_problems clean (subst P is holds)

none_listed : {X : Type 0} (earlier later : List X) (x : X) → [] ≡ earlier ++ x ∷ later → ⊥
none_listed [] later x h = absurd (cc)
none_listed (one ∷ more) later x h = absurd (cc)

module _ (config : List ℕ) (made : Made) (before now : World) (result : Status) where
  -- a fact of each status that such a run can have
  by_end : (P : Status → Type 0) → P Clean → P Problems → P (Stopped CannotPrint) → ((name : List ℕ) → P (Stopped (CannotWrite name))) →
      P NoMemory → Ends config made before now result → P result
  by_end P clean problems print write memory (done is files out err quiet) = subst P (sym is) (by_clean P clean problems made.clean)
  by_end P clean problems print write memory (not_printed is files part told) = subst P (sym is) print
  by_end P clean problems print write memory (not_written file is unwritten out told) = subst P (sym is) (write file.name)
  by_end P clean problems print write memory (no_memory is files out) = subst P (sym is) memory

  pub ends_not_refused : Ends config made before now result → IsRefused result → ⊥
  ends_not_refused ends =
      by_end (λ status. IsRefused status → ⊥) (λ h. absurd h) (λ h. absurd h) (λ h. absurd h) (λ name h. absurd h) (λ h. absurd h) ends

  pub ends_not_unread : (P : List ℕ → Type 0) → Ends config made before now result → IfCannotRead result P
  ends_not_unread P ends = by_end (λ status. IfCannotRead status P) tt tt tt (λ name. tt) tt ends

  -- ---- what is printed and told

  module _ (given : Given) (linted heard : ℕ) (fresh : IsTheAnswer given (answer_of made linted heard)) where
    pub ends_fresh : Ends config made before now result → IsSettled result →
        DoesAsFresh given result (sinks before.out before.err) (sinks now.out now.err)
    ends_fresh (done is files out err quiet) settled = record {
      answer = answer_of made linted heard;
      fresh = fresh;
      status = is;
      printed = out;
      told = err;
    }
    ends_fresh (not_printed is files part told) settled = absurd (subst IsSettled is settled)
    ends_fresh (not_written file is unwritten out told) settled = absurd (subst IsSettled is settled)
    ends_fresh (no_memory is files out) settled = absurd (subst IsSettled is settled)

    prints_part : SentPart before.out (string_bytes made.text) now.out → PrintsPart given before.out now.out
    prints_part part = record { answer = answer_of made linted heard; fresh = fresh; part = part }

    pub ends_part : Ends config made before now result → result ≡ Stopped CannotPrint → PrintsPart given before.out now.out
    ends_part (done is files out err quiet) h =
        absurd (not_done made.clean (λ status. status ≡ Stopped CannotPrint) (λ x. absurd (cc)) (λ x. absurd (cc)) result is h)
    ends_part (not_printed is files part told) h = prints_part part
    ends_part (not_written file is unwritten out told) h = absurd (subst IsSilent (sym is ∙ h) tt)
    ends_part (no_memory is files out) h = absurd (not_stopped (sym is ∙ h))

    prints_some : ends.PrintsSome (string_bytes made.text) before.out now.out → PrintsSome given before.out now.out
    prints_some (inl same) = inl same
    prints_some (inr (inl part)) = inr (inl (prints_part part))
    prints_some (inr (inr all)) = inr (inr (record { answer = answer_of made linted heard; fresh = fresh; all = all }))

    pub ends_some_printed : Ends config made before now result → result ≡ NoMemory → PrintsSome given before.out now.out
    ends_some_printed (done is files out err quiet) h =
        absurd (not_done made.clean (λ status. status ≡ NoMemory) (λ x. absurd (cc)) (λ x. absurd (cc)) result is h)
    ends_some_printed (not_printed is files part told) h = absurd (not_stopped (sym h ∙ is))
    ends_some_printed (not_written file is unwritten out told) h = absurd (not_stopped (sym h ∙ is))
    ends_some_printed (no_memory is files out) h = prints_some out

    -- ---- what is written

    module _ (told : before.files.holds ≡ Some given.held) where
      holds_as_fresh : now.files ≡ with_written before.files (map write_in made.writes.items) → HoldsAsFresh given now.files
      holds_as_fresh files = record {
        answer = answer_of made linted heard;
        fresh = fresh;
        holds = ap (λ (f : FilesState). f.holds) files ∙ written_holds before.files given.held (map write_in made.writes.items) told;
      }

      pub ends_writes : Ends config made before now result → IsWritten result → HoldsAsFresh given now.files
      ends_writes (done is files out err quiet) written = holds_as_fresh files
      ends_writes (not_printed is files part line) written = holds_as_fresh files
      ends_writes (not_written file is unwritten out line) written = absurd (subst IsWritten is written)
      ends_writes (no_memory is files out) written = absurd (subst IsWritten is written)

      -- where a write failed, a fresh run's did
      writes_part : (file : Write) → IsHalf made.writes.items before.files file now.files → WritesPart given file.name before.files now.files
      writes_part file unwritten = record {
        answer = answer_of made linted heard;
        fresh = fresh;
        earlier = map write_in unwritten.earlier;
        half = write_in file;
        later = map write_in unwritten.later;
        writes = ap (map write_in) unwritten.listed ∙ map-append write_in unwritten.earlier (file ∷ unwritten.later);
        same = refl;
        failed = unwritten.failed;
        part = leaves_same (with_written before.files (map write_in unwritten.earlier))
            (record before.files { holds = Some (held_after given.held (map write_in unwritten.earlier)) }) now.files
            (encode_utf8_all file.name) (encode_utf8_all file.text)
            (written_holds before.files given.held (map write_in unwritten.earlier) told) unwritten.part;
      }

      leaves : WritesSome made.writes.items before.files now.files → LeavesFiles given before.files now.files
      leaves (first earlier later listed files) = inr (inl (record {
        answer = answer_of made linted heard;
        fresh = fresh;
        earlier = map write_in earlier;
        later = map write_in later;
        writes = ap (map write_in) listed ∙ map-append write_in earlier later;
        holds = ap (λ (f : FilesState). f.holds) files ∙ written_holds before.files given.held (map write_in earlier) told;
      }))
      leaves (half file unwritten) = inr (inr (file.name, writes_part file unwritten))

      pub ends_left : Ends config made before now result → result ≡ NoMemory → LeavesFiles given before.files now.files
      ends_left (done is files out err quiet) h =
          absurd (not_done made.clean (λ status. status ≡ NoMemory) (λ x. absurd (cc)) (λ x. absurd (cc)) result is h)
      ends_left (not_printed is files part line) h = absurd (not_stopped (sym h ∙ is))
      ends_left (not_written file is unwritten out line) h = absurd (not_stopped (sym h ∙ is))
      ends_left (no_memory is files out) h = leaves files

  -- a fact of a run whose write of a file failed
  if_unwritten : (P : List ℕ → Type 0) → ((file : Write) → IsHalf made.writes.items before.files file now.files → P file.name) →
      Ends config made before now result → IfCannotWrite result P
  if_unwritten P unwritten (done is files out err quiet) =
      subst (λ status. IfCannotWrite status P) (sym is) (by_clean (λ status. IfCannotWrite status P) tt tt made.clean)
  if_unwritten P unwritten (not_printed is files part told) = subst (λ status. IfCannotWrite status P) (sym is) tt
  if_unwritten P unwritten (not_written file is failed out told) = subst (λ status. IfCannotWrite status P) (sym is) (unwritten file failed)
  if_unwritten P unwritten (no_memory is files out) = subst (λ status. IfCannotWrite status P) (sym is) tt

  -- where a fresh run is known wherever it is told what is held
  pub ends_half : (given : Held → Given) → ((held : Held) → (given held).held ≡ held) →
      ((held : Held) → before.files.holds ≡ Some held →
      (linted : ℕ) × ((heard : ℕ) × IsTheAnswer (given held) (answer_of made linted heard))) →
      Ends config made before now result →
      IfCannotWrite result (λ name. (held : Held) → before.files.holds ≡ Some held → WritesPart (given held) name before.files now.files)
  ends_half given same foretold ends =
      if_unwritten (λ name. (held : Held) → before.files.holds ≡ Some held → WritesPart (given held) name before.files now.files)
      (λ file failed held told. let known = foretold held told in
      writes_part (given held) known.0 known.1.0 known.1.1 (told ∙ ap (λ (h : Held). Some h) (sym (same held))) file failed) ends

  -- ---- causes

  pub ends_complete : Ends config made before now result → (FilesFailed before.files now.files → ⊥) → (SinkFailed before.out now.out → ⊥) →
      IsSettled result ⊎ (result ≡ NoMemory)
  ends_complete (done is files out err quiet) no_files no_sink =
      inl (subst IsSettled (sym is) (by_clean IsSettled tt tt made.clean))
  ends_complete (not_printed is files part told) no_files no_sink = absurd (no_sink part.rose)
  ends_complete (not_written file is unwritten out told) no_files no_sink = absurd (no_files unwritten.failed.rose)
  ends_complete (no_memory is files out) no_files no_sink = inr is

  pub ends_cannot_print : Ends config made before now result → result ≡ Stopped CannotPrint → SinkFailed before.out now.out
  ends_cannot_print (done is files out err quiet) h =
      absurd (not_done made.clean (λ status. status ≡ Stopped CannotPrint) (λ x. absurd (cc)) (λ x. absurd (cc)) result is h)
  ends_cannot_print (not_printed is files part told) h = part.rose
  ends_cannot_print (not_written file is unwritten out told) h = absurd (subst IsSilent (sym is ∙ h) tt)
  ends_cannot_print (no_memory is files out) h = absurd (not_stopped (sym is ∙ h))

  pub ends_told : Ends config made before now result → (cause : StopCause) → result ≡ Stopped cause →
      IsTold before.err (fault_line config cause) now.err
  ends_told (done is files out err quiet) cause h =
      absurd (not_done made.clean (λ status. status ≡ Stopped cause) (λ x. absurd (cc)) (λ x. absurd (cc)) result is h)
  ends_told (not_printed is files part told) cause h =
      subst (λ why. IsTold before.err (fault_line config why) now.err) (same_cause (sym is ∙ h)) told
  ends_told (not_written file is unwritten out told) cause h =
      subst (λ why. IsTold before.err (fault_line config why) now.err) (same_cause (sym is ∙ h)) told
  ends_told (no_memory is files out) cause h = absurd (not_stopped (sym is ∙ h))

  -- ---- what the words ask for

  module _ (words : List (List ℕ)) (for_words : IsMadeFor words made) where
    -- without fixes nothing is written
    nothing_failed : AskNoFixes words → (file : Write) → IsHalf made.writes.items before.files file now.files → ⊥
    nothing_failed no_fixes file unwritten = none_listed unwritten.earlier unwritten.later file (sym (for_words.reads no_fixes) ∙ unwritten.listed)

    failed_in : (plan : Plan) → plan_of words ≡ Ok plan → (file : Write) → IsHalf made.writes.items before.files file now.files →
        IsUnwritten words file.name before.files now.files
    failed_in (Lint plan) asks file unwritten = record {
      plan = plan;
      asks = asks;
      fixes = λ report. nothing_failed (ap mode_in asks ∙ report) file unwritten;
      asked = for_words.asked plan asks file (record { earlier = unwritten.earlier; later = unwritten.later; listed = unwritten.listed });
      failed = unwritten.failed;
    }
    failed_in (Generate count) asks file unwritten = absurd (nothing_failed (ap mode_in asks) file unwritten)

    pub ends_cannot_write : Ends config made before now result →
        IfCannotWrite result (λ name. IsUnwritten words name before.files now.files)
    ends_cannot_write ends =
        if_unwritten (λ name. IsUnwritten words name before.files now.files) (failed_in for_words.plan for_words.asks) ends

    kept : AskNoFixes words → now.files ≡ with_written before.files (map write_in made.writes.items) → now.files.holds ≡ before.files.holds
    kept no_fixes files =
        ap (λ (f : FilesState). f.holds) (files ∙ ap (λ ws. with_written before.files (map write_in ws)) (for_words.reads no_fixes))

    first_of_none : {X : Type 0} (earlier later : List X) → [] ≡ earlier ++ later → earlier ≡ []
    first_of_none [] later none = refl
    first_of_none (one ∷ more) later none = absurd (cc)

    some_kept : AskNoFixes words → WritesSome made.writes.items before.files now.files → now.files.holds ≡ before.files.holds
    some_kept no_fixes (first earlier later listed files) =
        ap (λ (f : FilesState). f.holds)
        (files ∙ ap (λ ws. with_written before.files (map write_in ws)) (first_of_none earlier later (sym (for_words.reads no_fixes) ∙ listed)))
    some_kept no_fixes (half file unwritten) = absurd (nothing_failed no_fixes file unwritten)

    pub ends_reads : Ends config made before now result → AskNoFixes words → now.files.holds ≡ before.files.holds
    ends_reads (done is files out err quiet) no_fixes = kept no_fixes files
    ends_reads (not_printed is files part told) no_fixes = kept no_fixes files
    ends_reads (not_written file is unwritten out told) no_fixes = absurd (nothing_failed no_fixes file unwritten)
    ends_reads (no_memory is files out) no_fixes = some_kept no_fixes files

    pub ends_quiet : Ends config made before now result → IsDone result → SetNoLimit words → now.err ≡ before.err
    ends_quiet (done is files out err quiet) h no_limit = quiet (for_words.quiet no_limit)
    ends_quiet (not_printed is files part told) h no_limit = absurd (subst IsDone is h)
    ends_quiet (not_written file is unwritten out told) h no_limit = absurd (subst IsDone is h)
    ends_quiet (no_memory is files out) h no_limit = absurd (subst IsDone is h)

  -- ---- what is left alone

  pub ends_silent : Ends config made before now result → IsSilent result → now.out ≡ before.out
  ends_silent (done is files out err quiet) h = absurd (not_done made.clean IsSilent (λ x. absurd x) (λ x. absurd x) result is h)
  ends_silent (not_printed is files part told) h = absurd (subst IsSilent is h)
  ends_silent (not_written file is unwritten out told) h = out
  ends_silent (no_memory is files out) h = absurd (subst IsSilent is h)

  pub ends_no_failure : Ends config made before now result → IsDone result → HasNotFailed before.files now.files
  ends_no_failure (done is files out err quiet) h =
      subst (HasNotFailed before.files) (sym files) (written_unfailed before.files (map write_in made.writes.items))
  ends_no_failure (not_printed is files part told) h = absurd (subst IsDone is h)
  ends_no_failure (not_written file is unwritten out told) h = absurd (subst IsDone is h)
  ends_no_failure (no_memory is files out) h = absurd (subst IsDone is h)

  pub ends_all_printed : Ends config made before now result → IsDone result → now.out.faults ≡ before.out.faults
  ends_all_printed (done is files out err quiet) h = ap (λ (s : SinkState). s.faults) out
  ends_all_printed (not_printed is files part told) h = absurd (subst IsDone is h)
  ends_all_printed (not_written file is unwritten out told) h = absurd (subst IsDone is h)
  ends_all_printed (no_memory is files out) h = absurd (subst IsDone is h)
