-- How a run ends, put together from its stages.
use Rattle.std.proofs.Common.{◌≡◌, ◌∙◌, ◌≤◌, ℕ, List, [], ◌∷◌, ◌++◌, All, ap, append-nil, inl, inr, map, refl, subst, sym}
use Rattle.std.specs.Prelude.{◌⊎◌, Some, encode_utf8_all, string_bytes}
use Rattle.std.proofs.lemmas.List.Elements.{All-head}
use Rattle.std.specs.Cow.{cow_str_bytes}
use Rattle.es_files.specs.Outside.{FilesState, HasFailed, LeavesPart, SentPart, SinkState, one_more, with_bytes, with_sent, writing}
use Rattle.es_run.specs.declared.reporting.Made.{Made}
use Rattle.es_run.specs.declared.reporting.Write.{Write}
use Rattle.es_run.specs.declared.status.Status.{Status}
use Rattle.es_run.specs.declared.status.Status.TheVariants.{Stopped, NoMemory}
use Rattle.es_run.specs.declared.status.StopCause.TheVariants.{CannotPrint, CannotWrite}
use Rattle.es_run.specs.Ends.{Ends, IsPrintStatus, World, done, not_printed, not_written, no_memory}
use Rattle.es_run.specs.Reporting.{Writing}
use Rattle.es_run.specs.Runs.{IsTold, IsUnlessNoMemory}
use Rattle.es_run.specs.Stages.{IsHalf, IsPrepared, StopsAtWrite, done_status, failed, first, half, memoryless, with_written, write_in}
use Rattle.es_run.specs.Statuses.{fault_line}

-- ---- writes

pub first_of_all : {X : Type 0} (P : X → Type 0) (one : X) (next all : List X) → all ≡ one ∷ next → All P all → P one
first_of_all P one next all is holds = All-head P one next (subst (All P) is holds)

-- one write more
pub written_more : (files : FilesState) (earlier : List Write) (one : Write) →
    with_written files (map write_in (earlier ++ one ∷ []))
    ≡ with_bytes (with_written files (map write_in earlier)) (encode_utf8_all one.name) (encode_utf8_all one.text)
written_more files [] one = refl
written_more files (write ∷ earlier) one = written_more (with_bytes files (encode_utf8_all write.name) (encode_utf8_all write.text)) earlier one

written_faults : (files : FilesState) (writes : List Writing) → (with_written files writes).faults ≡ files.faults
written_faults files [] = refl
written_faults files (write ∷ later) = written_faults (with_bytes files write.name write.bytes) later

module _ (writes earlier : List Write) (one : Write) (before between now : FilesState) (written : between ≡ with_written before (map write_in earlier))
    (name bytes : List ℕ) (named : name ≡ encode_utf8_all one.name) (held : bytes ≡ encode_utf8_all one.text) where
  -- the files after one write more
  pub turn_written : now ≡ with_bytes between name bytes → now ≡ with_written before (map write_in (earlier ++ one ∷ []))
  turn_written is =
      is ∙ ap (λ n. with_bytes between n bytes) named ∙ ap (λ b. with_bytes between (encode_utf8_all one.name) b) held
      ∙ ap (λ files. with_bytes files (encode_utf8_all one.name) (encode_utf8_all one.text)) written ∙ sym (written_more before earlier one)

  -- a failed write of these bytes under this name, after earlier ones
  pub half_is : (later : List Write) → writes ≡ earlier ++ one ∷ later → HasFailed between (writing name) now → LeavesPart between name bytes now →
      IsHalf writes before one now
  half_is later listed unwritten part = record {
    earlier = earlier;
    later = later;
    listed = listed;
    failed = record {
      rose = subst (λ n. one_more n ≤ now.faults) (ap (λ (f : FilesState). f.faults) written ∙ written_faults before (map write_in earlier)) unwritten.rose;
      last = unwritten.last ∙ ap (λ n. Some (writing n)) named;
    };
    part =
        subst (λ files. LeavesPart files (encode_utf8_all one.name) (encode_utf8_all one.text) now) written
        (subst (λ b. LeavesPart between (encode_utf8_all one.name) b now) held (subst (λ n. LeavesPart between n bytes now) named part));
  }

module _ (config : List ℕ) (writes : List Write) (before now : FilesState) (err_before err_between err_now : SinkState) (result : Status) where
  -- the write of the file failed, and its line was sent
  pub write_failed : (one : Write) (line : List ℕ) → err_between ≡ err_before → IsPrepared config one → line ≡ cow_str_bytes one.line →
      IsHalf writes before one now → IsUnlessNoMemory (Stopped one.cause) result →
      (result ≡ Stopped one.cause → (Stopped one.cause ≡ NoMemory → ⊥) → IsTold err_between line err_now) →
      StopsAtWrite config writes before now err_before err_now result
  write_failed one line quiet prepared same unwritten (inl is) told =
      failed one (is ∙ ap (λ why. Stopped why) prepared.cause) unwritten
      (subst (λ err. IsTold err (fault_line config (CannotWrite one.name)) err_now) quiet
      (subst (λ l. IsTold err_between l err_now) (same ∙ prepared.line ∙ ap (fault_line config) prepared.cause) (told is (λ h. absurd (cc)))))
  write_failed one line quiet prepared same unwritten (inr is) told = memoryless is (half one unwritten)

  -- or the run was out of memory before it was written
  pub write_memoryless : (earlier later : List Write) (between : FilesState) → writes ≡ earlier ++ later →
      between ≡ with_written before (map write_in earlier) → now ≡ between → result ≡ NoMemory →
      StopsAtWrite config writes before now err_before err_now result
  write_memoryless earlier later between listed written same is = memoryless is (first earlier later listed (same ∙ written))

-- ---- ends

-- the run stopped there
pub stopped_ends : (config : List ℕ) (made : Made) (before now : World) (result : Status) → now.out ≡ before.out →
    StopsAtWrite config made.writes.items before.files now.files before.err now.err result → Ends config made before now result
stopped_ends config made before now result out (failed one is unwritten told) = not_written one is unwritten out told
stopped_ends config made before now result out (memoryless is files) = no_memory is files (inl out)

-- or all was written, and the report was to be printed
pub printed_ends : (config : List ℕ) (made : Made) (before now : World) (err : SinkState) (result : Status) →
    now.files ≡ with_written before.files (map write_in made.writes.items) → err ≡ before.err → IsPrintStatus made.clean result →
    (result ≡ done_status made.clean → now.out ≡ with_sent before.out (string_bytes made.text)) →
    (result ≡ done_status made.clean → IsTold err (string_bytes made.line) now.err) →
    (result ≡ done_status made.clean → string_bytes made.line ≡ [] → now.err ≡ err) →
    (result ≡ Stopped CannotPrint → SentPart before.out (string_bytes made.text) now.out) →
    (result ≡ Stopped CannotPrint → IsTold err (fault_line config CannotPrint) now.err) →
    (result ≡ NoMemory → (now.out ≡ before.out) ⊎ (SentPart before.out (string_bytes made.text) now.out
    ⊎ (now.out ≡ with_sent before.out (string_bytes made.text)))) →
    Ends config made before now result
printed_ends config made before now err result files same (inl is) sent line quiet part told memory =
    done is files (sent is) (subst (λ e. IsTold e (string_bytes made.line) now.err) same (line is)) (λ empty. quiet is empty ∙ same)
printed_ends config made before now err result files same (inr (inl is)) sent line quiet part told memory =
    not_printed is files (part is) (subst (λ e. IsTold e (fault_line config CannotPrint) now.err) same (told is))
printed_ends config made before now err result files same (inr (inr is)) sent line quiet part told memory =
    no_memory is (first made.writes.items [] (sym (append-nil made.writes.items)) files) (memory is)
