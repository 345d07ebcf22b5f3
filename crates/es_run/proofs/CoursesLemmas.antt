-- What the clauses of a run say, by its course.
use Rattle.std.proofs.Common.{◌≡◌, ℕ, ◌+◌, ◌≤◌, List, [], ◌∷◌, refl, ap, sym, subst, arith, ◌∙◌, inl, inr, append-nil}
use Rattle.std.specs.Prelude.{◌++◌, ◌⊎◌, Err, Ok, Option, Some, None, option_map}
use Rattle.std.specs.Option.{ForSome}
use Rattle.es_files.specs.Outside.{FilesFailed, FilesState, Held, SinkFailed, SinkState, with_sent}
use Rattle.es_host.specs.Meanings.{Meaning}
use Rattle.es_plan.specs.declared.plan.Plan.{Plan}
use Rattle.es_plan.specs.declared.plan.Plan.TheVariants.{Lint}
use Rattle.es_plan.specs.declared.plan.PlanFault.TheVariants as refusal
use Rattle.es_plan.specs.Plans.{plan_of}
use Rattle.es_run.specs.declared.reporting.Made.{Made}
use Rattle.es_run.specs.declared.status.Status.{Status}
use Rattle.es_run.specs.declared.status.Status.TheVariants.{Stopped, NoMemory}
use Rattle.es_run.specs.declared.status.StopCause.{StopCause}
use Rattle.es_run.specs.declared.status.StopCause.TheVariants as cause
use Rattle.es_run.specs.Courses.{Counts, Goes, IsForetold, IsMadeFor, IsRefusal, IsWithin, IsWithinFresh, Scene, answer_of, given_to, unplanned, refused, unread, ended, memoryless}
use Rattle.es_run.specs.Ends.{Ends}
use Rattle.es_run.specs.Fresh.{Answer, Given, IsTheAnswer, stopped}
use Rattle.es_run.specs.Kits.{HeardAtMost, first_heard}
use Rattle.es_run.specs.Runs.{AskNoFixes, DoesAsFresh, HasNotFailed, HoldsAsFresh, IfCannotRead, IfCannotWrite, IsDone, IsRefused, IsReported, IsSettled, IsSilent, IsTold, IsUnlessNoMemory, IsUnread, IsUnwritten, IsWritten, LeavesFiles, ListensAsFresh, ListensAtMostAsFresh, PrintsPart, PrintsSome, RefusesWords, SetNoLimit, StepsAsFresh, StepsAtMostAsFresh, WritesPart, config_in, config_of, most_lintings, most_steps, sinks}
use Rattle.es_run.specs.Statuses.{fault_line}
use Rattle.es_run.proofs.EndsLemmas.{ends_all_printed, ends_cannot_print, ends_cannot_write, ends_complete, ends_fresh, ends_half, ends_left, ends_no_failure, ends_not_refused, ends_not_unread, ends_part, ends_quiet, ends_reads, ends_silent, ends_some_printed, ends_told, ends_writes, not_stopped, same_cause}
use Rattle.es_run.proofs.FreshLemmas.{bad_many, names_is, plan_fault, the_bad_words, the_too_many}

-- ---- nothing more

nothing_more : (got : Option (List ℕ)) → got ≡ option_map (λ bytes. bytes ++ []) got
nothing_more None = refl
nothing_more (Some bytes) = ap (λ (all : List ℕ). Some all) (sym (append-nil bytes))

nothing_sent : (sink : SinkState) → sink ≡ with_sent sink []
nothing_sent sink = ap (λ got. let now : SinkState = record { got = got; faults = sink.faults } in now) (nothing_more sink.got)

never_heard : (before : List ℕ) → before ≡ first_heard 0 before
never_heard [] = refl
never_heard (first ∷ rest) = refl

-- ---- causes for which words are refused

module _ (words : List (List ℕ)) where
  -- the words are refused for one of two causes
  abbrev RefusedFor : StopCause → Type 0
  RefusedFor why = ((why ≡ cause.BadWords) × (plan_of words ≡ Err refusal.BadWords))
      ⊎ ((names : ℕ) × (why ≡ cause.TooMany names) × (plan_of words ≡ Err (refusal.TooMany names)))

  refused_for : (why : StopCause) → RefusesWords words why → RefusedFor why
  refused_for cause.BadWords refuses = inl (refl, refuses)
  refused_for (cause.TooMany names) refuses = inr (names, refl, refuses)
  refused_for cause.ConfigMissing refuses = absurd refuses
  refused_for (cause.BadConfig kind pointer) refuses = absurd refuses
  refused_for (cause.NoFile name) refuses = absurd refuses
  refused_for (cause.TooLong name) refuses = absurd refuses
  refused_for (cause.CannotRead name) refuses = absurd refuses
  refused_for (cause.TooMuch bytes) refuses = absurd refuses
  refused_for (cause.CannotWrite name) refuses = absurd refuses
  refused_for cause.CannotPrint refuses = absurd refuses

  one_refusal : (why why' : StopCause) → RefusedFor why → RefusedFor why' → why ≡ why'
  one_refusal why why' (inl bad) (inl bad') = bad.0 ∙ sym bad'.0
  one_refusal why why' (inl bad) (inr many) = absurd (bad_many (sym bad.1 ∙ many.2))
  one_refusal why why' (inr many) (inl bad) = absurd (bad_many (sym bad.1 ∙ many.2))
  one_refusal why why' (inr many) (inr many') =
      many.1 ∙ ap (λ n. cause.TooMany n) (names_is (sym many.2 ∙ many'.2)) ∙ sym many'.1

  no_plan : (why : StopCause) → RefusedFor why → (plan : Plan) → plan_of words ≡ Ok plan → ⊥
  no_plan why (inl bad) plan asks = plan_fault (sym asks ∙ bad.1)
  no_plan why (inr many) plan asks = plan_fault (sym asks ∙ many.2)

  refused_answer : (meanings : List Meaning) (held : Held) (why : StopCause) → RefusedFor why →
      IsTheAnswer (given_to meanings words held) (stopped (config_of words) why)
  refused_answer meanings held why (inl bad) =
      subst (λ w. IsTheAnswer (given_to meanings words held) (stopped (config_of words) w)) (sym bad.0)
      (the_bad_words (given_to meanings words held) bad.1)
  refused_answer meanings held why (inr many) =
      subst (λ w. IsTheAnswer (given_to meanings words held) (stopped (config_of words) w)) (sym many.1)
      (the_too_many (given_to meanings words held) many.0 many.2)

  words_settle : (why : StopCause) → RefusedFor why → IsSettled (Stopped why)
  words_settle why (inl bad) = subst (λ w. IsSettled (Stopped w)) (sym bad.0) tt
  words_settle why (inr many) = subst (λ w. IsSettled (Stopped w)) (sym many.1) tt

refusal_settles : (why : StopCause) → IsRefusal why → IsSettled (Stopped why)
refusal_settles cause.BadWords refusal = tt
refusal_settles (cause.TooMany names) refusal = tt
refusal_settles cause.ConfigMissing refusal = tt
refusal_settles (cause.BadConfig kind pointer) refusal = tt
refusal_settles (cause.NoFile name) refusal = tt
refusal_settles (cause.TooLong name) refusal = tt
refusal_settles (cause.CannotRead name) refusal = absurd refusal
refusal_settles (cause.TooMuch bytes) refusal = tt
refusal_settles (cause.CannotWrite name) refusal = absurd refusal
refusal_settles cause.CannotPrint refusal = absurd refusal

-- what a run is that stopped as a fresh one stops
record IsHalt (result : Status) : Type 1 where
  refused : IsRefused result
  silent : IsSilent result
  not_reported : IsReported result → ⊥
  not_done : IsDone result → ⊥
  read : (P : List ℕ → Type 0) → IfCannotRead result P
  write : (P : List ℕ → Type 0) → IfCannotWrite result P

settled_halt : (why : StopCause) → IsSettled (Stopped why) → IsHalt (Stopped why)
settled_halt cause.BadWords settled =
    record { refused = tt; silent = tt; not_reported = λ h. absurd h; not_done = λ h. absurd h; read = λ P. tt; write = λ P. tt }
settled_halt (cause.TooMany names) settled =
    record { refused = tt; silent = tt; not_reported = λ h. absurd h; not_done = λ h. absurd h; read = λ P. tt; write = λ P. tt }
settled_halt cause.ConfigMissing settled =
    record { refused = tt; silent = tt; not_reported = λ h. absurd h; not_done = λ h. absurd h; read = λ P. tt; write = λ P. tt }
settled_halt (cause.BadConfig kind pointer) settled =
    record { refused = tt; silent = tt; not_reported = λ h. absurd h; not_done = λ h. absurd h; read = λ P. tt; write = λ P. tt }
settled_halt (cause.NoFile name) settled =
    record { refused = tt; silent = tt; not_reported = λ h. absurd h; not_done = λ h. absurd h; read = λ P. tt; write = λ P. tt }
settled_halt (cause.TooLong name) settled =
    record { refused = tt; silent = tt; not_reported = λ h. absurd h; not_done = λ h. absurd h; read = λ P. tt; write = λ P. tt }
settled_halt (cause.CannotRead name) settled = absurd settled
settled_halt (cause.TooMuch bytes) settled =
    record { refused = tt; silent = tt; not_reported = λ h. absurd h; not_done = λ h. absurd h; read = λ P. tt; write = λ P. tt }
settled_halt (cause.CannotWrite name) settled = absurd settled
settled_halt cause.CannotPrint settled = absurd settled

module _ (meanings : List Meaning) (words : List (List ℕ)) (before now : Scene) (result : Status) where
  abbrev of_held : Held → Given
  of_held held = given_to meanings words held

  -- it stopped as a fresh run stops, and nothing but a line went out
  pub record Halts : Type 0 where
    pub why : StopCause
    pub is : result ≡ Stopped why
    pub settled : IsSettled (Stopped why)
    pub fresh : ForSome before.world.files.holds (λ held. IsTheAnswer (of_held held) (stopped (config_of words) why))
    pub files : now.world.files ≡ before.world.files
    pub out : now.world.out ≡ before.world.out
    pub told : IsTold before.world.err (fault_line (config_of words) why) now.world.err
    pub counts : now.counts ≡ before.counts

  -- the last failed call was that of a read
  pub record StopsAtRead : Type 0 where
    pub name : List ℕ
    pub is : result ≡ Stopped (cause.CannotRead name)
    pub failed : IsUnread words name before.world.files now.world.files
    pub holds : now.world.files.holds ≡ before.world.files.holds
    pub out : now.world.out ≡ before.world.out
    pub told : IsTold before.world.err (fault_line (config_of words) (cause.CannotRead name)) now.world.err
    pub counts : now.counts ≡ before.counts

  -- it made its report
  pub record Makes : Type 0 where
    pub made : Made
    pub for_words : IsMadeFor words made
    pub foretold : ForSome before.world.files.holds (λ held. IsForetold (of_held held) before.counts now.counts made)
    pub within : IsWithin words before.counts now.counts
    pub ends : Ends (config_of words) made before.world now.world result

  -- it was out of memory before that
  pub record LacksMemory : Type 0 where
    pub is : result ≡ NoMemory
    pub holds : now.world.files.holds ≡ before.world.files.holds
    pub out : now.world.out ≡ before.world.out
    pub fresh : ForSome before.world.files.holds (λ held. IsWithinFresh (of_held held) before.counts now.counts)
    pub within : IsWithin words before.counts now.counts

  pub data Course : Type 0 where
    halts : Halts → Course
    stops : StopsAtRead → Course
    makes : Makes → Course
    lacks : LacksMemory → Course

  pub course : Goes meanings words before now result → Course
  course (unplanned why refuses is files out told counts) = halts (record {
    why = why;
    is = is;
    settled = words_settle words why (refused_for words why refuses);
    fresh = λ held _. refused_answer words meanings held why (refused_for words why refuses);
    files = files;
    out = out;
    told = told;
    counts = counts;
  })
  course (refused plan why asks is refusal fresh files out told counts) = halts (record {
    why = why;
    is = is;
    settled = refusal_settles why refusal;
    fresh = λ held holds. subst (λ config. IsTheAnswer (of_held held) (stopped config why)) (sym (ap config_in asks)) (fresh held holds);
    files = files;
    out = out;
    told = told;
    counts = counts;
  })
  course (unread name is failed holds out told counts) = stops (record {
    name = name;
    is = is;
    failed = failed;
    holds = holds;
    out = out;
    told = told;
    counts = counts;
  })
  course (ended made for_words foretold within ends) = makes (record {
    made = made;
    for_words = for_words;
    foretold = foretold;
    within = within;
    ends = ends;
  })
  course (memoryless is holds out fresh within) = lacks (record {
    is = is;
    holds = holds;
    out = out;
    fresh = fresh;
    within = within;
  })

  halt : (run : Halts) → IsHalt result
  halt run = subst IsHalt (sym run.is) (settled_halt run.why run.settled)

  -- ---- a settled status

  pub course_fresh : Course → IsSettled result → ForSome before.world.files.holds (λ held.
      DoesAsFresh (of_held held) result (sinks before.world.out before.world.err) (sinks now.world.out now.world.err))
  course_fresh (halts run) settled = λ held holds. record {
    answer = stopped (config_of words) run.why;
    fresh = run.fresh held holds;
    status = run.is;
    printed = run.out ∙ nothing_sent before.world.out;
    told = run.told;
  }
  course_fresh (stops run) settled = absurd (subst IsSettled run.is settled)
  course_fresh (makes run) settled = λ held holds. let foretold = run.foretold held holds in
      ends_fresh (config_of words) run.made before.world now.world result (of_held held) foretold.linted foretold.heard foretold.fresh
      run.ends settled
  course_fresh (lacks run) settled = absurd (subst IsSettled run.is settled)

  pub course_writes : Course → IsWritten result → ForSome before.world.files.holds (λ held. HoldsAsFresh (of_held held) now.world.files)
  course_writes (halts run) written = λ held holds. record {
    answer = stopped (config_of words) run.why;
    fresh = run.fresh held holds;
    holds = ap (λ (f : FilesState). f.holds) run.files ∙ holds;
  }
  course_writes (stops run) written = absurd (subst IsWritten run.is written)
  course_writes (makes run) written = λ held holds. let foretold = run.foretold held holds in
      ends_writes (config_of words) run.made before.world now.world result (of_held held) foretold.linted foretold.heard foretold.fresh
      holds run.ends written
  course_writes (lacks run) written = absurd (subst IsWritten run.is written)

  pub course_complete : Course → (FilesFailed before.world.files now.world.files → ⊥) → (SinkFailed before.world.out now.world.out → ⊥) →
      IsSettled result ⊎ (result ≡ NoMemory)
  course_complete (halts run) no_files no_sink = inl (subst IsSettled (sym run.is) run.settled)
  course_complete (stops run) no_files no_sink = absurd (no_files run.failed.failed.rose)
  course_complete (makes run) no_files no_sink =
      ends_complete (config_of words) run.made before.world now.world result run.ends no_files no_sink
  course_complete (lacks run) no_files no_sink = inr run.is

  -- ---- words that are refused

  -- a cause of the words comes of them alone
  pub goes_refused : Goes meanings words before now result → (why : StopCause) → (IsRefusal why → ⊥) → IsRefused (Stopped why) →
      ((name : List ℕ) → why ≡ cause.CannotRead name → ⊥) → result ≡ Stopped why → RefusesWords words why
  goes_refused (unplanned why' refuses is files out told counts) why words_alone refusing reads h =
      subst (RefusesWords words) (same_cause (sym is ∙ h)) refuses
  goes_refused (refused plan why' asks is refusal fresh files out told counts) why words_alone refusing reads h =
      absurd (words_alone (subst IsRefusal (same_cause (sym is ∙ h)) refusal))
  goes_refused (unread name is failed holds out told counts) why words_alone refusing reads h =
      absurd (reads name (same_cause (sym h ∙ is)))
  goes_refused (ended made for_words foretold within ends) why words_alone refusing reads h =
      absurd (ends_not_refused (config_of words) made before.world now.world result ends (subst IsRefused (sym h) refusing))
  goes_refused (memoryless is holds out fresh within) why words_alone refusing reads h = absurd (not_stopped (sym is ∙ h))

  -- and such words are refused for it
  pub goes_unplanned : Goes meanings words before now result → (why : StopCause) → RefusesWords words why →
      IsUnlessNoMemory (Stopped why) result
  goes_unplanned (unplanned why' refuses' is files out told counts) why refuses =
      inl (is ∙ ap (λ w. Stopped w) (one_refusal words why' why (refused_for words why' refuses') (refused_for words why refuses)))
  goes_unplanned (refused plan why' asks is refusal fresh files out told counts) why refuses =
      absurd (no_plan words why (refused_for words why refuses) (Lint plan) asks)
  goes_unplanned (unread name is failed holds out told counts) why refuses =
      absurd (no_plan words why (refused_for words why refuses) (Lint failed.plan) failed.asks)
  goes_unplanned (ended made for_words foretold within ends) why refuses =
      absurd (no_plan words why (refused_for words why refuses) for_words.plan for_words.asks)
  goes_unplanned (memoryless is holds out fresh within) why refuses = inr is

  -- ---- faults of the outside

  pub course_cannot_read : Course → IfCannotRead result (λ name. IsUnread words name before.world.files now.world.files)
  course_cannot_read (halts run) = (halt run).read (λ name. IsUnread words name before.world.files now.world.files)
  course_cannot_read (stops run) =
      subst (λ status. IfCannotRead status (λ name. IsUnread words name before.world.files now.world.files)) (sym run.is) run.failed
  course_cannot_read (makes run) =
      ends_not_unread (config_of words) run.made before.world now.world result
      (λ name. IsUnread words name before.world.files now.world.files) run.ends
  course_cannot_read (lacks run) =
      subst (λ status. IfCannotRead status (λ name. IsUnread words name before.world.files now.world.files)) (sym run.is) tt

  pub course_cannot_write : Course → IfCannotWrite result (λ name. IsUnwritten words name before.world.files now.world.files)
  course_cannot_write (halts run) = (halt run).write (λ name. IsUnwritten words name before.world.files now.world.files)
  course_cannot_write (stops run) =
      subst (λ status. IfCannotWrite status (λ name. IsUnwritten words name before.world.files now.world.files)) (sym run.is) tt
  course_cannot_write (makes run) =
      ends_cannot_write (config_of words) run.made before.world now.world result words run.for_words run.ends
  course_cannot_write (lacks run) =
      subst (λ status. IfCannotWrite status (λ name. IsUnwritten words name before.world.files now.world.files)) (sym run.is) tt

  -- the file of a failed write is left as a fresh run's write leaves it
  abbrev WritesSoFar : List ℕ → Type 0
  WritesSoFar name = (held : Held) → before.world.files.holds ≡ Some held → WritesPart (of_held held) name before.world.files now.world.files

  pub course_half : Course → IfCannotWrite result WritesSoFar
  course_half (halts run) = (halt run).write WritesSoFar
  course_half (stops run) = subst (λ status. IfCannotWrite status WritesSoFar) (sym run.is) tt
  course_half (makes run) =
      ends_half (config_of words) run.made before.world now.world result of_held (λ held. refl)
      (λ held holds. let foretold = run.foretold held holds in (foretold.linted, (foretold.heard, foretold.fresh))) run.ends
  course_half (lacks run) = subst (λ status. IfCannotWrite status WritesSoFar) (sym run.is) tt

  pub course_cannot_print : Course → result ≡ Stopped cause.CannotPrint → SinkFailed before.world.out now.world.out
  course_cannot_print (halts run) h = absurd ((halt run).not_reported (subst IsReported (sym h) tt))
  course_cannot_print (stops run) h = absurd (subst IsRefused (sym run.is ∙ h) tt)
  course_cannot_print (makes run) h = ends_cannot_print (config_of words) run.made before.world now.world result run.ends h
  course_cannot_print (lacks run) h = absurd (not_stopped (sym run.is ∙ h))

  pub course_part : Course → result ≡ Stopped cause.CannotPrint →
      ForSome before.world.files.holds (λ held. PrintsPart (of_held held) before.world.out now.world.out)
  course_part (halts run) h = absurd ((halt run).not_reported (subst IsReported (sym h) tt))
  course_part (stops run) h = absurd (subst IsRefused (sym run.is ∙ h) tt)
  course_part (makes run) h = λ held holds. let foretold = run.foretold held holds in
      ends_part (config_of words) run.made before.world now.world result (of_held held) foretold.linted foretold.heard foretold.fresh run.ends h
  course_part (lacks run) h = absurd (not_stopped (sym run.is ∙ h))

  -- ---- what is told and printed

  pub course_told : Course → (why : StopCause) → result ≡ Stopped why →
      IsTold before.world.err (fault_line (config_of words) why) now.world.err
  course_told (halts run) why h =
      subst (λ w. IsTold before.world.err (fault_line (config_of words) w) now.world.err) (same_cause (sym run.is ∙ h)) run.told
  course_told (stops run) why h =
      subst (λ w. IsTold before.world.err (fault_line (config_of words) w) now.world.err) (same_cause (sym run.is ∙ h)) run.told
  course_told (makes run) why h = ends_told (config_of words) run.made before.world now.world result run.ends why h
  course_told (lacks run) why h = absurd (not_stopped (sym run.is ∙ h))

  pub course_quiet : Course → IsDone result → SetNoLimit words → now.world.err ≡ before.world.err
  course_quiet (halts run) h no_limit = absurd ((halt run).not_done h)
  course_quiet (stops run) h no_limit = absurd (subst IsDone run.is h)
  course_quiet (makes run) h no_limit =
      ends_quiet (config_of words) run.made before.world now.world result words run.for_words run.ends h no_limit
  course_quiet (lacks run) h no_limit = absurd (subst IsDone run.is h)

  pub course_silent : Course → IsSilent result → now.world.out ≡ before.world.out
  course_silent (halts run) h = run.out
  course_silent (stops run) h = run.out
  course_silent (makes run) h = ends_silent (config_of words) run.made before.world now.world result run.ends h
  course_silent (lacks run) h = run.out

  pub course_no_failure : Course → IsDone result → HasNotFailed before.world.files now.world.files
  course_no_failure (halts run) h = absurd ((halt run).not_done h)
  course_no_failure (stops run) h = absurd (subst IsDone run.is h)
  course_no_failure (makes run) h = ends_no_failure (config_of words) run.made before.world now.world result run.ends h
  course_no_failure (lacks run) h = absurd (subst IsDone run.is h)

  pub course_all_printed : Course → IsDone result → now.world.out.faults ≡ before.world.out.faults
  course_all_printed (halts run) h = ap (λ (s : SinkState). s.faults) run.out
  course_all_printed (stops run) h = ap (λ (s : SinkState). s.faults) run.out
  course_all_printed (makes run) h = ends_all_printed (config_of words) run.made before.world now.world result run.ends h
  course_all_printed (lacks run) h = ap (λ (s : SinkState). s.faults) run.out

  pub course_some_printed : Course → result ≡ NoMemory →
      ForSome before.world.files.holds (λ held. PrintsSome (of_held held) before.world.out now.world.out)
  course_some_printed (halts run) h = λ held holds. inl run.out
  course_some_printed (stops run) h = λ held holds. inl run.out
  course_some_printed (makes run) h = λ held holds. let foretold = run.foretold held holds in
      ends_some_printed (config_of words) run.made before.world now.world result (of_held held) foretold.linted foretold.heard foretold.fresh
      run.ends h
  course_some_printed (lacks run) h = λ held holds. inl run.out

  -- ---- what is left of the files

  pub course_reads : Course → AskNoFixes words → now.world.files.holds ≡ before.world.files.holds
  course_reads (halts run) no_fixes = ap (λ (f : FilesState). f.holds) run.files
  course_reads (stops run) no_fixes = run.holds
  course_reads (makes run) no_fixes =
      ends_reads (config_of words) run.made before.world now.world result words run.for_words run.ends no_fixes
  course_reads (lacks run) no_fixes = run.holds

  pub course_refused : Course → IsRefused result → now.world.files.holds ≡ before.world.files.holds
  course_refused (halts run) h = ap (λ (f : FilesState). f.holds) run.files
  course_refused (stops run) h = run.holds
  course_refused (makes run) h = absurd (ends_not_refused (config_of words) run.made before.world now.world result run.ends h)
  course_refused (lacks run) h = run.holds

  pub course_left : Course → result ≡ NoMemory →
      ForSome before.world.files.holds (λ held. LeavesFiles (of_held held) before.world.files now.world.files)
  course_left (halts run) h = absurd (not_stopped (sym h ∙ run.is))
  course_left (stops run) h = absurd (not_stopped (sym h ∙ run.is))
  course_left (makes run) h = λ held holds. let foretold = run.foretold held holds in
      ends_left (config_of words) run.made before.world now.world result (of_held held) foretold.linted foretold.heard foretold.fresh
      holds run.ends h
  course_left (lacks run) h = λ held holds. inl run.holds

  -- ---- counts

  same_lints : now.counts ≡ before.counts → now.counts.lints ≡ before.counts.lints
  same_lints same = ap (λ (c : Counts). c.lints) same

  same_steps : now.counts ≡ before.counts → now.counts.steps ≡ before.counts.steps
  same_steps same = ap (λ (c : Counts). c.steps) same

  heard_none : now.counts ≡ before.counts → (most : ℕ) → HeardAtMost most before.counts.lints now.counts.lints
  heard_none same most = record { times = 0; few = omega (arith); first = same_lints same ∙ never_heard before.counts.lints }

  no_more_steps : now.counts ≡ before.counts → (most : ℕ) → now.counts.steps ≤ before.counts.steps + most
  no_more_steps same most = let is = same_steps same in omega (arith, is)

  pub course_listens : Course → IsReported result →
      ForSome before.world.files.holds (λ held. ListensAsFresh (of_held held) before.counts.lints now.counts.lints)
  course_listens (halts run) h = absurd ((halt run).not_reported h)
  course_listens (stops run) h = absurd (subst IsReported run.is h)
  course_listens (makes run) h = λ held holds. let foretold = run.foretold held holds in
      record { answer = answer_of run.made foretold.linted foretold.heard; fresh = foretold.fresh; listens = foretold.listens }
  course_listens (lacks run) h = absurd (subst IsReported run.is h)

  pub course_rests : Course → IsRefused result → now.counts.lints ≡ before.counts.lints
  course_rests (halts run) h = same_lints run.counts
  course_rests (stops run) h = same_lints run.counts
  course_rests (makes run) h = absurd (ends_not_refused (config_of words) run.made before.world now.world result run.ends h)
  course_rests (lacks run) h = absurd (subst IsRefused run.is h)

  pub course_lintings : Course →
      ForSome before.world.files.holds (λ held. ListensAtMostAsFresh (of_held held) before.counts.lints now.counts.lints)
  course_lintings (halts run) = λ held holds answer fresh. heard_none run.counts answer.heard
  course_lintings (stops run) = λ held holds answer fresh. heard_none run.counts answer.heard
  course_lintings (makes run) = λ held holds answer fresh. let foretold = run.foretold held holds in
      subst (λ heard. HeardAtMost heard before.counts.lints now.counts.lints)
      (sym (ap (λ (a : Answer). a.heard) (foretold.fresh.only answer fresh)))
      (record { times = foretold.heard; few = omega (arith); first = foretold.listens })
  course_lintings (lacks run) = λ held holds. (run.fresh held holds).listens

  pub course_most : Course → HeardAtMost (most_lintings words) before.counts.lints now.counts.lints
  course_most (halts run) = heard_none run.counts (most_lintings words)
  course_most (stops run) = heard_none run.counts (most_lintings words)
  course_most (makes run) = run.within.listens
  course_most (lacks run) = run.within.listens

  pub course_ticked : Course → IsReported result →
      ForSome before.world.files.holds (λ held. StepsAsFresh (of_held held) before.counts.steps now.counts.steps)
  course_ticked (halts run) h = absurd ((halt run).not_reported h)
  course_ticked (stops run) h = absurd (subst IsReported run.is h)
  course_ticked (makes run) h = λ held holds. let foretold = run.foretold held holds in
      record { answer = answer_of run.made foretold.linted foretold.heard; fresh = foretold.fresh; steps = foretold.steps }
  course_ticked (lacks run) h = absurd (subst IsReported run.is h)

  pub course_no_tick : Course → IsRefused result → now.counts.steps ≡ before.counts.steps
  course_no_tick (halts run) h = same_steps run.counts
  course_no_tick (stops run) h = same_steps run.counts
  course_no_tick (makes run) h = absurd (ends_not_refused (config_of words) run.made before.world now.world result run.ends h)
  course_no_tick (lacks run) h = absurd (subst IsRefused run.is h)

  pub course_ticks : Course →
      ForSome before.world.files.holds (λ held. StepsAtMostAsFresh (of_held held) before.counts.steps now.counts.steps)
  course_ticks (halts run) = λ held holds answer fresh. no_more_steps run.counts answer.linted
  course_ticks (stops run) = λ held holds answer fresh. no_more_steps run.counts answer.linted
  course_ticks (makes run) = λ held holds answer fresh. let foretold = run.foretold held holds in
      let is = foretold.steps in
      let linted = ap (λ (a : Answer). a.linted) (foretold.fresh.only answer fresh) in
      omega (arith, is, linted)
  course_ticks (lacks run) = λ held holds. (run.fresh held holds).steps

  pub course_few_ticks : Course → now.counts.steps ≤ before.counts.steps + most_steps words
  course_few_ticks (halts run) = no_more_steps run.counts (most_steps words)
  course_few_ticks (stops run) = no_more_steps run.counts (most_steps words)
  course_few_ticks (makes run) = run.within.steps
  course_few_ticks (lacks run) = run.within.steps
