-- How a run goes, by what its work answers and how it ends.
use Rattle.std.proofs.Common.{◌≡◌, ◌∙◌, ℕ, ◌+◌, ◌≤◌, List, [], length, ap, refl, subst, sym, arith, inl, inr, slice_index_or, slice_set}
use Rattle.std.specs.Prelude.{Err, Ok, map, string_bytes}
use Rattle.std.specs.Option.{ForSome}
use Rattle.es_files.specs.Outside.{FilesState, Held, SinkState}
use Rattle.es_host.specs.Kits.{KitOf, meanings_of}
use Rattle.es_host.specs.Meanings.{Meaning}
use Rattle.es_lint.specs.Results.{AtMost}
use Rattle.es_messages.specs.declared.message.FileResult.{FileResult}
use Rattle.es_plan.specs.declared.plan.LintPlan.{LintPlan}
use Rattle.es_plan.specs.declared.plan.Plan.TheVariants.{Generate, Lint}
use Rattle.es_plan.specs.Plans.{plan_of}
use Rattle.es_settings.specs.declared.mode.Mode.TheVariants.{Report}
use Rattle.es_run.specs.declared.reporting.Made.{Made}
use Rattle.es_run.specs.declared.status.Fault.{Fault}
use Rattle.es_run.specs.declared.status.Fault.TheVariants as fault
use Rattle.es_run.specs.declared.status.Status.{Status}
use Rattle.es_run.specs.declared.status.Status.TheVariants.{NoMemory, Stopped}
use Rattle.es_run.specs.declared.status.StopCause.{StopCause}
use Rattle.es_run.specs.declared.status.StopCause.TheVariants as cause
use Rattle.es_run.specs.Courses.{Counts, Goes, IsForetold, IsMadeFor, IsRefusal, IsWithin, IsWithinFresh, answer_of, counts, ended, given_to, memoryless, refused, scene, unplanned, unread}
use Rattle.es_run.specs.Ends.{Ends, world}
use Rattle.es_run.specs.Fresh.{Answer, Fresh, FreshPlan, Given, IsTheAnswer, bad_words, generated_part, of_plan, of_text, planned, stopped, told_of_text, too_many}
use Rattle.es_run.specs.Generated.{IsReportOnText, generated_line, generated_status, generated_text, set_text}
use Rattle.es_run.specs.Gathering.{IsOneOf}
use Rattle.es_run.specs.Kits.{HeardAtMost, first_meanings, lints_of}
use Rattle.es_run.specs.Linting.{ComesTo}
use Rattle.es_run.specs.Runs.{IsTold, IsUnlessNoMemory, RefusesWords, config_in, config_of, limit_in, mode_in, most_lintings_in, most_steps_in}
use Rattle.es_run.specs.Stages.{ListensAtMost, done_status, write_in}
use Rattle.es_run.specs.Statuses.{fault_line}
use Rattle.es_run.specs.Works.{IsMadeOf, IsThePlans, IsToldOf, IsUnreadOf, KitCounts, StaysWithin, StaysWithinFresh, Worked, kit_counts, planned_by}
use Rattle.es_run.proofs.FreshLemmas.{count_is, lint_generate, lint_is, plan_fault, the_plan, the_text}
use Rattle.es_run.proofs.KitsLemmas.{first_at_most, first_kit, first_listened, first_rests, never_heard}

-- ---- counts that stay

-- a run that doesn't come to linting is within what a fresh run does
stays_fresh : (given : Given) (before now : Counts) → now ≡ before → IsWithinFresh given before now
stays_fresh given before now same = subst (IsWithinFresh given before) (sym same) (record {
  listens = λ answer fresh. never_heard answer.heard before.lints;
  steps = λ answer fresh. omega arith;
})

stays_within : (words : List (List ℕ)) (before now : Counts) → now ≡ before → IsWithin words before now
stays_within words before now same = subst (IsWithin words before) (sym same) (record {
  listens = never_heard _ before.lints;
  steps = omega arith;
})

module _ (meanings : List Meaning) (words : List (List ℕ)) (files files' : FilesState) (out err err' : SinkState)
    (before now : Counts) (result : Status) where
  abbrev GoesSo : Type 0
  GoesSo = Goes meanings words (scene (world files out err) before) (scene (world files' out err') now) result

  -- out of memory before anything is linted
  pub idle : result ≡ NoMemory → files'.holds ≡ files.holds → now ≡ before → GoesSo
  idle is holds same =
      memoryless is holds refl (λ held _. stays_fresh (given_to meanings words held) before now same)
      (stays_within words before now same)

  -- the words are refused
  pub words_refused : (why : StopCause) → RefusesWords words why → IsUnlessNoMemory (Stopped why) result →
      (result ≡ Stopped why → IsTold err (fault_line (config_of words) why) err') → files' ≡ files → now ≡ before → GoesSo
  words_refused why refuses (inl is) told same still = unplanned why refuses is same refl (told is) still
  words_refused why refuses (inr is) told same still = idle is (ap (λ (f : FilesState). f.holds) same) still

-- ---- a run of a plan

module _ (given : Given) where
  -- what a fresh run of these words gives, a fresh run of their plan gives
  plan_fresh : (plan : LintPlan) (answer : Answer) → plan_of given.words ≡ Ok (Lint plan) → Fresh given answer →
      FreshPlan (planned given plan) answer
  plan_fresh plan answer asks (bad_words asks' is) = absurd (plan_fault (sym asks ∙ asks'))
  plan_fresh plan answer asks (too_many names asks' is) = absurd (plan_fault (sym asks ∙ asks'))
  plan_fresh plan answer asks (of_plan plan' asks' fresh) =
      subst (λ p. FreshPlan (planned given p) answer) (lint_is (sym asks' ∙ asks)) fresh
  plan_fresh plan answer asks (of_text count told heard asks' come is) = absurd (lint_generate (sym asks ∙ asks'))

  -- and what it gives for words that ask for a text, it tells of that text
  text_fresh : (count : ℕ) (answer : Answer) → plan_of given.words ≡ Ok (Generate count) → Fresh given answer →
      (told : FileResult) × (heard : ℕ) × ComesTo given.meanings Report (generated_part given.meanings count) told heard
      × (answer ≡ told_of_text count told heard)
  text_fresh count answer asks (bad_words asks' is) = absurd (plan_fault (sym asks ∙ asks'))
  text_fresh count answer asks (too_many names asks' is) = absurd (plan_fault (sym asks ∙ asks'))
  text_fresh count answer asks (of_plan plan asks' fresh) = absurd (lint_generate (sym asks' ∙ asks))
  text_fresh count answer asks (of_text count' told heard asks' come is) =
      let same = count_is (sym asks' ∙ asks) in (
        told,
        heard,
        subst (λ c. ComesTo given.meanings Report (generated_part given.meanings c) told heard) same come,
        is ∙ ap (λ c. told_of_text c told heard) same,
      )

module _ {R : Type 0} (meaning : R → Meaning) (kits : List (KitOf R)) (old new : KitOf R) (steps steps' : ℕ)
    (some : 1 ≤ length kits) (here : old ≡ slice_index_or kits 0 old) (words : List (List ℕ)) where
  abbrev meanings : List Meaning
  meanings = first_meanings meaning kits

  abbrev before : Counts
  before = counts (lints_of kits) steps

  abbrev now : Counts
  now = counts (lints_of (slice_set kits 0 new)) steps'

  abbrev from : KitCounts
  from = kit_counts old.lints steps

  abbrev to : KitCounts
  to = kit_counts new.lints steps'

  same_meanings : meanings_of meaning old ≡ meanings
  same_meanings = first_kit old new meaning kits some here

  module _ (plan : LintPlan) (asks : plan_of words ≡ Ok (Lint plan)) where
    config_is : plan.config ≡ config_of words
    config_is = sym (ap config_in asks)

    made_for : (made : Made) → IsMadeOf plan made → IsMadeFor words made
    made_for made of = record {
      plan = Lint plan;
      asks = asks;
      quiet = λ unlimited. of.quiet (sym (ap limit_in asks) ∙ unlimited);
      reads = λ fixless. of.reads (sym (ap mode_in asks) ∙ fixless);
      asked = λ linted asks' write one.
          subst (λ (p : LintPlan). IsOneOf p.names write.name) (lint_is (sym asks ∙ asks')) (of.asked write one);
    }

    within : StaysWithin plan from to → IsWithin words before now
    within stays = record {
      listens =
          subst (λ most. HeardAtMost most before.lints now.lints) (sym (ap most_lintings_in asks))
          (first_at_most old new kits _ some here stays.listens);
      steps = subst (λ most. steps' ≤ steps + most) (sym (ap most_steps_in asks)) stays.steps;
    }

    within_fresh : (held : Held) → StaysWithinFresh (planned_by (meanings_of meaning old) plan held) from to →
        IsWithinFresh (given_to meanings words held) before now
    within_fresh held stays =
        let law = subst (λ ms. StaysWithinFresh (planned_by ms plan held) from to) same_meanings stays in
        record {
          listens = λ answer fresh.
              first_at_most old new kits answer.heard some here
              (law answer (plan_fresh (given_to meanings words held) plan answer asks fresh)).0;
          steps = λ answer fresh. (law answer (plan_fresh (given_to meanings words held) plan answer asks fresh)).1;
        }

    foretold : (held : Held) (made : Made) → IsToldOf (planned_by (meanings_of meaning old) plan held) from to made →
        IsForetold (given_to meanings words held) before now made
    foretold held made told =
        let here_told = subst (λ ms. IsToldOf (planned_by ms plan held) from to made) same_meanings told in
        record {
          linted = here_told.linted;
          heard = here_told.heard;
          fresh =
              the_plan (given_to meanings words held) plan (answer_of made here_told.linted here_told.heard) asks
              (here_told.fresh.gives, here_told.fresh.only);
          listens = first_listened old new kits here_told.heard some here here_told.listens;
          steps = here_told.steps;
        }

    module _ (files worked : FilesState) (out err : SinkState) (result : Status) where
      -- it makes its report, and ends
      pub plan_ended : (files' : FilesState) (out' err' : SinkState) (made : Made) →
          Worked (meanings_of meaning old) plan files worked from to (Ok made) →
          Ends plan.config made (world worked out err) (world files' out' err') result →
          Goes meanings words (scene (world files out err) before) (scene (world files' out' err') now) result
      plan_ended files' out' err' made work ends =
          ended made (made_for made work.1.0) (λ held is. foretold held made (work.0 held is)) (within work.1.1.0)
          (subst (λ config. Ends config made (world files out err) (world files' out' err') result) config_is
          (subst (λ start. Ends plan.config made (world start out err) (world files' out' err') result) work.1.1.1 ends))

      module _ (err' : SinkState) where
        abbrev GoesOn : Type 0
        GoesOn = Goes meanings words (scene (world files out err) before) (scene (world worked out err') now) result

        told_here : (why : StopCause) → IsTold err (fault_line plan.config why) err' → IsTold err (fault_line (config_of words) why) err'
        told_here why told = subst (λ config. IsTold err (fault_line config why) err') config_is told

        still : to ≡ from → now ≡ before
        still same = first_rests old new kits steps steps' some here same

        abbrev WorkedOf : Fault → Type 0
        WorkedOf told = Worked (meanings_of meaning old) plan files worked from to (Err told)

        memoryless_so : WorkedOf fault.NoMemory → result ≡ NoMemory → GoesOn
        memoryless_so work is =
            memoryless is work.0 refl (λ held told. within_fresh held (work.1.0 held told)) (within work.1.1)

        -- it is out of memory
        pub plan_memoryless : (told : Fault) → told ≡ fault.NoMemory → WorkedOf told → result ≡ NoMemory → GoesOn
        plan_memoryless told same work is = memoryless_so (subst WorkedOf same work) is

        abbrev Refuses : StopCause → Type 0
        Refuses why =
            IsRefusal why × (ForSome files.holds (λ held. IsThePlans (planned_by (meanings_of meaning old) plan held) (stopped plan.config why))
            × ((worked ≡ files) × (to ≡ from)))

        the_refusal : (why : StopCause) (held : Held) →
            IsThePlans (planned_by (meanings_of meaning old) plan held) (stopped plan.config why) →
            IsThePlans (planned_by meanings plan held) (stopped plan.config why)
        the_refusal why held one = subst (λ ms. IsThePlans (planned_by ms plan held) (stopped plan.config why)) same_meanings one

        plan_refused : (why : StopCause) → Refuses why → IsUnlessNoMemory (Stopped why) result →
            (result ≡ Stopped why → IsTold err (fault_line plan.config why) err') → GoesOn
        plan_refused why refuses (inl is) told =
            refused plan why asks is refuses.0
            (λ held holds.
            let one = the_refusal why held (refuses.1.0 held holds) in
            the_plan (given_to meanings words held) plan (stopped plan.config why) asks (one.gives, one.only))
            refuses.1.1.0 refl (told_here why (told is)) (still refuses.1.1.1)
        plan_refused why refuses (inr is) told =
            idle meanings words files worked out err err' before now result is (ap (λ (f : FilesState). f.holds) refuses.1.1.0) (still refuses.1.1.1)

        plan_unread : (name : List ℕ) → IsUnreadOf plan name files worked → worked.holds ≡ files.holds → to ≡ from →
            IsUnlessNoMemory (Stopped (cause.CannotRead name)) result →
            (result ≡ Stopped (cause.CannotRead name) → IsTold err (fault_line plan.config (cause.CannotRead name)) err') → GoesOn
        plan_unread name of holds same (inl is) told =
            unread name is (record { plan = plan; asks = asks; asked = of.0; failed = of.1 }) holds refl
            (told_here (cause.CannotRead name) (told is)) (still same)
        plan_unread name of holds same (inr is) told =
            idle meanings words files worked out err err' before now result is holds (still same)

        stopped_so : (why : StopCause) → WorkedOf (fault.Stop why) → IsUnlessNoMemory (Stopped why) result →
            (result ≡ Stopped why → IsTold err (fault_line plan.config why) err') → GoesOn
        stopped_so cause.BadWords work = plan_refused cause.BadWords work
        stopped_so (cause.TooMany names) work = plan_refused (cause.TooMany names) work
        stopped_so cause.ConfigMissing work = plan_refused cause.ConfigMissing work
        stopped_so (cause.BadConfig kind pointer) work = plan_refused (cause.BadConfig kind pointer) work
        stopped_so (cause.NoFile name) work = plan_refused (cause.NoFile name) work
        stopped_so (cause.TooLong name) work = plan_refused (cause.TooLong name) work
        stopped_so (cause.CannotRead name) work = plan_unread name work.0 work.1.0 work.1.1
        stopped_so (cause.TooMuch bytes) work = plan_refused (cause.TooMuch bytes) work
        stopped_so (cause.CannotWrite name) work = plan_refused (cause.CannotWrite name) work
        stopped_so cause.CannotPrint work = plan_refused cause.CannotPrint work

        -- it stops
        pub plan_stopped : (told : Fault) (why : StopCause) → told ≡ fault.Stop why → WorkedOf told →
            IsUnlessNoMemory (Stopped why) result → (result ≡ Stopped why → IsTold err (fault_line plan.config why) err') → GoesOn
        plan_stopped told why same work = stopped_so why (subst WorkedOf same work)

  -- ---- a run of a text

  module _ (count : ℕ) (asks : plan_of words ≡ Ok (Generate count)) where
    text_answer : (made : Made) (told : FileResult) (heard : ℕ) → done_status made.clean ≡ generated_status told.messages →
        map write_in made.writes.items ≡ [] → string_bytes made.text ≡ generated_line count told.messages →
        string_bytes made.line ≡ [] → told_of_text count told heard ≡ answer_of made 1 heard
    text_answer made told heard status writes text line = cc

    text_made : (made : Made) → made.writes.items ≡ [] → string_bytes made.line ≡ [] → IsMadeFor words made
    text_made made writes line = record {
      plan = Generate count;
      asks = asks;
      quiet = λ unlimited. line;
      reads = λ fixless. writes;
      asked = λ linted asks' write one. absurd (lint_generate (sym asks' ∙ asks));
    }

    text_within : AtMost 1 old.lints new.lints → steps' ≤ steps + 1 → IsWithin words before now
    text_within most few = record {
      listens =
          subst (λ most. HeardAtMost most before.lints now.lints) (sym (ap most_lintings_in asks))
          (first_at_most old new kits 1 some here most);
      steps = subst (λ most. steps' ≤ steps + most) (sym (ap most_steps_in asks)) few;
    }

    text_foretold : (made : Made) → IsReportOnText (meanings_of meaning old) count old.lints new.lints made → steps' ≡ steps + 1 →
        (held : Held) → IsForetold (given_to meanings words held) before now made
    text_foretold made on ticked held =
        let report = subst (λ ms. IsReportOnText ms count old.lints new.lints made) same_meanings on in
        let given = given_to meanings words held in
        record {
          linted = 1;
          heard = report.linted.heard;
          fresh =
              subst (IsTheAnswer given)
              (text_answer made report.told report.linted.heard report.clean report.writes report.text report.line)
              (the_text given count report.told old.lints new.lints report.linted asks);
          listens = first_listened old new kits report.linted.heard some here report.linted.lints;
          steps = ticked;
        }

    abbrev ListensToText : List Meaning → Type 0
    ListensToText ms = ListensAtMost ms Report (set_text (length ms) (generated_text count)) old.lints new.lints

    text_within_fresh : ListensToText (meanings_of meaning old) → steps' ≤ steps + 1 → (held : Held) →
        IsWithinFresh (given_to meanings words held) before now
    text_within_fresh listens few held =
        let law = subst ListensToText same_meanings listens in
        let given = given_to meanings words held in
        record {
          listens = λ answer fresh.
              let of = text_fresh given count answer asks fresh in
              subst (λ (a : Answer). HeardAtMost a.heard before.lints now.lints) (sym of.3)
              (first_at_most old new kits of.1 some here (law of.0 of.1 of.2));
          steps = λ answer fresh.
              subst (λ (a : Answer). steps' ≤ steps + a.linted) (sym (text_fresh given count answer asks fresh).3) few;
        }

    module _ (files : FilesState) (out err : SinkState) (result : Status) where
      -- it makes its report, and ends
      pub text_ended : (files' : FilesState) (out' err' : SinkState) (config : List ℕ) (made : Made) → config ≡ [] →
          IsReportOnText (meanings_of meaning old) count old.lints new.lints made → made.writes.items ≡ [] → steps' ≡ steps + 1 →
          AtMost 1 old.lints new.lints → Ends config made (world files out err) (world files' out' err') result →
          Goes meanings words (scene (world files out err) before) (scene (world files' out' err') now) result
      text_ended files' out' err' config made unnamed on writes ticked most ends =
          ended made (text_made made writes on.line) (λ held _. text_foretold made on ticked held)
          (text_within most (omega (arith, ticked)))
          (subst (λ name. Ends name made (world files out err) (world files' out' err') result) (unnamed ∙ sym (ap config_in asks)) ends)

      -- it is out of memory
      pub text_memoryless : (err' : SinkState) → ListensToText (meanings_of meaning old) → steps' ≤ steps + 1 →
          AtMost 1 old.lints new.lints → result ≡ NoMemory →
          Goes meanings words (scene (world files out err) before) (scene (world files out err') now) result
      text_memoryless err' listens few most is =
          memoryless is refl refl (λ held _. text_within_fresh listens few held) (text_within most few)
