-- What the work of a run of a plan answers, stage by stage.
use Rattle.std.proofs.Common.{◌≡◌, ◌∙◌, ℕ, suc, ◌+◌, ◌*◌, ◌≤◌, List, [], ◌∷◌, ◌++◌, Some, None, Ok, Err, All, ap, append_assoc, arith, inl, inr, length, map, refl, subst, sym}
use Rattle.std.proofs.lemmas.List.{length-map, map-append}
use Rattle.std.proofs.lemmas.List.Elements.{All-append, All-cons, All-head, All-nil, All-tail, All-weaker}
use Rattle.std.proofs.lemmas.Str.{encode_same, length-le-encodes}
use Rattle.std.specs.Option.{ForSome}
use Rattle.std.specs.Prelude.{Option, encode_utf8_all, string_bytes}
use Rattle.es_text.specs.Texts.{text_of}
use Rattle.es_settings.specs.Rules.{DoWithoutOptions}
use Rattle.es_settings.specs.Settings.{Options}
use Rattle.std.proofs.lemmas.Option.{unwrap_or-slice_get}
use Rattle.es_settings.specs.declared.mode.Mode.{Mode}
use Rattle.es_settings.specs.declared.mode.Mode.TheVariants.{Report}
use Rattle.es_settings.specs.declared.verdict.Verdict.{Verdict}
use Rattle.es_settings.specs.declared.verdict.Verdict.TheVariants.{Fine}
use Rattle.es_config.specs.Configurations.{AreTakenChanges, Configuration}
use Rattle.es_config.specs.Entries.{Layer, layers_of}
use Rattle.es_config.specs.Outcomes.{outcome_for, outcome_in}
use Rattle.es_files.specs.Outside.{FilesState, HasFailed, Held, reading}
use Rattle.es_format.specs.Stylish.{Named, all_messages}
use Rattle.es_host.specs.Meanings.{Meaning, meaning_at, silence}
use Rattle.es_lint.specs.Passes.{most_passes}
use Rattle.es_lint.specs.Results.{AtMost, output_of}
use Rattle.es_messages.specs.declared.message.FileResult.{FileResult}
use Rattle.es_plan.specs.declared.plan.LintPlan.{LintPlan}
use Rattle.es_run.specs.declared.gathering.Part.{Part}
use Rattle.es_run.specs.declared.gathering.Part.TheVariants as parts
use Rattle.es_run.specs.declared.reporting.Made.{Made}
use Rattle.es_run.specs.declared.reporting.Write.{Write}
use Rattle.es_run.specs.declared.status.Fault.{Fault}
use Rattle.es_run.specs.declared.status.Fault.TheVariants as fault
use Rattle.es_run.specs.declared.status.Status.{Status}
use Rattle.es_run.specs.declared.status.StopCause.{StopCause}
use Rattle.es_run.specs.declared.status.StopCause.TheVariants as cause
use Rattle.es_run.specs.Courses.{answer_of}
use Rattle.es_run.specs.Fresh.{Answer, Planned, reported, rules_of, stopped}
use Rattle.es_run.specs.Gathering as gathering
use Rattle.es_run.specs.Gathering.{IsOneOf, gathered}
use Rattle.es_run.specs.Linting.{ComeToAll, ComesTo, linted_count}
use Rattle.es_run.specs.Reporting.{Writing, report_of, status_of, writes_of, writing_of}
use Rattle.es_run.specs.Stages.{AreLinted, BlamesNames, FitsPart, IsConfigured, IsGatheredAs, IsPrepared, IsReportOn, IsUnconfigured, KeepsPart, ListenAtMost, blames_config, name_in, named_part_in, write_in}
use Rattle.es_run.specs.Works.{IsMadeOf, IsThePlans, IsToldOf, KitCounts, StaysWithin, StaysWithinFresh, Worked, planned_by}
use Rattle.es_run.proofs.FreshLemmas.{OnlyPlan, done_shape, gathered_by, only_done, only_refused, only_unset}

-- ---- names and their bytes

-- names of the same bytes are the same
pub same_name : (some others : List ℕ) → encode_utf8_all some ≡ encode_utf8_all others → some ≡ others
same_name [] [] same = refl
same_name [] (d ∷ others) same =
    let long = length-le-encodes (d ∷ others) in let none = ap length same in absurd (omega (arith, long, none))
same_name (c ∷ some) [] same =
    let long = length-le-encodes (c ∷ some) in let none = ap length same in absurd (omega (arith, long, none))
same_name (c ∷ some) (d ∷ others) same =
    let heads = encode_same c d (encode_utf8_all some) (encode_utf8_all others) same in
    ap (λ h. h ∷ some) heads.0 ∙ ap (λ t. d ∷ t) (same_name some others heads.1)

one_of : {X : Type 0} (P : X → Type 0) (earlier : List X) (x : X) (later : List X) → All P (earlier ++ x ∷ later) → P x
one_of P [] x later all = All-head P x later all
one_of P (e ∷ earlier) x later all = one_of P earlier x later (All-tail P e (earlier ++ x ∷ later) all)

-- ---- a run without fixes writes nothing

module _ (meanings : List Meaning) where
  one_silent : (part : gathering.Part) (result : FileResult) (heard : ℕ) → ComesTo meanings Report part result heard → result.output ≡ None
  one_silent (gathering.source settings bytes) result heard comes =
      ap (λ (r : FileResult). r.output) comes.2 ∙ ap (output_of (text_of bytes).marked) comes.1.1.1
  one_silent (gathering.left_out text) result heard comes = ap (λ (r : FileResult). r.output) comes.0

  no_writes : (all : List gathering.NamedPart) (results : List Named) (heard : ℕ) →
      ComeToAll meanings Report all results heard → writes_of results ≡ []
  no_writes [] results heard come = ap writes_of come.0
  no_writes (part ∷ all) results heard come =
      ap writes_of come.3.3
      ∙ ap (λ output. writing_of part.0 output ++ writes_of come.3.0) (one_silent part.1 come.0 come.1 come.2)
      ∙ no_writes all come.3.0 come.3.1 come.3.2

-- ---- what is written has names of the plan

-- a writing under one of these names
abbrev IsNamed : List (List ℕ) → Writing → Type 0
IsNamed names writing = (name : List ℕ) × IsOneOf names name × (writing.name ≡ encode_utf8_all name)

one_named : (names : List (List ℕ)) (name : List ℕ) (output : Option (List ℕ)) → IsOneOf names name → All (IsNamed names) (writing_of name output)
one_named names name None among = All-nil (IsNamed names)
one_named names name (Some text) among =
    All-cons (IsNamed names) (record { name = encode_utf8_all name; bytes = encode_utf8_all text }) [] (name, among, refl) (All-nil (IsNamed names))

all_named : (names earlier : List (List ℕ)) (results : List Named) → names ≡ earlier ++ map (λ (named : Named). named.0) results →
    All (IsNamed names) (writes_of results)
all_named names earlier [] listed = All-nil (IsNamed names)
all_named names earlier (named ∷ results) listed =
    All-append (IsNamed names) (writing_of named.0 named.1.output) (writes_of results)
    (one_named names named.0 named.1.output (record { earlier = earlier; later = map (λ (n : Named). n.0) results; listed = listed }))
    (all_named names (earlier ++ named.0 ∷ []) results
    (listed ∙ sym (append_assoc earlier (named.0 ∷ []) (map (λ (n : Named). n.0) results))))

-- results have the names of what they are of
result_names : (meanings : List Meaning) (mode : Mode) (all : List gathering.NamedPart) (results : List Named) (heard : ℕ) →
    ComeToAll meanings mode all results heard → map (λ (named : Named). named.0) results ≡ map (λ (part : gathering.NamedPart). part.0) all
result_names meanings mode [] results heard come = ap (map (λ (named : Named). named.0)) come.0
result_names meanings mode (part ∷ all) results heard come =
    ap (map (λ (named : Named). named.0)) come.3.3
    ∙ ap (λ names. part.0 ∷ names) (result_names meanings mode all come.3.0 come.3.1 come.3.2)

part_names : (all : List (List ℕ × Part)) → map (λ (part : gathering.NamedPart). part.0) (map named_part_in all) ≡ map name_in all
part_names [] = refl
part_names (part ∷ all) = ap (λ names. part.0 ∷ names) (part_names all)

written_name : (names : List (List ℕ)) (writes : List Write) (writings : List Writing) → map write_in writes ≡ writings →
    All (IsNamed names) writings → (write : Write) → IsOneOf writes write → IsOneOf names write.name
written_name names writes writings is all write among =
    let named = one_of (IsNamed names) (map write_in among.earlier) (write_in write) (map write_in among.later)
    (subst (All (IsNamed names)) (sym is ∙ ap (map write_in) among.listed ∙ map-append write_in among.earlier (write ∷ among.later)) all) in
    subst (IsOneOf names) (sym (same_name write.name named.0 named.2)) named.1

-- ---- how many files are linted

linted_few : (all : List gathering.NamedPart) → linted_count all ≤ length all
linted_few [] = omega arith
linted_few ((name, gathering.source settings bytes) ∷ all) = let few = linted_few all in omega (arith, few)
linted_few ((name, gathering.left_out text) ∷ all) = let few = linted_few all in omega (arith, few)

module _ (meanings : List Meaning) (plan : LintPlan) (before : FilesState) where
  abbrev under : Held → Planned
  under held = planned_by meanings plan held

  as_plans : (given : Planned) (answer : Answer) → OnlyPlan given answer → IsThePlans given answer
  as_plans given answer only = record { gives = only.0; only = only.1 }

  -- no count goes up
  nothing_heard : (most count : ℕ) → AtMost most count count
  nothing_heard most count = record { heard = 0; few = omega arith; lints = refl }

  stays : (counts : KitCounts) → StaysWithin plan counts counts
  stays counts = record {
    listens = nothing_heard (suc (most_passes plan.mode) * length plan.names) counts.lints;
    steps = omega arith;
  }

  stays_fresh : (held : Held) (counts : KitCounts) → StaysWithinFresh (under held) counts counts
  stays_fresh held counts answer fresh = (nothing_heard answer.heard counts.lints, omega arith)

  -- ---- the configuration

  pub unconfigured : (now : FilesState) (counts : KitCounts) (why : Fault) →
      ForSome before.holds (λ held. IsUnconfigured (rules_of meanings) held plan.config why) →
      blames_config plan.config before now why → now.holds ≡ before.holds → Worked meanings plan before now counts counts (Err why)
  unconfigured now counts (fault.Stop cause.ConfigMissing) un blames same =
      (tt, (λ held is. as_plans (under held) _ (only_unset (under held) cause.ConfigMissing (un held is) tt), (blames, refl)))
  unconfigured now counts (fault.Stop (cause.TooLong name)) un blames same =
      (tt, (λ held is. as_plans (under held) _ (only_unset (under held) (cause.TooLong name) (un held is) tt), (blames, refl)))
  unconfigured now counts (fault.Stop (cause.BadConfig kind pointer)) un blames same =
      (tt, (λ held is. as_plans (under held) _ (only_unset (under held) (cause.BadConfig kind pointer) (un held is) tt), (blames, refl)))
  unconfigured now counts (fault.Stop (cause.CannotRead unread)) un blames same = (
    (inl blames.0, subst (λ (n : List ℕ). HasFailed before (reading (encode_utf8_all n)) now) (sym blames.0) blames.1),
    (same, refl),
  )
  unconfigured now counts fault.NoMemory un blames same = (same, (λ held is. stays_fresh held counts, stays counts))
  unconfigured now counts (fault.Stop cause.BadWords) un blames same = absurd blames
  unconfigured now counts (fault.Stop (cause.TooMany names)) un blames same = absurd blames
  unconfigured now counts (fault.Stop (cause.NoFile name)) un blames same = absurd blames
  unconfigured now counts (fault.Stop (cause.TooMuch bytes)) un blames same = absurd blames
  unconfigured now counts (fault.Stop (cause.CannotWrite name)) un blames same = absurd blames
  unconfigured now counts (fault.Stop cause.CannotPrint) un blames same = absurd blames

  module _ (config : Configuration) (counted : config.count ≡ length (map (λ (m : Meaning). m.id) meanings))
      (configured : ForSome before.holds (λ held. IsConfigured (rules_of meanings) held plan.config (layers_of config.entries))) where
    abbrev layers : List Layer
    layers = layers_of config.entries

    count_is : config.count ≡ length meanings
    count_is = counted ∙ length-map meanings (λ (m : Meaning). m.id)

    -- what is gathered by the configuration is what its entries gather
    by_config : (held : Held) → gathered plan.inline (outcome_in config) held 0 plan.names ≡ gathered_by (under held) layers
    by_config held = ap (λ count. gathered plan.inline (outcome_for count layers) held 0 plan.names) count_is

    -- ---- names

    refuses : (held : Held) (why : StopCause) → before.holds ≡ Some held →
        gathered plan.inline (outcome_in config) held 0 plan.names ≡ Err why → IsThePlans (under held) (stopped plan.config why)
    refuses held why is stops =
        as_plans (under held) _ (only_refused (under held) layers (configured held is) why (sym (by_config held) ∙ stops))

    ungathered_here : (now : FilesState) (counts : KitCounts) (why : Fault) →
        ForSome before.holds (λ held. IsGatheredAs (gathered plan.inline (outcome_in config) held 0 plan.names) (Err why)) →
        BlamesNames plan.names before now why → now.holds ≡ before.holds → Worked meanings plan before now counts counts (Err why)
    ungathered_here now counts (fault.Stop (cause.NoFile name)) told blames same =
        (tt, (λ held is. refuses held (cause.NoFile name) is (told held is), (blames, refl)))
    ungathered_here now counts (fault.Stop (cause.TooLong name)) told blames same =
        (tt, (λ held is. refuses held (cause.TooLong name) is (told held is), (blames, refl)))
    ungathered_here now counts (fault.Stop (cause.TooMuch bytes)) told blames same =
        (tt, (λ held is. refuses held (cause.TooMuch bytes) is (told held is), (blames, refl)))
    ungathered_here now counts (fault.Stop (cause.CannotRead unread)) told blames same = ((inr blames.0, blames.1), (same, refl))
    ungathered_here now counts fault.NoMemory told blames same = (same, (λ held is. stays_fresh held counts, stays counts))
    ungathered_here now counts (fault.Stop cause.BadWords) told blames same = absurd blames
    ungathered_here now counts (fault.Stop (cause.TooMany names)) told blames same = absurd blames
    ungathered_here now counts (fault.Stop cause.ConfigMissing) told blames same = absurd blames
    ungathered_here now counts (fault.Stop (cause.BadConfig kind pointer)) told blames same = absurd blames
    ungathered_here now counts (fault.Stop (cause.CannotWrite name)) told blames same = absurd blames
    ungathered_here now counts (fault.Stop cause.CannotPrint) told blames same = absurd blames

    pub ungathered : (mid now : FilesState) (counts : KitCounts) (why : Fault) → mid ≡ before →
        ForSome mid.holds (λ held. IsGatheredAs (gathered plan.inline (outcome_in config) held 0 plan.names) (Err why)) →
        BlamesNames plan.names mid now why → now.holds ≡ mid.holds → Worked meanings plan before now counts counts (Err why)
    ungathered mid now counts why is =
        subst (λ (m : FilesState). ForSome m.holds (λ held. IsGatheredAs (gathered plan.inline (outcome_in config) held 0 plan.names) (Err why)) →
        BlamesNames plan.names m now why → now.holds ≡ m.holds → Worked meanings plan before now counts counts (Err why)) (sym is)
        (ungathered_here now counts why)

    module _ (all : List (List ℕ × Part)) (named : map name_in all ≡ plan.names)
        (gathers : ForSome before.holds (λ held. gathered plan.inline (outcome_in config) held 0 plan.names ≡ Ok (map named_part_in all))) where
      abbrev told_parts : List gathering.NamedPart
      told_parts = map named_part_in all

      gathers_by : (held : Held) → before.holds ≡ Some held → gathered_by (under held) layers ≡ Ok told_parts
      gathers_by held is = sym (by_config held) ∙ gathers held is

      count_names : length all ≡ length plan.names
      count_names = sym (length-map all name_in) ∙ ap length named

      module _ (from to : KitCounts) (lintings : ListenAtMost meanings plan.mode told_parts from.lints to.lints)
          (most : AtMost (suc (most_passes plan.mode) * length all) from.lints to.lints)
          (few : to.steps ≤ from.steps + linted_count told_parts) where
        within : StaysWithin plan from to
        within =
            let linted = linted_few told_parts in
            let parts_count = length-map all named_part_in in
            let names_count = count_names in
            record {
              listens = subst (λ n. AtMost (suc (most_passes plan.mode) * n) from.lints to.lints) count_names most;
              steps = omega (arith, few, linted, parts_count, names_count);
            }

        within_fresh : (held : Held) → before.holds ≡ Some held → StaysWithinFresh (under held) from to
        within_fresh held is answer fresh =
            let shape = done_shape (under held) layers (configured held is) told_parts (gathers_by held is) answer fresh in (
              subst (λ (a : Answer). AtMost a.heard from.lints to.lints) (sym shape.3) (lintings shape.0 shape.1 shape.2),
              subst (λ (a : Answer). to.steps ≤ from.steps + a.linted) (sym shape.3) few,
            )

        -- out of memory while it lints, or makes the report
        pub memoryless : (now : FilesState) → now ≡ before → Worked meanings plan before now from to (Err fault.NoMemory)
        memoryless now is = (ap (λ (f : FilesState). f.holds) is, (within_fresh, within))

        module _ (results : List Named) (made : Made) (linted : AreLinted meanings plan.mode told_parts from.lints results to.lints)
            (ticked : to.steps ≡ from.steps + linted_count told_parts)
            (report : IsReportOn plan.json plan.quiet plan.max_warnings results made)
            (prepared : All (IsPrepared plan.config) made.writes.items)
            (quiet : plan.max_warnings ≡ None → string_bytes made.line ≡ []) where
          abbrev answer_with : Status → List Writing → List ℕ → List ℕ → Answer
          answer_with status writes output line = record {
            status = status;
            writes = writes;
            output = output;
            line = line;
            linted = linted_count told_parts;
            heard = linted.heard;
          }

          answer_is : answer_of made (linted_count told_parts) linted.heard
              ≡ reported plan (linted_count told_parts) results linted.heard
          answer_is =
              ap (λ s. answer_with s (map write_in made.writes.items) (string_bytes made.text) (string_bytes made.line)) report.status
              ∙ ap (λ w. answer_with (status_of plan.max_warnings (all_messages results)) w (string_bytes made.text) (string_bytes made.line)) report.writes
              ∙ ap (λ o. answer_with (status_of plan.max_warnings (all_messages results)) (writes_of results) o (string_bytes made.line)) report.text
              ∙ ap (answer_with (status_of plan.max_warnings (all_messages results)) (writes_of results) (report_of plan.json plan.quiet results)) report.line

          told : (held : Held) → before.holds ≡ Some held → IsToldOf (under held) from to made
          told held is = record {
            linted = linted_count told_parts;
            heard = linted.heard;
            fresh = subst (IsThePlans (under held)) (sym answer_is)
                (as_plans (under held) _
                (only_done (under held) layers (configured held is) told_parts from.lints to.lints results linted (gathers_by held is)));
            listens = linted.lints;
            steps = ticked;
          }

          no_items : (writes : List Write) → map write_in writes ≡ [] → writes ≡ []
          no_items [] is = refl
          no_items (write ∷ writes) is = cc

          made_of : IsMadeOf plan made
          made_of = record {
            quiet = quiet;
            reads = λ is. no_items made.writes.items (report.writes
                ∙ no_writes meanings told_parts results linted.heard
                (subst (λ mode. ComeToAll meanings mode told_parts results linted.heard) is linted.come));
            asked = written_name plan.names made.writes.items (writes_of results) report.writes
                (all_named plan.names [] results
                (sym (result_names meanings plan.mode told_parts results linted.heard linted.come ∙ part_names all ∙ named)));
            prepared = prepared;
          }

          pub all_made : (now : FilesState) → now ≡ before → Worked meanings plan before now from to (Ok made)
          all_made now is = (told, (made_of, (within, is)))

-- ---- what is set for a file fits the kit

module _ (meanings : List Meaning) (config : Configuration) (counted : config.count ≡ length (map (λ (m : Meaning). m.id) meanings))
    (needs : All (λ (m : Meaning). m.verdict [] ≡ Fine) meanings)
    (taken : AreTakenChanges (λ place options. (meaning_at meanings place).verdict options) (length (map (λ (m : Meaning). m.id) meanings)) (layers_of config.entries)) where
  abbrev verdict : ℕ → Options → Verdict
  verdict place options = (meaning_at meanings place).verdict options

  count_same : config.count ≡ length meanings
  count_same = counted ∙ length-map meanings (λ (m : Meaning). m.id)

  without : DoWithoutOptions verdict config.count
  without place within =
      let count = count_same in
      ap (λ (m : Meaning). m.verdict []) (unwrap_or-slice_get meanings place silence) ∙ needs place silence (omega (arith, within, count))

  taken_here : AreTakenChanges verdict config.count (layers_of config.entries)
  taken_here = subst (λ n. AreTakenChanges verdict n (layers_of config.entries)) (sym counted) taken

  fits_one : (part : Part) → KeepsPart config part → FitsPart meanings part
  fits_one (parts.Source set bytes) keeps =
      let settings = keeps.0 verdict without taken_here in
      let count = count_same in (
        record {
          count = settings.each ∙ count_same;
          fine = λ place within. settings.fine place (omega (arith, within, count));
        },
        keeps.1,
      )
  fits_one (parts.LeftOut text) keeps = tt

  pub fits_all : (all : List (List ℕ × Part)) → All (λ named. KeepsPart config named.1) all → All (λ named. FitsPart meanings named.1) all
  fits_all = All-weaker (λ (named : List ℕ × Part). KeepsPart config named.1) (λ (named : List ℕ × Part). FitsPart meanings named.1)
      (λ named. fits_one named.1)
