-- That a fresh run gives one answer.
use Rattle.std.proofs.Common.{◌≡◌, ℕ, List, [], length, refl, sym, ap, subst, ◌∙◌}
use Rattle.std.specs.Prelude.{None, Result, Ok, Err, encode_utf8_all}
use Rattle.std.specs.FinMap as finite
use Rattle.es_plan.specs.declared.plan.LintPlan.{LintPlan}
use Rattle.es_plan.specs.declared.plan.Plan.{Plan}
use Rattle.es_plan.specs.declared.plan.Plan.TheVariants.{Generate, Lint}
use Rattle.es_plan.specs.declared.plan.PlanFault.{PlanFault}
use Rattle.es_plan.specs.declared.plan.PlanFault.TheVariants as refusal
use Rattle.es_plan.specs.Plans.{plan_of}
use Rattle.es_settings.specs.declared.mode.Mode.TheVariants.{Report}
use Rattle.es_config.specs.declared.fault.FaultKind.{FaultKind}
use Rattle.es_config.specs.Entries.{Layer}
use Rattle.es_config.specs.Outcomes.{outcome_for}
use Rattle.es_config.specs.Reading.{ComeTo}
use Rattle.es_config.specs.Walks.{Walked, good, faulty}
use Rattle.es_files.specs.Outside.{HoldsMore}
use Rattle.es_format.specs.Stylish.{Named}
use Rattle.es_messages.specs.declared.message.FileResult.{FileResult}
use Rattle.es_run.specs.declared.status.Fault.TheVariants as fault
use Rattle.es_run.specs.declared.status.StopCause.{StopCause}
use Rattle.es_run.specs.declared.status.StopCause.TheVariants as cause
use Rattle.es_run.specs.Courses.{IsRefusal}
use Rattle.es_run.specs.Fresh.{Answer, Fresh, FreshPlan, Given, IsSet, IsTheAnswer, Planned, bad_config, bad_words, done, gathered_under, generated_part, long_config, no_config, of_plan, of_text, planned, refused, reported, rules_of, stopped, told_of_text, too_many}
use Rattle.es_run.specs.Gathering.{HoldsConfig, NamedPart, gathered, most_config_bytes}
use Rattle.es_run.specs.Linting.{ComeToAll, ComesTo, linted_count}
use Rattle.es_run.specs.Stages.{AreLinted, IsConfigured, IsLintedAs, IsUnconfigured}
use Rattle.es_run.proofs.ConfigLemmas.{good_faulty, good_is, more_not_missing, not_missing, not_more, same_kind, same_walked}

-- a fresh run of this plan gives this answer and no other
abbrev pub OnlyPlan : Planned → Answer → Type 0
OnlyPlan given answer = FreshPlan given answer × ((other : Answer) → FreshPlan given other → other ≡ answer)

-- what is gathered under all entries, those that stand in front among them
abbrev pub gathered_by : Planned → List Layer → Result (List NamedPart) StopCause
gathered_by given layers = gathered given.plan.inline (outcome_for (length given.meanings) layers) given.held 0 given.plan.names

err_is : {A : Type 0} {a b : StopCause} → ◌≡◌ {A = Result A StopCause} (Err a) (Err b) → a ≡ b
err_is h = cc

ok_is : {A : Type 0} {a b : A} → ◌≡◌ {A = Result A StopCause} (Ok a) (Ok b) → a ≡ b
ok_is h = cc

ok_err : {A : Type 0} {a : A} {b : StopCause} → Ok a ≡ Err b → ⊥
ok_err h = absurd (cc)

module _ (given : Planned) where
  -- ---- the configuration isn't read

  missing_only : finite.get given.held (encode_utf8_all given.plan.config) ≡ None → (other : Answer) → FreshPlan given other →
      other ≡ stopped given.plan.config cause.ConfigMissing
  missing_only none other (no_config none' is) = is
  missing_only none other (long_config more is) = absurd (more_not_missing given.held given.plan.config none more)
  missing_only none other (bad_config bytes kind pointer config come is) =
      absurd (not_missing given.held given.plan.config bytes none config)
  missing_only none other (refused entries why set stops is) =
      absurd (not_missing given.held given.plan.config set.bytes none set.config)
  missing_only none other (done entries parts results heard set gathers come is) =
      absurd (not_missing given.held given.plan.config set.bytes none set.config)

  long_only : HoldsMore given.held (encode_utf8_all given.plan.config) most_config_bytes → (other : Answer) → FreshPlan given other →
      other ≡ stopped given.plan.config (cause.TooLong given.plan.config)
  long_only more other (no_config none is) = absurd (more_not_missing given.held given.plan.config none more)
  long_only more other (long_config more' is) = is
  long_only more other (bad_config bytes kind pointer config come is) =
      absurd (not_more given.held given.plan.config bytes more config)
  long_only more other (refused entries why set stops is) =
      absurd (not_more given.held given.plan.config set.bytes more set.config)
  long_only more other (done entries parts results heard set gathers come is) =
      absurd (not_more given.held given.plan.config set.bytes more set.config)

  -- ---- it is read

  -- two things that the configuration comes to
  one_walked : (bytes bytes' : List ℕ) (walked walked' : Walked (List Layer)) →
      HoldsConfig given.held given.plan.config bytes → ComeTo (rules_of given.meanings) bytes walked →
      HoldsConfig given.held given.plan.config bytes' → ComeTo (rules_of given.meanings) bytes' walked' → walked ≡ walked'
  one_walked = same_walked given.held given.plan.config (rules_of given.meanings)

  bad_only : (bytes : List ℕ) (kind : FaultKind) (pointer : List ℕ) → HoldsConfig given.held given.plan.config bytes →
      ComeTo (rules_of given.meanings) bytes (faulty kind pointer) → (other : Answer) → FreshPlan given other →
      other ≡ stopped given.plan.config (cause.BadConfig kind pointer)
  bad_only bytes kind pointer config come other (no_config none is) =
      absurd (not_missing given.held given.plan.config bytes none config)
  bad_only bytes kind pointer config come other (long_config more is) =
      absurd (not_more given.held given.plan.config bytes more config)
  bad_only bytes kind pointer config come other (bad_config bytes' kind' pointer' config' come' is) =
      let same = same_kind (one_walked bytes' bytes (faulty kind' pointer') (faulty kind pointer) config' come' config come) in
      is ∙ ap (λ k. stopped given.plan.config (cause.BadConfig k pointer')) same.0
      ∙ ap (λ p. stopped given.plan.config (cause.BadConfig kind p)) same.1
  bad_only bytes kind pointer config come other (refused entries why set stops is) =
      absurd (good_faulty (one_walked set.bytes bytes (good entries) (faulty kind pointer) set.config set.read config come))
  bad_only bytes kind pointer config come other (done entries parts results heard set gathers come' is) =
      absurd (good_faulty (one_walked set.bytes bytes (good entries) (faulty kind pointer) set.config set.read config come))

  module _ (layers : List Layer) (configured : IsConfigured (rules_of given.meanings) given.held given.plan.config layers) where
    abbrev read_bytes : List ℕ
    read_bytes = configured.0

    abbrev own : List Layer
    own = configured.2.0

    own_set : IsSet given own
    own_set = record { bytes = read_bytes; config = configured.1; read = configured.2.1 }

    own_gathered : gathered_under given own ≡ gathered_by given layers
    own_gathered =
        ap (λ ls. gathered given.plan.inline (outcome_for (length given.meanings) ls) given.held 0 given.plan.names) (sym configured.2.2)

    not_bad : (bytes : List ℕ) (kind : FaultKind) (pointer : List ℕ) → HoldsConfig given.held given.plan.config bytes →
        ComeTo (rules_of given.meanings) bytes (faulty kind pointer) → ⊥
    not_bad bytes kind pointer config come =
        good_faulty (one_walked read_bytes bytes (good own) (faulty kind pointer) configured.1 configured.2.1 config come)

    same_entries : (entries : List Layer) → IsSet given entries → entries ≡ own
    same_entries entries set =
        good_is (one_walked set.bytes read_bytes (good entries) (good own) set.config set.read configured.1 configured.2.1)

    same_gathered : (entries : List Layer) → IsSet given entries → gathered_under given entries ≡ gathered_by given layers
    same_gathered entries set = ap (gathered_under given) (same_entries entries set) ∙ own_gathered

    refused_only : (why : StopCause) → gathered_by given layers ≡ Err why → (other : Answer) → FreshPlan given other →
        other ≡ stopped given.plan.config why
    refused_only why stops other (no_config none is) =
        absurd (not_missing given.held given.plan.config read_bytes none configured.1)
    refused_only why stops other (long_config more is) =
        absurd (not_more given.held given.plan.config read_bytes more configured.1)
    refused_only why stops other (bad_config bytes kind pointer config come is) = absurd (not_bad bytes kind pointer config come)
    refused_only why stops other (refused entries why' set stops' is) =
        is ∙ ap (stopped given.plan.config) (err_is (sym stops' ∙ same_gathered entries set ∙ stops))
    refused_only why stops other (done entries parts results heard set gathers come is) =
        absurd (ok_err (sym gathers ∙ same_gathered entries set ∙ stops))

    -- what is gathered is refused
    pub only_refused : (why : StopCause) → gathered_by given layers ≡ Err why → OnlyPlan given (stopped given.plan.config why)
    only_refused why stops = (refused own why own_set (own_gathered ∙ stops) refl, refused_only why stops)

    -- a fresh run that isn't refused tells of all parts
    pub done_shape : (parts : List NamedPart) → gathered_by given layers ≡ Ok parts → (other : Answer) → FreshPlan given other →
        (results : List Named) × (heard : ℕ) × ComeToAll given.meanings given.plan.mode parts results heard
        × (other ≡ reported given.plan (linted_count parts) results heard)
    done_shape parts gathers other (no_config none is) =
        absurd (not_missing given.held given.plan.config read_bytes none configured.1)
    done_shape parts gathers other (long_config more is) =
        absurd (not_more given.held given.plan.config read_bytes more configured.1)
    done_shape parts gathers other (bad_config bytes kind pointer config come is) = absurd (not_bad bytes kind pointer config come)
    done_shape parts gathers other (refused entries why set stops is) =
        absurd (ok_err (sym gathers ∙ sym (same_gathered entries set) ∙ stops))
    done_shape parts gathers other (done entries parts' results' heard set gathers' come is) =
        let same = ok_is (sym gathers' ∙ same_gathered entries set ∙ gathers) in (
          results',
          heard,
          subst (λ ps. ComeToAll given.meanings given.plan.mode ps results' heard) same come,
          is ∙ ap (λ ps. reported given.plan (linted_count ps) results' heard) same,
        )

    module _ (parts : List NamedPart) (before now : ℕ) (results : List Named)
        (linted : AreLinted given.meanings given.plan.mode parts before results now) where
      abbrev told_of : Answer
      told_of = reported given.plan (linted_count parts) results linted.heard

      same_told : (parts' : List NamedPart) (results' : List Named) (heard : ℕ) → parts' ≡ parts →
          ComeToAll given.meanings given.plan.mode parts' results' heard →
          reported given.plan (linted_count parts') results' heard ≡ told_of
      same_told parts' results' heard same come =
          let one = linted.only results' heard (subst (λ ps. ComeToAll given.meanings given.plan.mode ps results' heard) same come) in
          ap (λ ps. reported given.plan (linted_count ps) results' heard) same
          ∙ ap (λ rs. reported given.plan (linted_count parts) rs heard) one.0
          ∙ ap (reported given.plan (linted_count parts) results) one.1

      done_only : gathered_by given layers ≡ Ok parts → (other : Answer) → FreshPlan given other → other ≡ told_of
      done_only gathers other (no_config none is) =
          absurd (not_missing given.held given.plan.config read_bytes none configured.1)
      done_only gathers other (long_config more is) =
          absurd (not_more given.held given.plan.config read_bytes more configured.1)
      done_only gathers other (bad_config bytes kind pointer config come is) = absurd (not_bad bytes kind pointer config come)
      done_only gathers other (refused entries why set stops is) =
          absurd (ok_err (sym gathers ∙ sym (same_gathered entries set) ∙ stops))
      done_only gathers other (done entries parts' results' heard set gathers' come is) =
          is ∙ same_told parts' results' heard (ok_is (sym gathers' ∙ same_gathered entries set ∙ gathers)) come

      -- all is linted
      pub only_done : gathered_by given layers ≡ Ok parts → OnlyPlan given told_of
      only_done gathers =
          (done own parts results linted.heard own_set (own_gathered ∙ gathers) linted.come refl, done_only gathers)

  -- the configuration is refused
  pub only_unset : (why : StopCause) → IsUnconfigured (rules_of given.meanings) given.held given.plan.config (fault.Stop why) →
      IsRefusal why → OnlyPlan given (stopped given.plan.config why)
  only_unset cause.BadWords un refusal = absurd un
  only_unset (cause.TooMany names) un refusal = absurd un
  only_unset cause.ConfigMissing un refusal = (no_config un refl, missing_only un)
  only_unset (cause.BadConfig kind pointer) un refusal =
      (bad_config un.0 kind pointer un.1 un.2 refl, bad_only un.0 kind pointer un.1 un.2)
  only_unset (cause.NoFile name) un refusal = absurd un
  only_unset (cause.TooLong name) un refusal =
      subst (λ n. OnlyPlan given (stopped given.plan.config (cause.TooLong n))) (sym un.0)
      (long_config un.1 refl, long_only un.1)
  only_unset (cause.CannotRead name) un refusal = absurd refusal
  only_unset (cause.TooMuch bytes) un refusal = absurd un
  only_unset (cause.CannotWrite name) un refusal = absurd un
  only_unset cause.CannotPrint un refusal = absurd un

-- ---- words

pub lint_is : {a b : LintPlan} → ◌≡◌ {A = Result Plan PlanFault} (Ok (Lint a)) (Ok (Lint b)) → a ≡ b
lint_is h = cc

pub count_is : {a b : ℕ} → ◌≡◌ {A = Result Plan PlanFault} (Ok (Generate a)) (Ok (Generate b)) → a ≡ b
count_is h = cc

pub names_is : {a b : ℕ} → ◌≡◌ {A = Result Plan PlanFault} (Err (refusal.TooMany a)) (Err (refusal.TooMany b)) → a ≡ b
names_is h = cc

pub lint_generate : {a : LintPlan} {b : ℕ} → ◌≡◌ {A = Result Plan PlanFault} (Ok (Lint a)) (Ok (Generate b)) → ⊥
lint_generate h = absurd (cc)

pub plan_fault : {a : Plan} {b : PlanFault} → Ok a ≡ Err b → ⊥
plan_fault h = absurd (cc)

pub bad_many : {a : ℕ} → ◌≡◌ {A = Result Plan PlanFault} (Err refusal.BadWords) (Err (refusal.TooMany a)) → ⊥
bad_many h = absurd (cc)

module _ (given : Given) where
  of_plan_only : (plan : LintPlan) (answer : Answer) → plan_of given.words ≡ Ok (Lint plan) → OnlyPlan (planned given plan) answer →
      (other : Answer) → Fresh given other → other ≡ answer
  of_plan_only plan answer asks only other (bad_words asks' is) = absurd (plan_fault (sym asks ∙ asks'))
  of_plan_only plan answer asks only other (too_many names asks' is) = absurd (plan_fault (sym asks ∙ asks'))
  of_plan_only plan answer asks only other (of_plan plan' asks' fresh) =
      only.1 other (subst (λ p. FreshPlan (planned given p) other) (lint_is (sym asks' ∙ asks)) fresh)
  of_plan_only plan answer asks only other (of_text count told heard asks' come is) = absurd (lint_generate (sym asks ∙ asks'))

  pub the_plan : (plan : LintPlan) (answer : Answer) → plan_of given.words ≡ Ok (Lint plan) → OnlyPlan (planned given plan) answer →
      IsTheAnswer given answer
  the_plan plan answer asks only = record { gives = of_plan plan asks only.0; only = of_plan_only plan answer asks only }

  bad_words_only : plan_of given.words ≡ Err refusal.BadWords → (other : Answer) → Fresh given other → other ≡ stopped [] cause.BadWords
  bad_words_only asks other (bad_words asks' is) = is
  bad_words_only asks other (too_many names asks' is) = absurd (bad_many (sym asks ∙ asks'))
  bad_words_only asks other (of_plan plan asks' fresh) = absurd (plan_fault (sym asks' ∙ asks))
  bad_words_only asks other (of_text count told heard asks' come is) = absurd (plan_fault (sym asks' ∙ asks))

  pub the_bad_words : plan_of given.words ≡ Err refusal.BadWords → IsTheAnswer given (stopped [] cause.BadWords)
  the_bad_words asks = record { gives = bad_words asks refl; only = bad_words_only asks }

  too_many_only : (names : ℕ) → plan_of given.words ≡ Err (refusal.TooMany names) → (other : Answer) → Fresh given other →
      other ≡ stopped [] (cause.TooMany names)
  too_many_only names asks other (bad_words asks' is) = absurd (bad_many (sym asks' ∙ asks))
  too_many_only names asks other (too_many names' asks' is) =
      is ∙ ap (λ n. stopped [] (cause.TooMany n)) (names_is (sym asks' ∙ asks))
  too_many_only names asks other (of_plan plan asks' fresh) = absurd (plan_fault (sym asks' ∙ asks))
  too_many_only names asks other (of_text count told heard asks' come is) = absurd (plan_fault (sym asks' ∙ asks))

  pub the_too_many : (names : ℕ) → plan_of given.words ≡ Err (refusal.TooMany names) → IsTheAnswer given (stopped [] (cause.TooMany names))
  the_too_many names asks = record { gives = too_many names asks refl; only = too_many_only names asks }

  module _ (count : ℕ) (told : FileResult) (before now : ℕ)
      (linted : IsLintedAs given.meanings Report (generated_part given.meanings count) before told now) where
    same_text : (count' : ℕ) (told' : FileResult) (heard : ℕ) → count' ≡ count →
        ComesTo given.meanings Report (generated_part given.meanings count') told' heard →
        told_of_text count' told' heard ≡ told_of_text count told linted.heard
    same_text count' told' heard same come =
        let one = linted.only told' heard (subst (λ c. ComesTo given.meanings Report (generated_part given.meanings c) told' heard) same come) in
        ap (λ c. told_of_text c told' heard) same ∙ ap (λ t. told_of_text count t heard) one.0 ∙ ap (told_of_text count told) one.1

    of_text_only : plan_of given.words ≡ Ok (Generate count) → (other : Answer) → Fresh given other →
        other ≡ told_of_text count told linted.heard
    of_text_only asks other (bad_words asks' is) = absurd (plan_fault (sym asks ∙ asks'))
    of_text_only asks other (too_many names asks' is) = absurd (plan_fault (sym asks ∙ asks'))
    of_text_only asks other (of_plan plan asks' fresh) = absurd (lint_generate (sym asks' ∙ asks))
    of_text_only asks other (of_text count' told' heard asks' come is) =
        is ∙ same_text count' told' heard (count_is (sym asks' ∙ asks)) come

    pub the_text : plan_of given.words ≡ Ok (Generate count) → IsTheAnswer given (told_of_text count told linted.heard)
    the_text asks = record { gives = of_text count told linted.heard asks linted.comes refl; only = of_text_only asks }
