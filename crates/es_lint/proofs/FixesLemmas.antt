-- What passes of fixes give, pass by pass, and that they give nothing else; how often the rules listen meanwhile.
use Rattle.std.proofs.Common.{◌≡◌, ◌∙◌, ℕ, zero, suc, ◌+◌, ◌-◌, ◌≤◌, Bool, true, false, refl, sym, ap, subst, arith}
use Rattle.std.specs.Prelude.{List, MatchOption, Option, None, Some}
use Rattle.es_text.specs.declared.finding.Report.{Report}
use Rattle.es_text.specs.Texts.{Text, text_bytes, text_of}
use Rattle.es_settings.specs.declared.mode.Mode.{Mode}
use Rattle.es_settings.specs.Settings.{Settings}
use Rattle.es_host.specs.Meanings.{Meaning}
use Rattle.es_messages.specs.declared.message.FileResult.{FileResult}
use Rattle.es_lint.specs.declared.linting.Found.{Found}
use Rattle.es_lint.specs.declared.passes.Passed.{Passed}
use Rattle.es_lint.specs.Lintings.{IsTheLinting, Linting, Lints}
use Rattle.es_lint.specs.Passes.{AreTheFixes, Fixed, Fixes, GoesOn, after, changed_by, ended, fixes_in, most_passes, takes_one}
use Rattle.es_lint.specs.Results.{AtMost, IsLinted, ListensAtMost, more, result_of}
use Rattle.es_lint.specs.Stages.{AtMostOnce, IsPassed, fixed_of, goes_on, linting_of, times}
use Rattle.es_lint.proofs.CountsLemmas.{at_most_more, at_most_then, from_once, more_more}

module _ (meanings : List Meaning) (settings : Settings) (mode : Mode) where
  abbrev Goes : ℕ → Text → Fixed → Linting → Bool → Type 0
  Goes left text fixed linting on =
      GoesOn on (Fixes meanings settings mode left (after (text_bytes text) (fixes_in mode linting.stand))) text linting fixed

  abbrev Takes : Text → Linting → Bool
  Takes text linting = takes_one (text_bytes text) (fixes_in mode linting.stand)

  -- where no pass takes a fix
  pub ends : (left : ℕ) (text : Text) (linting : Linting) → IsTheLinting meanings settings text linting →
      goes_on mode left (text_bytes text) linting.stand ≡ false → AreTheFixes meanings settings mode left text (ended text linting)
  ends zero text linting is stops = record {
    gives = (linting, (is.gives, refl));
    only = λ other (given, (lints, same)). same ∙ ap (ended text) (is.only given lints);
  }
  ends (suc left) text linting is stops = record {
    gives = (linting, (is.gives, subst (Goes left text (ended text linting) linting) (sym stops) refl));
    only = λ other (given, (lints, goes)).
        let here : Goes left text other linting (Takes text linting) =
        subst (λ l. Goes left text other l (Takes text l)) (is.only given lints) goes in
        subst (Goes left text other linting) stops here;
  }

  goes_suc : (left : ℕ) (text : Text) (linting : Linting) (later : Fixed) → IsTheLinting meanings settings text linting →
      Takes text linting ≡ true → AreTheFixes meanings settings mode left (after (text_bytes text) (fixes_in mode linting.stand)) later →
      AreTheFixes meanings settings mode (suc left) text (changed_by linting later)
  goes_suc left text linting later is on all = record {
    gives = (linting, (is.gives, subst (Goes left text (changed_by linting later) linting) (sym on) (later, (all.gives, refl))));
    only = λ other (given, (lints, goes)).
        let here : Goes left text other linting (Takes text linting) =
        subst (λ l. Goes left text other l (Takes text l)) (is.only given lints) goes in
        let there : Goes left text other linting true = subst (Goes left text other linting) on here in
        there.1.1 ∙ ap (changed_by linting) (all.only there.0 there.1.0);
  }

  -- where a pass takes one
  pub goes : (left : ℕ) (text : Text) (linting : Linting) (later : Fixed) → IsTheLinting meanings settings text linting →
      goes_on mode left (text_bytes text) linting.stand ≡ true →
      AreTheFixes meanings settings mode (left - 1) (after (text_bytes text) (fixes_in mode linting.stand)) later →
      AreTheFixes meanings settings mode left text (changed_by linting later)
  goes zero text linting later is on all = absurd (cc)
  goes (suc left) text linting later is on all =
      goes_suc left text linting later is on
      (subst (λ n. AreTheFixes meanings settings mode n (after (text_bytes text) (fixes_in mode linting.stand)) later) (omega arith) all)

  -- ---- how often the rules listen

  as_often : (on : Bool) (left : ℕ) (text : Text) (fixed : Fixed) (linting : Linting) → Goes left text fixed linting on → linting.heard ≤ fixed.heard
  as_often false left text fixed linting is =
      let heard : fixed.heard ≡ linting.heard = ap (λ (f : Fixed). f.heard) is in
      omega (arith, heard)
  as_often true left text fixed linting (later, (gives, is)) =
      let heard : fixed.heard ≡ linting.heard + later.heard = ap (λ (f : Fixed). f.heard) is in
      omega (arith, heard)

  -- where the first text alone is linted
  pub first_often : (left : ℕ) (text : Text) (before now : ℕ) →
      ((linting : Linting) → Lints meanings settings text linting → AtMost linting.heard before now) →
      (fixed : Fixed) → Fixes meanings settings mode left text fixed → AtMost fixed.heard before now
  first_often zero text before now law fixed (linting, (lints, is)) =
      let heard : fixed.heard ≡ linting.heard = ap (λ (f : Fixed). f.heard) is in
      at_most_more linting.heard fixed.heard before now (omega (arith, heard)) (law linting lints)
  first_often (suc left) text before now law fixed (linting, (lints, goes)) =
      at_most_more linting.heard fixed.heard before now (as_often (Takes text linting) left text fixed linting goes) (law linting lints)

  -- where later texts are
  pub later_often : (left : ℕ) (text : Text) (linting : Linting) (before between now : ℕ) → IsTheLinting meanings settings text linting →
      goes_on mode left (text_bytes text) linting.stand ≡ true → AtMost linting.heard before between →
      ((later : Fixed) → Fixes meanings settings mode (left - 1) (after (text_bytes text) (fixes_in mode linting.stand)) later → AtMost later.heard between now) →
      (fixed : Fixed) → Fixes meanings settings mode left text fixed → AtMost fixed.heard before now
  later_often zero text linting before between now is on first law fixed fixes = absurd (cc)
  later_often (suc left) text linting before between now is on first law fixed (given, (lints, goes)) =
      let here : Goes left text fixed linting (Takes text linting) =
      subst (λ l. Goes left text fixed l (Takes text l)) (is.only given lints) goes in
      let there : Goes left text fixed linting true = subst (Goes left text fixed linting) on here in
      let heard : fixed.heard ≡ linting.heard + there.0.heard = ap (λ (f : Fixed). f.heard) there.1.1 in
      let gives : Fixes meanings settings mode (suc left - 1) (after (text_bytes text) (fixes_in mode linting.stand)) there.0 =
      subst (λ n. Fixes meanings settings mode n (after (text_bytes text) (fixes_in mode linting.stand)) there.0) (omega arith) there.1.0 in
      subst (λ n. AtMost n before now) (sym heard) (at_most_then linting.heard there.0.heard before between now first (law there.0 gives))

-- no pass goes on where none is left
pub some_left : (mode : Mode) (left : ℕ) (text : Text) (linting : Linting) → goes_on mode left (text_bytes text) linting.stand ≡ true → 1 ≤ left
some_left mode zero text linting on = absurd (cc)
some_left mode (suc left) text linting on = omega arith

-- ---- what the stages answer

-- the text after one more pass, or none
abbrev IsNext : Mode → ℕ → List ℕ → List Report → Option Text → Type 0
IsNext mode left bytes reports next =
    MatchOption next (goes_on mode left bytes reports ≡ false) (λ text. (goes_on mode left bytes reports ≡ true) × (text ≡ after bytes (fixes_in mode reports)))

module _ (mode : Mode) (left : ℕ) (bytes : List ℕ) (reports stand : List Report) (same : reports ≡ stand) where
  pub next_none : (next : Option Text) → IsNext mode left bytes reports next → next ≡ None → goes_on mode left bytes stand ≡ false
  next_none None answer is = ap (goes_on mode left bytes) (sym same) ∙ answer
  next_none (Some text) answer is = absurd (cc)

  pub next_on : (next : Option Text) (text : Text) → IsNext mode left bytes reports next → next ≡ Some text → goes_on mode left bytes stand ≡ true
  next_on None text answer is = absurd (cc)
  next_on (Some other) text answer is = ap (goes_on mode left bytes) (sym same) ∙ answer.0

  pub next_some : (next : Option Text) (text : Text) → IsNext mode left bytes reports next → next ≡ Some text → text ≡ after bytes (fixes_in mode stand)
  next_some None text answer is = absurd (cc)
  next_some (Some other) text answer is =
      let here : other ≡ text = cc in
      sym here ∙ answer.1 ∙ ap (λ all. after bytes (fixes_in mode all)) same

abbrev passed_with : Text → Found → Bool → Passed
passed_with text found changed = record { source = text; found = found; changed = changed }

module _ (meanings : List Meaning) (settings : Settings) (mode : Mode) (left : ℕ) (text : Text) (found : Found) (is : IsTheLinting meanings settings text (linting_of found)) where
  abbrev on_its : Bool
  on_its = goes_on mode left (text_bytes text) found.stand.items

  -- the text stands
  pub stands : (before now : ℕ) → on_its ≡ false → now ≡ more (times found.heard) before →
      IsPassed meanings settings mode left text before (passed_with text found false) now
  stands before now stops lints =
      record { heard = times found.heard; gives = ends meanings settings mode left text (linting_of found) is stops; lints = lints }

  abbrev next_of : Text
  next_of = after (text_bytes text) (fixes_in mode found.stand.items)

  -- a pass changes it
  pub changes : (before between now : ℕ) (next : Text) (later : Passed) → on_its ≡ true → next ≡ next_of → between ≡ more (times found.heard) before →
      IsPassed meanings settings mode (left - 1) next between later now →
      IsPassed meanings settings mode left text before (passed_with later.source later.found true) now
  changes before between now next later on same first passed =
      let gives : AreTheFixes meanings settings mode (left - 1) next_of (fixed_of later passed.heard) =
      subst (λ t. AreTheFixes meanings settings mode (left - 1) t (fixed_of later passed.heard)) same passed.gives in
      record {
        heard = times found.heard + passed.heard;
        gives = goes meanings settings mode left text (linting_of found) (fixed_of later passed.heard) is on gives;
        lints = passed.lints ∙ ap (more passed.heard) first ∙ more_more (times found.heard) passed.heard before;
      }

  pub changes_often : (before between now : ℕ) (next : Text) → on_its ≡ true → next ≡ next_of → between ≡ more (times found.heard) before →
      ((later : Fixed) → Fixes meanings settings mode (left - 1) next later → AtMost later.heard between now) →
      (fixed : Fixed) → Fixes meanings settings mode left text fixed → AtMost fixed.heard before now
  changes_often before between now next on same first law =
      later_often meanings settings mode left text (linting_of found) before between now is on
      (record { heard = times found.heard; few = omega arith; lints = first })
      (λ later fixes. law later (subst (λ t. Fixes meanings settings mode (left - 1) t later) (sym same) fixes))

-- once, and then so often as passes are left
pub once_more : (mode : Mode) (left : ℕ) (text : Text) (linting : Linting) (before between now : ℕ) → goes_on mode left (text_bytes text) linting.stand ≡ true →
    AtMostOnce before between → AtMost (suc (left - 1)) between now → AtMost (suc left) before now
once_more mode left text linting before between now on once later =
    let some : 1 ≤ left = some_left mode left text linting on in
    at_most_more (1 + suc (left - 1)) (suc left) before now (omega (arith, some)) (at_most_then 1 (suc (left - 1)) before between now (from_once before between once) later)

-- ---- the whole

module _ (meanings : List Meaning) (settings : Settings) (mode : Mode) (left : ℕ) (bytes : List ℕ) (text : Text) (left-is : left ≡ most_passes mode) (text-is : text ≡ text_of bytes) where
  pub linted_of : (before now : ℕ) (marked : Bool) (passed : Passed) (told : FileResult) → marked ≡ text.marked →
      IsPassed meanings settings mode left text before passed now → told ≡ result_of marked (fixed_of passed 0) → IsLinted meanings settings mode bytes before told now
  linted_of before now marked passed told mark is told-is =
      let same-mark : marked ≡ (text_of bytes).marked = mark ∙ ap (λ (t : Text). t.marked) text-is in
      let here : AreTheFixes meanings settings mode (most_passes mode) text (fixed_of passed is.heard) =
      subst (λ n. AreTheFixes meanings settings mode n text (fixed_of passed is.heard)) left-is is.gives in
      record {
        fixed = fixed_of passed is.heard;
        gives = subst (λ t. AreTheFixes meanings settings mode (most_passes mode) t (fixed_of passed is.heard)) text-is here;
        told = told-is ∙ ap (λ m. result_of m (fixed_of passed is.heard)) same-mark;
        lints = is.lints;
      }

  pub listens_of : (before now : ℕ) → ((fixed : Fixed) → Fixes meanings settings mode left text fixed → AtMost fixed.heard before now) → ListensAtMost meanings settings mode bytes before now
  listens_of before now law fixed fixes =
      law fixed (subst (λ t. Fixes meanings settings mode left t fixed) (sym text-is) (subst (λ n. Fixes meanings settings mode n (text_of bytes) fixed) (sym left-is) fixes))

  pub most_of : (before now : ℕ) → AtMost (suc left) before now → AtMost (suc (most_passes mode)) before now
  most_of before now most = subst (λ n. AtMost (suc n) before now) left-is most
