use Rattle.std.proofs.Common.{◌≡◌, ◌∙◌, ◌≤◌, ◌-◌, arith, refl, rules, subst, suc, sym, true}
use Rattle.es_text.specs.Texts.{text_bytes}
use Rattle.es_settings.specs.Settings.{settings_of}
use Rattle.es_host.specs.Kits.{meanings_of}
use Rattle.es_host.specs.Spans.{fixes_fit}
use Rattle.es_lint.specs.Lintings.{FitsKit}
use Rattle.es_lint.specs.Passes.{Fixed, Fixes}
use Rattle.es_lint.specs.Results.{AtMost}
use Rattle.es_lint.specs.Stages.{IsPassed, linting_of}
use Rattle.es_lint.proofs.CountsLemmas.{at_most_more, from_once}
use Rattle.es_lint.proofs.FixesLemmas.{changes, changes_often, first_often, next_none, next_on, next_some, once_more, some_left, stands}
use Rattle.es_lint.proofs.passes.+fix_text.Goals as goal

-- ---- where the first text alone was linted

pub returns-in_err-found-clause-lintings : goal.returns-in_err-found-clause-lintings
returns-in_err-found-clause-lintings g t c =
    first_often (meanings_of g.R.Rule.meaning c.args.kit.now) (settings_of c.args.config.now) c.args.mode c.args.left c.args.source
    c.args.kit.now.lints c.lint_text.new.kit.lints c.lint_text.ensures.lintings

pub returns-in_err-found-clause-most : goal.returns-in_err-found-clause-most
returns-in_err-found-clause-most g t c =
    at_most_more 1 (suc c.args.left) c.args.kit.now.lints c.lint_text.new.kit.lints (omega arith) (from_once c.args.kit.now.lints c.lint_text.new.kit.lints c.lint_text.ensures.once)

pub next_text-requires : goal.next_text-requires
next_text-requires g t c =
    subst (λ reports. fixes_fit (text_bytes c.args.source) reports ≡ true) (sym c.as_slice.ensures.value) c.in_ok-found.ensures.inside.stand_fixes

pub returns-in_err-next_text-clause-lintings : goal.returns-in_err-next_text-clause-lintings
returns-in_err-next_text-clause-lintings g t c =
    first_often (meanings_of g.R.Rule.meaning c.args.kit.now) (settings_of c.args.config.now) c.args.mode c.args.left c.args.source
    c.args.kit.now.lints c.lint_text.new.kit.lints c.lint_text.ensures.lintings

pub returns-in_err-next_text-clause-most : goal.returns-in_err-next_text-clause-most
returns-in_err-next_text-clause-most g t c =
    at_most_more 1 (suc c.args.left) c.args.kit.now.lints c.lint_text.new.kit.lints (omega arith) (from_once c.args.kit.now.lints c.lint_text.new.kit.lints c.lint_text.ensures.once)

-- ---- where no pass took a fix

pub same-source : goal.same-source
same-source g t c = refl

pub returns-in-None-clause-passes : goal.returns-in-None-clause-passes
returns-in-None-clause-passes g t c =
    stands (meanings_of g.R.Rule.meaning c.args.kit.now) (settings_of c.args.config.now) c.args.mode c.args.left c.args.source c.in_ok-found.found c.in_ok-found.ensures.linting
    c.args.kit.now.lints c.lint_text.new.kit.lints
    (next_none c.args.mode c.args.left (text_bytes c.args.source) c.as_slice.result.now c.in_ok-found.found.stand.items c.as_slice.ensures.value
    c.in_ok-next_text.field-0 c.in_ok-next_text.ensures c.in-None.is)
    c.in_ok-found.ensures.lints

pub returns-in-None-clause-lintings : goal.returns-in-None-clause-lintings
returns-in-None-clause-lintings g t c =
    first_often (meanings_of g.R.Rule.meaning c.args.kit.now) (settings_of c.args.config.now) c.args.mode c.args.left c.args.source
    c.args.kit.now.lints c.lint_text.new.kit.lints c.lint_text.ensures.lintings

pub returns-in-None-clause-most : goal.returns-in-None-clause-most
returns-in-None-clause-most g t c =
    at_most_more 1 (suc c.args.left) c.args.kit.now.lints c.lint_text.new.kit.lints (omega arith) (from_once c.args.kit.now.lints c.lint_text.new.kit.lints c.lint_text.ensures.once)

-- ---- where one did

pub overflow_sub-left : goal.overflow_sub-left
overflow_sub-left g t c =
    some_left c.args.mode c.args.left c.args.source (linting_of c.in_ok-found.found)
    (next_on c.args.mode c.args.left (text_bytes c.args.source) c.as_slice.result.now c.in_ok-found.found.stand.items c.as_slice.ensures.value
    c.in_ok-next_text.field-0 c.in-Some.next c.in_ok-next_text.ensures c.in-Some.is)

pub fix_text-requires : goal.fix_text-requires
fix_text-requires g t c κs within =
    let on = next_on c.args.mode c.args.left (text_bytes c.args.source) c.as_slice.result.now c.in_ok-found.found.stand.items c.as_slice.ensures.value
    c.in_ok-next_text.field-0 c.in-Some.next c.in_ok-next_text.ensures c.in-Some.is in
    let some : 1 ≤ c.args.left = some_left c.args.mode c.args.left c.args.source (linting_of c.in_ok-found.found) on in (
      omega (arith, some),
      (search rules, subst (λ meanings. FitsKit meanings (settings_of c.args.config.now)) (sym c.lint_text.ensures.same) c.requires),
    )

pub returns-in_ok-later-in-Some-clause-passes : goal.returns-in_ok-later-in-Some-clause-passes
returns-in_ok-later-in-Some-clause-passes g t c =
    changes (meanings_of g.R.Rule.meaning c.args.kit.now) (settings_of c.args.config.now) c.args.mode c.args.left c.args.source c.in_ok-found.found c.in_ok-found.ensures.linting
    c.args.kit.now.lints c.lint_text.new.kit.lints c.fix_text.new.kit.lints c.in-Some.next c.in_ok-later-in-Some.later
    (next_on c.args.mode c.args.left (text_bytes c.args.source) c.as_slice.result.now c.in_ok-found.found.stand.items c.as_slice.ensures.value
    c.in_ok-next_text.field-0 c.in-Some.next c.in_ok-next_text.ensures c.in-Some.is)
    (next_some c.args.mode c.args.left (text_bytes c.args.source) c.as_slice.result.now c.in_ok-found.found.stand.items c.as_slice.ensures.value
    c.in_ok-next_text.field-0 c.in-Some.next c.in_ok-next_text.ensures c.in-Some.is)
    c.in_ok-found.ensures.lints
    (subst (λ meanings. IsPassed meanings (settings_of c.args.config.now) c.args.mode (c.args.left - 1) c.in-Some.next c.lint_text.new.kit.lints c.in_ok-later-in-Some.later c.fix_text.new.kit.lints)
    c.lint_text.ensures.same c.in_ok-later-in-Some.ensures.passes)

pub returns-in_ok-later-in-Some-clause-same : goal.returns-in_ok-later-in-Some-clause-same
returns-in_ok-later-in-Some-clause-same g t c = c.fix_text.ensures.same ∙ c.lint_text.ensures.same

pub returns-in_err-later-in-Some-clause-same : goal.returns-in_err-later-in-Some-clause-same
returns-in_err-later-in-Some-clause-same g t c = c.fix_text.ensures.same ∙ c.lint_text.ensures.same

pub returns-in_ok-later-in-Some-clause-lintings : goal.returns-in_ok-later-in-Some-clause-lintings
returns-in_ok-later-in-Some-clause-lintings g t c =
    changes_often (meanings_of g.R.Rule.meaning c.args.kit.now) (settings_of c.args.config.now) c.args.mode c.args.left c.args.source c.in_ok-found.found c.in_ok-found.ensures.linting
    c.args.kit.now.lints c.lint_text.new.kit.lints c.fix_text.new.kit.lints c.in-Some.next
    (next_on c.args.mode c.args.left (text_bytes c.args.source) c.as_slice.result.now c.in_ok-found.found.stand.items c.as_slice.ensures.value
    c.in_ok-next_text.field-0 c.in-Some.next c.in_ok-next_text.ensures c.in-Some.is)
    (next_some c.args.mode c.args.left (text_bytes c.args.source) c.as_slice.result.now c.in_ok-found.found.stand.items c.as_slice.ensures.value
    c.in_ok-next_text.field-0 c.in-Some.next c.in_ok-next_text.ensures c.in-Some.is)
    c.in_ok-found.ensures.lints
    (subst (λ meanings. (later : Fixed) → Fixes meanings (settings_of c.args.config.now) c.args.mode (c.args.left - 1) c.in-Some.next later → AtMost later.heard c.lint_text.new.kit.lints c.fix_text.new.kit.lints)
    c.lint_text.ensures.same c.fix_text.ensures.lintings)

pub returns-in_err-later-in-Some-clause-lintings : goal.returns-in_err-later-in-Some-clause-lintings
returns-in_err-later-in-Some-clause-lintings g t c =
    changes_often (meanings_of g.R.Rule.meaning c.args.kit.now) (settings_of c.args.config.now) c.args.mode c.args.left c.args.source c.in_ok-found.found c.in_ok-found.ensures.linting
    c.args.kit.now.lints c.lint_text.new.kit.lints c.fix_text.new.kit.lints c.in-Some.next
    (next_on c.args.mode c.args.left (text_bytes c.args.source) c.as_slice.result.now c.in_ok-found.found.stand.items c.as_slice.ensures.value
    c.in_ok-next_text.field-0 c.in-Some.next c.in_ok-next_text.ensures c.in-Some.is)
    (next_some c.args.mode c.args.left (text_bytes c.args.source) c.as_slice.result.now c.in_ok-found.found.stand.items c.as_slice.ensures.value
    c.in_ok-next_text.field-0 c.in-Some.next c.in_ok-next_text.ensures c.in-Some.is)
    c.in_ok-found.ensures.lints
    (subst (λ meanings. (later : Fixed) → Fixes meanings (settings_of c.args.config.now) c.args.mode (c.args.left - 1) c.in-Some.next later → AtMost later.heard c.lint_text.new.kit.lints c.fix_text.new.kit.lints)
    c.lint_text.ensures.same c.fix_text.ensures.lintings)

pub returns-in_ok-later-in-Some-clause-most : goal.returns-in_ok-later-in-Some-clause-most
returns-in_ok-later-in-Some-clause-most g t c =
    once_more c.args.mode c.args.left c.args.source (linting_of c.in_ok-found.found) c.args.kit.now.lints c.lint_text.new.kit.lints c.fix_text.new.kit.lints
    (next_on c.args.mode c.args.left (text_bytes c.args.source) c.as_slice.result.now c.in_ok-found.found.stand.items c.as_slice.ensures.value
    c.in_ok-next_text.field-0 c.in-Some.next c.in_ok-next_text.ensures c.in-Some.is)
    c.lint_text.ensures.once c.fix_text.ensures.most

pub returns-in_err-later-in-Some-clause-most : goal.returns-in_err-later-in-Some-clause-most
returns-in_err-later-in-Some-clause-most g t c =
    once_more c.args.mode c.args.left c.args.source (linting_of c.in_ok-found.found) c.args.kit.now.lints c.lint_text.new.kit.lints c.fix_text.new.kit.lints
    (next_on c.args.mode c.args.left (text_bytes c.args.source) c.as_slice.result.now c.in_ok-found.found.stand.items c.as_slice.ensures.value
    c.in_ok-next_text.field-0 c.in-Some.next c.in_ok-next_text.ensures c.in-Some.is)
    c.lint_text.ensures.once c.fix_text.ensures.most
