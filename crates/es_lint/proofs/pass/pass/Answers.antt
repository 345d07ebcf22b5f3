use Rattle.std.proofs.Common.{◌≡◌, ◌∙◌, sym, subst, true}
use Rattle.es_text.specs.Texts.{text_bytes}
use Rattle.es_messages.specs.Fixes.{fixes_fit}
use Rattle.es_lint.specs.Passes.{fixes_in}
use Rattle.es_lint.proofs.PassLemmas.{after_of, fixes_in_fit, makes, takes_of}
use Rattle.es_lint.proofs.pass.pass.Goals as goal

pub apply-requires : goal.apply-requires
apply-requires c =
    subst (λ fixes. fixes_fit (text_bytes c.args.source.now) fixes ≡ true) (sym (c.as_slice.ensures.value ∙ c.in_ok-fixes.ensures))
    (fixes_in_fit (text_bytes c.args.source.now) c.args.mode c.args.reports.now c.requires)

pub text_after-requires : goal.text_after-requires
text_after-requires c =
    (makes (text_bytes c.args.source.now) c.in_ok-applied.applied c.as_slice.result.now c.in_ok-applied.ensures (sym c.took_one.ensures ∙ c.if-took_one.true)).1

pub returns-then-took_one : goal.returns-then-took_one
returns-then-took_one c =
    let fixes = fixes_in c.args.mode c.args.reports.now in
    let same = c.as_slice.ensures.value ∙ c.in_ok-fixes.ensures in
    let some = sym c.took_one.ensures ∙ c.if-took_one.true in (
      sym (takes_of (text_bytes c.args.source.now) c.in_ok-applied.applied c.as_slice.result.now fixes same c.in_ok-applied.ensures) ∙ some,
      after_of (text_bytes c.args.source.now) c.in_ok-applied.applied c.as_slice.result.now fixes c.in_ok-next.next same c.in_ok-applied.ensures some c.in_ok-next.ensures,
    )

pub returns : goal.returns
returns c =
    let fixes = fixes_in c.args.mode c.args.reports.now in
    let same = c.as_slice.ensures.value ∙ c.in_ok-fixes.ensures in
    sym (takes_of (text_bytes c.args.source.now) c.in_ok-applied.applied c.as_slice.result.now fixes same c.in_ok-applied.ensures)
    ∙ (sym c.took_one.ensures ∙ c.if-took_one.false)
