use Rattle.std.proofs.Common.{◌≡◌, subst, ◌∙◌}
use Rattle.std.specs.Str.{chars}
use Rattle.std.proofs.lemmas.Result.{err_from_is_err_and}
use Rattle.es_selectors.specs.declared.fault.SelectorFault.TheVariants.{Unread}
use Rattle.es_selectors.specs.Refusals.{RefusesList}
use Rattle.es_selectors.specs.Spelling.{SpellsList}
use Rattle.es_selectors.proofs.SpellingLemmas.{spells_no_other, spells_or_not}
use Rattle.es_selectors.proofs.ToldLemmas.{unread_refused}
use Rattle.es_selectors.proofs.reader.read.Goals as goal

pub returns-in_err-chains-clause-unread : goal.returns-in_err-chains-clause-unread
returns-in_err-chains-clause-unread c =
    let p = err_from_is_err_and c.from_residual-in_err-chains.result c.from_residual-in_err-chains.ensures.1 in
    let same : c.deref.result.now ≡ chars c.args.text.now = c.deref.ensures.value ∙ c.in_ok-characters.ensures in
    rw (p.1, p.2) (λ is.
    let unread : c.in_err-chains.field-0.0 ≡ Unread = cc in
    spells_or_not (chars c.args.text.now) (subst RefusesList same (unread_refused c.in_err-chains.field-0.0 unread c.in_err-chains.ensures.told)))

pub returns-clause-unread : goal.returns-clause-unread
returns-clause-unread c is =
    let same : c.deref.result.now ≡ chars c.args.text.now = c.deref.ensures.value ∙ c.in_ok-characters.ensures in
    spells_no_other (chars c.args.text.now) c.in_ok-chains.chains c.in_ok-chains.rest.now
    (subst (λ text. SpellsList text c.in_ok-chains.chains c.in_ok-chains.rest.now) same c.in_ok-chains.ensures.told)
    c.in-None.ensures.other
