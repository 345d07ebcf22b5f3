use Rattle.std.proofs.Common.{◌≡◌, ◌++◌, append_assoc, ap, subst, ◌∙◌}
use Rattle.std.specs.Prelude.{IfOk, codes}
use Rattle.std.specs.Str.{chars}
use Rattle.es_rules_plain.proofs.RestrictionsLemmas.{usual_chars}
use Rattle.es_rules_plain.proofs.restriction.told_usually.Goals as goal

pub returns : goal.returns
returns c =
    let front = c.in_ok-push_str.ensures.bytes ∙ ap (λ bytes. bytes ++ c.args.selector.now) c.in_ok-text.ensures.ok in
    let whole = c.as_str.ensures.value ∙ c.in_ok-push_str-2.ensures.bytes
    ∙ ap (λ bytes. bytes ++ codes "' is not allowed.") front
    ∙ append_assoc (codes "Using '") c.args.selector.now (codes "' is not allowed.") in
    subst (λ told. IfOk c.new.result (λ text. text ≡ told)) (ap chars whole ∙ usual_chars c.args.selector.now c.utf8.selector) c.new.ensures
