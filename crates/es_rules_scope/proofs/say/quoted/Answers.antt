use Rattle.std.proofs.Common.{◌≡◌, ◌++◌, append_assoc, ap, subst, ◌∙◌}
use Rattle.std.specs.Prelude.{IfOk, codes}
use Rattle.std.specs.Str.{chars}
use Rattle.es_rules_scope.proofs.NamesLemmas.{quoted_chars}
use Rattle.es_rules_scope.proofs.say.quoted.Goals as goal

pub returns : goal.returns
returns c =
    let front = c.in_ok-push_str.ensures.bytes ∙ ap (λ bytes. bytes ++ c.args.name.now) c.in_ok-text.ensures.ok in
    let whole = c.as_str.ensures.value ∙ c.in_ok-push_str-2.ensures.bytes
    ∙ ap (λ bytes. bytes ++ c.args.rest.now) front
    ∙ append_assoc (codes "'") c.args.name.now c.args.rest.now in
    subst (λ told. IfOk c.new.result (λ text. text ≡ told)) (ap chars whole ∙ quoted_chars c.args.name.now c.args.rest.now c.utf8.name c.requires) c.new.ensures
