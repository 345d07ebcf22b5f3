use Rattle.std.proofs.Common.{rules, arith, ap, subst, ◌≡◌, ◌∙◌}
use Rattle.std.specs.Prelude.{IfOk, string_bytes}
use Rattle.std.specs.Str.{chars}
use Rattle.es_lint.specs.Fatal.{early_text}
use Rattle.es_lint.proofs.FatalLemmas.{early_chars}
use Rattle.es_lint.proofs.fatal.early_text.Goals as goal

pub returns : goal.returns
returns c =
    let bytes : string_bytes c.in_ok-text.text ≡ early_text c.args.code = search rules in
    subst (λ told. IfOk c.new.result (λ text. text ≡ told)) (ap chars (c.as_str.ensures.value ∙ bytes) ∙ early_chars c.args.code (omega arith)) c.new.ensures
