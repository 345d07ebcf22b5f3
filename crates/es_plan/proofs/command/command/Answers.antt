use Rattle.std.proofs.Common.{◌∙◌, ap₂}
use Rattle.std.proofs.lemmas.Result.{IfOk-weaker}
use Rattle.clap.specs.Simple.{with_rule}
use Rattle.es_plan.specs.Command.{command}
use Rattle.es_plan.proofs.command.command.Goals as goal

pub returns : goal.returns
unfolding command
returns c =
    let config = c.in_ok-arg.ensures.shape c.lettered.ensures.local ∙ ap₂ with_rule c.bare.ensures c.lettered.ensures.rule in
    let format = c.in_ok-arg-2.ensures.shape c.lettered-2.ensures.local ∙ ap₂ with_rule config c.lettered-2.ensures.rule in
    let fix = c.in_ok-arg-3.ensures.shape c.flag.ensures.local ∙ ap₂ with_rule format c.flag.ensures.rule in
    let quiet = c.in_ok-arg-4.ensures.shape c.flag-2.ensures.local ∙ ap₂ with_rule fix c.flag-2.ensures.rule in
    let most = c.in_ok-arg-5.ensures.shape c.option.ensures.local ∙ ap₂ with_rule quiet c.option.ensures.rule in
    let inline = c.in_ok-arg-6.ensures.shape c.flag-3.ensures.local ∙ ap₂ with_rule most c.flag-3.ensures.rule in
    let generate = c.in_ok-arg-7.ensures.shape c.option-2.ensures.local ∙ ap₂ with_rule inline c.option-2.ensures.rule in
    IfOk-weaker c.arg-8.result _ _ (λ made h. h.shape c.files.ensures.local ∙ ap₂ with_rule generate c.files.ensures.rule) c.arg-8.ensures
