use Rattle.std.proofs.Common.{ap, ◌∙◌, true}
use Rattle.clap.specs.Simple.{App, app_of_fields}
use Rattle.es_plan.proofs.command.bare.Goals as goal

pub returns : goal.returns
returns c =
    ap app_of_fields c.no_binary_name.ensures ∙ ap (λ (a : App). record { top = record a.top { no_binary_name = true }; subs = a.subs }) c.new.ensures.app
