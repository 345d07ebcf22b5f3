use Rattle.std.proofs.Common.{Some, rules, ap, ◌∙◌, ◌≡◌}
use Rattle.clap.specs.Lexer.{usize_max}
use Rattle.clap.specs.Walk.{rule_of}
use Rattle.es_plan.specs.Command.{files_rule}
use Rattle.es_plan.proofs.Ranges.{range_is}
use Rattle.es_plan.proofs.command.files.Goals as goal

pub returns-clause-rule : goal.returns-clause-rule
returns-clause-rule c =
    let before : rule_of (record c.action.result { num_vals = Some (record { start_inclusive = 0; end_inclusive = usize_max }) }) ≡ files_rule = search rules in
    ap rule_of c.num_args.ensures.0 ∙ ap (λ o. rule_of (record c.action.result { num_vals = o })) (range_is _ _ c.num_args.ensures.1) ∙ before
