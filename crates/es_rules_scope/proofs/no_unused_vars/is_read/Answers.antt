use Rattle.std.proofs.Common.{◌∙◌, ap}
use Rattle.es_rules_scope.specs.Marks.{is_marked}
use Rattle.es_rules_scope.proofs.no_unused_vars.is_read.Goals as goal

pub returns : goal.returns
returns c = c.is_marked.ensures ∙ ap (λ marks. is_marked marks c.args.index) c.as_slice.ensures.value ∙ c.requires.read c.args.index
