use Rattle.std.proofs.Common.{◌∙◌}
use Rattle.es_rules_scope.proofs.no_unused_labels.is_named.Goals as goal

pub returns : goal.returns
returns c = c.is_marked.ensures ∙ c.requires c.args.node
