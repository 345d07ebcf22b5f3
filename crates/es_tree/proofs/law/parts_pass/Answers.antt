use Rattle.std.proofs.Common.{◌∙◌}
use Rattle.es_tree.proofs.SpansLemmas.{list_all-rows_of, passes-with_child, spans_pass-bare, spans_pass-with_attribute}
use Rattle.es_tree.proofs.law.parts_pass.Goals as goal

pub returns-clause-bare : goal.returns-clause-bare
returns-clause-bare c = λ test kind span own. spans_pass-bare test kind span ∙ own

pub returns-clause-child : goal.returns-clause-child
returns-clause-child c = λ test shape field child own below. passes-with_child test shape field child own below

pub returns-clause-attribute : goal.returns-clause-attribute
returns-clause-attribute c = λ test shape field value own. spans_pass-with_attribute test shape field value ∙ own

pub returns-clause-rows : goal.returns-clause-rows
returns-clause-rows c = λ test root own. list_all-rows_of test root own
