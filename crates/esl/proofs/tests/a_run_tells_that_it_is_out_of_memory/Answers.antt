use Rattle.std.proofs.Common.{rules, refl}
use Rattle.es_host.specs.Nodes.{of_nodes, simple_nodes}
use Rattle.es_rules_plain.specs.NoDebugger.{no_debugger}
use Rattle.esl.proofs.KitsLemmas.{one_needs}
use Rattle.esl.proofs.tests.a_run_tells_that_it_is_out_of_memory.Goals as goal

pub status_of-requires-clause-options : goal.status_of-requires-clause-options
status_of-requires-clause-options g c =
    one_needs (λ _. of_nodes (simple_nodes no_debugger)) c.in_ok-plain_rules.field-0.items (λ k d h. refl) c.push.new.self.items c.new.result (search rules) (search rules)
