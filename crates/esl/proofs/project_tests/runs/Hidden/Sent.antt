use denote.Exit as Exit
use denote.Param.Send.{arg_send, sendable}
use denote.Param.Sent.{Sends}
use Rattle.std.proofs.Crossing as heap
use Rattle.es_rules_plain.specs.contracts.eqeqeq.Eqeqeq as Eqeqeq
use Rattle.es_rules_plain.specs.contracts.no_debugger.NoDebugger as NoDebugger
use Rattle.es_rules_plain.specs.contracts.no_restricted_syntax.NoRestrictedSyntax as NoRestrictedSyntax
use Rattle.es_rules_plain.specs.contracts.semi.Semi as Semi
use Rattle.esl.proofs.SendLemmas.{each_node_send}
use Rattle.esl.proofs.project_tests.runs.OwnLists

pub sends-part-1-1 : Sends OwnLists.part-1-1
sends-part-1-1 i = arg_send _ Exit.no _ (each_node_send Semi.the_row (search (heap.crosses, sendable) depth 60 fits 20000))

pub sends-part-1-3 : Sends OwnLists.part-1-3
sends-part-1-3 i = arg_send _ Exit.no _ (each_node_send NoDebugger.the_row (search (heap.crosses, sendable) depth 60 fits 20000))

pub sends-part-1-4 : Sends OwnLists.part-1-4
sends-part-1-4 i = arg_send _ Exit.no _ (each_node_send Eqeqeq.the_row (search (heap.crosses, sendable) depth 60 fits 20000))

pub sends-part-1-5 : Sends OwnLists.part-1-5
sends-part-1-5 i = arg_send _ Exit.no _ (each_node_send NoRestrictedSyntax.the_row (search (heap.crosses, sendable) depth 60 fits 20000))
