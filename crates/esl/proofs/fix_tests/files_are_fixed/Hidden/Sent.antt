use denote.Exit as Exit
use denote.Param.Send.{arg_send, sendable}
use denote.Param.Sent.{Sends}
use Rattle.std.proofs.Crossing as heap
use Rattle.es_rules_plain.specs.contracts.no_debugger.NoDebugger as NoDebugger
use Rattle.es_rules_plain.specs.contracts.no_extra_semi.NoExtraSemi as NoExtraSemi
use Rattle.es_rules_plain.specs.contracts.semi.Semi as Semi
use Rattle.esl.specs.contracts.watch.ToArray as ToArray
use Rattle.esl.specs.contracts.watch.ToThis as ToThis
use Rattle.esl.proofs.SendLemmas.{each_node_send}
use Rattle.esl.proofs.fix_tests.files_are_fixed.OwnLists

pub sends-part-1-1 : Sends OwnLists.part-1-1
sends-part-1-1 i = arg_send _ Exit.no _ (each_node_send Semi.the_row (search (heap.crosses, sendable) depth 60 fits 20000))

pub sends-part-1-2 : Sends OwnLists.part-1-2
sends-part-1-2 i = arg_send _ Exit.no _ (each_node_send NoExtraSemi.the_row (search (heap.crosses, sendable) depth 60 fits 20000))

pub sends-part-1-5 : Sends OwnLists.part-1-5
sends-part-1-5 i = arg_send _ Exit.no _ (each_node_send NoDebugger.the_row (search (heap.crosses, sendable) depth 60 fits 20000))

pub sends-part-1-6 : Sends OwnLists.part-1-6
sends-part-1-6 i = arg_send _ Exit.no _ (each_node_send ToArray.the_row (search (heap.crosses, sendable) depth 60 fits 20000))

pub sends-part-1-7 : Sends OwnLists.part-1-7
sends-part-1-7 i = arg_send _ Exit.no _ (each_node_send ToThis.the_row (search (heap.crosses, sendable) depth 60 fits 20000))
