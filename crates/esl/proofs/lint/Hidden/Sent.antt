use denote.Exit as Exit
use denote.Param.Send.{arg_send, sendable}
use denote.Param.Sent.{Sends}
use Rattle.std.proofs.Crossing as heap
use Rattle.es_rules_plain.specs.contracts.default_case_last.DefaultCaseLast as DefaultCaseLast
use Rattle.es_rules_plain.specs.contracts.eqeqeq.Eqeqeq as Eqeqeq
use Rattle.es_rules_plain.specs.contracts.no_cond_assign.NoCondAssign as NoCondAssign
use Rattle.es_rules_plain.specs.contracts.no_debugger.NoDebugger as NoDebugger
use Rattle.es_rules_plain.specs.contracts.no_duplicate_case.NoDuplicateCase as NoDuplicateCase
use Rattle.es_rules_plain.specs.contracts.no_empty.NoEmpty as NoEmpty
use Rattle.es_rules_plain.specs.contracts.no_extra_semi.NoExtraSemi as NoExtraSemi
use Rattle.es_rules_plain.specs.contracts.no_restricted_syntax.NoRestrictedSyntax as NoRestrictedSyntax
use Rattle.es_rules_plain.specs.contracts.no_sparse_arrays.NoSparseArrays as NoSparseArrays
use Rattle.es_rules_plain.specs.contracts.no_unsafe_finally.NoUnsafeFinally as NoUnsafeFinally
use Rattle.es_rules_plain.specs.contracts.no_unsafe_negation.NoUnsafeNegation as NoUnsafeNegation
use Rattle.es_rules_plain.specs.contracts.semi.Semi as Semi
use Rattle.es_rules_plain.specs.contracts.valid_typeof.ValidTypeof as ValidTypeof
use Rattle.esl.proofs.SendLemmas.{each_node_send}
use Rattle.esl.proofs.lint.OwnLists

pub sends-part-1-1 : Sends OwnLists.part-1-1
sends-part-1-1 i = arg_send _ Exit.no _ (each_node_send Semi.the_row (search (heap.crosses, sendable) depth 60 fits 20000))

pub sends-part-1-2 : Sends OwnLists.part-1-2
sends-part-1-2 i = arg_send _ Exit.no _ (each_node_send NoExtraSemi.the_row (search (heap.crosses, sendable) depth 60 fits 20000))

pub sends-part-1-5 : Sends OwnLists.part-1-5
sends-part-1-5 i = arg_send _ Exit.no _ (each_node_send NoDebugger.the_row (search (heap.crosses, sendable) depth 60 fits 20000))

pub sends-part-1-6 : Sends OwnLists.part-1-6
sends-part-1-6 i = arg_send _ Exit.no _ (each_node_send NoEmpty.the_row (search (heap.crosses, sendable) depth 60 fits 20000))

pub sends-part-1-7 : Sends OwnLists.part-1-7
sends-part-1-7 i = arg_send _ Exit.no _ (each_node_send Eqeqeq.the_row (search (heap.crosses, sendable) depth 60 fits 20000))

pub sends-part-1-8 : Sends OwnLists.part-1-8
sends-part-1-8 i = arg_send _ Exit.no _ (each_node_send NoDuplicateCase.the_row (search (heap.crosses, sendable) depth 60 fits 20000))

pub sends-part-1-9 : Sends OwnLists.part-1-9
sends-part-1-9 i = arg_send _ Exit.no _ (each_node_send NoCondAssign.the_row (search (heap.crosses, sendable) depth 60 fits 20000))

pub sends-part-1-10 : Sends OwnLists.part-1-10
sends-part-1-10 i = arg_send _ Exit.no _ (each_node_send NoUnsafeFinally.the_row (search (heap.crosses, sendable) depth 60 fits 20000))

pub sends-part-1-11 : Sends OwnLists.part-1-11
sends-part-1-11 i = arg_send _ Exit.no _ (each_node_send NoUnsafeNegation.the_row (search (heap.crosses, sendable) depth 60 fits 20000))

pub sends-part-1-12 : Sends OwnLists.part-1-12
sends-part-1-12 i = arg_send _ Exit.no _ (each_node_send ValidTypeof.the_row (search (heap.crosses, sendable) depth 60 fits 20000))

pub sends-part-1-13 : Sends OwnLists.part-1-13
sends-part-1-13 i = arg_send _ Exit.no _ (each_node_send NoSparseArrays.the_row (search (heap.crosses, sendable) depth 60 fits 20000))

pub sends-part-1-14 : Sends OwnLists.part-1-14
sends-part-1-14 i = arg_send _ Exit.no _ (each_node_send DefaultCaseLast.the_row (search (heap.crosses, sendable) depth 60 fits 20000))

pub sends-part-1-15 : Sends OwnLists.part-1-15
sends-part-1-15 i = arg_send _ Exit.no _ (each_node_send NoRestrictedSyntax.the_row (search (heap.crosses, sendable) depth 60 fits 20000))
