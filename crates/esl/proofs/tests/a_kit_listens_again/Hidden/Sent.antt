use denote.Exit as Exit
use denote.Param.Send.{IsSend, arg_send, recorded_send, sendable, struct_send}
use denote.Param.Sent.{Sends}
use denote.Struct.Declared.{shape}
use Rattle.std.proofs.Crossing as heap
use Rattle.es_selectors.proofs.SendLemmas.{selector_send}
use Rattle.es_host.specs.contracts.nodes.EachNode as EachNode
use Rattle.esl.specs.contracts.watch.WatchNames as WatchNames
use Rattle.esl.proofs.tests.a_kit_listens_again.OwnLists

-- a rule that keeps its selectors may go to another thread, since each selector may
names_send : IsSend (EachNode.the_row WatchNames.the_row)
names_send = recorded_send (EachNode.the_field WatchNames.the_row).row _ _ (EachNode.the_type WatchNames.the_row).to_one
    (struct_send (shape (EachNode.the_type WatchNames.the_row)) (
      search (heap.crosses, sendable) depth 60 fits 20000,
      (
        search (selector_send, heap.crosses, sendable) depth 60 fits 20000,
        (search (heap.crosses, sendable) depth 60 fits 20000, tt),
      ),
    ))

pub sends-part-1-1 : Sends OwnLists.part-1-1
sends-part-1-1 i = arg_send _ Exit.no _ names_send
