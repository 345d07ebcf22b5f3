use denote.Exit as Exit
use denote.Param.Send.{IsSend, arg_send, recorded_send, sendable, struct_send}
use denote.Param.Sent.{Sends}
use denote.Struct.Declared.{shape}
use Rattle.std.proofs.Crossing as heap
use Rattle.es_selectors.proofs.SendLemmas.{selector_send}
use Rattle.es_host.specs.contracts.nodes.EachNode as EachNode
use Rattle.esl.specs.contracts.watch.WatchEmpty as WatchEmpty
use Rattle.esl.specs.contracts.watch.WatchNames as WatchNames
use Rattle.esl.proofs.tests.reports_of_two_rules_stand_by_their_places.OwnLists

-- rules that keep their selectors may go to another thread, since each selector may
empty_send : IsSend (EachNode.the_row WatchEmpty.the_row)
empty_send = recorded_send (EachNode.the_field WatchEmpty.the_row).row _ _ (EachNode.the_type WatchEmpty.the_row).to_one
    (struct_send (shape (EachNode.the_type WatchEmpty.the_row)) (
      search (heap.crosses, sendable) depth 60 fits 20000,
      (
        search (selector_send, heap.crosses, sendable) depth 60 fits 20000,
        (search (heap.crosses, sendable) depth 60 fits 20000, tt),
      ),
    ))

names_send : IsSend (EachNode.the_row WatchNames.the_row)
names_send = recorded_send (EachNode.the_field WatchNames.the_row).row _ _ (EachNode.the_type WatchNames.the_row).to_one
    (struct_send (shape (EachNode.the_type WatchNames.the_row)) (
      search (heap.crosses, sendable) depth 60 fits 20000,
      (
        search (selector_send, heap.crosses, sendable) depth 60 fits 20000,
        (search (heap.crosses, sendable) depth 60 fits 20000, tt),
      ),
    ))

pub sends-part-1-1 : Sends OwnLists.part-1-1
sends-part-1-1 i = arg_send _ Exit.no _ empty_send

pub sends-part-1-2 : Sends OwnLists.part-1-2
sends-part-1-2 i = arg_send _ Exit.no _ names_send
