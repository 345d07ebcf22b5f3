-- Rules that may go to another thread.
use denote.RattleType.{RattleType}
use denote.Param.Send.{IsSend, recorded_send, sendable, struct_send}
use denote.Struct.Declared.{shape}
use Rattle.std.proofs.Crossing as heap
use Rattle.es_selectors.proofs.SendLemmas.{selector_send}
use Rattle.es_host.specs.contracts.nodes.EachNode as EachNode

-- a rule that keeps its selectors may go, where what it judges with may, since each selector may
pub each_node_send : (J : RattleType) → IsSend J → IsSend (EachNode.the_row J)
each_node_send J send = recorded_send (EachNode.the_field J).row _ _ (EachNode.the_type J).to_one
    (struct_send (shape (EachNode.the_type J)) (
      send,
      (
        search (selector_send, heap.crosses, sendable) depth 60 fits 20000,
        (search (heap.crosses, sendable) depth 60 fits 20000, tt),
      ),
    ))
