use Rattle.std.proofs.Common.{◌∙◌, ap, length, map}
use Rattle.es_fork.specs.Edges.{before}
use Rattle.es_fork.proofs.GraphsLemmas.{IsOf-length, Has-index}
use Rattle.es_fork.proofs.ChangesLemmas.{length-edged, before-edged, connected_step}
use Rattle.es_fork.proofs.make.connect.Goals as goal

pub add_edge-requires : goal.add_edge-requires
add_edge-requires c =
    IsOf-length _ _ _ c.loop-edge.invariant.longer (c.requires c.edge-item.result (Has-index c.args.edges.now c.loop-edge.edge-index c.edge-item.result c.loop-edge-test.true c.edge-item.is))

pub loop-edge-preserved : goal.loop-edge-preserved
loop-edge-preserved c =
    let held = Has-index c.args.edges.now c.loop-edge.edge-index c.edge-item.result c.loop-edge-test.true c.edge-item.is in
    record {
      rest = connected_step _ _ c.args.edges.now c.loop-edge.edge-index c.edge-item.result c.loop-edge-test.true c.edge-item.is c.in_ok-add_edge.ensures.ok ∙ c.loop-edge.invariant.rest;
      longer = ap length c.in_ok-add_edge.ensures.ok ∙ length-edged _ _ _ ∙ c.loop-edge.invariant.longer;
      kept = λ last past.
          ap (map (before last)) c.in_ok-add_edge.ensures.ok
          ∙ before-edged last _ _ _ (c.requires c.edge-item.result held).from_one (past c.edge-item.result held)
          ∙ c.loop-edge.invariant.kept last past;
    }
