use Rattle.std.proofs.Common.{◌≡◌, ◌∙◌, List, map, slice_index_or, ap, sym, subst}
use Rattle.std.specs.List.{flat_map}
use Rattle.std.specs.Prelude.{IfOk, IsTrue}
use Rattle.es_tree.specs.Rows.{Row}
use Rattle.es_host.specs.Files.{file_of, rows_in}
use Rattle.es_host.specs.Lawful.{is_asked}
use Rattle.es_host.specs.Nodes.{asked_in, asked_of, finds_at}
use Rattle.es_host.specs.Order.{ordered}
use Rattle.es_host.proofs.NodesLemmas.{asked-right}
use Rattle.es_host.proofs.nodes.EachNodeRule.finish.Goals as goal

pub judge_all-requires-clause-nodes : goal.judge_all-requires-clause-nodes
judge_all-requires-clause-nodes g c = λ k d h.
    let heard = c.requires.heard in
    (asked-right (rows_in (file_of c.args.ctx.now)) c.count-count.ensures.numbered (g.J.NodeRule.meaning.interest heard.options)
    c.as_slice.result.now heard.events (c.as_slice.ensures.value ∙ heard.heard_them.2) heard.lawful k d h).0

pub judge_all-requires-clause-asked : goal.judge_all-requires-clause-asked
judge_all-requires-clause-asked g c = λ options keeps k d h.
    let heard = c.requires.heard in
    let rows : List Row = rows_in (file_of c.args.ctx.now) in
    let one = slice_index_or c.as_slice.result.now k d in
    let same : g.J.NodeRule.meaning.interest heard.options ≡ g.J.NodeRule.meaning.interest options =
    sym (heard.heard_them.1 heard.options heard.heard_them.0) ∙ heard.heard_them.1 options keeps in
    subst (λ interest. IsTrue (is_asked rows interest one.node one.which)) same
    (asked-right rows c.count-count.ensures.numbered (g.J.NodeRule.meaning.interest heard.options)
    c.as_slice.result.now heard.events (c.as_slice.ensures.value ∙ heard.heard_them.2) heard.lawful k d h).1

pub returns-clause-says : goal.returns-clause-says
returns-clause-says g c = λ options events heard lawful.
    let file = file_of c.args.ctx.now in
    let all : c.as_slice.result.now ≡ asked_in (rows_in file) (g.J.NodeRule.meaning.interest options) =
    c.as_slice.ensures.value ∙ heard.2 ∙ ap (map asked_of) lawful in
    subst (λ asked. IfOk c.judge_all.result (λ findings. findings.items ≡ ordered (flat_map (finds_at g.J.NodeRule.meaning file options) asked)))
    all (c.judge_all.ensures.found options heard.0)
