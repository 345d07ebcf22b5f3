use Rattle.std.proofs.Common.{◌∙◌, length, ap, sym, arith}
use Rattle.std.proofs.lemmas.List.FromFn.{length-map-range_with_len}
use Rattle.es_tree.proofs.AroundLemmas.{parent-before}
use Rattle.es_scopes.specs.Places.{stands, inside}
use Rattle.es_scopes.proofs.ListLemmas.{at_filled}
use Rattle.es_scopes.proofs.PlaceLemmas.{around-none, around-out, around-in}
use Rattle.es_scopes.proofs.places.around.Goals as goal

pub returns-in_err-above : goal.returns-in_err-above
returns-in_err-above c =
    c.from_residual.ensures ∙ around-none c.args.tree.now c.parent.ensures.numbered c.args.node c.in_err-above.ensures.parent

pub index-requires : goal.index-requires
index-requires c =
    let before = parent-before c.args.tree.now c.parent.ensures.numbered c.args.node c.in_ok-above.field-0 (sym c.in_ok-above.ensures.parent) in
    omega (arith, before, ap length c.requires.stands, length-map-range_with_len (stands c.args.tree.now) 0 c.args.node)

pub index-requires-else-is_left_out : goal.index-requires-else-is_left_out
index-requires-else-is_left_out c =
    let before = parent-before c.args.tree.now c.parent.ensures.numbered c.args.node c.in_ok-above.field-0 (sym c.in_ok-above.ensures.parent) in
    omega (arith, before, ap length c.requires.inside, length-map-range_with_len (inside c.args.tree.now) 0 c.args.node)

pub returns-then-is_left_out : goal.returns-then-is_left_out
returns-then-is_left_out c =
    let rows = c.args.tree.now in
    let above = c.in_ok-above.field-0 in
    let before = parent-before rows c.parent.ensures.numbered c.args.node above (sym c.in_ok-above.ensures.parent) in
    c.index.ensures ∙ at_filled (stands rows) c.args.places.now.stands.items c.args.node above c.index.result.now c.requires.stands before
    ∙ around-out rows c.parent.ensures.numbered c.args.node above c.in_ok-above.ensures.parent c.if-is_left_out.ensures

pub returns-else-is_left_out : goal.returns-else-is_left_out
returns-else-is_left_out c =
    let rows = c.args.tree.now in
    let above = c.in_ok-above.field-0 in
    let before = parent-before rows c.parent.ensures.numbered c.args.node above (sym c.in_ok-above.ensures.parent) in
    c.index-else-is_left_out.ensures ∙ at_filled (inside rows) c.args.places.now.inside.items c.args.node above c.index-else-is_left_out.result.now c.requires.inside before
    ∙ around-in rows c.parent.ensures.numbered c.args.node above c.in_ok-above.ensures.parent c.if-is_left_out.ensures
