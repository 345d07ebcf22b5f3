use Rattle.std.proofs.Common.{◌≡◌, ◌∙◌, ℕ, [], length, ap, sym, arith}
use Rattle.es_scopes.specs.Declarations.{by_scope, declared_at, declared_before}
use Rattle.es_scopes.specs.Gathering.{put_all}
use Rattle.es_scopes.proofs.GatheringLemmas.{put_all-append, put_all-by_scope}
use Rattle.es_scopes.proofs.ListLemmas.{flat_map-more}
use Rattle.es_scopes.proofs.declarations.declared.Goals as goal

pub loop-node-preserved : goal.loop-node-preserved
loop-node-preserved c =
    let rows = c.args.tree.now in
    let node = c.loop-node.node in
    let empty = by_scope (length c.args.places.now.scopes.items) [] in
    c.in_ok-put_declared.ensures
    ∙ ap (λ lists. put_all lists (declared_at rows node)) c.loop-node.invariant
    ∙ sym (put_all-append empty (declared_before rows node) (declared_at rows node))
    ∙ ap (put_all empty) (sym (flat_map-more (declared_at rows) node))

pub returns : goal.returns
returns c =
    let rows = c.args.tree.now in
    let count = length c.args.places.now.scopes.items in
    let ended : c.loop-node.node ≡ length rows = omega (arith, c.count-node-end.ensures.count) in
    c.loop-node.invariant
    ∙ ap (λ (n : ℕ). put_all (by_scope count []) (declared_before rows n)) ended
    ∙ put_all-by_scope count [] (declared_before rows (length rows))
