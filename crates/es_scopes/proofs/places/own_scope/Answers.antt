use Rattle.std.proofs.Common.{◌∙◌, ap, length, arith}
use Rattle.std.proofs.lemmas.List.FromFn.{length-map-range_with_len}
use Rattle.es_scopes.specs.Places.{own_scope}
use Rattle.es_scopes.proofs.ListLemmas.{at_filled}
use Rattle.es_scopes.proofs.places.own_scope.Goals as goal

pub index-requires : goal.index-requires
index-requires c =
    omega (arith, c.requires.node, ap length c.requires.places.all.owns, length-map-range_with_len (own_scope c.args.tree.now) 0 (length c.args.tree.now))

pub returns : goal.returns
returns c =
    c.index.ensures
    ∙ at_filled (own_scope c.args.tree.now) c.args.places.now.owns.items (length c.args.tree.now) c.args.node c.index.result.now
    c.requires.places.all.owns c.requires.node
