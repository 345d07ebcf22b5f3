use Rattle.std.proofs.Common.{◌∙◌, ap, length, arith}
use Rattle.std.proofs.lemmas.List.FromFn.{length-map-range_with_len}
use Rattle.es_scopes.specs.Places.{inside}
use Rattle.es_scopes.proofs.ListLemmas.{at_filled}
use Rattle.es_scopes.proofs.places.inside.Goals as goal

pub index-requires : goal.index-requires
index-requires c =
    omega (arith, c.requires.node, ap length c.requires.places.all.inside, length-map-range_with_len (inside c.args.tree.now) 0 (length c.args.tree.now))

pub returns : goal.returns
returns c =
    c.index.ensures
    ∙ at_filled (inside c.args.tree.now) c.args.places.now.inside.items (length c.args.tree.now) c.args.node c.index.result.now
    c.requires.places.all.inside c.requires.node
