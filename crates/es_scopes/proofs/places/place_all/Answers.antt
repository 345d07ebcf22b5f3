use Rattle.std.proofs.Common.{◌≡◌, ℕ, length, sym, subst, arith}
use Rattle.es_scopes.specs.Chains.{AreNested}
use Rattle.es_scopes.specs.Filled.{ArePlaces}
use Rattle.es_scopes.proofs.NestLemmas.{scopes-nested}
use Rattle.es_scopes.proofs.places.place_all.Goals as goal

pub returns : goal.returns
returns c =
    let rows = c.args.tree.now in
    let ended : c.loop-node.node ≡ length rows = omega (arith, c.count-node-end.ensures.count) in
    let all : ArePlaces rows (length rows) c.loop-node.places =
    subst (λ (n : ℕ). ArePlaces rows n c.loop-node.places) ended c.loop-node.invariant in
    record {
      all = all;
      nested = subst AreNested (sym all.scopes) (scopes-nested rows c.count-node-end.ensures.numbered);
    }
