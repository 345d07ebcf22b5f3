use Rattle.std.proofs.Common.{◌≡◌, drop, fold, encode_utf8_all}
use Rattle.es_selectors.specs.Founds.{IsWithin, found_of}
use Rattle.es_selectors.specs.Matches.{found, step}
use Rattle.es_selectors.specs.Selects.{row_sight}
use Rattle.es_selectors.proofs.found.follow.Given as goal

abbrev pub invariant-loop-name : goal.invariant-loop-name
invariant-loop-name l = record {
  value : fold (λ at name. step (row_sight l.tree) at (encode_utf8_all name)) (found_of l.fn.spot.top l.at) (drop l.name-index l.names)
      ≡ found (row_sight l.tree) l.names l.fn.spot;
  within : IsWithin l.tree l.at;
}
