-- no-restricted-syntax: each node that a selector of the options matches, once for each selector. Where a selector ends
-- in `:exit`, the rule hears of a node when the walk leaves it, and says the same.
use Rattle.std.specs.Prelude.{[], ◌∷◌, None, codes, map, slice_get}
use Rattle.std.specs.Option.{option_map_or}
use Rattle.es_host.specs.Files.{rows_in}
use Rattle.es_host.specs.Nodes.{NodeMeaning, found, span_at}
use Rattle.es_rules_plain.specs.Restrictions.{restricted_by, restrictions, verdict_on}

abbrev pub no_restricted_syntax : NodeMeaning
no_restricted_syntax = record {
  id = codes "no-restricted-syntax";
  verdict = verdict_on;
  interest = λ options. map restricted_by (restrictions options);
  finds = λ file options node which.
      option_map_or (λ restriction. found (span_at (rows_in file) node) restriction.text None ∷ [])
      (slice_get (restrictions options) which) [];
}
