use Rattle.std.proofs.Common.{◌≡◌, map, length}
use Rattle.es_scopes.specs.Gathering.{AreTables}
use Rattle.es_scopes.specs.Variables.{seen, variables_below}
use Rattle.es_scopes.proofs.variables.gather_all.Given as goal

abbrev pub invariant-loop-own : goal.invariant-loop-own
invariant-loop-own l = record {
  variables : map seen l.items.items ≡ variables_below l.tree l.own-index;
  tables : AreTables (variables_below l.tree l.own-index) l.tables.items;
  count : length l.tables.items ≡ l.own-index;
}
