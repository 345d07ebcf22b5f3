use Rattle.std.proofs.Common.{◌≡◌, ◌++◌, map, take}
use Rattle.es_scopes.specs.Gathering.{IsTable}
use Rattle.es_scopes.specs.Variables.{gathered, seen}
use Rattle.es_scopes.proofs.variables.gather.Given as goal

abbrev pub invariant-loop-declaration : goal.invariant-loop-declaration
invariant-loop-declaration l = record {
  variables : map seen l.variables.items ≡ map seen l.fn.variables.items ++ gathered l.tree l.scope (take l.declaration-index l.declarations);
  table : IsTable l.scope (map seen l.variables.items) l.table;
}
