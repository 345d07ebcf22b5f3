use Rattle.std.proofs.Common.{◌≡◌, ℕ, List, take}
use Rattle.std.specs.HashMap.{get_by_text}
use Rattle.es_rules_scope.specs.Globals.{use_of}
use Rattle.es_rules_scope.proofs.globals.table_of.Given as goal

abbrev pub invariant-loop-name : goal.invariant-loop-name
invariant-loop-name l = (name : List ℕ) → get_by_text l.table name ≡ use_of (take l.name-index l.globals) name
