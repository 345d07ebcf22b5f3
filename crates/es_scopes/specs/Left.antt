-- The scopes that an iterator has yet to give.
use Rattle.std.specs.Prelude.{ℕ, List}
use Rattle.es_tree.specs.Around.{with_around}
use Rattle.es_scopes.specs.declared.chain.Outward.{Outward}
use Rattle.es_scopes.specs.Chains.{beyond}

-- the scopes that are left of those from one outwards
abbrev pub left : Outward → List ℕ
left outward = with_around (beyond outward.scopes.now) outward.next
