use Rattle.std.proofs.Common.{◌≡◌, ◌++◌, length, take}
use Rattle.es_tree.proofs.child_lists.ChildLists.append.Given as goal

abbrev pub invariant-loop-list : goal.invariant-loop-list
invariant-loop-list l = record {
  pushed : l.self ++ l.list-iterator.rest.items ≡ l.fn.self ++ l.fn.lists;
  kept : take (length l.fn.self) l.self ≡ l.fn.self;
}
