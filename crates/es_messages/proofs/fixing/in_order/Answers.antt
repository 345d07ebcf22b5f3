use Rattle.std.proofs.Common.{rules, ◌≡◌, map, subst}
use Rattle.std.specs.List.Sorted.{IsPermutation}
use Rattle.std.proofs.lemmas.List.Sorted.{IsPermutation-map, answers_always}
use Rattle.es_messages.specs.Fixes.{goes_before}
use Rattle.es_messages.specs.NumberedFixes.{seen}
use Rattle.es_messages.proofs.FixesLemmas.{fixes_order}
use Rattle.es_messages.proofs.ListsLemmas.{sorted-map}
use Rattle.es_messages.proofs.fixing.in_order.Goals as goal

pub returns : goal.returns
returns c = record {
  each_once = subst (λ numbered. IsPermutation numbered (map seen c.sort_by.new.self.items)) c.in_ok-order.ensures
      (IsPermutation-map seen _ _ c.sort_by.ensures.permutation);
  rises = sorted-map seen goes_before c.sort_by.new.self.items
      (c.in_ok-sort_by.ensures.sorted _ fixes_order (answers_always _ _ _ (λ f a r g h. search rules)));
}
