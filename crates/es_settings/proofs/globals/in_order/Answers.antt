use Rattle.std.proofs.Common.{rules}
use Rattle.std.specs.Cmp.{IsStrictWeakOrder}
use Rattle.std.specs.Ordering.{is_lt}
use Rattle.std.specs.Str.{encode_utf8_all}
use Rattle.std.proofs.lemmas.Cmp.{lists_total, nat_cmp_total, on_total}
use Rattle.std.proofs.lemmas.List.MinMax.{ranks_by}
use Rattle.std.proofs.lemmas.List.Sorted.{answers_always}
use Rattle.es_settings.proofs.SortingLemmas.{sorted_in_order}
use Rattle.es_settings.specs.Globals.{Global, name_cmp}
use Rattle.es_settings.proofs.globals.in_order.Goals as goal

names_order : IsStrictWeakOrder (λ (x y : Global). is_lt (name_cmp x y))
names_order = ranks_by (on_total (λ global. encode_utf8_all global.0) (lists_total nat_cmp_total)) (λ global. global)

pub returns : goal.returns
returns c =
    sorted_in_order (λ x y. is_lt (name_cmp x y)) names_order c.args.globals.items c.sort_by.new.self.items
    (c.in_ok-sort_by.ensures.sorted _ names_order (answers_always _ _ _ (λ f a r g h. search rules)))
    (c.sort_by.ensures.stable _ names_order (answers_always _ _ _ (λ f a r g h. search rules)))
