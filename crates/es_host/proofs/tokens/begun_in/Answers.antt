use Rattle.std.proofs.Common.{◌≡◌, ◌∙◌, ◌-◌, ℕ, List, take, drop, ap, length, length-drop, arith}
use Rattle.std.specs.Prelude.{nat_le, nat_lt}
use Rattle.std.specs.List.{filter}
use Rattle.std.proofs.lemmas.List.{take_all}
use Rattle.es_host.proofs.TokensLemmas.{filter-both}
use Rattle.es_host.proofs.tokens.begun_in.Goals as goal

rest-whole : {X : Type 0} (n : ℕ) (items : List X) → take (length items - n) (drop n items) ≡ drop n items
rest-whole n items = take_all (length items - n) (drop n items) (omega (arith, length-drop n items))

pub returns : goal.returns
returns g c =
    let place = g.T.Spanned.place in
    c.count_before-2.ensures.before
    ∙ ap (filter (λ item. nat_lt (place item).start c.args.span.end)) (rest-whole c.count_before.result c.args.items.now ∙ c.count_before.ensures.behind)
    ∙ filter-both (λ item. nat_le c.args.span.start (place item).start) (λ item. nat_lt (place item).start c.args.span.end) c.args.items.now
