use Rattle.std.proofs.Common.{rules, ◌≡◌, ℕ, ◌∙◌, ◌++◌, Some, ap, sym, refl, append_assoc}
use Rattle.std.specs.List.{flat_map, range_with_len}
use Rattle.std.specs.Prelude.{slice_get}
use Rattle.std.proofs.lemmas.Option.{slice_get-get_or}
use Rattle.es_host.specs.declared.listeners.Listener.{Listener}
use Rattle.es_host.specs.Lawful.{told_of}
use Rattle.es_host.specs.Listeners.{told_by, told_by_one}
use Rattle.es_host.proofs.ListenersLemmas.{own-tells}
use Rattle.es_host.proofs.ListsLemmas.{range-more}
use Rattle.es_host.proofs.listeners.add_listeners.Goals as goal

pub loop-i-preserved : goal.loop-i-preserved
loop-i-preserved c =
    let i : ℕ = c.loop-i.i in
    let interest = c.args.interest.now in
    let one : Listener = record { rule = c.args.rule; which = c.in-Ok.which } in
    let here : c.in-Ok.which ≡ i = c.in-Ok.ensures.1 in
    let is : slice_get interest c.in-Ok.which ≡ Some c.index-interest-i.result =
    ap (slice_get interest) here ∙ slice_get-get_or interest i c.index-interest-i.result (search rules) ∙ ap (λ s. Some s) (search rules) in (
      λ rows moment kind.
          let before = told_by rows interest moment c.args.rule c.args.listeners.now.items in
          let first = flat_map (told_of rows interest moment) (range_with_len 0 i) in
          c.in_ok-add_listener.ensures.own rows interest moment c.args.rule kind is
          ∙ ap (λ events. events ++ told_by_one rows interest moment c.args.rule one) (c.loop-i.invariant.0 rows moment kind)
          ∙ append_assoc before first (told_by_one rows interest moment c.args.rule one)
          ∙ ap (λ events. before ++ events)
          (ap (λ events. first ++ events) (own-tells rows interest moment c.args.rule one refl ∙ ap (told_of rows interest moment) here)
          ∙ sym (range-more (told_of rows interest moment) i)),
      λ rows wanted moment place apart. c.in_ok-add_listener.ensures.others rows wanted moment place apart ∙ c.loop-i.invariant.1 rows wanted moment place apart,
      λ count less all. c.in_ok-add_listener.ensures.rules count less (c.loop-i.invariant.2 count less all),
    )
