use Rattle.std.proofs.Common.{rules, arith, ◌≡◌, ℕ, ◌∙◌, ◌<◌, ◌++◌, [], ap, refl, sym, subst, length, map, slice_index_or, List}
use Rattle.std.specs.Prelude.{IsTrue}
use Rattle.es_selectors.specs.declared.selector.Spelling.{Spelling}
use Rattle.es_settings.specs.Settings.{options_of}
use Rattle.es_host.specs.declared.file.FileView.{FileView}
use Rattle.es_host.specs.Files.{File, file_in}
use Rattle.es_host.specs.Lawful.{told_at}
use Rattle.es_host.specs.Listeners.{Serve, told_by}
use Rattle.es_host.specs.Meanings.{interest_at, is_on, setting_at}
use Rattle.es_host.proofs.ListsLemmas.{below-more}
use Rattle.es_host.proofs.MeaningsLemmas.{interest-here, set-within, to-set}
use Rattle.es_host.proofs.listeners.listeners_of.Goals as goal

pub loop-place-preserved : goal.loop-place-preserved
loop-place-preserved g c =
    let view : FileView = c.args.file.now in
    let file : File = file_in view in
    let i : ℕ = c.loop-place.place in
    let all = c.args.rules.now in
    let rule = c.index-rules-place.result in
    let setting = c.index-settings-place.result in
    let inside : i < length all = search rules in
    let set : i < length view.config.now.rules = set-within g.R.Rule.meaning view all c.requires.fits all i refl inside in
    let own : List Spelling = (g.R.Rule.meaning rule).interest (options_of setting.options) in
    let wanted : interest_at (map g.R.Rule.meaning all) file i ≡ own = interest-here g.R.Rule.meaning view all i rule setting inside (search rules) set (search rules) in
    let new = c.add_rule.new.listeners.items in
    let P : ℕ → Type 0 = λ k. IsTrue (is_on (setting_at file k)) → Serve c.args.kind (interest_at (map g.R.Rule.meaning all) file k) k new in
    let here : P i = λ on rows moment kind.
    let is_on_here = to-set view i setting set (search rules) (λ s. IsTrue (is_on s)) on in
    let heard = to-set view i setting set (search rules) (λ s. g.R.Rule.heard (slice_index_or all i rule) file s.options []) (c.requires.begun i rule inside on) in
    let heard_own = subst (λ r. g.R.Rule.heard r file (options_of setting.options) []) (sym (search rules)) heard in
    subst (λ interest. told_by rows interest moment i new ≡ told_at rows interest moment) (sym wanted)
    (c.in_ok-add_rule.ensures.own is_on_here file [] heard_own rows moment kind
    ∙ ap (λ events. events ++ told_at rows own moment) (c.loop-place.invariant.1 i rows own moment (omega arith))) in (
      below-more P i here (λ k less on rows moment kind. c.in_ok-add_rule.ensures.others rows (interest_at (map g.R.Rule.meaning all) file k) moment k (λ e. absurd (omega (arith, e, less))) ∙ c.loop-place.invariant.0 k less on rows moment kind),
      λ k rows interest moment least. c.in_ok-add_rule.ensures.others rows interest moment k (λ e. absurd (omega (arith, e, least))) ∙ c.loop-place.invariant.1 k rows interest moment (omega (arith, least)),
      c.in_ok-add_rule.ensures.rules (length all) inside c.loop-place.invariant.2,
    )
