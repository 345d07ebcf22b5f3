use Rattle.std.proofs.Common.{rules, ◌∙◌, ℕ, [], ◌<◌, length}
use Rattle.std.specs.Prelude.{IsTrue}
use Rattle.std.proofs.Math.Seq.{map-set_same}
use Rattle.es_host.specs.declared.file.FileView.{FileView}
use Rattle.es_host.proofs.ListsLemmas.{Before-set}
use Rattle.es_host.proofs.MeaningsLemmas.{of-set, set-within}
use Rattle.es_host.specs.Files.{file_in}
use Rattle.es_host.specs.Hearing.{HasHeard}
use Rattle.es_host.specs.Meanings.{is_on}
use Rattle.es_host.proofs.begin.begin_all.Goals as goal

pub returns-in_err-begin_one-clause-same : goal.returns-in_err-begin_one-clause-same
returns-in_err-begin_one-clause-same g c =
    map-set_same g.R.Rule.meaning c.loop-place.rules c.loop-place.place c.begin_one.new.rule c.index-rules-place.result (search rules) ∙ c.loop-place.invariant.0

pub loop-place-preserved : goal.loop-place-preserved
loop-place-preserved g c =
    let view : FileView = c.args.file.now in
    let i : ℕ = c.loop-place.place in
    let inside : i < length c.loop-place.rules = search rules in
    let set = set-within g.R.Rule.meaning view c.args.rules.now c.requires.fits c.loop-place.rules i c.loop-place.invariant.0 inside in
    let new : HasHeard g.R.Rule.heard (file_in view) (λ _. []) i c.begin_one.new.rule =
    of-set view i c.index-settings-place.result set (search rules) (λ setting. IsTrue (is_on setting) → g.R.Rule.heard c.begin_one.new.rule (file_in view) setting.options [])
    (λ on. c.in_ok-begin_one.ensures.nothing on (file_in view)) in (
      map-set_same g.R.Rule.meaning c.loop-place.rules i c.begin_one.new.rule c.index-rules-place.result (search rules) ∙ c.loop-place.invariant.0,
      Before-set (HasHeard g.R.Rule.heard (file_in view) (λ _. [])) (HasHeard g.R.Rule.heard (file_in view) (λ _. [])) c.loop-place.rules i c.begin_one.new.rule inside new c.loop-place.invariant.1,
    )
