use Rattle.std.proofs.Common.{rules, arith, ◌∙◌, ℕ, refl, ap, sym, ◌<◌, ◌≤◌, length, map, slice_index_or}
use Rattle.std.proofs.lemmas.List.{length-map}
use Rattle.std.proofs.Math.Seq.{map-set_same}
use Rattle.es_host.specs.declared.listeners.Listener.{Listener}
use Rattle.es_host.proofs.HearingLemmas.{all-told, one-told}
use Rattle.es_host.proofs.WalkLemmas.{kind-there}
use Rattle.es_host.specs.Files.{File, file_of, rows_in}
use Rattle.es_host.specs.Walk.{moment}
use Rattle.es_host.proofs.walk.tell_all.Goals as goal

pub returns-in_err-tell-clause-same : goal.returns-in_err-tell-clause-same
returns-in_err-tell-clause-same g c =
    let none : Listener = record { rule = 0; which = 0 } in
    let listener : Listener = slice_index_or c.args.listeners.now c.loop-listener.listener-index none in
    map-set_same g.R.Rule.meaning c.loop-listener.rules listener.rule c.tell.new.rule c.index-rules-listener.result (search rules) ∙ c.loop-listener.invariant.0

pub loop-listener-preserved : goal.loop-listener-preserved
loop-listener-preserved g c =
    let file : File = file_of c.args.ctx.now in
    let none : Listener = record { rule = 0; which = 0 } in
    let j : ℕ = c.loop-listener.listener-index in
    let listener : Listener = slice_index_or c.args.listeners.now j none in
    let here : listener.rule < length c.loop-listener.rules = search rules in (
      map-set_same g.R.Rule.meaning c.loop-listener.rules listener.rule c.tell.new.rule c.index-rules-listener.result (search rules) ∙ c.loop-listener.invariant.0,
      λ moments all. one-told g.R.Rule.meaning g.R.Rule.heard file (map g.R.Rule.meaning c.args.rules.now) moments
          (moment c.args.leaves c.args.ctx.now.ancestors.now c.args.node) c.args.listeners.now c.loop-listener.rules c.loop-listener.invariant.0
          j none listener (omega arith) refl here c.index-rules-listener.result c.tell.new.rule (search rules)
          (search rules) (c.loop-listener.invariant.1 moments all),
    )

pub returns-clause-heard : goal.returns-clause-heard
returns-clause-heard g c = λ moments all.
    let file : File = file_of c.args.ctx.now in
    let meanings = map g.R.Rule.meaning c.args.rules.now in
    let kind = kind-there (rows_in file) c.args.node c.requires.node in
    let past : length c.args.listeners.now ≤ c.loop-listener.listener-index = omega arith in
    all-told g.R.Rule.meaning g.R.Rule.heard file meanings moments
    (moment c.args.leaves c.args.ctx.now.ancestors.now c.args.node) c.args.listeners.now c.loop-listener.rules
    c.loop-listener.listener-index kind.0 past
    (sym (length-map c.loop-listener.rules g.R.Rule.meaning) ∙ ap length c.loop-listener.invariant.0) kind.1 (c.requires.serve kind.0 kind.1) (c.loop-listener.invariant.1 moments all)
