use Rattle.std.proofs.Common.{rules, ◌∙◌, suc, [], ◌++◌, ap, refl}
use Rattle.std.proofs.lemmas.List.Elements.{All-rest}
use Rattle.es_host.specs.Kits.{meanings_of}
use Rattle.es_lint.specs.Passes.{most_passes}
use Rattle.es_run.specs.Stages.{FitsPart}
use Rattle.es_run.proofs.GatheringLemmas.{listed_more}
use Rattle.es_run.proofs.LintingLemmas.{most_one, turn_counted, turn_linted, turn_listens}
use Rattle.es_run.proofs.linting.lint_all.Goals as goal

pub returns-in_err-result-clause-lintings : goal.returns-in_err-result-clause-lintings
returns-in_err-result-clause-lintings g c =
    turn_listens (meanings_of g.R.Rule.meaning c.args.kit.now) _ c.loop-name.invariant.same c.args.mode c.loop-name.yielded
    (c.in-Some.name, c.in-Some.part) c.loop-name.results.items _ _ _ c.loop-name.invariant.linted c.args.parts.items
    c.loop-name.name-iterator.rest.items c.next.new.self.rest.items c.loop-name.invariant.listed (search rules) c.result_of.ensures.lintings

pub returns-in_err-result-clause-most : goal.returns-in_err-result-clause-most
returns-in_err-result-clause-most g c =
    most_one (suc (most_passes c.args.mode)) c.args.parts.items c.loop-name.yielded (c.in-Some.name, c.in-Some.part) c.next.new.self.rest.items _ _ _
    (c.loop-name.invariant.listed ∙ ap (λ list. c.loop-name.yielded ++ list) (search rules)) c.loop-name.invariant.most c.result_of.ensures.most

pub loop-name-preserved : goal.loop-name-preserved
loop-name-preserved g c = record {
  linted =
      turn_linted (meanings_of g.R.Rule.meaning c.args.kit.now) _ c.loop-name.invariant.same c.args.mode c.loop-name.yielded
      (c.in-Some.name, c.in-Some.part) c.loop-name.results.items _ _ _ c.loop-name.invariant.linted c.push.new.self.items c.in_ok-result.result
      (search rules) c.in_ok-result.ensures.linted;
  same = search rules;
  fits =
      All-rest (λ named. FitsPart (meanings_of g.R.Rule.meaning c.args.kit.now) named.1) (c.in-Some.name, c.in-Some.part)
      c.next.new.self.rest.items c.loop-name.name-iterator.rest.items (search rules) c.loop-name.invariant.fits;
  most =
      most_one (suc (most_passes c.args.mode)) _ c.loop-name.yielded (c.in-Some.name, c.in-Some.part) [] _ _ _ refl c.loop-name.invariant.most
      c.result_of.ensures.most;
  ticked =
      turn_counted c.loop-name.yielded (c.in-Some.name, c.in-Some.part) c.args.steps.now _ _ c.loop-name.invariant.ticked
      c.in_ok-result.ensures.ticked;
  listed =
      listed_more c.args.parts.items c.loop-name.yielded c.loop-name.name-iterator.rest.items c.next.new.self.rest.items
      (c.in-Some.name, c.in-Some.part) c.loop-name.invariant.listed (search rules);
}

pub returns-in_err-push-clause-lintings : goal.returns-in_err-push-clause-lintings
returns-in_err-push-clause-lintings g c =
    turn_listens (meanings_of g.R.Rule.meaning c.args.kit.now) _ c.loop-name.invariant.same c.args.mode c.loop-name.yielded
    (c.in-Some.name, c.in-Some.part) c.loop-name.results.items _ _ _ c.loop-name.invariant.linted c.args.parts.items
    c.loop-name.name-iterator.rest.items c.next.new.self.rest.items c.loop-name.invariant.listed (search rules) c.result_of.ensures.lintings

pub returns-in_err-push-clause-most : goal.returns-in_err-push-clause-most
returns-in_err-push-clause-most g c =
    most_one (suc (most_passes c.args.mode)) c.args.parts.items c.loop-name.yielded (c.in-Some.name, c.in-Some.part) c.next.new.self.rest.items _ _ _
    (c.loop-name.invariant.listed ∙ ap (λ list. c.loop-name.yielded ++ list) (search rules)) c.loop-name.invariant.most c.result_of.ensures.most
