use Rattle.std.proofs.Common.{◌≡◌, ap, ◌∙◌, refl, arith, subst}
use Rattle.std.specs.Prelude.{is_some}
use Rattle.es_parser.specs.Found.{Found}
use Rattle.es_parser.specs.Kept.{plain_at}
use Rattle.es_parser.proofs.BeginningsLemmas.{more_found}
use Rattle.es_parser.proofs.sets.find_between.Goals as goal

pub loop-code-init : goal.loop-code-init
loop-code-init g c = record { same = refl; found = c.requires.below }

pub loop-code-preserved : goal.loop-code-preserved
loop-code-preserved g c =
    let text = c.args.reader.now in
    let same = c.loop-code.invariant.same in
    let found : c.is_some.result ≡ is_some (plain_at text c.args.spot.context c.terminal_of.result c.args.spot.at) =
    c.is_some.ensures ∙ ap is_some (c.plain_at-found.ensures.token ∙ ap (λ reader. plain_at reader c.args.spot.context c.terminal_of.result c.args.spot.at) same) in
    record {
      same = c.plain_at-found.ensures.same ∙ same;
      found = more_found text c.args.spot.context c.args.spot.at c.one_code.ensures c.loop-code.set c.with_found-set.result c.loop-code.code c.terminal_of.result c.is_some.result
          c.loop-code.invariant.found c.terminal_of.ensures found c.with_found-set.ensures.others c.with_found-set.ensures.this c.with_found-set.ensures.none;
    }

pub returns-clause-found : goal.returns-clause-found
returns-clause-found g c =
    let last : c.loop-code.code ≡ c.args.to = omega (arith, c.loop-code.auto.code-end c.requires.order.0, c.loop-code-test.false) in
    subst (λ code. Found c.args.reader.now c.args.spot.context c.args.spot.at c.loop-code.set code) last c.loop-code.invariant.found
