use Rattle.std.proofs.Common.{◌∙◌, sym, rules}
use Rattle.std.proofs.lemmas.List.{take_rest}
use Rattle.std.specs.Str.{chars}
use Rattle.es_globs.specs.Patterns.{is_star, takes, up_to_slash}
use Rattle.es_globs.proofs.FittingLemmas.{front_fails, front_fits, wide_fails, wide_fits}
use Rattle.es_globs.proofs.PartsLemmas.{part_fails}
use Rattle.es_globs.proofs.part.takes_part.Goals as goal

pub returns-in_default : goal.returns-in_default
returns-in_default c =
    part_fails c.args.part.now (up_to_slash (chars c.args.text.now))
    (front_fails is_star takes c.args.part.now c.split_at_star.result.0.now c.split_at_star.result.1.now (up_to_slash (chars c.args.text.now)) c.split_at_star.ensures.whole c.split_at_star.ensures.plain c.in_default.ensures)

pub loop-left-init : goal.loop-left-init
loop-left-init c = record {
  utf8 = search rules;
  same = front_fits is_star takes c.args.part.now c.split_at_star.result.0.now c.split_at_star.result.1.now (up_to_slash (chars c.args.text.now)) (up_to_slash (chars c.in-Some.behind_front.now)) c.split_at_star.ensures.whole c.split_at_star.ensures.plain c.in-Some.ensures;
  star = c.split_at_star.ensures.star;
}

pub returns-in_default-earliest : goal.returns-in_default-earliest
returns-in_default-earliest c =
    part_fails c.args.part.now (up_to_slash (chars c.args.text.now))
    (wide_fails is_star takes c.loop-left.left.now c.split_at_star-in-len1-up.result.0.now c.split_at_star-in-len1-up.result.1.now c.is_empty-in-len1-up.result (up_to_slash (chars c.loop-left.rest.now))
    c.in-len1-up.len_at_least c.loop-left.invariant.star (sym (take_rest c.loop-left.left.now 1) ∙ c.split_at_star-in-len1-up.ensures.whole) c.split_at_star-in-len1-up.ensures.plain c.split_at_star-in-len1-up.ensures.star c.is_empty-in-len1-up.ensures c.in_default-earliest.ensures
    ∙ c.loop-left.invariant.same)

pub loop-left-preserved : goal.loop-left-preserved
loop-left-preserved c = record {
  utf8 = search rules;
  same = wide_fits is_star takes c.loop-left.left.now c.split_at_star-in-len1-up.result.0.now c.split_at_star-in-len1-up.result.1.now c.is_empty-in-len1-up.result (up_to_slash (chars c.loop-left.rest.now)) (up_to_slash (chars c.in-Some-earliest.found.now))
      c.in-len1-up.len_at_least c.loop-left.invariant.star (sym (take_rest c.loop-left.left.now 1) ∙ c.split_at_star-in-len1-up.ensures.whole) c.split_at_star-in-len1-up.ensures.plain c.split_at_star-in-len1-up.ensures.star c.is_empty-in-len1-up.ensures c.in-Some-earliest.ensures
      ∙ c.loop-left.invariant.same;
  star = c.split_at_star-in-len1-up.ensures.star;
}
