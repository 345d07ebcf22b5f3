use Rattle.std.proofs.Common.{◌∙◌, sym}
use Rattle.std.proofs.lemmas.List.{take_rest}
use Rattle.std.specs.Str.{chars}
use Rattle.es_globs.specs.Parts.{parts_in}
use Rattle.es_globs.specs.Patterns.{is_folders, name_parts, takes_part}
use Rattle.es_globs.proofs.FittingLemmas.{front_fails, front_fits, wide_fails, wide_fits}
use Rattle.es_globs.proofs.path.pattern_matches.Goals as goal

pub returns-in_default : goal.returns-in_default
returns-in_default c =
    front_fails is_folders takes_part c.args.parts.now c.split_at_folders.result.0.now c.split_at_folders.result.1.now (name_parts (chars c.args.name.now)) c.split_at_folders.ensures.whole c.split_at_folders.ensures.plain c.in_default.ensures

pub loop-left-init : goal.loop-left-init
loop-left-init c = record {
  same = front_fits is_folders takes_part c.args.parts.now c.split_at_folders.result.0.now c.split_at_folders.result.1.now (name_parts (chars c.args.name.now)) (parts_in c.in-Some.behind_front) c.split_at_folders.ensures.whole c.split_at_folders.ensures.plain c.in-Some.ensures;
  folders = c.split_at_folders.ensures.folders;
}

pub returns-in_default-earliest : goal.returns-in_default-earliest
returns-in_default-earliest c =
    wide_fails is_folders takes_part c.loop-left.left.now c.split_at_folders-in-len1-up.result.0.now c.split_at_folders-in-len1-up.result.1.now c.is_empty.result (parts_in c.loop-left.rest)
    c.in-len1-up.len_at_least c.loop-left.invariant.folders (sym (take_rest c.loop-left.left.now 1) ∙ c.split_at_folders-in-len1-up.ensures.whole) c.split_at_folders-in-len1-up.ensures.plain c.split_at_folders-in-len1-up.ensures.folders c.is_empty.ensures c.in_default-earliest.ensures
    ∙ c.loop-left.invariant.same

pub loop-left-preserved : goal.loop-left-preserved
loop-left-preserved c = record {
  same = wide_fits is_folders takes_part c.loop-left.left.now c.split_at_folders-in-len1-up.result.0.now c.split_at_folders-in-len1-up.result.1.now c.is_empty.result (parts_in c.loop-left.rest) (parts_in c.in-Some-earliest.found)
      c.in-len1-up.len_at_least c.loop-left.invariant.folders (sym (take_rest c.loop-left.left.now 1) ∙ c.split_at_folders-in-len1-up.ensures.whole) c.split_at_folders-in-len1-up.ensures.plain c.split_at_folders-in-len1-up.ensures.folders c.is_empty.ensures c.in-Some-earliest.ensures
      ∙ c.loop-left.invariant.same;
  folders = c.split_at_folders-in-len1-up.ensures.folders;
}
