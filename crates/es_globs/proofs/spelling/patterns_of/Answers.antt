use Rattle.std.proofs.Common.{◌≡◌, ◌∙◌, ◌<◌, ◌≤◌, ◌∷◌, length, sym, ap, subst, Some}
use Rattle.es_globs.specs.declared.spelling.Mark.TheVariants.{Open}
use Rattle.es_globs.specs.declared.spelling.TheConstants.{MOST_PATTERNS}
use Rattle.es_globs.specs.Segments.{segments_in}
use Rattle.es_globs.specs.Spelling.{is_mark, joined, segment_patterns}
use Rattle.es_globs.proofs.SpellingLemmas.{all_spelled, is_few, is_many, length_joined, one_more, some_in_segment, some_joined, too_many, with_spelled}
use Rattle.es_globs.proofs.spelling.patterns_of.Goals as goal

pub returns-then-is_too_many : goal.returns-then-is_too_many
returns-then-is_too_many c =
    let patterns = c.loop-left.patterns in
    let segment = c.split_first-in-Some.result.0.now in
    let left : segments_in (is_mark Open) c.loop-left.left ≡ segment ∷ segments_in (is_mark Open) c.split_first-in-Some.result.1 =
    ap (segments_in (is_mark Open)) c.in-Some.is ∙ c.split_first-in-Some.ensures.value in
    let found : Some c.in-Some-2.more ≡ segment_patterns segment = sym c.in-Some-2.is ∙ c.in_ok-more.ensures in
    too_many patterns c.in-Some-2.more segment (segments_in (is_mark Open) c.split_first-in-Some.result.1) found
    (is_many c.len.result c.len-in-Some.result (length patterns) (length c.in-Some-2.more) c.is_too_many.result c.is_too_many.ensures c.len.ensures c.len-in-Some.ensures c.if-is_too_many.true)
    ∙ ap (with_spelled patterns) (sym left)
    ∙ c.loop-left.invariant.same

pub loop-left-preserved : goal.loop-left-preserved
loop-left-preserved c =
    let patterns = c.loop-left.patterns in
    let more = c.in-Some-2.more in
    let segment = c.split_first-in-Some.result.0.now in
    let left : segments_in (is_mark Open) c.loop-left.left ≡ segment ∷ segments_in (is_mark Open) c.split_first-in-Some.result.1 =
    ap (segments_in (is_mark Open)) c.in-Some.is ∙ c.split_first-in-Some.ensures.value in
    let found : Some more ≡ segment_patterns segment = sym c.in-Some-2.is ∙ c.in_ok-more.ensures in
    let made : c.in_ok-patterns.patterns ≡ joined patterns more =
    c.in_ok-patterns.ensures ∙ ap (λ firsts. joined firsts c.as_slice-in-Some.result.now) c.as_slice.ensures ∙ ap (joined patterns) c.as_slice-in-Some.ensures in
    let few : length patterns ≤ MOST_PATTERNS = c.loop-left.invariant.few in
    record {
      same = ap (λ p. with_spelled p (segments_in (is_mark Open) c.split_first-in-Some.result.1)) made
          ∙ one_more patterns more segment (segments_in (is_mark Open) c.split_first-in-Some.result.1) found
          ∙ ap (with_spelled patterns) (sym left)
          ∙ c.loop-left.invariant.same;
      some = subst (λ p. 0 < length p) (sym made) (some_joined patterns more c.loop-left.invariant.some (some_in_segment segment more found));
      few = subst (λ p. length p ≤ MOST_PATTERNS) (sym made)
          (subst (λ n. n ≤ MOST_PATTERNS) (sym (length_joined patterns more))
          (is_few c.len.result c.len-in-Some.result (length patterns) (length more) c.is_too_many.result c.is_too_many.ensures c.len.ensures c.len-in-Some.ensures c.if-is_too_many.false));
    }

pub returns : goal.returns
returns c =
    all_spelled c.loop-left.patterns c.loop-left.invariant.few
    ∙ ap (with_spelled c.loop-left.patterns) (sym (ap (segments_in (is_mark Open)) c.in_default.is))
    ∙ c.loop-left.invariant.same
