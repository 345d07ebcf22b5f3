use Rattle.std.proofs.Common.{◌≡◌, ◌+◌, ◌-◌, ◌*◌, ◌∙◌, take, drop, length, ap, arith}
use Rattle.std.proofs.lemmas.List.{length_push}
use Rattle.es_text.specs.UnitCounts.{units_begun_in}
use Rattle.es_text.proofs.UnitMarkLemmas.{begun-next, each-pushed}
use Rattle.es_text.proofs.unit_counts.unit_marks.Goals as goal

pub loop-mark-preserved : goal.loop-mark-preserved
loop-mark-preserved c =
    let k = c.loop-mark.mark in
    let bytes = c.args.bytes.now in
    let width : k * 256 + 256 - k * 256 ≡ 256 = omega arith in
    let more = c.count_units-units.ensures.units ∙ ap (λ n. units_begun_in (take n (drop (k * 256) bytes))) width in
    let next = begun-next bytes k c.loop-mark.units c.count_units-units.result c.loop-mark.invariant.counted more in
    record {
      count = ap length c.in_ok-push-2.ensures.items ∙ length_push _ _ ∙ ap (λ n. n + 1) c.loop-mark.invariant.count;
      each = each-pushed bytes c.loop-mark.marks.items c.push-in-loop-mark.new.self.items k (c.loop-mark.units + c.count_units-units.result)
          c.loop-mark.invariant.each c.loop-mark.invariant.count next c.in_ok-push-2.ensures.items;
      counted = next;
      bound = omega (arith, c.loop-mark.invariant.bound, c.count_units-units.ensures.bound);
    }
