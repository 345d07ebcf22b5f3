use Rattle.std.proofs.Common.{◌≡◌, ◌∙◌, ℕ, ◌+◌, ◌≤◌, ◌++◌, true, List, [], ◌∷◌, drop, map, ap, sym, subst}
use Rattle.std.specs.Prelude.{nat_lt}
use Rattle.std.specs.List.{list_all}
use Rattle.std.proofs.lemmas.List.{drop_more, map-append}
use Rattle.es_messages.specs.declared.fixing.NumberedFix.{NumberedFix}
use Rattle.es_messages.specs.Fixes.{Numbered, end_of, start_of, taken_behind, taken_of}
use Rattle.es_messages.specs.NumberedFixes.{may_start, seen}
use Rattle.es_messages.proofs.FixesLemmas.{last-yes, taken-no, taken-yes}
use Rattle.es_messages.proofs.fixing.take.Goals as goal
use Rattle.es_messages.proofs.fixing.take.Goals.{then-may_start+in_ok-push, else-may_start}

pub loop-one-preserved : goal.loop-one-preserved
loop-one-preserved c =
    let one : NumberedFix = c.one-item.result in
    let i : ℕ = c.loop-one.one-index in
    let taken : List Numbered = map seen c.loop-one.taken.items in
    let later : List Numbered = map seen (drop (i + 1) c.args.order.now) in
    let all : List Numbered = taken_of (map seen c.args.order.now) in
    let left : taken_behind taken (seen one ∷ later) ≡ all =
    ap (λ rest. taken_behind taken (map seen rest)) (ap (λ x. x ∷ drop (i + 1) c.args.order.now) c.one-item.is ∙ sym (drop_more c.args.order.now i one c.loop-one-test.true))
    ∙ c.loop-one.invariant.value in
    let low : one.fix.now.span.start ≤ one.fix.now.span.end =
    subst (λ x. x.fix.now.span.start ≤ x.fix.now.span.end) (sym c.one-item.is) (c.requires i one c.loop-one-test.true) in
    let test = c.loop-one.invariant.last one.fix.now.span.start in
    elim c.if-may_start.branch [
      | then-may_start+in_ok-push w ↦
          let grown : map seen c.if-may_start.taken.items ≡ taken ++ seen one ∷ [] =
          ap (λ v. map seen v.items) w.taken-is ∙ ap (map seen) w.in_ok-push.ensures.items ∙ map-append seen c.loop-one.taken.items (one ∷ []) in
          let may : may_start c.loop-one.last (start_of (seen one)) ≡ true = sym c.may_start.ensures ∙ w.if-may_start.true in
          record {
            value = subst (λ t. taken_behind t later ≡ all) (sym grown) (taken-yes taken (seen one) later all (test ∙ may) left);
            last = λ start.
                ap (list_all (λ other. nat_lt (end_of other) start)) grown
                ∙ last-yes taken (seen one) c.loop-one.last c.loop-one.invariant.last may low start
                ∙ ap (λ last. may_start last start) (sym w.last-is);
          }
      | else-may_start w ↦
          let same : map seen c.if-may_start.taken.items ≡ taken = ap (λ v. map seen v.items) w.taken-is in
          record {
            value = subst (λ t. taken_behind t later ≡ all) (sym same) (taken-no taken (seen one) later all (test ∙ (sym c.may_start.ensures ∙ w.if-may_start.false)) left);
            last = λ start.
                ap (list_all (λ other. nat_lt (end_of other) start)) same
                ∙ c.loop-one.invariant.last start
                ∙ ap (λ last. may_start last start) (sym w.last-is);
          }
    ]
