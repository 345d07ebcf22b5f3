use Rattle.std.proofs.Common.{rules, ◌<◌, [], ◌++◌, length, ◌∙◌, sym, ap, subst, take, cond}
use Rattle.std.proofs.lemmas.Result.{err_from_is_err_and}
use Rattle.es_fork.specs.Graphs.{AreOf}
use Rattle.es_skeleton.specs.declared.completion.Completion.TheVariants.{Normal}
use Rattle.es_skeleton.specs.declared.fault.SkeletonFault.TheVariants.{TooWide}
use Rattle.es_skeleton.specs.Controls.{Exit, Catch, Choice, Finally}
use Rattle.es_skeleton.specs.Pendings.{heads, others, recoded}
use Rattle.es_skeleton.specs.Steps.{GoesOn}
use Rattle.es_skeleton.specs.Built.{Makes, weight}
use Rattle.es_skeleton.specs.Copies.{HasFewCopies, IsTooWide}
use Rattle.es_skeleton.specs.Shapes.{shape, onto}
use Rattle.es_skeleton.proofs.CopiesLemmas.{catch_joins, choice_joins, finally_joins, both_few, first_wide, second_wide, emit_few, emit_wide, exit_few, loop_few, loop_wide, never_few, body_wide, entry_few, part_few, part_wide}
use Rattle.es_skeleton.proofs.Making.{FrontMade, head_is, emit_makes, exit_makes, made_of, next_head, catch_makes, recode_makes, new_head, still_of, second_head, choice_makes, loop_to_of, loop_leads, loop_makes, never_head, nil_of, never_makes, finally_makes, made_wait, copy_smaller, copy_head, copy_some, copy_waits, copy_made, waits_of, copies_end, front_begin, front_head, front_of, front_after, front_enter}
use Rattle.es_skeleton.proofs.ShapesLemmas.{part_lighter, weighs, shape_seq, part_step, entry_step}
use Rattle.es_skeleton.proofs.build.+build.Goals as goal

pub build-put_label-requires : goal.build-put_label-requires
build-put_label-requires t c = head_is c.requires

pub build-returns-in_ok-list-in-Emit : goal.build-returns-in_ok-list-in-Emit
build-returns-in_ok-list-in-Emit t c = record {
  made = subst (λ k. Makes (shape k) c.args.graph.now c.args.at c.put_label.new.graph c.in_ok-list-in-Emit.list.items) (sym c.in-Emit.is)
      (emit_makes _ _ _ _ _ c.in_ok-put_label-in-Emit.ensures c.in_ok-list-in-Emit.ensures);
  few = subst (λ k. HasFewCopies (shape k) c.args.copies) (sym c.in-Emit.is) (emit_few _ c.args.copies (search rules));
  wide = tt;
}

pub build-returns-in_ok-list-in-Exit : goal.build-returns-in_ok-list-in-Exit
build-returns-in_ok-list-in-Exit t c = record {
  made = subst (λ k. Makes (shape k) c.args.graph.now c.args.at c.args.graph.now c.in_ok-list-in-Exit.list.items) (sym c.in-Exit.is)
      (exit_makes _ _ _ _ c.in_ok-list-in-Exit.ensures);
  few = subst (λ k. HasFewCopies (shape k) c.args.copies) (sym c.in-Exit.is) (exit_few _ c.args.copies);
  wide = tt;
}

pub build-returns-in_ok-list-in-Entry : goal.build-returns-in_ok-list-in-Entry
build-returns-in_ok-list-in-Entry t c = record {
  made = subst (λ k. Makes (shape k) c.args.graph.now c.args.at c.args.graph.now c.in_ok-list-in-Entry.list.items) (sym c.in-Entry.is)
      (exit_makes _ _ _ _ c.in_ok-list-in-Entry.ensures);
  few = subst (λ k. HasFewCopies (shape k) c.args.copies) (sym c.in-Entry.is) (exit_few Normal c.args.copies);
  wide = tt;
}

pub build-build_seq-requires : goal.build-build_seq-requires
build-build_seq-requires t c =
    let e = ap (λ k. weight (shape k)) c.in-Seq.is ∙ ap weight (shape_seq c.in-Seq.parts) ∙ ap (λ l. weight (onto (Exit Normal) l)) (sym c.deref-in-Seq.ensures.value) in
    let w = weighs (shape c.args.skeleton.now) in
    (search (rules, e, w), c.requires)

pub build-returns-in_ok-list-in-Seq : goal.build-returns-in_ok-list-in-Seq
build-returns-in_ok-list-in-Seq t c =
    let e = ap (onto (Exit Normal)) c.deref-in-Seq.ensures.value ∙ sym (shape_seq c.in-Seq.parts) ∙ ap shape (sym c.in-Seq.is) in
    record {
      made = subst (λ s. Makes s c.args.graph.now c.args.at c.build_seq.new.graph c.in_ok-list-in-Seq.list.items) e c.in_ok-list-in-Seq.ensures.made;
      few = subst (λ s. HasFewCopies s c.args.copies) e c.in_ok-list-in-Seq.ensures.few;
      wide = tt;
    }

pub build-returns-in_err-list-in-Seq-clause-wide : goal.build-returns-in_err-list-in-Seq-clause-wide
build-returns-in_err-list-in-Seq-clause-wide t c =
    let e = ap (onto (Exit Normal)) c.deref-in-Seq.ensures.value ∙ sym (shape_seq c.in-Seq.parts) ∙ ap shape (sym c.in-Seq.is) in
    let p = err_from_is_err_and c.from_residual-in_err-list-in-Seq.result c.from_residual-in_err-list-in-Seq.ensures.1 in
    rw (p.1, p.2) (subst (λ s. IsTooWide s c.args.copies c.in_err-list-in-Seq.field-0.0) e c.in_err-list-in-Seq.ensures.wide)

pub build-returns-then-copies-gt-MOST_COPIES-clause-wide : goal.build-returns-then-copies-gt-MOST_COPIES-clause-wide
build-returns-then-copies-gt-MOST_COPIES-clause-wide t c =
    subst (λ k. IsTooWide (shape k) c.args.copies (TooWide c.in-Emit.label c.args.copies)) (sym c.in-Emit.is) (emit_wide c.in-Emit.label c.args.copies c.if-copies-gt-MOST_COPIES.true)

pub build_catch-returns-in-Exit : goal.build_catch-returns-in-Exit
build_catch-returns-in-Exit t c = record {
  made = recode_makes c.args.completion c.in-Exit.to _ _ _ c.in_ok-before.ensures.made c.deref.ensures.value c.in_ok-recoded.ensures (ap shape c.in-Exit.is);
  few = both_few (shape c.args.first.now) (shape c.args.second.now) _ c.args.copies c.args.copies c.args.copies (catch_joins c.args.completion (shape c.args.first.now) (shape c.args.second.now) c.args.copies)
      c.in_ok-before.ensures.few (subst (λ k. HasFewCopies (shape k) c.args.copies) (sym c.in-Exit.is) (exit_few c.in-Exit.to c.args.copies));
  wide = tt;
}

pub build_catch-returns-in_err-before-clause-wide : goal.build_catch-returns-in_err-before-clause-wide
build_catch-returns-in_err-before-clause-wide t c =
    let p = err_from_is_err_and c.from_residual.result c.from_residual.ensures.1 in
    rw (p.1, p.2)
    (first_wide (shape c.args.first.now) (shape c.args.second.now) (Catch c.args.completion (shape c.args.first.now) (shape c.args.second.now)) c.args.copies c.args.copies c.args.copies c.in_err-before.field-0.0 (catch_joins c.args.completion (shape c.args.first.now) (shape c.args.second.now) c.args.copies) c.in_err-before.ensures.wide)

pub build_catch-returns-in_err-after-clause-wide : goal.build_catch-returns-in_err-after-clause-wide
build_catch-returns-in_err-after-clause-wide t c =
    let p = err_from_is_err_and c.from_residual-in_err-after.result c.from_residual-in_err-after.ensures.1 in
    rw (p.1, p.2)
    (second_wide (shape c.args.first.now) (shape c.args.second.now) (Catch c.args.completion (shape c.args.first.now) (shape c.args.second.now)) c.args.copies c.args.copies c.args.copies c.in_err-after.field-0.0 (catch_joins c.args.completion (shape c.args.first.now) (shape c.args.second.now) c.args.copies) c.in_ok-before.ensures.few c.in_err-after.ensures.wide)

pub build_catch-go_on-requires : goal.build_catch-go_on-requires
build_catch-go_on-requires t c =
    made_of c.requires c.in_ok-before.ensures.made c.args.completion _ (c.deref-3.ensures.value ∙ c.in_ok-heads.ensures ∙ ap (heads c.args.completion) c.deref-2.ensures.value)

pub build_catch-build-requires-2 : goal.build_catch-build-requires-2
build_catch-build-requires-2 t c = (
  search rules,
  next_head c.args.graph.now c.build.new.graph c.go_on.new.graph _ c.args.completion c.requires c.in_ok-before.ensures.made
      (c.deref-3.ensures.value ∙ c.in_ok-heads.ensures ∙ ap (heads c.args.completion) c.deref-2.ensures.value) c.in_ok-next.ensures.goes,
)

pub build_catch-returns : goal.build_catch-returns
build_catch-returns t c = record {
  made = catch_makes c.go_on.new.graph c.args.completion c.in_ok-next.next.met c.in_ok-list.list.items c.in_ok-rest.rest.items _ c.in_ok-before.ensures.made
      (c.deref-3.ensures.value ∙ c.in_ok-heads.ensures ∙ ap (heads c.args.completion) c.deref-2.ensures.value) c.in_ok-next.ensures.goes c.in_ok-next.ensures.returned c.in_ok-next.ensures.thrown c.in_ok-after.ensures.made
      (c.in_ok-rest.ensures ∙ ap (others c.args.completion) c.deref-4.ensures.value) c.deref-5.ensures.value c.in_ok-list.ensures;
  few = both_few (shape c.args.first.now) (shape c.args.second.now) _ c.args.copies c.args.copies c.args.copies (catch_joins c.args.completion (shape c.args.first.now) (shape c.args.second.now) c.args.copies)
      c.in_ok-before.ensures.few c.in_ok-after.ensures.few;
  wide = tt;
}

pub build_choice-next_of-requires : goal.build_choice-next_of-requires
build_choice-next_of-requires t c = head_is c.requires

pub build_choice-build-requires : goal.build_choice-build-requires
build_choice-build-requires t c = (search rules, new_head c.args.graph.now c.next_of.new.graph _ _ c.requires c.in_ok-left.ensures.head c.in_ok-left.ensures.ok)

pub build_choice-next_of-requires-2 : goal.build_choice-next_of-requires-2
build_choice-next_of-requires-2 t c = still_of c.args.graph.now c.next_of.new.graph _ c.requires c.in_ok-left.ensures.head c.in_ok-left.ensures.ok c.in_ok-list.ensures.made

pub build_choice-build-requires-2 : goal.build_choice-build-requires-2
build_choice-build-requires-2 t c = (
  search rules,
  second_head c.build.new.graph c.next_of-2.new.graph _ _ (still_of c.args.graph.now c.next_of.new.graph _ c.requires c.in_ok-left.ensures.head c.in_ok-left.ensures.ok c.in_ok-list.ensures.made)
      c.in_ok-right.ensures.head c.in_ok-right.ensures.ok,
)

pub build_choice-returns : goal.build_choice-returns
build_choice-returns t c = record {
  made = choice_makes c.next_of.new.graph c.next_of-2.new.graph _ _ c.in_ok-left.ensures.head c.in_ok-left.ensures.ok c.in_ok-list.ensures.made c.in_ok-right.ensures.head c.in_ok-right.ensures.ok c.in_ok-more.ensures.made
      c.deref.ensures.value c.in_ok-put_all.ensures;
  few = both_few (shape c.args.first.now) (shape c.args.second.now) _ c.args.copies c.args.copies c.args.copies (choice_joins (shape c.args.first.now) (shape c.args.second.now) c.args.copies)
      c.in_ok-list.ensures.few c.in_ok-more.ensures.few;
  wide = tt;
}

pub build_choice-returns-in_err-list-clause-wide : goal.build_choice-returns-in_err-list-clause-wide
build_choice-returns-in_err-list-clause-wide t c =
    let p = err_from_is_err_and c.from_residual-in_err-list.result c.from_residual-in_err-list.ensures.1 in
    rw (p.1, p.2)
    (first_wide (shape c.args.first.now) (shape c.args.second.now) (Choice (shape c.args.first.now) (shape c.args.second.now)) c.args.copies c.args.copies c.args.copies c.in_err-list.field-0.0 (choice_joins (shape c.args.first.now) (shape c.args.second.now) c.args.copies) c.in_err-list.ensures.wide)

pub build_choice-returns-in_err-more-clause-wide : goal.build_choice-returns-in_err-more-clause-wide
build_choice-returns-in_err-more-clause-wide t c =
    let p = err_from_is_err_and c.from_residual-in_err-more.result c.from_residual-in_err-more.ensures.1 in
    rw (p.1, p.2)
    (second_wide (shape c.args.first.now) (shape c.args.second.now) (Choice (shape c.args.first.now) (shape c.args.second.now)) c.args.copies c.args.copies c.args.copies c.in_err-more.field-0.0 (choice_joins (shape c.args.first.now) (shape c.args.second.now) c.args.copies) c.in_ok-list.ensures.few c.in_err-more.ensures.wide)

pub build_loop-next_of-requires : goal.build_loop-next_of-requires
build_loop-next_of-requires t c = head_is c.requires

pub build_loop-build-requires : goal.build_loop-build-requires
build_loop-build-requires t c = (search rules, new_head c.args.graph.now c.next_of.new.graph _ _ c.requires c.in_ok-again.ensures.head c.in_ok-again.ensures.ok)

pub build_loop-loop_back-requires-clause-within : goal.build_loop-loop_back-requires-clause-within
build_loop-loop_back-requires-clause-within t c =
    made_of (new_head c.args.graph.now c.next_of.new.graph _ _ c.requires c.in_ok-again.ensures.head c.in_ok-again.ensures.ok) c.in_ok-made.ensures.made Normal _
    (c.deref-2.ensures.value ∙ c.in_ok-heads.ensures ∙ ap (heads Normal) c.deref.ensures.value)

pub build_loop-loop_back-requires-clause-to : goal.build_loop-loop_back-requires-clause-to
build_loop-loop_back-requires-clause-to t c = loop_to_of c.args.graph.now c.next_of.new.graph _ c.requires c.in_ok-again.ensures.head c.in_ok-again.ensures.ok c.in_ok-made.ensures.made

pub build_loop-loop_back-requires-clause-leads : goal.build_loop-loop_back-requires-clause-leads
build_loop-loop_back-requires-clause-leads t c =
    loop_leads c.args.graph.now c.next_of.new.graph _ _ c.requires c.in_ok-again.ensures.head c.in_ok-again.ensures.ok c.in_ok-made.ensures.made
    (c.deref-2.ensures.value ∙ c.in_ok-heads.ensures ∙ ap (heads Normal) c.deref.ensures.value)

pub build_loop-returns : goal.build_loop-returns
build_loop-returns t c = record {
  made = loop_makes c.next_of.new.graph _ _ c.in_ok-again.ensures.head c.in_ok-again.ensures.ok c.in_ok-made.ensures.made
      (c.deref-2.ensures.value ∙ c.in_ok-heads.ensures ∙ ap (heads Normal) c.deref.ensures.value) c.in_ok-loop_back.ensures (c.in_ok-rest.ensures ∙ ap (others Normal) c.deref-3.ensures.value);
  few = loop_few (shape c.args.part.now) c.args.copies c.in_ok-made.ensures.few;
  wide = tt;
}

pub build_loop-returns-in_err-made-clause-wide : goal.build_loop-returns-in_err-made-clause-wide
build_loop-returns-in_err-made-clause-wide t c =
    let p = err_from_is_err_and c.from_residual-in_err-made.result c.from_residual-in_err-made.ensures.1 in
    rw (p.1, p.2) (loop_wide (shape c.args.part.now) c.args.copies c.in_err-made.field-0.0 c.in_err-made.ensures.wide)

pub build_finally-say-requires : goal.build_finally-say-requires
build_finally-say-requires t c = never_head c.build.new.graph c.unreachable_of.new.graph c.in_ok-dead.ensures.head c.in_ok-dead.ensures.ok

pub build_finally-returns-then-is_empty : goal.build_finally-returns-then-is_empty
build_finally-returns-then-is_empty t c = record {
  made = never_makes c.unreachable_of.new.graph c.say.new.graph _ c.in_ok-before.ensures.made (nil_of _ (search rules)) c.in_ok-dead.ensures.head c.in_ok-dead.ensures.ok c.in_ok-say.ensures;
  few = never_few (shape c.args.body.now) (shape c.args.finalizer.now) c.args.copies _ c.in_ok-before.ensures.made.built (nil_of _ (search rules)) c.in_ok-before.ensures.few;
  wide = tt;
}

pub build_finally-returns-in_err-before-clause-wide : goal.build_finally-returns-in_err-before-clause-wide
build_finally-returns-in_err-before-clause-wide t c =
    let p = err_from_is_err_and c.from_residual.result c.from_residual.ensures.1 in
    rw (p.1, p.2)
    (body_wide (shape c.args.body.now) (shape c.args.finalizer.now) c.args.copies c.in_err-before.field-0.0 c.in_err-before.ensures.wide)

pub build_finally-returns-in_err-list-clause-wide : goal.build_finally-returns-in_err-list-clause-wide
build_finally-returns-in_err-list-clause-wide t c =
    let p = err_from_is_err_and c.from_residual-in_err-list.result c.from_residual-in_err-list.ensures.1 in
    rw (p.1, p.2)
    (second_wide (shape c.args.body.now) (shape c.args.finalizer.now) (Finally (shape c.args.body.now) (shape c.args.finalizer.now)) c.args.copies c.in-Some.product c.args.copies c.in_err-list.field-0.0
    (finally_joins (shape c.args.body.now) (shape c.args.finalizer.now) c.args.copies c.in_ok-count.count c.in-Some.product c.in_ok-before.before.items c.deref.result.now c.in_ok-before.ensures.made.built c.deref.ensures.value c.in_ok-count.ensures c.in-Some.ensures.1)
    c.in_ok-before.ensures.few c.in_err-list.ensures.wide)

pub build_finally-build_copies-requires : goal.build_finally-build_copies-requires
build_finally-build_copies-requires t c = let w = weighs (shape c.args.body.now) in (search (rules, w), (made_wait c.requires c.in_ok-before.ensures.made, search rules))

pub build_finally-returns : goal.build_finally-returns
build_finally-returns t c = record {
  made = finally_makes _ (search rules) c.in_ok-before.ensures.made c.in_ok-list.ensures.made;
  few = both_few (shape c.args.body.now) (shape c.args.finalizer.now) (Finally (shape c.args.body.now) (shape c.args.finalizer.now)) c.args.copies c.in-Some.product c.args.copies
      (finally_joins (shape c.args.body.now) (shape c.args.finalizer.now) c.args.copies c.in_ok-count.count c.in-Some.product c.in_ok-before.before.items c.deref.result.now c.in_ok-before.ensures.made.built c.deref.ensures.value c.in_ok-count.ensures c.in-Some.ensures.1)
      c.in_ok-before.ensures.few c.in_ok-list.ensures.few;
  wide = tt;
}

pub build_copies-join_of-requires-clause-some : goal.build_copies-join_of-requires-clause-some
build_copies-join_of-requires-clause-some t c =
    let lt : 0 < length c.copies.rest.items = search rules in
    copy_some c.copies.rest.items c.index.result.now c.index.result.now.completion lt (ap (λ p. p.completion) c.index.ensures) _
    (c.deref-in-copies.ensures.value ∙ c.in_ok-heads.ensures ∙ ap (heads c.index.result.now.completion) c.deref.ensures.value)

pub build_copies-join_of-requires-clause-within : goal.build_copies-join_of-requires-clause-within
build_copies-join_of-requires-clause-within t c =
    waits_of c.copies.invariant.waits c.index.result.now.completion _ (c.deref-in-copies.ensures.value ∙ c.in_ok-heads.ensures ∙ ap (heads c.index.result.now.completion) c.deref.ensures.value)

pub build_copies-build-requires : goal.build_copies-build-requires
build_copies-build-requires t c =
    let lt : 0 < length c.copies.rest.items = search rules in (
      search rules,
      copy_head (shape c.args.finalizer.now) c.copies.rest.items c.index.result.now c.index.result.now.completion lt (ap (λ p. p.completion) c.index.ensures) c.copies.graph c.join_of.new.graph c.in_ok-at.at _
          (c.deref-in-copies.ensures.value ∙ c.in_ok-heads.ensures ∙ ap (heads c.index.result.now.completion) c.deref.ensures.value) c.in_ok-at.ensures.head c.in_ok-at.ensures.ok c.copies.invariant.waits,
    )

pub build_copies-copies-smaller : goal.build_copies-copies-smaller
build_copies-copies-smaller t c =
    let lt : 0 < length c.copies.rest.items = search rules in
    subst (λ l. length l < length c.copies.rest.items) (sym (c.in_ok-rest.ensures ∙ ap (others c.index.result.now.completion) c.deref-in-copies-3.ensures.value))
    (copy_smaller c.copies.rest.items c.index.result.now c.index.result.now.completion lt (ap (λ p. p.completion) c.index.ensures))

pub build_copies-copies-preserved : goal.build_copies-copies-preserved
build_copies-copies-preserved t c =
    let lt : 0 < length c.copies.rest.items = search rules in
    let first = ap (λ p. p.completion) c.index.ensures in
    let hs-is = c.deref-in-copies.ensures.value ∙ c.in_ok-heads.ensures ∙ ap (heads c.index.result.now.completion) c.deref.ensures.value in
    let rest-is = c.in_ok-rest.ensures ∙ ap (others c.index.result.now.completion) c.deref-in-copies-3.ensures.value in
    record {
      made = copy_made (shape c.args.finalizer.now) c.copies.rest.items c.index.result.now c.index.result.now.completion lt first c.copies.graph c.join_of.new.graph c.in_ok-at.at _ hs-is c.in_ok-at.ensures.head c.in_ok-at.ensures.ok c.copies.invariant.waits
          _ _ _ _ c.build.new.graph _ _ c.in_ok-made.ensures.made rest-is (c.in_ok-put_recoded.ensures ∙ ap (λ l. c.copies.list.items ++ recoded Normal c.index.result.now.completion l) c.deref-in-copies-2.ensures.value) c.copies.invariant.made;
      waits = copy_waits (shape c.args.finalizer.now) c.copies.rest.items c.index.result.now c.index.result.now.completion lt first c.copies.graph c.join_of.new.graph c.in_ok-at.at _ hs-is c.in_ok-at.ensures.head c.in_ok-at.ensures.ok c.copies.invariant.waits
          c.build.new.graph _ _ c.in_ok-made.ensures.made rest-is;
      few = λ less. c.in_ok-made.ensures.few;
      returned = c.in_ok-made.ensures.made.returned ∙ ap (λ w. w.returned) c.in_ok-at.ensures.ok ∙ c.copies.invariant.returned;
      thrown = c.in_ok-made.ensures.made.thrown ∙ ap (λ w. w.thrown) c.in_ok-at.ensures.ok ∙ c.copies.invariant.thrown;
    }

pub build_copies-returns : goal.build_copies-returns
build_copies-returns t c = record {
  made = copies_end _ _ (nil_of _ (search rules)) c.copies.invariant.made c.copies.invariant.returned c.copies.invariant.thrown;
  few = c.copies.invariant.few (search rules);
  wide = tt;
}

pub build_seq-loop-part-init : goal.build_seq-loop-part-init
build_seq-loop-part-init t c = record { made = front_begin _ _ _ _ c.in_ok-front.ensures.0 c.in_ok-front.ensures.1; few = exit_few Normal c.args.copies }

pub build_seq-go_on-requires : goal.build_seq-go_on-requires
build_seq-go_on-requires t c = subst (AreOf c.loop-part.graph.segments) (sym c.deref.ensures.value) (front_of _ _ c.requires c.loop-part.invariant.made)

pub build_seq-build-requires : goal.build_seq-build-requires
build_seq-build-requires t c =
    let less = part_lighter c.args.parts.now c.loop-part.part-index c.part-item.result c.loop-part-test.true c.part-item.is in (
      search (rules, less),
      front_head c.args.graph.now c.loop-part.graph c.go_on.new.graph _ _ _ c.requires c.loop-part.invariant.made
          (subst (λ l. GoesOn l c.loop-part.graph.segments c.go_on.new.graph.segments c.in_ok-next-in-None.next.head c.in_ok-next-in-None.next.met) c.deref.ensures.value c.in_ok-next-in-None.ensures.goes),
    )

pub build_seq-loop-part-preserved-in-Some : goal.build_seq-loop-part-preserved-in-Some
build_seq-loop-part-preserved-in-Some t c =
    let step = entry_step c.args.parts.now c.loop-part.part-index c.part-item.result c.in-Some.completion c.loop-part-test.true c.part-item.is (sym c.entry.ensures ∙ c.in-Some.is) in
    record {
      made = subst (λ k. FrontMade k c.args.graph.now c.args.at c.loop-part.graph c.in_ok-front-in-Some.front.normal.items c.in_ok-front-in-Some.front.rest.items) (sym step)
          (front_enter c.in-Some.completion _ _ _ _ c.loop-part.invariant.made c.in_ok-front-in-Some.ensures.normal c.in_ok-front-in-Some.ensures.rest);
      few = subst (λ k. HasFewCopies k c.args.copies) (sym step) (entry_few c.in-Some.completion (onto (Exit Normal) (take c.loop-part.part-index c.args.parts.now)) c.args.copies c.loop-part.invariant.few);
    }

pub build_seq-loop-part-preserved : goal.build_seq-loop-part-preserved
build_seq-loop-part-preserved t c =
    let goes = subst (λ l. GoesOn l c.loop-part.graph.segments c.go_on.new.graph.segments c.in_ok-next-in-None.next.head c.in_ok-next-in-None.next.met) c.deref.ensures.value c.in_ok-next-in-None.ensures.goes in
    let free = sym c.entry.ensures ∙ c.in-None.is in
    record {
      made = subst (λ k. FrontMade k c.args.graph.now c.args.at c.build.new.graph c.in_ok-front-in-None.front.normal.items c.in_ok-front-in-None.front.rest.items)
          (sym (part_step c.args.parts.now c.loop-part.part-index c.part-item.result c.loop-part-test.true c.part-item.is free))
          (front_after c.go_on.new.graph c.loop-part.front.normal.items c.loop-part.front.rest.items c.in_ok-made-in-None.made.items c.in_ok-next-in-None.next.met _ _ c.loop-part.invariant.made goes
          c.in_ok-next-in-None.ensures.returned c.in_ok-next-in-None.ensures.thrown c.in_ok-made-in-None.ensures.made
          (c.in_ok-front-in-None.ensures.normal ∙ ap (λ l. cond c.in_ok-next-in-None.next.met (heads Normal l) []) c.deref-in-None.ensures.value)
          (c.in_ok-front-in-None.ensures.rest ∙ ap (λ l. cond c.in_ok-next-in-None.next.met (c.loop-part.front.rest.items ++ others Normal l) c.loop-part.front.rest.items) c.deref-in-None.ensures.value));
      few = part_few c.args.parts.now c.loop-part.part-index c.part-item.result c.loop-part-test.true c.part-item.is c.args.copies free c.loop-part.invariant.few c.in_ok-made-in-None.ensures.few;
    }

pub build_seq-returns-in_err-made-in-None-clause-wide : goal.build_seq-returns-in_err-made-in-None-clause-wide
build_seq-returns-in_err-made-in-None-clause-wide t c =
    let p = err_from_is_err_and c.from_residual-in_err-made-in-None.result c.from_residual-in_err-made-in-None.ensures.1 in
    rw (p.1, p.2)
    (part_wide c.args.parts.now c.loop-part.part-index c.part-item.result c.loop-part-test.true c.part-item.is c.args.copies (sym c.entry.ensures ∙ c.in-None.is) c.loop-part.invariant.few c.in_err-made-in-None.field-0.0 c.in_err-made-in-None.ensures.wide)
