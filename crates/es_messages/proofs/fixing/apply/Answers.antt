use Rattle.std.proofs.Common.{◌≡◌, ◌∙◌, ℕ, ◌<◌, ◌≤◌, List, length, map, ap, sym, subst, IfOk}
use Rattle.std.specs.List.{All}
use Rattle.std.proofs.lemmas.List.Elements.{All-from_recursion}
use Rattle.std.proofs.lemmas.Result.{IfOk-weaker}
use Rattle.es_text.specs.Texts.{text_bytes}
use Rattle.es_text.specs.Spans.{LiesIn}
use Rattle.es_text.specs.declared.finding.Fix.{Fix}
use Rattle.es_messages.specs.declared.fixing.NumberedFix.{NumberedFix}
use Rattle.es_messages.specs.Fixes.{Gives, IsInOrder, Numbered, taken_of}
use Rattle.es_messages.specs.NumberedFixes.{CanReplace, seen}
use Rattle.es_messages.proofs.FixesLemmas.{IsSound, can_replace, sound_order, taken_all}
use Rattle.es_messages.proofs.ListsLemmas.{all-seen}
use Rattle.es_messages.proofs.fixing.apply.Goals as goal

pub take-requires : goal.take-requires
take-requires c =
    let order : List Numbered = map seen c.in_ok-order.order.items in
    let all : All (IsSound (text_bytes c.args.source.now) (length c.args.fixes.now)) order =
    sound_order (text_bytes c.args.source.now) c.args.fixes.now order c.parts_lie.ensures c.requires c.in_ok-order.ensures in
    let sound = all-seen seen (IsSound (text_bytes c.args.source.now) (length c.args.fixes.now)) c.in_ok-order.order.items all in
    let P : List NumberedFix → Type 0 = λ items. All (λ one. one.fix.now.span.start ≤ one.fix.now.span.end) items in
    subst P (sym c.as_slice.ensures.value) (λ k d within. (sound k d within).lies.order)

pub give-requires-clause-spans : goal.give-requires-clause-spans
give-requires-clause-spans c =
    let bytes : List ℕ = text_bytes c.args.source.now in
    let order : List Numbered = map seen c.in_ok-order.order.items in
    let all : All (IsSound bytes (length c.args.fixes.now)) order =
    sound_order bytes c.args.fixes.now order c.parts_lie.ensures c.requires c.in_ok-order.ensures in
    let can : CanReplace bytes 0 (taken_of order) = can_replace bytes order (λ k d within. (all k d within).lies) in
    let same : map seen c.as_slice-2.result.now ≡ taken_of order =
    ap (map seen) c.as_slice-2.ensures.value ∙ c.in_ok-taken.ensures ∙ ap (λ items. taken_of (map seen items)) c.as_slice.ensures.value in
    subst (λ text. CanReplace text 0 (map seen c.as_slice-2.result.now)) (sym c.text.ensures.bytes)
    (subst (CanReplace bytes 0) (sym same) can)

pub give-requires-clause-positions : goal.give-requires-clause-positions
give-requires-clause-positions c =
    let bytes : List ℕ = text_bytes c.args.source.now in
    let count : ℕ = length c.args.fixes.now in
    let order : List Numbered = map seen c.in_ok-order.order.items in
    let all : All (IsSound bytes count) order =
    sound_order bytes c.args.fixes.now order c.parts_lie.ensures c.requires c.in_ok-order.ensures in
    let kept : All (IsSound bytes count) (taken_of order) = All-from_recursion (IsSound bytes count) (taken_of order) (taken_all (IsSound bytes count) order all) in
    let same : map seen c.as_slice-2.result.now ≡ taken_of order =
    ap (map seen) c.as_slice-2.ensures.value ∙ c.in_ok-taken.ensures ∙ ap (λ items. taken_of (map seen items)) c.as_slice.ensures.value in
    let sound = all-seen seen (IsSound bytes count) c.as_slice-2.result.now (subst (All (IsSound bytes count)) (sym same) kept) in
    λ k d within. (sound k d within).below

pub returns : goal.returns
returns c =
    let bytes : List ℕ = text_bytes c.args.source.now in
    let order : List Numbered = map seen c.in_ok-order.order.items in
    let same : map seen c.as_slice-2.result.now ≡ taken_of order =
    ap (map seen) c.as_slice-2.ensures.value ∙ c.in_ok-taken.ensures ∙ ap (λ items. taken_of (map seen items)) c.as_slice.ensures.value in
    IfOk-weaker c.give.result _ _ (λ applied gives. record {
      order = order;
      in_order = c.in_ok-order.ensures;
      gives = subst (λ taken. Gives bytes (length c.args.fixes.now) taken applied) same
          (subst (λ text. Gives text (length c.args.fixes.now) (map seen c.as_slice-2.result.now) applied) c.text.ensures.bytes gives);
    }) c.give.ensures
