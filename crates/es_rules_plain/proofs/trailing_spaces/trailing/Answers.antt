use Rattle.std.proofs.Common.{◌≡◌, ◌≤◌, ◌+◌, ◌∙◌, ◌++◌, IsUtf8, cond, drop, length, true, subst, sym, ap, arith}
use Rattle.std.specs.List.{list_all}
use Rattle.std.specs.Char.{len_utf8}
use Rattle.std.specs.Str.{IsCharBoundary, chars}
use Rattle.std.proofs.lemmas.List.Sums.{AllPass-from_list_all}
use Rattle.std.proofs.lemmas.List.{at_drop_all}
use Rattle.std.proofs.lemmas.Str.{IsCharBoundary-past_char, IsCharBoundary-start, IsUtf8-past_char, chars-nil}
use Rattle.es_text.specs.Characters.{is_line_terminator, is_white_space}
use Rattle.es_text.specs.Spans.{is_part}
use Rattle.es_rules_plain.specs.TrailingSpaces.{trailing}
use Rattle.es_rules_plain.proofs.TrailingLemmas.{left_over, parts_step, spans_end, spans_step, start_step}
use Rattle.es_rules_plain.proofs.trailing_spaces.trailing.Goals as goal

pub loop-at-preserved : goal.loop-at-preserved
loop-at-preserved c =
    let text = c.args.text.now in
    let at = c.loop-at.at in
    let from = c.loop-at.from in
    let char = c.char_at-c.result in
    let width = c.len_utf8.result in
    let start = c.in_ok-from.from in
    let value : len_utf8 char ≡ width = sym c.len_utf8.ensures.value in
    let next = drop (at + len_utf8 char) text in
    let splits = c.char_at-c.ensures in
    let end = subst (λ n. IsCharBoundary text (at + n)) value (IsCharBoundary-past_char text next at char c.loop-at.invariant.place c.loop-at.invariant.utf8 splits) in
    let begins = subst (λ n. start ≡ cond (is_white_space char) from (at + n)) (sym value) c.in_ok-from.ensures.start in
    record {
      utf8 = subst (λ n. IsUtf8 (drop (at + n) text)) value (IsUtf8-past_char (drop at text) next char c.loop-at.invariant.utf8 splits);
      place = end.0;
      order = start_step (λ n. n ≤ at + width) (is_white_space char) start from (at + width)
          c.in_ok-from.ensures.start (omega (arith, c.loop-at.invariant.order)) (omega arith);
      start = start_step (IsCharBoundary text) (is_white_space char) start from (at + width) c.in_ok-from.ensures.start c.loop-at.invariant.start end;
      end = end;
      spans = subst (λ n. c.step.new.spans.items ++ left_over start (at + n) (chars (drop (at + n) text)) ≡ trailing (chars text)) value
          (spans_step c.loop-at.spans.items c.step.new.spans.items (trailing (chars text)) (drop at text) next char from at start
          c.loop-at.invariant.utf8 splits c.loop-at.invariant.order c.loop-at.invariant.spans c.in_ok-from.ensures.spans begins);
      parts = parts_step text c.loop-at.spans.items c.step.new.spans.items (is_line_terminator char) from at c.parts_lie.ensures
          c.loop-at.invariant.order c.loop-at.invariant.start c.loop-at.invariant.end c.loop-at.invariant.parts c.in_ok-from.ensures.spans;
    }

pub loop-at-init : goal.loop-at-init
loop-at-init c =
    let text = c.args.text.now in
    let start = IsCharBoundary-start text c.utf8.text in
    record {
      utf8 = c.utf8.text;
      place = omega arith;
      order = omega arith;
      start = start;
      end = start;
      spans = ap (λ items. items ++ left_over 0 0 (chars text)) c.new-spans.ensures.items;
      parts = ap (list_all (is_part text)) c.new-spans.ensures.items;
    }

pub returns-clause-spans : goal.returns-clause-spans
returns-clause-spans c =
    let text = c.args.text.now in
    let least : length text ≤ c.loop-at.at = omega (arith, c.loop-at-test.false) in
    spans_end c.loop-at.spans.items c.put_blank.new.spans.items (trailing (chars text)) c.loop-at.from c.loop-at.at
    (subst (λ cs. c.loop-at.spans.items ++ left_over c.loop-at.from c.loop-at.at cs ≡ trailing (chars text)) (at_drop_all chars text c.loop-at.at least ∙ chars-nil) c.loop-at.invariant.spans)
    c.in_ok-put_blank.ensures

pub returns-clause-parts : goal.returns-clause-parts
returns-clause-parts c =
    AllPass-from_list_all (is_part c.args.text.now) c.put_blank.new.spans.items
    (parts_step c.args.text.now c.loop-at.spans.items c.put_blank.new.spans.items true c.loop-at.from c.loop-at.at c.parts_lie.ensures
    c.loop-at.invariant.order c.loop-at.invariant.start c.loop-at.invariant.end c.loop-at.invariant.parts c.in_ok-put_blank.ensures)
