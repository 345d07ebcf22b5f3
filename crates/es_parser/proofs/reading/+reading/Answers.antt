use Rattle.std.proofs.Common.{◌≡◌, ◌∙◌, [], map, get_or, subst, sym, refl, ap, arith, rules}
use Rattle.std.specs.Str.{IsCharBoundary}
use Rattle.es_grammar.specs.declared.part.Alternative.{Alternative}
use Rattle.es_grammar.specs.declared.part.Product.TheVariants as product
use Rattle.es_grammar.specs.Drafts.{empty}
use Rattle.es_grammar.specs.Parts.{finish}
use Rattle.es_grammar.specs.Ranks.{rank_of}
use Rattle.es_grammar.specs.Firsts.{turn_rows}
use Rattle.es_grammar.specs.Grammar.{rule_of}
use Rattle.es_grammar.specs.Rules.{row, turns}
use Rattle.std.specs.Prelude.{false, true, Some, None}
use Rattle.es_grammar.specs.Contexts.{moved}
use Rattle.es_grammar.specs.Reading.{Reads, ReadsCommas, ReadsParts, ReadsTurns, comma_at}
use Rattle.es_parser.specs.Ends.{EndsFrom}
use Rattle.es_parser.specs.Turns.{IsOver, outcome_of}
use Rattle.es_parser.proofs.ReadingLemmas.{after_bare, if_ok, at_ok, at_ends, behind_none, behind_quiet, behind_stopped, behind_turns, by_list, by_more, by_rows, can_in, deeper_read, ends_later, extended_ends, finished_ends, grown_ends, is_not_unless, list_broken, list_last, list_next, list_over, list_stop, moves_on, no_room, parts_done, parts_step, parts_stop, refused, rows_below_at, rows_first, rows_next, rows_none, stops_unless_at, symbol_below, symbol_read, turns_last, turns_left, turns_next, turns_over, turns_over_at_once, turns_stop, turns_stuck}
use Rattle.std.proofs.Common.{◌++◌}
use Rattle.es_grammar.specs.declared.draft.Outcome.TheVariants.{Not, Deep, Read}
use Rattle.es_grammar.specs.Drafts.{joined}
use Rattle.es_grammar.specs.Parts.{with_token}
use Rattle.es_grammar.specs.Reading.{ReadsChoice, ReadsPart, broken, deep_item, last_item, next_item, no_more}
use Rattle.es_parser.specs.declared.reached.Reached.TheVariants.{TooDeep}
use Rattle.es_parser.specs.Sketches.{ReachesFrom, Sketched}
use Rattle.es_parser.proofs.HeightLemmas.{lower_joined}
use Rattle.es_parser.proofs.SketchesLemmas.{behind_sketched, choice_sketched, deeper_sketched, faint_empty, faint_low, head_stops, inner_sketched, list_sketched, nothing_of, option_ends, option_over, option_reads, option_stuck, row_sketched, stop_ends, told_nothing, with_none}
use Rattle.es_parser.proofs.reading.+reading.Goals as goal

no_alternative : Alternative
no_alternative = record { makes = product.Parts; parts = record { ref_ptr = (0, 0); now = [] } }

-- rows
pub choice-loop-each-init : goal.choice-loop-each-init
choice-loop-each-init g t c = record { same = c.terminals_at-set.ensures.same; reads = λ seed o h. h }

pub choice-loop-each-preserved-then-is_missing : goal.choice-loop-each-preserved-then-is_missing
unfolding no_alternative
choice-loop-each-preserved-then-is_missing g t c =
    let same = c.loop-each.invariant.same in
    record {
      same = same;
      reads = λ seed o h. c.loop-each.invariant.reads seed o
          (rows_next same refl no_alternative c.args.rows.now c.loop-each.each-index c.loop-each-test.true (c.if-is_missing.ensures empty) refl h);
    }

pub choice-loop-each-preserved : goal.choice-loop-each-preserved
unfolding no_alternative
choice-loop-each-preserved g t c =
    let same = c.loop-each.invariant.same in
    let read : ReadsParts c.loop-each.reader (get_or c.args.rows.now c.loop-each.each-index no_alternative).parts.now c.args.spot c.clear.new.draft
    (outcome_of c.in_ok-reached.reached c.parts.new.draft) = c.in_ok-reached.ensures.reads in
    record {
      same = c.in_ok-reached.ensures.same ∙ same;
      reads = λ seed o h. c.loop-each.invariant.reads seed o
          (rows_next same c.clear.ensures no_alternative c.args.rows.now c.loop-each.each-index c.loop-each-test.true read
          (ap (λ q. outcome_of q c.parts.new.draft) c.in-Nothing.is) h);
    }

pub choice-returns-in_default : goal.choice-returns-in_default
unfolding no_alternative
choice-returns-in_default g t c =
    let same = c.loop-each.invariant.same in
    let read : ReadsParts c.loop-each.reader (get_or c.args.rows.now c.loop-each.each-index no_alternative).parts.now c.args.spot c.clear.new.draft
    (outcome_of c.in_ok-reached.reached c.parts.new.draft) = c.in_ok-reached.ensures.reads in
    record {
      same = c.in_ok-reached.ensures.same ∙ same;
      reads = λ seed. c.loop-each.invariant.reads seed _
          (rows_first same c.clear.ensures no_alternative c.args.rows.now c.loop-each.each-index c.loop-each-test.true read
          (is_not_unless c.in_ok-reached.reached c.parts.new.draft c.in_default.not-Nothing));
      ends = subst (λ text. EndsFrom text c.args.spot.at (outcome_of c.in_ok-reached.reached c.parts.new.draft)) same c.in_ok-reached.ensures.ends;
    }

pub choice-returns-clause-same : goal.choice-returns-clause-same
choice-returns-clause-same g t c = c.loop-each.invariant.same

pub choice-returns-clause-reads : goal.choice-returns-clause-reads
unfolding finish
choice-returns-clause-reads g t c = λ seed. c.loop-each.invariant.reads seed _ (rows_none c.args.rows.now c.loop-each.each-index c.loop-each-test.false)

-- parts
pub parts-loop-each-init : goal.parts-loop-each-init
parts-loop-each-init g t c = record { same = refl; order = omega arith; ends = c.requires.boundary; reads = λ o h. h }

pub parts-loop-each-preserved : goal.parts-loop-each-preserved
parts-loop-each-preserved g t c =
    let same = c.loop-each.invariant.same in
    let ended = at_ends c.loop-each.at c.in_ok-stopped.stopped c.part.new.draft same c.in-At.is c.in_ok-stopped.ensures.ends in
    record {
      same = c.in_ok-stopped.ensures.same ∙ same;
      order = omega (arith, ended.0, c.loop-each.invariant.order);
      ends = ended.1;
      reads = λ o h. c.loop-each.invariant.reads o
          (parts_step same c.args.spot _ c.args.parts.now c.loop-each.each-index c.loop-each-test.true c.in_ok-stopped.ensures.reads
          (ap (λ q. outcome_of q c.part.new.draft) c.in-At.is) h);
    }

pub parts-returns-in_default : goal.parts-returns-in_default
parts-returns-in_default g t c =
    let same = c.loop-each.invariant.same in
    record {
      same = c.in_ok-stopped.ensures.same ∙ same;
      reads = c.loop-each.invariant.reads _
          (parts_stop same c.args.spot _ c.args.parts.now c.loop-each.each-index c.loop-each-test.true c.in_ok-stopped.ensures.reads
          (stops_unless_at c.in_ok-stopped.stopped c.part.new.draft c.in_default.not-At));
      ends = ends_later c.args.reader.now c.args.spot.at c.loop-each.at (outcome_of c.in_ok-stopped.stopped c.part.new.draft) c.loop-each.invariant.order
          (subst (λ text. EndsFrom text c.loop-each.at (outcome_of c.in_ok-stopped.stopped c.part.new.draft)) same c.in_ok-stopped.ensures.ends);
    }

pub parts-returns-clause-same : goal.parts-returns-clause-same
parts-returns-clause-same g t c = c.loop-each.invariant.same

pub parts-returns-clause-reads : goal.parts-returns-clause-reads
parts-returns-clause-reads g t c = c.loop-each.invariant.reads _ (parts_done c.args.spot c.args.parts.now c.loop-each.each-index c.loop-each-test.false)

pub parts-returns-clause-ends : goal.parts-returns-clause-ends
parts-returns-clause-ends g t c = (c.loop-each.invariant.order, c.loop-each.invariant.ends)

-- a part
pub part-returns-in-Symbol-clause-reads : goal.part-returns-in-Symbol-clause-reads
part-returns-in-Symbol-clause-reads g t c =
    if_ok _ _ c.inner_symbol.result (λ r h. symbol_read c.args.spot c.in-Symbol.is c.changed.ensures h.1 h.2) c.inner_symbol.ensures.reads

pub part-returns-then-spot-eq0-clause-reads : goal.part-returns-then-spot-eq0-clause-reads
part-returns-then-spot-eq0-clause-reads g t c = no_room c.args.spot c.in-Deeper.is c.if-spot-eq0.true

pub part-returns-else-spot-eq0-clause-reads : goal.part-returns-else-spot-eq0-clause-reads
part-returns-else-spot-eq0-clause-reads g t c =
    if_ok _ _ c.inner_symbol-in-Deeper.result (λ r h. deeper_read c.args.spot c.in-Deeper.is c.changed-in-Deeper.ensures (omega arith) h.1 h.2)
    c.inner_symbol-in-Deeper.ensures.reads

-- a symbol as a part
pub inner_symbol-returns-then-is_bare-clause-reads : goal.inner_symbol-returns-then-is_bare-clause-reads
inner_symbol-returns-then-is_bare-clause-reads g t c =
    if_ok _ _ c.read_into.result
    (λ r reads. (outcome_of r c.read_into.new.draft, reads, after_bare (outcome_of r c.read_into.new.draft) c.if-is_bare.ensures.0 c.if-is_bare.ensures.1))
    c.read_into.ensures.reads

pub symbol_behind-returns-clause-reads : goal.symbol_behind-returns-clause-reads
symbol_behind-returns-clause-reads g t c =
    if_ok _ _ c.extended.result
    (λ r h. (
      outcome_of h.0 c.read_into-reached.new.draft,
      at_ok (λ q. Reads c.args.reader.now c.args.symbol c.args.spot (outcome_of q c.read_into-reached.new.draft)) c.read_into-reached.result h.0 h.1 c.read_into-reached.ensures.reads,
      h.2,
    ))
    c.extended.ensures

pub symbol_behind-returns-clause-ends : goal.symbol_behind-returns-clause-ends
symbol_behind-returns-clause-ends g t c =
    if_ok _ _ c.extended.result
    (λ r h. extended_ends c.args.reader.now c.args.spot.at c.args.draft.now c.read_into-reached.new.draft c.args.field h.0 r c.extended.new.draft
    (at_ok (λ q. EndsFrom c.args.reader.now c.args.spot.at (outcome_of q c.read_into-reached.new.draft)) c.read_into-reached.result h.0 h.1 c.read_into-reached.ensures.ends) h.2)
    c.extended.ensures

-- turns
pub turns-loop-alloc-init : goal.turns-loop-alloc-init
turns-loop-alloc-init g t c = record { same = refl; order = omega arith; ends = c.requires.boundary; reads = λ o h. h }

pub turns-returns-then-is_over-clause-reads : goal.turns-returns-then-is_over-clause-reads
turns-returns-then-is_over-clause-reads g t c =
    c.loop-alloc.invariant.reads _
    (turns_over_at_once c.args.spot c.args.taking c.args.more
    (subst (λ text. IsOver text (map row c.args.more.rows.now) (moved c.args.spot c.loop-alloc.at)) c.loop-alloc.invariant.same c.if-is_over.ensures.over))

pub turns-returns-then-is_over-clause-ends : goal.turns-returns-then-is_over-clause-ends
turns-returns-then-is_over-clause-ends g t c = (c.loop-alloc.invariant.order, c.loop-alloc.invariant.ends)

pub turns-returns-then-not-all_hold-clause-reads : goal.turns-returns-then-not-all_hold-clause-reads
turns-returns-then-not-all_hold-clause-reads g t c =
    c.loop-alloc.invariant.reads _ (turns_left c.args.spot c.args.taking c.args.more (c.is_over.ensures.same ∙ c.loop-alloc.invariant.same) c.all_hold.ensures.so c.if-not-all_hold.true)

pub turns-returns-then-not-all_hold-clause-ends : goal.turns-returns-then-not-all_hold-clause-ends
turns-returns-then-not-all_hold-clause-ends g t c = (c.loop-alloc.invariant.order, c.loop-alloc.invariant.ends)

pub turns-returns-then-can_begin-clause-reads : goal.turns-returns-then-can_begin-clause-reads
turns-returns-then-can_begin-clause-reads g t c =
    let before = c.is_over.ensures.same ∙ c.loop-alloc.invariant.same in
    let held = c.all_hold.ensures.same ∙ before in
    c.loop-alloc.invariant.reads _
    (turns_stuck c.args.spot c.args.taking c.args.more c.in_ok-found.found.makes c.in_ok-found.found.reached c.choice.new.draft before
    c.all_hold.ensures.so c.if-not-all_hold.false held c.in_ok-found.ensures.reads c.in-Nothing.is c.requires.rows
    (can_in (c.in_ok-found.ensures.same ∙ held) refl c.if-can_begin.ensures.some))

pub turns-returns-in-Nothing-clause-reads : goal.turns-returns-in-Nothing-clause-reads
turns-returns-in-Nothing-clause-reads g t c =
    let before = c.is_over.ensures.same ∙ c.loop-alloc.invariant.same in
    let held = c.all_hold.ensures.same ∙ before in
    c.loop-alloc.invariant.reads _
    (turns_over c.args.spot c.args.taking c.args.more c.in_ok-found.found.makes c.in_ok-found.found.reached c.choice.new.draft before
    c.all_hold.ensures.so c.if-not-all_hold.false held c.in_ok-found.ensures.reads c.in-Nothing.is c.requires.rows
    (λ can. c.if-can_begin.ensures.none (can_in (sym (c.in_ok-found.ensures.same ∙ held)) refl can)))

pub turns-returns-in-Nothing-clause-ends : goal.turns-returns-in-Nothing-clause-ends
turns-returns-in-Nothing-clause-ends g t c = (c.loop-alloc.invariant.order, c.loop-alloc.invariant.ends)

pub turns-returns-then-is_last_turn : goal.turns-returns-then-is_last_turn
turns-returns-then-is_last_turn g t c =
    let before = c.is_over.ensures.same ∙ c.loop-alloc.invariant.same in
    let held = c.all_hold.ensures.same ∙ before in
    let grown = grown_ends c.loop-alloc.at c.args.taking c.loop-alloc.draft c.choice.new.draft c.in_ok-found.found.makes c.in_ok-found.found.reached
    c.in_ok-stopped.stopped c.grown.new.draft held c.in_ok-found.ensures.ends c.in_ok-stopped.ensures in
    let ended = at_ends c.loop-alloc.at c.in_ok-stopped.stopped c.grown.new.draft refl c.in-At.is grown in
    record {
      same = c.in_ok-found.ensures.same ∙ held;
      reads = c.loop-alloc.invariant.reads _
          (turns_last c.args.spot c.args.taking c.args.more c.in_ok-found.found.makes c.in_ok-found.found.reached c.choice.new.draft c.in_ok-stopped.stopped
          c.grown.new.draft before c.all_hold.ensures.so c.if-not-all_hold.false held c.in_ok-found.ensures.reads c.in_ok-stopped.ensures c.in-At.is
          c.is_last_turn.ensures c.if-is_last_turn.true);
      ends = (omega (arith, ended.0, c.loop-alloc.invariant.order), ended.1);
    }

pub turns-loop-alloc-smaller : goal.turns-loop-alloc-smaller
turns-loop-alloc-smaller g t c =
    let before = c.is_over.ensures.same ∙ c.loop-alloc.invariant.same in
    let held = c.all_hold.ensures.same ∙ before in
    let grown = grown_ends c.loop-alloc.at c.args.taking c.loop-alloc.draft c.choice.new.draft c.in_ok-found.found.makes c.in_ok-found.found.reached
    c.in_ok-stopped.stopped c.grown.new.draft held c.in_ok-found.ensures.ends c.in_ok-stopped.ensures in
    let ended = at_ends c.loop-alloc.at c.in_ok-stopped.stopped c.grown.new.draft refl c.in-At.is grown in
    omega (arith, ended.1.0, moves_on c.args.more.many c.loop-alloc.at c.in-At.end (sym c.is_last_turn.ensures ∙ c.if-is_last_turn.false))

pub turns-loop-alloc-preserved : goal.turns-loop-alloc-preserved
turns-loop-alloc-preserved g t c =
    let before = c.is_over.ensures.same ∙ c.loop-alloc.invariant.same in
    let held = c.all_hold.ensures.same ∙ before in
    let grown = grown_ends c.loop-alloc.at c.args.taking c.loop-alloc.draft c.choice.new.draft c.in_ok-found.found.makes c.in_ok-found.found.reached
    c.in_ok-stopped.stopped c.grown.new.draft held c.in_ok-found.ensures.ends c.in_ok-stopped.ensures in
    let ended = at_ends c.loop-alloc.at c.in_ok-stopped.stopped c.grown.new.draft refl c.in-At.is grown in
    record {
      same = c.in_ok-found.ensures.same ∙ held;
      order = omega (arith, ended.0, c.loop-alloc.invariant.order);
      ends = ended.1;
      reads = λ o h. c.loop-alloc.invariant.reads o
          (turns_next c.args.spot c.args.taking c.args.more c.in_ok-found.found.makes c.in_ok-found.found.reached c.choice.new.draft c.in_ok-stopped.stopped
          c.grown.new.draft before c.all_hold.ensures.so c.if-not-all_hold.false held c.in_ok-found.ensures.reads c.in_ok-stopped.ensures c.in-At.is
          c.is_last_turn.ensures c.if-is_last_turn.false h);
    }

pub turns-returns-in_default-2 : goal.turns-returns-in_default-2
turns-returns-in_default-2 g t c =
    let before = c.is_over.ensures.same ∙ c.loop-alloc.invariant.same in
    let held = c.all_hold.ensures.same ∙ before in
    record {
      same = c.in_ok-found.ensures.same ∙ held;
      reads = c.loop-alloc.invariant.reads _
          (turns_stop c.args.spot c.args.taking c.args.more c.in_ok-found.found.makes c.in_ok-found.found.reached c.choice.new.draft c.in_ok-stopped.stopped
          c.grown.new.draft before c.all_hold.ensures.so c.if-not-all_hold.false held c.in_ok-found.ensures.reads c.in_default.not-Nothing
          c.in_ok-stopped.ensures c.in_default-2.not-At);
      ends = ends_later c.args.reader.now c.args.spot.at c.loop-alloc.at (outcome_of c.in_ok-stopped.stopped c.grown.new.draft) c.loop-alloc.invariant.order
          (grown_ends c.loop-alloc.at c.args.taking c.loop-alloc.draft c.choice.new.draft c.in_ok-found.found.makes c.in_ok-found.found.reached
          c.in_ok-stopped.stopped c.grown.new.draft held c.in_ok-found.ensures.ends c.in_ok-stopped.ensures);
    }

-- lists
pub commas-loop-item-init : goal.commas-loop-item-init
commas-loop-item-init g t c = record { same = refl; order = omega arith; ends = c.requires.boundary; reads = λ o h. h }

pub commas-returns-then-can_begin-clause-reads : goal.commas-returns-then-can_begin-clause-reads
commas-returns-then-can_begin-clause-reads g t c =
    let same = c.loop-item.invariant.same in
    c.loop-item.invariant.reads _
    (list_broken c.args.spot c.args.rows.now c.in_ok-found.found.makes c.in_ok-found.found.reached c.choice.new.draft same
    c.in_ok-found.ensures.reads c.in-Nothing.is c.requires.rows (can_in (c.in_ok-found.ensures.same ∙ same) refl c.if-can_begin.ensures.some))

pub commas-returns-in-Nothing-clause-reads : goal.commas-returns-in-Nothing-clause-reads
commas-returns-in-Nothing-clause-reads g t c =
    let same = c.loop-item.invariant.same in
    c.loop-item.invariant.reads _
    (list_over c.args.spot c.args.rows.now c.in_ok-found.found.makes c.in_ok-found.found.reached c.choice.new.draft same
    c.in_ok-found.ensures.reads c.in-Nothing.is c.requires.rows (λ can. c.if-can_begin.ensures.none (can_in (sym (c.in_ok-found.ensures.same ∙ same)) refl can)))

pub commas-returns-in-Nothing-clause-ends : goal.commas-returns-in-Nothing-clause-ends
commas-returns-in-Nothing-clause-ends g t c = (c.loop-item.invariant.order, c.loop-item.invariant.ends)

pub commas-comma_at-requires : goal.commas-comma_at-requires
commas-comma_at-requires g t c =
    let same = c.loop-item.invariant.same in
    let grown = grown_ends c.loop-item.at false c.loop-item.draft c.choice.new.draft c.in_ok-found.found.makes c.in_ok-found.found.reached
    c.in_ok-stopped.stopped c.grown.new.draft (sym c.in_ok-found.ensures.same) c.in_ok-found.ensures.ends c.in_ok-stopped.ensures in
    (at_ends c.loop-item.at c.in_ok-stopped.stopped c.grown.new.draft refl c.in-At.is grown).1

pub commas-returns-in-None : goal.commas-returns-in-None
commas-returns-in-None g t c =
    let same = c.loop-item.invariant.same in
    let now = c.in_ok-found.ensures.same ∙ same in
    let grown = grown_ends c.loop-item.at false c.loop-item.draft c.choice.new.draft c.in_ok-found.found.makes c.in_ok-found.found.reached
    c.in_ok-stopped.stopped c.grown.new.draft same c.in_ok-found.ensures.ends c.in_ok-stopped.ensures in
    let ended = at_ends c.loop-item.at c.in_ok-stopped.stopped c.grown.new.draft refl c.in-At.is grown in
    record {
      same = c.in-None.ensures.same ∙ now;
      reads = c.loop-item.invariant.reads _
          (list_last c.args.spot c.args.rows.now c.in_ok-found.found.makes c.in_ok-found.found.reached c.choice.new.draft c.in_ok-stopped.stopped c.grown.new.draft
          same c.in_ok-found.ensures.reads c.in_ok-stopped.ensures c.in-At.is
          (subst (λ text. comma_at text (moved c.args.spot c.in-At.end) ≡ None) now (sym c.in-None.ensures.comma)));
      ends = (omega (arith, ended.0, c.loop-item.invariant.order), ended.1);
    }

pub commas-loop-item-smaller : goal.commas-loop-item-smaller
commas-loop-item-smaller g t c =
    let same = c.loop-item.invariant.same in
    let now = c.in_ok-found.ensures.same ∙ same in
    let grown = grown_ends c.loop-item.at false c.loop-item.draft c.choice.new.draft c.in_ok-found.found.makes c.in_ok-found.found.reached
    c.in_ok-stopped.stopped c.grown.new.draft same c.in_ok-found.ensures.ends c.in_ok-stopped.ensures in
    let ended = at_ends c.loop-item.at c.in_ok-stopped.stopped c.grown.new.draft refl c.in-At.is grown in
    let within = subst (λ text. IsCharBoundary text c.in-Some.comma.span.end) now c.in-Some.ensures.ends in
    omega (arith, ended.0, within.0, c.in-Some.ensures.moves)

pub commas-loop-item-preserved : goal.commas-loop-item-preserved
commas-loop-item-preserved g t c =
    let same = c.loop-item.invariant.same in
    let now = c.in_ok-found.ensures.same ∙ same in
    let grown = grown_ends c.loop-item.at false c.loop-item.draft c.choice.new.draft c.in_ok-found.found.makes c.in_ok-found.found.reached
    c.in_ok-stopped.stopped c.grown.new.draft same c.in_ok-found.ensures.ends c.in_ok-stopped.ensures in
    let ended = at_ends c.loop-item.at c.in_ok-stopped.stopped c.grown.new.draft refl c.in-At.is grown in
    record {
      same = c.in-Some.ensures.same ∙ now;
      order = omega (arith, ended.0, c.loop-item.invariant.order, c.in-Some.ensures.moves);
      ends = subst (λ text. IsCharBoundary text c.in-Some.comma.span.end) now c.in-Some.ensures.ends;
      reads = λ o h. c.loop-item.invariant.reads o
          (list_next c.args.spot c.args.rows.now c.in_ok-found.found.makes c.in_ok-found.found.reached c.choice.new.draft c.in_ok-stopped.stopped c.grown.new.draft
          same c.in_ok-found.ensures.reads c.in_ok-stopped.ensures c.in-At.is
          (subst (λ text. comma_at text (moved c.args.spot c.in-At.end) ≡ Some c.in-Some.comma) now (sym c.in-Some.ensures.comma))
          (subst (λ d. ReadsCommas c.args.reader.now (map row c.args.rows.now) (moved c.args.spot c.in-Some.comma.span.end) d o) c.in_ok-add_token-in-Some.ensures h));
    }

pub commas-returns-in_default-2 : goal.commas-returns-in_default-2
commas-returns-in_default-2 g t c =
    let same = c.loop-item.invariant.same in
    record {
      same = c.in_ok-found.ensures.same ∙ same;
      reads = c.loop-item.invariant.reads _
          (list_stop c.args.spot c.args.rows.now c.in_ok-found.found.makes c.in_ok-found.found.reached c.choice.new.draft c.in_ok-stopped.stopped c.grown.new.draft
          same c.in_ok-found.ensures.reads c.in_default.not-Nothing c.in_ok-stopped.ensures c.in_default-2.not-At);
      ends = ends_later c.args.reader.now c.args.spot.at c.loop-item.at (outcome_of c.in_ok-stopped.stopped c.grown.new.draft) c.loop-item.invariant.order
          (grown_ends c.loop-item.at false c.loop-item.draft c.choice.new.draft c.in_ok-found.found.makes c.in_ok-found.found.reached
          c.in_ok-stopped.stopped c.grown.new.draft same c.in_ok-found.ensures.ends c.in_ok-stopped.ensures);
    }

-- a symbol
pub read_into-refuse_if-requires : goal.read_into-refuse_if-requires
read_into-refuse_if-requires g t c = refused c.read_headless.new.draft c.in_ok-reached-in-None.reached
    (subst (λ text. Reads text c.args.symbol c.args.spot (outcome_of c.in_ok-reached-in-None.reached c.read_headless.new.draft)) (sym c.in_ok-reached-in-None.ensures.same) c.in_ok-reached-in-None.ensures.reads)

pub turns_behind-returns-then-is_quiet : goal.turns_behind-returns-then-is_quiet
turns_behind-returns-then-is_quiet g t c =
    record {
      same = c.terminals_at-set.ensures.same;
      reads = behind_quiet c.in-At.is
          (subst (λ text. IsOver text (turn_rows (rule_of c.args.symbol)) (moved c.args.spot c.in-At.end)) c.terminals_at-set.ensures.same c.if-is_quiet.ensures);
      ends = at_ends c.args.spot.at c.args.head c.args.draft.now refl c.in-At.is c.requires;
    }

pub turns_behind-returns-in-Behind-clause-reads : goal.turns_behind-returns-in-Behind-clause-reads
turns_behind-returns-in-Behind-clause-reads g t c =
    if_ok _ _ c.turns.result
    (λ r h. behind_turns c.in-Behind.more c.in-Behind.is c.rule_at.ensures.rule c.in-At.is
    (subst (λ text. ReadsTurns text (turns true c.in-Behind.more) (moved c.args.spot c.in-At.end) c.args.draft.now (outcome_of r c.turns.new.draft)) c.terminals_at-set.ensures.same h))
    c.turns.ensures.reads

pub turns_behind-returns-in-Behind-clause-ends : goal.turns_behind-returns-in-Behind-clause-ends
turns_behind-returns-in-Behind-clause-ends g t c =
    let ended = at_ends c.args.spot.at c.args.head c.args.draft.now refl c.in-At.is c.requires in
    if_ok _ _ c.turns.result
    (λ r h. ends_later c.args.reader.now c.args.spot.at c.in-At.end (outcome_of r c.turns.new.draft) ended.0
    (subst (λ text. EndsFrom text c.in-At.end (outcome_of r c.turns.new.draft)) c.terminals_at-set.ensures.same h)) c.turns.ensures.ends

pub turns_behind-returns-in_default-rule_at : goal.turns_behind-returns-in_default-rule_at
turns_behind-returns-in_default-rule_at g t c =
    record { same = c.terminals_at-set.ensures.same; reads = behind_none c.rule_at.result c.rule_at.ensures.rule c.in_default-rule_at.not-Behind; ends = at_ends c.args.spot.at c.args.head c.args.draft.now refl c.in-At.is c.requires }

pub turns_behind-returns-in_default : goal.turns_behind-returns-in_default
turns_behind-returns-in_default g t c =
    record { same = refl; reads = behind_stopped c.args.draft.now c.args.head c.in_default.not-At; ends = c.requires }

pub read_headless-returns-in_ok-found-in-Choice-clause-reads : goal.read_headless-returns-in_ok-found-in-Choice-clause-reads
read_headless-returns-in_ok-found-in-Choice-clause-reads g t c =
    if_ok _ _ c.finished.result
    (λ r h. by_rows c.in_ok-found-in-Choice.found.makes (outcome_of c.in_ok-found-in-Choice.found.reached c.choice.new.draft) (outcome_of r c.finished.new.draft) c.in-Choice.rows c.in-Choice.is c.rule_at.ensures.rule
    c.in_ok-found-in-Choice.ensures.reads h) c.finished.ensures

pub read_headless-returns-in_ok-found-in-Choice-clause-ends : goal.read_headless-returns-in_ok-found-in-Choice-clause-ends
read_headless-returns-in_ok-found-in-Choice-clause-ends g t c =
    if_ok _ _ c.finished.result
    (λ r h. finished_ends c.args.spot.at c.choice.new.draft c.in_ok-found-in-Choice.found.makes c.in_ok-found-in-Choice.found.reached r c.finished.new.draft refl
    c.in_ok-found-in-Choice.ensures.ends h) c.finished.ensures

pub read_headless-returns-in-More-clause-reads : goal.read_headless-returns-in-More-clause-reads
read_headless-returns-in-More-clause-reads g t c =
    if_ok _ _ c.turns.result (λ r h. by_more c.in-More.more c.in-More.is c.rule_at.ensures.rule c.clear.ensures h) c.turns.ensures.reads

pub read_headless-returns-in-Commas-clause-reads : goal.read_headless-returns-in-Commas-clause-reads
read_headless-returns-in-Commas-clause-reads g t c =
    if_ok _ _ c.commas.result (λ r h. by_list c.in-Commas.rows c.in-Commas.is c.rule_at.ensures.rule c.clear-in-Commas.ensures h) c.commas.ensures.reads

pub choice-parts-requires : goal.choice-parts-requires
unfolding no_alternative
choice-parts-requires g t c κs within = (
  omega arith,
  (
    search rules,
    (
      c.requires.low,
      (
        rows_below_at (rank_of c.args.symbol) no_alternative c.args.rows.now c.loop-each.each-index c.loop-each-test.true c.requires.ranked,
        subst (λ text. IsCharBoundary text c.args.spot.at) (sym c.loop-each.invariant.same) c.requires.boundary,
      ),
    ),
  ),
)

pub part-inner_symbol-requires : goal.part-inner_symbol-requires
part-inner_symbol-requires g t c κs within =
    (omega (arith, symbol_below (rank_of c.args.symbol) c.in-Symbol.is c.requires.ranked, c.requires.low), (search rules, c.requires.boundary))

-- sketches of rows
pub sketch_rows-loop-each-init : goal.sketch_rows-loop-each-init
sketch_rows-loop-each-init g t c = record { same = c.terminals_at-set.ensures.same; reads = λ seed o h. h }

pub sketch_rows-loop-each-preserved-then-is_missing : goal.sketch_rows-loop-each-preserved-then-is_missing
unfolding no_alternative
sketch_rows-loop-each-preserved-then-is_missing g t c =
    let same = c.loop-each.invariant.same in
    record {
      same = same;
      reads = λ seed o h. c.loop-each.invariant.reads seed o
          (rows_next same refl no_alternative c.args.rows.now c.loop-each.each-index c.loop-each-test.true (c.if-is_missing.ensures empty) refl h);
    }

pub sketch_rows-loop-each-preserved : goal.sketch_rows-loop-each-preserved
unfolding no_alternative
sketch_rows-loop-each-preserved g t c =
    let same = c.loop-each.invariant.same in
    let read : ReadsParts c.loop-each.reader (get_or c.args.rows.now c.loop-each.each-index no_alternative).parts.now c.args.spot empty Not =
    nothing_of c.in_ok-reached.reached (ReadsParts c.loop-each.reader (get_or c.args.rows.now c.loop-each.each-index no_alternative).parts.now c.args.spot empty)
    c.in_ok-reached.ensures.reads c.in-Nothing.is in
    record {
      same = c.in_ok-reached.ensures.same ∙ same;
      reads = λ seed o h. c.loop-each.invariant.reads seed o
          (rows_next same refl no_alternative c.args.rows.now c.loop-each.each-index c.loop-each-test.true read refl h);
    }

pub sketch_rows-returns-in_default : goal.sketch_rows-returns-in_default
unfolding no_alternative
sketch_rows-returns-in_default g t c =
    let same = c.loop-each.invariant.same in
    let sketch = c.in_ok-reached.ensures.reads in
    let makes = (get_or c.args.rows.now c.loop-each.each-index no_alternative).makes in
    record {
      same = c.in_ok-reached.ensures.same ∙ same;
      reads = λ seed low.
          let made = row_sketched makes c.in_ok-inner.inner c.args.limit c.in_ok-inner.ensures c.in_ok-reached.reached sketch.0 seed low sketch.1.low in (
            made.0,
            made.1,
            subst (λ o. ReadsChoice c.args.reader.now (map row c.args.rows.now) c.args.spot seed o) made.2
                (c.loop-each.invariant.reads seed _ (rows_first same refl no_alternative c.args.rows.now c.loop-each.each-index c.loop-each-test.true sketch.2
                (is_not_unless c.in_ok-reached.reached sketch.0 c.in_default.not-Nothing))),
          );
      ends = subst (λ text. ReachesFrom text c.args.spot.at c.in_ok-reached.reached) same c.in_ok-reached.ensures.ends;
    }

pub sketch_rows-returns-clause-same : goal.sketch_rows-returns-clause-same
sketch_rows-returns-clause-same g t c = c.loop-each.invariant.same

pub sketch_rows-returns-clause-reads : goal.sketch_rows-returns-clause-reads
sketch_rows-returns-clause-reads g t c = λ seed low.
    (empty, faint_empty c.args.limit, c.loop-each.invariant.reads seed _ (rows_none c.args.rows.now c.loop-each.each-index c.loop-each-test.false))

pub sketch_rows-sketch_parts-requires : goal.sketch_rows-sketch_parts-requires
unfolding no_alternative
sketch_rows-sketch_parts-requires g t c κs within = (
  omega arith,
  (
    search rules,
    (
      c.requires.low,
      (
        rows_below_at (rank_of c.args.symbol) no_alternative c.args.rows.now c.loop-each.each-index c.loop-each-test.true c.requires.ranked,
        subst (λ text. IsCharBoundary text c.args.spot.at) (sym c.loop-each.invariant.same) c.requires.boundary,
      ),
    ),
  ),
)

-- sketches of parts
pub sketch_parts-loop-each-init : goal.sketch_parts-loop-each-init
sketch_parts-loop-each-init g t c =
    record { same = refl; order = omega arith; ends = c.requires.boundary; known = (empty, faint_empty c.args.limit, λ o h. h) }

pub sketch_parts-loop-each-preserved : goal.sketch_parts-loop-each-preserved
sketch_parts-loop-each-preserved g t c =
    let same = c.loop-each.invariant.same in
    let known = c.loop-each.invariant.known in
    let sketch = c.in_ok-sketch.ensures.reads known.0 known.1 in
    let ended = at_ends c.loop-each.at c.in_ok-sketch.sketch.reached empty same c.in-At.is c.in_ok-sketch.ensures.ends in
    record {
      same = c.in_ok-sketch.ensures.same ∙ same;
      order = omega (arith, ended.0, c.loop-each.invariant.order);
      ends = ended.1;
      known = (
        sketch.0,
        sketch.1,
        λ o h. known.2 o
            (parts_step same c.args.spot _ c.args.parts.now c.loop-each.each-index c.loop-each-test.true sketch.2
            (ap (λ q. outcome_of q sketch.0) c.in-At.is) h),
      );
    }

pub sketch_parts-returns-in_default : goal.sketch_parts-returns-in_default
sketch_parts-returns-in_default g t c =
    let same = c.loop-each.invariant.same in
    let known = c.loop-each.invariant.known in
    let sketch = c.in_ok-sketch.ensures.reads known.0 known.1 in
    record {
      same = c.in_ok-sketch.ensures.same ∙ same;
      reads = (
        sketch.0,
        faint_low c.args.limit sketch.0 sketch.1.low,
        known.2 _
            (parts_stop same c.args.spot _ c.args.parts.now c.loop-each.each-index c.loop-each-test.true sketch.2
            (stops_unless_at c.in_ok-sketch.sketch.reached sketch.0 c.in_default.not-At)),
      );
      ends = stop_ends c.args.reader.now c.args.spot.at c.in_ok-sketch.sketch.reached c.in_default.not-At;
    }

pub sketch_parts-returns-clause-reads : goal.sketch_parts-returns-clause-reads
sketch_parts-returns-clause-reads g t c =
    let known = c.loop-each.invariant.known in
    (known.0, faint_low c.args.limit known.0 known.1.low, known.2 _ (parts_done c.args.spot c.args.parts.now c.loop-each.each-index c.loop-each-test.false))

pub sketch_parts-returns-clause-ends : goal.sketch_parts-returns-clause-ends
sketch_parts-returns-clause-ends g t c = (c.loop-each.invariant.order, c.loop-each.invariant.ends)

-- a sketch of a part
pub sketch_part-returns-in-Symbol-clause-reads : goal.sketch_part-returns-in-Symbol-clause-reads
sketch_part-returns-in-Symbol-clause-reads g t c =
    if_ok _ _ c.sketch_inner.result (λ s h. inner_sketched s.reached c.args.spot c.in-Symbol.is c.changed.ensures h c.args.target) c.sketch_inner.ensures.reads

pub sketch_part-returns-then-spot-eq0-clause-reads : goal.sketch_part-returns-then-spot-eq0-clause-reads
sketch_part-returns-then-spot-eq0-clause-reads g t c = λ before faint.
    told_nothing c.untold.result TooDeep (ReadsPart c.args.reader.now c.args.part c.args.spot before) c.untold.ensures.reached c.untold.ensures.target
    (empty, faint_empty c.args.limit, no_room c.args.spot c.in-Deeper.is c.if-spot-eq0.true)

pub sketch_part-returns-else-spot-eq0-clause-reads : goal.sketch_part-returns-else-spot-eq0-clause-reads
sketch_part-returns-else-spot-eq0-clause-reads g t c =
    if_ok _ _ c.sketch_inner-in-Deeper.result (λ s h. deeper_sketched s.reached c.args.spot c.in-Deeper.is c.changed-in-Deeper.ensures (omega arith) h c.args.target)
    c.sketch_inner-in-Deeper.ensures.reads

-- sketches of options
pub sketch_option-returns-then-is_over-clause-reads : goal.sketch_option-returns-then-is_over-clause-reads
sketch_option-returns-then-is_over-clause-reads g t c = option_over c.args.spot c.args.more c.args.limit c.if-is_over.ensures.over

pub sketch_option-returns-then-can_begin-clause-reads : goal.sketch_option-returns-then-can_begin-clause-reads
sketch_option-returns-then-can_begin-clause-reads g t c = λ before low.
    let sketch = c.in_ok-reached.ensures.reads before low in
    let text = c.args.reader.now in
    let same = c.is_over.ensures.same in
    let none = subst (λ t. ReadsChoice t (map row c.args.more.rows.now) c.args.spot before Not) same
    (nothing_of c.in_ok-reached.reached (ReadsChoice c.is_over.new.reader (map row c.args.more.rows.now) c.args.spot before) sketch c.in-Nothing.is) in
    option_stuck c.args.spot c.args.more c.args.limit (omega arith) before none
    (can_in (c.in_ok-reached.ensures.same ∙ same) c.requires.rows c.if-can_begin.ensures.some)

pub sketch_option-returns-else-can_begin-clause-reads : goal.sketch_option-returns-else-can_begin-clause-reads
sketch_option-returns-else-can_begin-clause-reads g t c = λ before low.
    let sketch = c.in_ok-reached.ensures.reads before low in
    let same = c.is_over.ensures.same in
    let none = subst (λ t. ReadsChoice t (map row c.args.more.rows.now) c.args.spot before Not) same
    (nothing_of c.in_ok-reached.reached (ReadsChoice c.is_over.new.reader (map row c.args.more.rows.now) c.args.spot before) sketch c.in-Nothing.is) in
    option_ends c.args.spot c.args.more c.args.limit (omega arith) before low none
    (λ can. c.if-can_begin.ensures.none (can_in (sym (c.in_ok-reached.ensures.same ∙ same)) (sym c.requires.rows) can))

pub sketch_option-returns-in_default-clause-reads : goal.sketch_option-returns-in_default-clause-reads
sketch_option-returns-in_default-clause-reads g t c = λ before low.
    let sketch = subst (λ t. Sketched c.args.limit None (ReadsChoice t (map row c.args.more.rows.now) c.args.spot before) c.in_ok-reached.reached) c.is_over.ensures.same
    (c.in_ok-reached.ensures.reads before low) in
    option_reads c.args.spot c.args.more c.args.limit c.in_ok-reached.reached (omega arith) c.if-more.false c.in_default.not-Nothing before sketch

-- sketches of lists
pub sketch_list-loop-reader-init : goal.sketch_list-loop-reader-init
sketch_list-loop-reader-init g t c =
    record { same = refl; order = omega arith; ends = c.requires.boundary; known = (empty, refl, λ o h. h) }

-- sketches of symbols
pub sketch_anew-returns-in-Choice-clause-reads : goal.sketch_anew-returns-in-Choice-clause-reads
sketch_anew-returns-in-Choice-clause-reads g t c =
    if_ok _ _ c.sketch_rows.result (λ q h. choice_sketched q c.in-Choice.rows c.in-Choice.is c.rule_at.ensures.rule (h empty refl)) c.sketch_rows.ensures.reads

pub sketch_anew-returns-in-Commas-clause-reads : goal.sketch_anew-returns-in-Commas-clause-reads
sketch_anew-returns-in-Commas-clause-reads g t c =
    if_ok _ _ c.sketch_list.result (λ q h. list_sketched q c.in-Commas.rows c.in-Commas.is c.rule_at.ensures.rule h) c.sketch_list.ensures.reads

pub sketch_anew-returns-in-At-clause-reads : goal.sketch_anew-returns-in-At-clause-reads
sketch_anew-returns-in-At-clause-reads g t c =
    if_ok _ _ c.sketch_option.result
    (λ q h. behind_sketched c.in_ok-stopped-in-Behind.stopped q c.in-Behind.more c.in_ok-stopped-in-Behind.ensures.same c.in-Behind.is c.rule_at.ensures.rule c.in_ok-low-in-Behind.ensures c.in-At.is c.in_ok-stopped-in-Behind.ensures.reads h)
    c.sketch_option.ensures.reads

pub sketch_anew-returns-in_default : goal.sketch_anew-returns-in_default
sketch_anew-returns-in_default g t c = record {
  same = c.in_ok-stopped-in-Behind.ensures.same;
  reads = head_stops c.in_ok-stopped-in-Behind.stopped c.in-Behind.more c.in-Behind.is c.rule_at.ensures.rule c.in_default.not-At c.in_ok-stopped-in-Behind.ensures.reads;
  ends = stop_ends c.args.reader.now c.args.spot.at c.in_ok-stopped-in-Behind.stopped c.in_default.not-At;
}

pub sketch-returns-then-is_refused-clause-reads : goal.sketch-returns-then-is_refused-clause-reads
sketch-returns-then-is_refused-clause-reads g t c = (empty, faint_empty c.args.limit, c.if-is_refused.ensures)

pub sketch_part-sketch_inner-requires : goal.sketch_part-sketch_inner-requires
sketch_part-sketch_inner-requires g t c κs within =
    (omega (arith, symbol_below (rank_of c.args.symbol) c.in-Symbol.is c.requires.ranked, c.requires.low), (search rules, c.requires.boundary))

pub sketch_list-returns-then-can_begin-clause-reads : goal.sketch_list-returns-then-can_begin-clause-reads
sketch_list-returns-then-can_begin-clause-reads g t c =
    let same = c.loop-reader.invariant.same in
    let known = c.loop-reader.invariant.known in
    let here = moved c.args.spot c.loop-reader.at in
    let rows = map row c.args.rows.now in
    let none : ReadsChoice c.loop-reader.reader rows here empty Not =
    nothing_of c.in_ok-sketch_rows.field-0 (ReadsChoice c.loop-reader.reader rows here empty) (c.in_ok-sketch_rows.ensures.reads empty refl) c.in-Nothing.is in (
      empty,
      faint_empty c.args.limit,
      known.2 _ (broken (subst (λ t. ReadsChoice t rows here empty Not) same none)
          (can_in (c.in_ok-sketch_rows.ensures.same ∙ same) c.requires.rows c.if-can_begin.ensures.some)),
    )

pub sketch_list-returns-in-Nothing-clause-reads : goal.sketch_list-returns-in-Nothing-clause-reads
sketch_list-returns-in-Nothing-clause-reads g t c =
    let same = c.loop-reader.invariant.same in
    let known = c.loop-reader.invariant.known in
    let here = moved c.args.spot c.loop-reader.at in
    let rows = map row c.args.rows.now in
    let none : ReadsChoice c.loop-reader.reader rows here empty Not =
    nothing_of c.in_ok-sketch_rows.field-0 (ReadsChoice c.loop-reader.reader rows here empty) (c.in_ok-sketch_rows.ensures.reads empty refl) c.in-Nothing.is in (
      known.0,
      faint_low c.args.limit known.0 known.1,
      known.2 _ (no_more (subst (λ t. ReadsChoice t rows here empty Not) same none)
          (λ can. c.if-can_begin.ensures.none (can_in (sym (c.in_ok-sketch_rows.ensures.same ∙ same)) (sym c.requires.rows) can))),
    )

pub sketch_list-returns-in-TooDeep-clause-reads : goal.sketch_list-returns-in-TooDeep-clause-reads
sketch_list-returns-in-TooDeep-clause-reads g t c =
    let same = c.loop-reader.invariant.same in
    let known = c.loop-reader.invariant.known in
    let here = moved c.args.spot c.loop-reader.at in
    let rows = map row c.args.rows.now in
    let sketch = c.in_ok-sketch_rows.ensures.reads empty refl in
    let deep : ReadsChoice c.loop-reader.reader rows here empty Deep =
    subst (λ q. ReadsChoice c.loop-reader.reader rows here empty (outcome_of q sketch.0)) c.in-TooDeep.is sketch.2 in
    (empty, faint_empty c.args.limit, known.2 _ (deep_item (subst (λ t. ReadsChoice t rows here empty Deep) same deep)))

pub sketch_list-returns-in-None-clause-reads : goal.sketch_list-returns-in-None-clause-reads
sketch_list-returns-in-None-clause-reads g t c =
    let same = c.loop-reader.invariant.same in
    let known = c.loop-reader.invariant.known in
    let now = c.in_ok-sketch_rows.ensures.same ∙ same in
    let here = moved c.args.spot c.loop-reader.at in
    let rows = map row c.args.rows.now in
    let sketch = c.in_ok-sketch_rows.ensures.reads empty refl in
    let reads : ReadsChoice c.loop-reader.reader rows here empty (Read sketch.0 c.in-At.end) =
    subst (λ q. ReadsChoice c.loop-reader.reader rows here empty (outcome_of q sketch.0)) c.in-At.is sketch.2 in (
      joined known.0 sketch.0,
      faint_low c.args.limit (joined known.0 sketch.0) (lower_joined c.args.limit known.0.children sketch.0.children known.1 sketch.1.low),
      known.2 _ (last_item (subst (λ t. ReadsChoice t rows here empty (Read sketch.0 c.in-At.end)) same reads)
          (subst (λ text. comma_at text (moved c.args.spot c.in-At.end) ≡ None) now (sym c.in-None.ensures.comma))),
    )

pub sketch_list-loop-reader-preserved : goal.sketch_list-loop-reader-preserved
sketch_list-loop-reader-preserved g t c =
    let same = c.loop-reader.invariant.same in
    let known = c.loop-reader.invariant.known in
    let now = c.in_ok-sketch_rows.ensures.same ∙ same in
    let here = moved c.args.spot c.loop-reader.at in
    let rows = map row c.args.rows.now in
    let sketch = c.in_ok-sketch_rows.ensures.reads empty refl in
    let reads : ReadsChoice c.loop-reader.reader rows here empty (Read sketch.0 c.in-At.end) =
    subst (λ q. ReadsChoice c.loop-reader.reader rows here empty (outcome_of q sketch.0)) c.in-At.is sketch.2 in
    let ended = at_ends c.loop-reader.at c.in_ok-sketch_rows.field-0 empty same c.in-At.is c.in_ok-sketch_rows.ensures.ends in
    record {
      same = c.in-Some.ensures.same ∙ now;
      order = omega (arith, ended.0, c.loop-reader.invariant.order, c.in-Some.ensures.moves);
      ends = subst (λ text. IsCharBoundary text c.in-Some.comma.span.end) now c.in-Some.ensures.ends;
      known = (
        with_token (joined known.0 sketch.0) c.in-Some.comma,
        with_none c.args.limit (known.0.children ++ sketch.0.children) (lower_joined c.args.limit known.0.children sketch.0.children known.1 sketch.1.low),
        λ o h. known.2 o (next_item (subst (λ t. ReadsChoice t rows here empty (Read sketch.0 c.in-At.end)) same reads)
            (subst (λ text. comma_at text (moved c.args.spot c.in-At.end) ≡ Some c.in-Some.comma) now (sym c.in-Some.ensures.comma)) h),
      );
    }
