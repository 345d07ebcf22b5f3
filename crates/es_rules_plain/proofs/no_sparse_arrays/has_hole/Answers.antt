use Rattle.std.proofs.Common.{rules, ◌≡◌, ◌∙◌, ℕ, Bool, true, ap, sym, arith}
use Rattle.std.specs.Prelude.{is_none}
use Rattle.std.specs.List.{list_any, range_with_len}
use Rattle.es_tree.specs.Around.{joined}
use Rattle.es_tree.specs.Rows.{field_child_of}
use Rattle.es_rules_plain.specs.declared.no_sparse_arrays.TheConstants.{ELEMENTS}
use Rattle.es_rules_plain.proofs.RangesLemmas.{none-below, one-below}
use Rattle.es_rules_plain.proofs.no_sparse_arrays.has_hole.Goals as goal

pub returns-then-is_none : goal.returns-then-is_none
returns-then-is_none c =
    let test : ℕ → Bool = λ index. is_none (joined (field_child_of c.args.tree.now c.args.node ELEMENTS index)) in
    let hole : is_none c.field.result ≡ true = search rules in
    let passes : test c.loop-index.index ≡ true = ap (λ found. is_none (joined found)) c.field.ensures ∙ hole in
    sym (one-below test c.count_places-index-end.result c.loop-index.index c.loop-index-test.true passes)
    ∙ ap (λ count. list_any test (range_with_len 0 count)) c.count_places-index-end.ensures

pub returns : goal.returns
returns c =
    let test : ℕ → Bool = λ index. is_none (joined (field_child_of c.args.tree.now c.args.node ELEMENTS index)) in
    sym (none-below test c.count_places-index-end.result (λ k within. c.loop-index.invariant k (omega (arith, within, c.loop-index-test.false))))
    ∙ ap (λ count. list_any test (range_with_len 0 count)) c.count_places-index-end.ensures
