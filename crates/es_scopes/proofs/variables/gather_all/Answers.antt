use Rattle.std.proofs.Common.{◌≡◌, ◌∙◌, ◌<◌, ◌+◌, ◌++◌, ◌∷◌, [], ℕ, ap, sym, subst, length, length-append, map, arith}
use Rattle.std.proofs.lemmas.List.FromFn.{length-map-range_with_len}
use Rattle.es_scopes.specs.Declarations.{by_scope, declarations, declared_in}
use Rattle.es_scopes.specs.Gathering.{AreTables}
use Rattle.es_scopes.specs.Places.{scopes}
use Rattle.es_scopes.specs.Variables.{found_in, gathered, seen, variables_below, variables_in}
use Rattle.es_scopes.proofs.ListLemmas.{at_filled, flat_map-more}
use Rattle.es_scopes.proofs.TableLemmas.{fresh-below, gathered-elsewhere, no-tables, tables-more}
use Rattle.es_scopes.proofs.variables.gather_all.Goals as goal

pub loop-own-init : goal.loop-own-init
loop-own-init c = record {
  variables = ap (map seen) c.new-items.ensures.items;
  tables = subst (AreTables _) (sym c.new-tables.ensures.items) (no-tables _ _);
  count = ap length c.new-tables.ensures.items;
}

pub gather-requires : goal.gather-requires
gather-requires c =
    let rows = c.args.tree.now in
    let scope : c.in_ok-scope.scope ≡ c.loop-own.own-index = omega (arith, c.in_ok-scope.ensures, c.loop-own.invariant.count, c.len.ensures) in
    rw (scope, c.loop-own.invariant.variables) (fresh-below rows c.loop-own.own-index)

pub loop-own-preserved : goal.loop-own-preserved
loop-own-preserved c =
    let rows = c.args.tree.now in
    let ds = declarations rows in
    let i = c.loop-own.own-index in
    let lists = c.as_slice-own-items.result.now in
    let own = c.as_slice.result.now in
    let old = c.loop-own.tables.items in
    let scope : c.in_ok-scope.scope ≡ i = omega (arith, c.in_ok-scope.ensures, c.loop-own.invariant.count, c.len.ensures) in
    let filled : lists ≡ by_scope (length (scopes rows)) ds = c.as_slice-own-items.ensures ∙ c.requires in
    let within : i < length (scopes rows) =
    omega (arith, c.loop-own-test.true, ap length filled, length-map-range_with_len (declared_in ds) 0 (length (scopes rows))) in
    let item : own ≡ declared_in ds i =
    c.as_slice.ensures ∙ c.own-item.is ∙ at_filled (declared_in ds) lists (length (scopes rows)) i c.own-item.result filled within in
    let more : map seen c.gather.new.variables.items ≡ variables_below rows i ++ variables_in rows i =
    c.in_ok-table.ensures.variables
    ∙ ap (λ vs. vs ++ gathered rows c.in_ok-scope.scope own) c.loop-own.invariant.variables
    ∙ ap (λ (s : ℕ). variables_below rows i ++ gathered rows s own) scope
    ∙ ap (λ l. variables_below rows i ++ gathered rows i l) item in
    let next = sym (flat_map-more (variables_in rows) i) in
    record {
      variables = more ∙ next;
      tables = subst (AreTables (variables_below rows (i + 1))) (sym c.in_ok-push.ensures.items)
          (subst (λ vs. AreTables vs (old ++ c.in_ok-table.table ∷ [])) next
          (tables-more i (variables_below rows i) (variables_in rows i) old c.in_ok-table.table c.loop-own.invariant.tables c.loop-own.invariant.count
          (λ other never. gathered-elsewhere rows i other never (declared_in ds i))
          (λ name. c.in_ok-table.ensures.table name ∙ ap (λ vs. found_in vs name c.in_ok-scope.scope) more
          ∙ ap (λ (s : ℕ). found_in (variables_below rows i ++ variables_in rows i) name s) scope)));
      count = ap length c.in_ok-push.ensures.items ∙ length-append old (c.in_ok-table.table ∷ []) ∙ ap (λ (n : ℕ). n + 1) c.loop-own.invariant.count;
    }

pub returns-clause-variables : goal.returns-clause-variables
returns-clause-variables c =
    let rows = c.args.tree.now in
    let count = length (scopes rows) in
    let filled = c.as_slice-own-items.ensures ∙ c.requires in
    let ended : c.loop-own.own-index ≡ count =
    omega (arith, c.loop-own-test.false, ap length filled, length-map-range_with_len (declared_in (declarations rows)) 0 count) in
    c.loop-own.invariant.variables ∙ ap (variables_below rows) ended

pub returns-clause-tables : goal.returns-clause-tables
returns-clause-tables c =
    let rows = c.args.tree.now in
    let count = length (scopes rows) in
    let filled = c.as_slice-own-items.ensures ∙ c.requires in
    let ended : c.loop-own.own-index ≡ count =
    omega (arith, c.loop-own-test.false, ap length filled, length-map-range_with_len (declared_in (declarations rows)) 0 count) in
    subst (λ (n : ℕ). AreTables (variables_below rows n) c.loop-own.tables.items) ended c.loop-own.invariant.tables
