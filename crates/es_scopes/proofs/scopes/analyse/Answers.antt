use Rattle.std.proofs.Common.{◌∙◌, List, ap, length, map, sym, subst}
use Rattle.std.specs.Prelude.{All}
use Rattle.std.specs.List.{range_with_len}
use Rattle.std.proofs.lemmas.List.FromFn.{length-map-range_with_len}
use Rattle.es_scopes.specs.declared.scope.Scope.{Scope}
use Rattle.es_scopes.specs.declared.uses.Reference.{Reference}
use Rattle.es_scopes.specs.Analysis.{IsReferenceIn, IsVariableIn, or_first}
use Rattle.es_scopes.specs.Places.{scope_of, scopes, stands}
use Rattle.es_scopes.specs.Variables.{Named, seen, variables}
use Rattle.es_scopes.proofs.InsideLemmas.{references-inside, variables-inside}
use Rattle.es_scopes.proofs.ListLemmas.{map-twice}
use Rattle.es_scopes.proofs.scopes.analyse.Goals as goal

pub returns-clause-standing : goal.returns-clause-standing
returns-clause-standing c =
    let rows = c.args.tree.now in
    ap (map or_first) c.in_ok-places.ensures.all.stands
    ∙ map-twice or_first (stands rows) (range_with_len 0 (length rows))

pub returns-clause-count : goal.returns-clause-count
returns-clause-count c =
    let rows = c.args.tree.now in
    ap length (returns-clause-standing c) ∙ length-map-range_with_len (scope_of rows) 0 (length rows)

pub returns-clause-variables_inside : goal.returns-clause-variables_inside
returns-clause-variables_inside c =
    let rows = c.args.tree.now in
    subst (λ (chain : List Scope). All (IsVariableIn (length chain) (length rows)) (map seen c.in_ok-variables.variables.items.items))
    (sym c.in_ok-places.ensures.all.scopes)
    (subst (λ (vs : List Named). All (IsVariableIn (length (scopes rows)) (length rows)) vs) (sym c.in_ok-variables.ensures.variables)
    (variables-inside rows))

pub returns-clause-references_inside : goal.returns-clause-references_inside
returns-clause-references_inside c =
    let rows = c.args.tree.now in
    subst (λ (vs : List Named). All (IsReferenceIn (length vs) (length rows)) c.in_ok-references.references.items)
    (sym c.in_ok-variables.ensures.variables)
    (subst (λ (found : List Reference). All (IsReferenceIn (length (variables rows)) (length rows)) found) (sym c.in_ok-references.ensures)
    (references-inside rows))
