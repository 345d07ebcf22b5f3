use Rattle.std.proofs.Common.{◌∙◌, ◌∷◌, [], List, ℕ, ap, sym, map}
use Rattle.std.proofs.Math.ListN.{set}
use Rattle.es_scopes.specs.Declarations.{some_list}
use Rattle.es_scopes.specs.Gathering.{with_nodes_at}
use Rattle.es_scopes.specs.Variables.{seen}
use Rattle.es_scopes.proofs.VariablesLemmas.{with_nodes_at-none, seen-set}
use Rattle.es_scopes.proofs.variables.note.Goals as goal

pub returns-in_default : goal.returns-in_default
returns-in_default c =
    let vs = map seen c.args.variables.now.items in
    sym (ap (λ node. with_nodes_at vs c.args.index (some_list node)) c.in_default.is ∙ with_nodes_at-none vs c.args.index)

pub returns : goal.returns
returns c =
    let items = c.args.variables.now.items in
    let index = c.args.index in
    let v = c.index_mut-variable.result.now in
    ap (λ (ns : List ℕ). map seen (set items index (record { name = v.name; scope = v.scope; kind = v.kind; nodes = ns }))) c.in_ok-push.ensures.ok
    ∙ seen-set items index v (c.in-Some.node ∷ []) c.requires c.index_mut-variable.ensures.value
    ∙ ap (λ node. with_nodes_at (map seen items) index (some_list node)) (sym c.in-Some.is)
