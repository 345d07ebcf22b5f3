use Rattle.std.proofs.Common.{◌≡◌, ◌∙◌, ◌++◌, ◌∷◌, [], List, ℕ, length, map, arith, ap, sym, encode_utf8_all}
use Rattle.std.specs.HashMap.{get_by_text}
use Rattle.std.specs.Map.{update}
use Rattle.std.specs.Str.{bytes_eq}
use Rattle.std.specs.String.{string_bytes}
use Rattle.std.specs.Prelude.{Some}
use Rattle.std.proofs.lemmas.List.{map-append}
use Rattle.std.proofs.lemmas.Map.Text.{hash_map_updates_text}
use Rattle.std.proofs.lemmas.Str.{encodes-chars}
use Rattle.es_scopes.specs.Declarations.{name_declared}
use Rattle.es_scopes.specs.Variables.{seen}
use Rattle.es_scopes.proofs.VariablesLemmas.{nodes-alone}
use Rattle.es_scopes.proofs.variables.make.Goals as goal

pub returns-clause-variables : goal.returns-clause-variables
returns-clause-variables c =
    let rows = c.args.tree.now in
    let d = c.args.declaration in
    let bytes = c.name_declared-text.result.now in
    let name : encode_utf8_all c.in_ok-name.name ≡ name_declared rows d.node =
    ap encode_utf8_all c.in_ok-name.ensures ∙ encodes-chars bytes c.name_declared-text.utf8 ∙ c.name_declared-text.ensures in
    let nodes = c.in_ok-nodes.ensures ∙ sym (nodes-alone rows d) in
    ap (map seen) c.in_ok-push.ensures.items
    ∙ map-append seen c.args.variables.now.items _
    ∙ ap (λ v. map seen c.args.variables.now.items ++ v ∷ [])
    (ap (λ (n : List ℕ). record { name = n; scope = c.args.scope; kind = d.kind; nodes = c.in_ok-nodes.nodes }) name
    ∙ ap (λ (ns : List ℕ). record { name = name_declared rows d.node; scope = c.args.scope; kind = d.kind; nodes = ns }) nodes)

pub returns-clause-table : goal.returns-clause-table
returns-clause-table c = λ name.
    let old = c.args.table.now in
    let key : string_bytes c.in_ok-from_str.field-0 ≡ name_declared c.args.tree.now c.args.declaration.node =
    c.in_ok-from_str.ensures.ok ∙ c.name_declared-text.ensures in
    let index : c.in_ok-index.index ≡ length c.args.variables.now.items = omega (arith, c.in_ok-index.ensures, c.len.ensures) in
    hash_map_updates_text (string_bytes c.in_ok-from_str.field-0) old c.insert.new.self (Some c.in_ok-index.index) c.in_ok-insert.ensures.updates name
    ∙ ap (λ k. update bytes_eq (get_by_text old) k (Some c.in_ok-index.index) name) key
    ∙ ap (λ (i : ℕ). update bytes_eq (get_by_text old) (name_declared c.args.tree.now c.args.declaration.node) (Some i) name) index
