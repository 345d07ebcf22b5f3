use Rattle.std.proofs.Common.{◌≡◌, ◌∙◌, ◌∷◌, [], ℕ, Some, None, map, ap, sym, refl, arith}
use Rattle.std.specs.HashMap.{get_by_text}
use Rattle.std.specs.Map.{update}
use Rattle.std.specs.Str.{bytes_eq}
use Rattle.std.proofs.lemmas.List.{length-map}
use Rattle.std.proofs.lemmas.Result.{on_ok_weaker}
use Rattle.es_scopes.specs.Declarations.{name_declared, some_list}
use Rattle.es_scopes.specs.Variables.{found_in, is_of, seen, variable}
use Rattle.es_scopes.proofs.TableLemmas.{both_ok, table-made, table-noted}
use Rattle.es_scopes.proofs.VariablesLemmas.{found-within, joined-found, joined-none}
use Rattle.es_scopes.proofs.variables.declare.Goals as goal

pub note-requires : goal.note-requires
note-requires c =
    let vs = map seen c.args.variables.now.items in
    let name = name_declared c.args.tree.now c.args.declaration.node in
    let found : found_in vs name c.args.scope ≡ Some c.in-Some.index =
    sym (c.in-Some.ensures ∙ c.get.ensures.value ∙ ap (get_by_text c.args.table.now) c.name_declared.ensures ∙ c.requires name) in
    let within = found-within (is_of c.args.scope name) vs c.in-Some.index found in
    let long = length-map c.args.variables.now.items seen in
    omega (arith, within, long)

pub returns-in-Some-clause-variables : goal.returns-in-Some-clause-variables
returns-in-Some-clause-variables c =
    let vs = map seen c.args.variables.now.items in
    let name = name_declared c.args.tree.now c.args.declaration.node in
    let found : found_in vs name c.args.scope ≡ Some c.in-Some.index =
    sym (c.in-Some.ensures ∙ c.get.ensures.value ∙ ap (get_by_text c.args.table.now) c.name_declared.ensures ∙ c.requires name) in
    on_ok_weaker c.note.result (λ noted. noted ∙ sym (joined-found c.args.tree.now c.args.scope c.args.declaration vs c.in-Some.index found)) c.note.ensures

pub returns-in-Some-clause-table : goal.returns-in-Some-clause-table
returns-in-Some-clause-table c =
    let vs = map seen c.args.variables.now.items in
    on_ok_weaker c.note.result (λ noted. table-noted c.args.scope c.in-Some.index vs (map seen c.note.new.variables.items) (some_list c.args.declaration.node)
    (get_by_text c.args.table.now) c.requires noted) c.note.ensures

pub returns-in-None-clause-variables : goal.returns-in-None-clause-variables
returns-in-None-clause-variables c =
    let vs = map seen c.args.variables.now.items in
    let name = name_declared c.args.tree.now c.args.declaration.node in
    let none : found_in vs name c.args.scope ≡ None =
    sym (c.in-None.ensures ∙ c.get.ensures.value ∙ ap (get_by_text c.args.table.now) c.name_declared.ensures ∙ c.requires name) in
    on_ok_weaker c.make.result (λ made. made ∙ sym (joined-none c.args.tree.now c.args.scope c.args.declaration vs none)) c.make.ensures.variables

pub returns-in-None-clause-table : goal.returns-in-None-clause-table
returns-in-None-clause-table c =
    let vs = map seen c.args.variables.now.items in
    let rows = c.args.tree.now in
    let name = name_declared rows c.args.declaration.node in
    let none : found_in vs name c.args.scope ≡ None =
    sym (c.in-None.ensures ∙ c.get.ensures.value ∙ ap (get_by_text c.args.table.now) c.name_declared.ensures ∙ c.requires name) in
    let long = length-map c.args.variables.now.items seen in
    on_ok_weaker c.make.result (λ made. table-made c.args.scope vs (map seen c.make.new.variables.items) (variable rows c.args.scope c.args.declaration (c.args.declaration ∷ []))
    (get_by_text c.args.table.now) (get_by_text c.make.new.table) refl none c.requires
    (λ n. made.1 n ∙ ap (λ (i : ℕ). update bytes_eq (get_by_text c.args.table.now) name (Some i) n) (sym long)) made.0)
    (both_ok _ _ c.make.result c.make.ensures.variables c.make.ensures.table)
