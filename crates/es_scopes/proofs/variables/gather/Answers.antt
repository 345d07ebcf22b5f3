use Rattle.std.proofs.Common.{◌∙◌, ◌<◌, ◌++◌, None, length, map, take, append-nil, ap, sym, arith}
use Rattle.std.proofs.Math.ListN.{get_or}
use Rattle.std.specs.Map.{lookup}
use Rattle.std.specs.Str.{bytes_eq}
use Rattle.std.specs.String.{string_bytes}
use Rattle.std.proofs.lemmas.List.{take_more}
use Rattle.es_scopes.specs.declared.binding.DeclarationKind.TheVariants.{Var}
use Rattle.es_scopes.specs.declared.declarations.Declaration.{Declaration}
use Rattle.es_scopes.specs.Gathering.{joined}
use Rattle.es_scopes.specs.Variables.{gathered, seen}
use Rattle.es_scopes.proofs.VariablesLemmas.{fresh-none, gathered-more, joined-behind}
use Rattle.es_scopes.proofs.variables.gather.Goals as goal

pub loop-declaration-init : goal.loop-declaration-init
loop-declaration-init c = record {
  variables = sym (append-nil (map seen c.args.variables.now.items));
  table = λ name. ap (lookup (λ key. bytes_eq name (string_bytes key))) c.new-table.ensures.empty
      ∙ sym (fresh-none c.args.scope name (map seen c.args.variables.now.items) c.requires);
}

pub loop-declaration-preserved : goal.loop-declaration-preserved
loop-declaration-preserved c =
    let rows = c.args.tree.now in
    let scope = c.args.scope in
    let ds = c.args.declarations.now in
    let i = c.loop-declaration.declaration-index in
    let before = map seen c.args.variables.now.items in
    let none : Declaration = record { scope = 0; kind = Var; node = None } in
    let d = get_or ds i none in
    let within : i < length ds = omega arith in
    record {
      variables = c.in_ok-declare.ensures.variables
          ∙ ap (λ vs. joined rows scope vs d) c.loop-declaration.invariant.variables
          ∙ joined-behind rows scope d before (gathered rows scope (take i ds)) c.requires
          ∙ ap (λ vs. before ++ vs) (sym (gathered-more rows scope d (take i ds)) ∙ ap (gathered rows scope) (sym (take_more ds i none within)));
      table = c.in_ok-declare.ensures.table;
    }
