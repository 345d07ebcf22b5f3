use Rattle.std.proofs.Common.{◌∙◌, ap, sym}
use Rattle.std.specs.List.{list_any}
use Rattle.es_early.specs.Declarations.{counts_in, is_lexical_binding}
use Rattle.es_early.specs.Notes.{is_noted_before, noted_at}
use Rattle.es_early.proofs.DeclarationsLemmas.{redeclared-lexical, redeclared-other}
use Rattle.es_early.proofs.declarations.is_redeclared.Goals as goal

pub returns-then-is_lexical_binding : goal.returns-then-is_lexical_binding
returns-then-is_lexical_binding c =
    let both = redeclared-lexical c.args.tree.now c.args.lexical.now c.args.declared.now c.args.node c.in-Some.name.now
    c.requires.lexical c.requires.declared (sym c.in-Some.ensures) (ap is_lexical_binding (sym c.binding_of-binding.ensures) ∙ sym c.if-is_lexical_binding.ensures) in
    let result = c.is_noted_in.ensures
    ∙ ap (list_any (λ scope. is_noted_before (noted_at c.args.declared.now scope c.in-Some.name.now) c.args.node)) (c.deref.ensures.value ∙ c.in_ok-scopes.ensures ∙ ap (counts_in c.args.tree.now c.args.node) c.binding_of-binding.ensures) in
    (λ is. both.0 (sym result ∙ is), λ error. result ∙ both.1 error)

pub returns : goal.returns
returns c =
    let both = redeclared-other c.args.tree.now c.args.lexical.now c.args.declared.now c.args.node c.in-Some.name.now
    c.requires.lexical c.requires.declared (sym c.in-Some.ensures) (ap is_lexical_binding (sym c.binding_of-binding.ensures) ∙ sym c.if-is_lexical_binding.ensures) in
    let result = c.is_noted_in-else-is_lexical_binding.ensures
    ∙ ap (list_any (λ scope. is_noted_before (noted_at c.args.lexical.now scope c.in-Some.name.now) c.args.node)) (c.deref-else-is_lexical_binding.ensures.value ∙ c.in_ok-scopes.ensures ∙ ap (counts_in c.args.tree.now c.args.node) c.binding_of-binding.ensures) in
    (λ is. both.0 (sym result ∙ is), λ error. result ∙ both.1 error)
