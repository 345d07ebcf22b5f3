use Rattle.std.proofs.Common.{◌≡◌, ◌∙◌, ap, sym, true, rules}
use Rattle.std.specs.Prelude.{not}
use Rattle.es_early.specs.PrivateNames.{is_private_name}
use Rattle.es_early.proofs.PrivateNamesLemmas.{undeclared}
use Rattle.es_early.proofs.private_names.is_undeclared_private.Goals as goal

pub returns-in-Some : goal.returns-in-Some
returns-in-Some c =
    let private : is_private_name c.args.tree.now c.args.node ≡ true = search rules in
    let both = undeclared c.args.tree.now c.args.firsts.now c.args.node c.in-Some.name.now c.requires (sym c.in-Some.ensures) private in
    let result = ap not c.is_declared_around.ensures in
    (λ is. both.0 (sym result ∙ is), λ error. result ∙ both.1 error)
