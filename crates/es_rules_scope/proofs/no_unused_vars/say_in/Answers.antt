use Rattle.std.proofs.Common.{◌≡◌}
use Rattle.std.specs.Prelude.{None, slice_get}
use Rattle.std.proofs.lemmas.Option.{slice_get_past, slice_get_read}
use Rattle.es_host.specs.Files.{file_in}
use Rattle.es_rules_scope.proofs.VariablesLemmas.{none_said}
use Rattle.es_rules_scope.proofs.no_unused_vars.say_in.Goals as goal

pub returns-in-None-clause-found : goal.returns-in-None-clause-found
returns-in-None-clause-found c =
    let none : slice_get c.args.variables.now c.args.index ≡ None = slice_get_past c.args.variables.now c.args.index c.in-None.ensures.lookup.3 in
    none_said (file_in c.args.file.now) c.args.variables.now c.args.index c.args.findings.now.items none
