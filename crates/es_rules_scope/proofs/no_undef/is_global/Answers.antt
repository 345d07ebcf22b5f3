use Rattle.std.proofs.Common.{◌∙◌, ap}
use Rattle.es_host.specs.Files.{file_in}
use Rattle.es_rules_scope.specs.Globals.{is_global_by, use_of}
use Rattle.es_rules_scope.proofs.no_undef.is_global.Goals as goal

pub returns : goal.returns
returns c =
    c.has.ensures
    ∙ ap (λ given. is_global_by given c.args.globals.now.source_type c.args.name.now) (c.requires.names c.args.name.now)
    ∙ ap (λ source. is_global_by (use_of (file_in c.args.file.now).settings.globals c.args.name.now) source c.args.name.now) c.requires.source_type
