use Rattle.std.proofs.Common.{[], map, subst}
use Rattle.es_host.specs.Files.{File, file_in, rows_in}
use Rattle.es_host.specs.Hearing.{EachHeard, events_of}
use Rattle.es_host.specs.Walk.{walk_from}
use Rattle.es_host.proofs.walk.walk.Goals as goal

pub returns-clause-heard : goal.returns-clause-heard
returns-clause-heard g c =
    let file : File = file_in c.args.file.now in
    subst (λ path. EachHeard g.R.Rule.heard file (events_of (map g.R.Rule.meaning c.args.rules.now) file (walk_from (rows_in file) path 0)) c.walk_from.new.rules)
    c.new-path.ensures.items (c.in_ok-walk_from.ensures.heard [] c.requires.begun)
