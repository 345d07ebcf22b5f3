use Rattle.std.proofs.Common.{◌∙◌, ap, sym, arith}
use Rattle.es_scopes.specs.Declarations.{some_list}
use Rattle.es_scopes.specs.Gathering.{put_all}
use Rattle.es_scopes.proofs.GatheringLemmas.{pushed_at-beyond}
use Rattle.es_scopes.proofs.declarations.put.Goals as goal

pub returns-else-scope-len : goal.returns-else-scope-len
returns-else-scope-len c =
    let lists = c.args.lists.now in
    sym (pushed_at-beyond lists c.in-Some.declaration.scope c.in-Some.declaration (omega arith))
    ∙ ap (λ d. put_all lists (some_list d)) (sym c.in-Some.is)
