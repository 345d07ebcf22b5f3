use Rattle.std.proofs.Common.{◌≡◌, ◌<◌, length, rules, subst, sym}
use Rattle.std.specs.Prelude.{IfOk}
use Rattle.es_config.specs.Reading.{glob_at}
use Rattle.es_config.specs.Walks.{good}
use Rattle.es_config.proofs.WalksLemmas.{some_is_each}
use Rattle.es_config.proofs.file_globs.some_globs.Goals as goal

pub returns-else-is_empty-clause-value : goal.returns-else-is_empty-clause-value
returns-else-is_empty-clause-value c =
    let some : 0 < length c.args.values.now = search rules in
    subst (λ walked. IfOk c.globs_in.result (λ read. walked ≡ good read)) (sym (some_is_each glob_at c.args.values.now some)) c.globs_in.ensures.value
