use Rattle.std.proofs.Common.{◌≡◌, ◌<◌, length, rules, subst, sym}
use Rattle.std.specs.Prelude.{IfOk}
use Rattle.es_config.specs.Reading.{globs_at}
use Rattle.es_config.specs.Walks.{good}
use Rattle.es_config.proofs.WalksLemmas.{some_is_each}
use Rattle.es_config.proofs.file_globs.some_files.Goals as goal

pub returns-else-is_empty-clause-value : goal.returns-else-is_empty-clause-value
returns-else-is_empty-clause-value c =
    let some : 0 < length c.args.values.now = search rules in
    subst (λ walked. IfOk c.files_in.result (λ read. walked ≡ good read)) (sym (some_is_each globs_at c.args.values.now some)) c.files_in.ensures.value
