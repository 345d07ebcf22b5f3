use Rattle.std.proofs.Common.{rules}
use Rattle.es_text.specs.Texts.{text_bytes}
use Rattle.es_lint.proofs.FatalLemmas.{fatal_plain, fatal_within}
use Rattle.es_lint.proofs.FileLemmas.{one_within}
use Rattle.es_lint.proofs.linting.unparsed.Goals as goal

pub returns-clause-inside : goal.returns-clause-inside
returns-clause-inside c =
    let bytes = text_bytes c.args.source.now in
    let fatal = c.in_ok-fatal.fatal in
    one_within bytes _ fatal (search rules) (search rules)
    (fatal_within bytes c.args.fault fatal c.parts_lie.ensures c.requires c.in_ok-fatal.ensures) (fatal_plain bytes c.args.fault fatal c.in_ok-fatal.ensures)
