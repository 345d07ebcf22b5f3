use Rattle.es_text.specs.Texts.{text_bytes}
use Rattle.es_host.proofs.SpansLemmas.{part-at}
use Rattle.es_host.proofs.file.Ctx.span.Goals as goal

pub returns-clause-inside : goal.returns-clause-inside
returns-clause-inside c =
    part-at (text_bytes c.args.self.now.file.now.source.now) c.args.self.now.file.now.parsed.now.tree c.args.node c.span.result c.requires.whole.spans c.span.ensures
