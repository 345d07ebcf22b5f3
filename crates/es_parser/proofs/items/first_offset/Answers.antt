use Rattle.es_text.specs.declared.token.LexMode.TheVariants.{Division}
use Rattle.es_text.specs.Texts.{text_bytes}
use Rattle.es_parser.proofs.ProgramLemmas.{starts_first}
use Rattle.es_parser.proofs.items.first_offset.Goals as goal

pub returns-in-Ok : goal.returns-in-Ok
returns-in-Ok g c = starts_first (text_bytes c.args.source.now) c.args.at Division c.in-Ok.token c.in-Ok.ensures.token
