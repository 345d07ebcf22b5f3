use Rattle.std.proofs.Common.{◌∙◌, sym, ap}
use Rattle.es_text.proofs.TextLemmas.{text_of-ascii}
use Rattle.es_text.proofs.source.Source.new.Goals as goal

pub returns-clause-ascii : goal.returns-clause-ascii
returns-clause-ascii c = λ ascii.
    let same = c.in_ok-read.ensures ∙ sym (text_of-ascii c.args.bytes.now ascii) in
    (ap (λ text. text.characters) same, ap (λ text. text.marked) same)
