use Rattle.std.proofs.Common.{sym, subst}
use Rattle.es_text.specs.Texts.{text_bytes}
use Rattle.es_parser.proofs.reader.Reader.take_at.Goals as goal

pub invariant_of-self : goal.invariant_of-self
invariant_of-self c =
    let inv = c.self.invariant in
    (inv.0, inv.1, inv.2, c.taken.ensures.rest (text_bytes c.self.inside.source.now) inv.3)

pub invariant_of-self-2 : goal.invariant_of-self-2
invariant_of-self-2 c =
    let inv = c.self.invariant in
    (inv.0, inv.1, inv.2, c.taken.ensures.rest (text_bytes c.self.inside.source.now) inv.3)
