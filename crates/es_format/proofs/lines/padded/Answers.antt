use Rattle.std.proofs.Common.{◌≡◌, ◌-◌, ◌++◌, length, replicate, sym, ap, ◌∙◌, arith}
use Rattle.std.specs.Str.{chars}
use Rattle.es_format.proofs.StylishLemmas.{encodes-padded}
use Rattle.es_format.proofs.lines.padded.Goals as goal

pub returns : goal.returns
returns c =
    let text = c.args.text.now in
    let full : c.loop.counter ≡ c.args.width - length (chars text) = omega arith in
    c.loop.invariant ∙ ap (λ n. text ++ replicate n 32) full ∙ sym (encodes-padded c.args.width text c.utf8.text)
