use Rattle.std.proofs.Common.{ap, sym, ◌∙◌}
use Rattle.std.specs.Prelude.{bytes_eq}
use Rattle.std.proofs.lemmas.Str.{encodes-chars}
use Rattle.es_selectors.proofs.found.is_text.Goals as goal

pub returns : goal.returns
returns c = c.eq.ensures ∙ ap (λ words. bytes_eq words c.args.text.now) (sym (encodes-chars c.args.words.now c.utf8.words))
