use Rattle.std.proofs.Common.{◌∙◌, sym, ap, rules, List, ℕ, Some}
use Rattle.std.specs.Str.{IsUtf8}
use Rattle.std.proofs.lemmas.Str.{encodes-chars}
use Rattle.es_tree.specs.Around.{joined, utf8_in}
use Rattle.es_tree.proofs.around.words.Goals as goal

pub returns-in-Words : goal.returns-in-Words
returns-in-Words c =
    let utf8 : IsUtf8 c.in-Words.words.now = search rules in
    ap (λ (text : List ℕ). Some text) (sym (encodes-chars c.in-Words.words.now utf8))
    ∙ ap (λ value. utf8_in (joined value)) (sym c.in-Words.ensures.value)
