use Rattle.std.proofs.Common.{List, ℕ, sym, ◌∙◌, ap, subst}
use Rattle.std.specs.Str.{IsCharBoundary}
use Rattle.std.specs.String.{string_bytes}
use Rattle.std.proofs.lemmas.Str.{encodes-chars, IsCharBoundary-start, IsUtf8-string_bytes}
use Rattle.es_text.specs.Texts.{text_bytes}
use Rattle.es_text.proofs.source.Source.text.Goals as goal

pub returns-clause-bytes : goal.returns-clause-bytes
returns-clause-bytes c =
    c.as_str.ensures.value
    ∙ sym (encodes-chars (string_bytes c.self.inside.text) (IsUtf8-string_bytes c.self.inside.text))
    ∙ ap text_bytes c.self.view_is

pub returns-clause-start : goal.returns-clause-start
returns-clause-start c =
    let text = string_bytes c.self.inside.text in
    let held = sym (encodes-chars text (IsUtf8-string_bytes c.self.inside.text)) ∙ ap text_bytes c.self.view_is in
    subst (λ (bytes : List ℕ). IsCharBoundary bytes 0) held (IsCharBoundary-start text (IsUtf8-string_bytes c.self.inside.text))
