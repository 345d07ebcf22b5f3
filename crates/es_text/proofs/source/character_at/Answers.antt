use Rattle.std.proofs.Common.{◌∙◌, List, ℕ, ap, get_or, sym}
use Rattle.std.specs.Str.{chars}
use Rattle.es_text.specs.LineStarts.{is_plain_byte}
use Rattle.es_text.specs.Texts.{ends_line}
use Rattle.es_text.proofs.LineStartLemmas.{char-step, plain-step}
use Rattle.es_text.proofs.source.character_at.Goals as goal

pub returns-then-is_plain : goal.returns-then-is_plain
returns-then-is_plain c =
    plain-step c.args.text.now c.args.at c.requires.within
    (sym (c.is_plain.ensures ∙ ap (λ (bytes : List ℕ). is_plain_byte (get_or bytes c.args.at 0)) c.as_bytes.ensures.value) ∙ c.if-is_plain.true)

pub returns : goal.returns
returns c =
    char-step c.args.text.now _ _ c.args.at c.in-Some.c c.len_utf8.result c.is_line_end.result
    (c.chars-rest.ensures.rest ∙ c.range_from.ensures.value) c.in-Some.ensures.steps.0 c.len_utf8.ensures.value
    (c.is_line_end.ensures ∙ ap (λ (s : List ℕ). ends_line c.in-Some.c (chars s)) c.as_str.ensures)
