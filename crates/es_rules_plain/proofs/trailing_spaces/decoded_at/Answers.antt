use Rattle.std.proofs.Common.{◌∙◌, ◌++◌, ap, sym}
use Rattle.std.specs.Char.{encode_utf8}
use Rattle.std.proofs.lemmas.Str.{drop_past_char}
use Rattle.es_rules_plain.proofs.trailing_spaces.decoded_at.Goals as goal

pub returns : goal.returns
returns c =
    let splits = sym (c.chars.ensures.rest ∙ c.range_from.ensures.value) ∙ c.in-Some.ensures.steps.0 in
    splits ∙ ap (λ rest. encode_utf8 c.in-Some.c ++ rest) (sym (drop_past_char c.args.text.now _ c.args.at c.in-Some.c splits))
