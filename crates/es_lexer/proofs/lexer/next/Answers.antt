use Rattle.std.proofs.Common.{◌∙◌, ap, subst, List, ℕ, IsUtf8}
use Rattle.es_text.specs.Texts.{text_bytes}
use Rattle.es_lexer.specs.declared.lexer.LexFault.TheVariants.{NoToken}
use Rattle.es_lexer.proofs.TokenLemmas.{first_boundary, first_is, no_token, read_token, Skips}
use Rattle.es_lexer.proofs.lexer.next.Goals as goal

pub returns-in-Some-clause-token : goal.returns-in-Some-clause-token
returns-in-Some-clause-token g c =
    let text = text_bytes c.args.source.now in
    let gap = c.skip-gap.result in
    let found = c.in-Some.form in
    let skips : Skips text c.args.at c.at.result gap.end =
    record { text_is = c.at.ensures.text ∙ c.text.ensures.bytes; offset_is = c.at.ensures.offset; moves = c.skip-gap.ensures.moves; behind = c.skip-gap.ensures.behind } in
    read_token text c.args.at c.at.result gap.end found.end c.args.mode found.kind gap.line
    (subst (λ (t : List ℕ). IsUtf8 t) c.text.ensures.bytes c.text.utf8) skips c.in-Some.ensures.moves c.skip-gap.ensures.line c.in-Some.ensures.value

pub returns-in-None-clause-no_token : goal.returns-in-None-clause-no_token
returns-in-None-clause-no_token g c =
    let text = text_bytes c.args.source.now in
    let skips : Skips text c.args.at c.at.result c.skip-gap.result.end =
    record { text_is = c.at.ensures.text ∙ c.text.ensures.bytes; offset_is = c.at.ensures.offset; moves = c.skip-gap.ensures.moves; behind = c.skip-gap.ensures.behind } in
    no_token text c.args.at c.at.result c.skip-gap.result.end c.args.mode skips c.in-None.ensures.value

pub returns-in-None-clause-offset : goal.returns-in-None-clause-offset
returns-in-None-clause-offset g c =
    let text = text_bytes c.args.source.now in
    let skips : Skips text c.args.at c.at.result c.skip-gap.result.end =
    record { text_is = c.at.ensures.text ∙ c.text.ensures.bytes; offset_is = c.at.ensures.offset; moves = c.skip-gap.ensures.moves; behind = c.skip-gap.ensures.behind } in
    ap NoToken (first_is text c.args.at c.at.result c.skip-gap.result.end (subst (λ (t : List ℕ). IsUtf8 t) c.text.ensures.bytes c.text.utf8) skips)

pub returns-in-None-clause-place : goal.returns-in-None-clause-place
returns-in-None-clause-place g c =
    let text = text_bytes c.args.source.now in
    let skips : Skips text c.args.at c.at.result c.skip-gap.result.end =
    record { text_is = c.at.ensures.text ∙ c.text.ensures.bytes; offset_is = c.at.ensures.offset; moves = c.skip-gap.ensures.moves; behind = c.skip-gap.ensures.behind } in
    first_boundary text c.args.at c.at.result c.skip-gap.result.end (subst (λ (t : List ℕ). IsUtf8 t) c.text.ensures.bytes c.text.utf8) skips
