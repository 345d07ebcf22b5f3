use Rattle.std.proofs.Common.{◌≡◌, ◌∙◌, ℕ, ◌+◌, ◌-◌, ◌<◌, ◌≤◌, Bool, List, length, take, drop, ap, sym, arith, Option, Some, None}
use Rattle.std.specs.Prelude.{slice_range}
use Rattle.std.specs.Str.{chars}
use Rattle.std.proofs.lemmas.Result.{on_ok_weaker}
use Rattle.es_text.specs.Spans.{LiesIn}
use Rattle.es_text.specs.Texts.{text_bytes}
use Rattle.es_text.specs.declared.token.Comment.{Comment}
use Rattle.es_messages.specs.Directives.{behind_word, directive_of, first_word, said, said_in, says, text_in, text_of, whole_of}
use Rattle.es_messages.specs.Joined.{joined}
use Rattle.es_messages.specs.Seen.{seen}
use Rattle.es_messages.specs.Stretches.{Characters, behind, width}
use Rattle.es_messages.proofs.JoinedLemmas.{joined_empty, said_none, said_some}
use Rattle.es_messages.proofs.WidthLemmas.{width_chars}
use Rattle.es_messages.proofs.reading.read_comment.Goals as goal

pub invariant_of-whole : goal.invariant_of-whole
invariant_of-whole c =
    let bytes : List ℕ = text_bytes c.args.source.now in
    let range : List ℕ = c.range.result.now in
    let lies : LiesIn bytes c.args.comment.span = (c.parts_lie.ensures bytes c.args.comment.span).0 c.requires in
    let wide : width c.deref.result.now ≡ length range = ap width (c.deref.ensures.value ∙ c.in_ok-characters.ensures) ∙ width_chars range c.range.utf8 in
    let whole : length c.text-text.result.now ≡ length bytes = ap length c.text-text.ensures.bytes in
    record { fits = omega (arith, wide, whole, lies.order, lies.end.0, c.range.ensures.len, c.text-text.ensures.bound) }

-- the text of the comment
inner_is : (bytes text range list items : List ℕ) (comment : Comment) (inner : Characters) → text ≡ bytes → range ≡ slice_range text comment.span.start comment.span.end → items ≡ chars range → list ≡ items → inner ≡ text_in comment.block (record { at = comment.span.start; list = list }) → inner ≡ text_of bytes comment
inner_is bytes text range list items comment inner text-is range-is items-is list-is is =
    is ∙ ap (λ list. text_in comment.block (record { at = comment.span.start; list = list }))
    (list-is ∙ (items-is ∙ ap chars (range-is ∙ ap (λ text. slice_range text comment.span.start comment.span.end) text-is)))

pub returns-in-Some : goal.returns-in-Some
returns-in-Some c =
    let inner : Characters = seen c.text_in-text.result in
    let is : inner ≡ text_of (text_bytes c.args.source.now) c.args.comment =
    inner_is _ _ _ _ _ c.args.comment inner c.text-text.ensures.bytes c.range.ensures.value c.in_ok-characters.ensures c.deref.ensures.value c.text_in-text.ensures in
    on_ok_weaker c.add_said.result (λ told. told ∙ ap (joined c.args.list.now)
    (said_some c.args.source.now c.args.comment inner c.run-n.result is c.run-n.ensures.value c.in-Some.directive (seen c.behind.result)
    (sym c.in-Some.is ∙ c.directive_of.ensures) c.behind.ensures)) c.add_said.ensures

pub returns : goal.returns
returns c =
    let inner : Characters = seen c.text_in-text.result in
    let is : inner ≡ text_of (text_bytes c.args.source.now) c.args.comment =
    inner_is _ _ _ _ _ c.args.comment inner c.text-text.ensures.bytes c.range.ensures.value c.in_ok-characters.ensures c.deref.ensures.value c.text_in-text.ensures in
    sym (ap (joined c.args.list.now)
    (sym (said_none c.args.source.now c.args.comment inner c.run-n.result is c.run-n.ensures.value (sym c.in-None.is ∙ c.directive_of.ensures)))
    ∙ joined_empty c.args.list.now)
