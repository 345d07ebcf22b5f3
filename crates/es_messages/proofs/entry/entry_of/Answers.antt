use Rattle.std.proofs.Common.{◌≡◌, ◌∙◌, ℕ, ◌+◌, ◌<◌, true, cond, List, length, take, drop, ap, sym, arith, Option, Some, None, option_map}
use Rattle.std.specs.List.{after_first, before_first, list_any, position_or_len}
use Rattle.std.proofs.lemmas.List.{take_rest}
use Rattle.es_text.specs.declared.finding.Severity.{Severity}
use Rattle.es_text.specs.declared.span.Span.{Span}
use Rattle.es_messages.specs.declared.directive.Entry.{Entry}
use Rattle.es_messages.specs.Classes.{is_colon}
use Rattle.es_messages.specs.Directives.{entry_of, severity_of, span_of, stripped, unquoted}
use Rattle.es_messages.specs.Seen.{seen}
use Rattle.es_messages.proofs.PartsLemmas.{colon_in}
use Rattle.es_messages.proofs.entry.entry_of.Goals as goal

pub returns : goal.returns
returns c =
    let list : List ℕ = c.args.part.list.now in
    let n : ℕ = c.run-n.result in
    let here : n ≡ position_or_len is_colon list = c.run-n.ensures.value in
    let near : n < length list = omega (arith, c.run-n.ensures.bound, c.if-n-part.false) in
    let rule : List ℕ = unquoted (stripped (before_first is_colon list)) in
    let made : List ℕ → Span → Option Severity → Entry = λ rule span severity. record { rule = rule; severity = severity; span = span } in
    let rule-is : c.in_ok-text_of.field-0 ≡ rule =
    c.in_ok-text_of.ensures ∙ (c.unquoted-2.ensures ∙ ap unquoted (c.stripped-2.ensures ∙ ap (λ k. stripped (take k list)) here)) in
    let severity-is : Some c.in-Some.severity ≡ severity_of (unquoted (stripped (after_first is_colon list))) =
    c.in-Some.ensures
    ∙ ap severity_of (c.unquoted.ensures ∙ ap unquoted (c.stripped.ensures ∙ ap stripped (take_rest list (n + 1) ∙ ap (λ k. drop (k + 1) list) here))) in
    ap (λ one. Some (made one c.span.result c.in-Some.severity)) rule-is
    ∙ ap (λ span. Some (made rule span c.in-Some.severity)) c.span.ensures
    ∙ ap (option_map (made rule (span_of (seen c.args.part)))) severity-is
    ∙ sym (ap (λ b. cond b (option_map (made rule (span_of (seen c.args.part))) (severity_of (unquoted (stripped (after_first is_colon list))))) None) (colon_in n list here near))
