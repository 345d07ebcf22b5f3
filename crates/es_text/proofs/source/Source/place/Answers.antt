use Rattle.std.proofs.Common.{◌≡◌, ◌+◌, ◌-◌, ◌≤◌, length, sym, ap, ◌∙◌, arith, take}
use Rattle.std.specs.Str.{chars}
use Rattle.std.specs.String.{string_bytes}
use Rattle.std.proofs.lemmas.Str.{IsUtf8-string_bytes}
use Rattle.es_text.specs.Texts.{place_at}
use Rattle.es_text.specs.UnitCounts.{units_begun_in}
use Rattle.es_text.proofs.FoundLineLemmas.{boundary-held, found-kept, rise-kept, start-reached, FoundLine}
use Rattle.es_text.proofs.UnitCountLemmas.{begun-le-at}
use Rattle.es_text.proofs.source.Source.place.Goals as goal

pub line_at-line-requires-clause-rise : goal.line_at-line-requires-clause-rise
line_at-line-requires-clause-rise c = rise-kept (chars (string_bytes c.self.inside.text)) _ c.self.inside.starts.items c.self.invariant.0 c.as_slice.ensures.value

pub count_before-units-requires-clause-within : goal.count_before-units-requires-clause-within
count_before-units-requires-clause-within c =
    let text = string_bytes c.self.inside.text in
    let boundary = boundary-held text c.self.inside.marked c.args.self.now c.args.at (IsUtf8-string_bytes c.self.inside.text) c.self.view_is c.requires in
    omega (arith, boundary.0, ap length c.as_str-text.ensures.value)

pub count_before-units_before_line-requires-clause-within : goal.count_before-units_before_line-requires-clause-within
count_before-units_before_line-requires-clause-within c =
    let text = string_bytes c.self.inside.text in
    let boundary = boundary-held text c.self.inside.marked c.args.self.now c.args.at (IsUtf8-string_bytes c.self.inside.text) c.self.view_is c.requires in
    let start = start-reached _ _ c.args.at c.line_at-line.result c.index.result.now c.as_slice.ensures.value c.line_at-line.ensures c.index.ensures in
    omega (arith, boundary.0, ap length c.as_str-text.ensures.value, start)

-- the line that was found, and what it has of units
line-of : (c : goal.After-count_before-units_before_line)
    → (line : FoundLine (string_bytes c.self.inside.text) c.args.at c.index.result.now c.line_at-line.result)
    × (c.count_before-units.result ≡ c.count_before-units_before_line.result + line.units) × (c.count_before-units.result ≤ length (string_bytes c.self.inside.text))
line-of c =
    let text = string_bytes c.self.inside.text in
    let utf8 = IsUtf8-string_bytes c.self.inside.text in
    let boundary = boundary-held text c.self.inside.marked c.args.self.now c.args.at utf8 c.self.view_is c.requires in
    let line = found-kept text _ c.self.inside.starts.items c.args.at c.line_at-line.result c.index.result.now utf8 boundary
    c.self.invariant.0 c.as_slice.ensures.value c.line_at-line.ensures c.index.ensures in
    let upto = c.count_before-units.ensures ∙ ap (λ t. units_begun_in (take c.args.at t)) c.as_str-text.ensures.value in
    let before = c.count_before-units_before_line.ensures ∙ ap (λ t. units_begun_in (take c.index.result.now t)) c.as_str-text.ensures.value in
    (line, omega (arith, line.counted, upto, before), omega (arith, upto, begun-le-at text c.args.at utf8 boundary, boundary.0))

pub overflow_sub-result : goal.overflow_sub-result
overflow_sub-result c = omega (arith, (line-of c).1)

pub overflow_cast-result : goal.overflow_cast-result
overflow_cast-result c = omega (arith, (line-of c).0.few, c.self.invariant.1)

pub overflow_add-result : goal.overflow_add-result
overflow_add-result c = omega (arith, (line-of c).0.few, c.self.invariant.1)

pub overflow_cast-result-2 : goal.overflow_cast-result-2
overflow_cast-result-2 c = omega (arith, (line-of c).2, c.self.invariant.1)

pub overflow_add-result-2 : goal.overflow_add-result-2
overflow_add-result-2 c = omega (arith, (line-of c).2, c.self.invariant.1)

pub returns : goal.returns
returns c =
    let line = line-of c in
    let units : c.count_before-units.result - c.count_before-units_before_line.result ≡ line.0.units = omega (arith, line.1) in
    ap (λ n. record { line = c.line_at-line.result + 1; column = n + 1 }) units
    ∙ sym line.0.place_is
    ∙ ap (λ value. place_at value.characters c.args.at) c.self.view_is
