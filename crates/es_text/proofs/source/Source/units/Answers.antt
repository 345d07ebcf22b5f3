use Rattle.std.proofs.Common.{◌∙◌, length, ap, arith, take}
use Rattle.std.specs.String.{string_bytes}
use Rattle.std.proofs.lemmas.Str.{IsUtf8-string_bytes}
use Rattle.es_text.specs.Texts.{units_at}
use Rattle.es_text.specs.UnitCounts.{units_begun_in}
use Rattle.es_text.proofs.FoundLineLemmas.{boundary-held}
use Rattle.es_text.proofs.UnitCountLemmas.{begun-le-at, begun-units_at}
use Rattle.es_text.proofs.source.Source.units.Goals as goal

pub count_before-requires-clause-within : goal.count_before-requires-clause-within
count_before-requires-clause-within c =
    let text = string_bytes c.self.inside.text in
    let boundary = boundary-held text c.self.inside.marked c.args.self.now c.args.at (IsUtf8-string_bytes c.self.inside.text) c.self.view_is c.requires in
    omega (arith, boundary.0, ap length c.as_str.ensures.value)

pub overflow_cast-result : goal.overflow_cast-result
overflow_cast-result c =
    let text = string_bytes c.self.inside.text in
    let utf8 = IsUtf8-string_bytes c.self.inside.text in
    let boundary = boundary-held text c.self.inside.marked c.args.self.now c.args.at utf8 c.self.view_is c.requires in
    omega (arith, c.ranges.at, begun-le-at text c.args.at utf8 boundary, c.count_before.ensures, ap (λ t. units_begun_in (take c.args.at t)) c.as_str.ensures.value)

pub returns-clause-units : goal.returns-clause-units
returns-clause-units c =
    let text = string_bytes c.self.inside.text in
    let utf8 = IsUtf8-string_bytes c.self.inside.text in
    let boundary = boundary-held text c.self.inside.marked c.args.self.now c.args.at utf8 c.self.view_is c.requires in
    c.count_before.ensures
    ∙ ap (λ t. units_begun_in (take c.args.at t)) c.as_str.ensures.value
    ∙ begun-units_at text c.args.at utf8 boundary
    ∙ ap (λ value. units_at value.characters c.args.at) c.self.view_is

pub returns-clause-bound : goal.returns-clause-bound
returns-clause-bound c =
    let text = string_bytes c.self.inside.text in
    let utf8 = IsUtf8-string_bytes c.self.inside.text in
    let boundary = boundary-held text c.self.inside.marked c.args.self.now c.args.at utf8 c.self.view_is c.requires in
    omega (arith, begun-le-at text c.args.at utf8 boundary, c.count_before.ensures, ap (λ t. units_begun_in (take c.args.at t)) c.as_str.ensures.value)
