use Rattle.std.proofs.Common.{rules, ◌≡◌, ◌≢◌, ◌∙◌, ℕ, ◌<◌, true, false, Some, ap, sym, length}
use Rattle.std.specs.Prelude.{slice_get}
use Rattle.std.specs.Str.{bytes_eq, chars, encode_utf8_all}
use Rattle.std.proofs.lemmas.Slice.Eq.{bytes_eq-Decides}
use Rattle.std.proofs.lemmas.Str.{encodes-chars}
use Rattle.es_host.proofs.ListsLemmas.{below-more}
use Rattle.es_host.proofs.MeaningsLemmas.{id-here, id-within, ids}
use Rattle.es_host.proofs.kit.KitKnown.place.Goals as goal

pub returns-then-eq : goal.returns-then-eq
returns-then-eq g c =
    let i : ℕ = c.loop-place.place in
    let same : c.id.result.now ≡ c.args.id.now = search rules in
    let here : slice_get (ids g.R.Rule.meaning c.args.self.now.rules) i ≡ Some (chars c.id.result.now) =
    id-here g.R.Rule.meaning c.args.self.now.rules i c.index.result.now (search rules) ∙ ap (λ id. Some id) (search rules) in
    record { here = here ∙ ap (λ bytes. Some (chars bytes)) same; first = c.loop-place.invariant }

pub loop-place-preserved : goal.loop-place-preserved
loop-place-preserved g c =
    let i : ℕ = c.loop-place.place in
    let here : slice_get (ids g.R.Rule.meaning c.args.self.now.rules) i ≡ Some (chars c.id.result.now) =
    id-here g.R.Rule.meaning c.args.self.now.rules i c.index.result.now (search rules) ∙ ap (λ id. Some id) (search rules) in
    let other : slice_get (ids g.R.Rule.meaning c.args.self.now.rules) i ≢ Some (chars c.args.id.now) = λ is.
    let both : Some (chars c.id.result.now) ≡ Some (chars c.args.id.now) = sym here ∙ is in
    let characters : chars c.id.result.now ≡ chars c.args.id.now = cc in
    let same : c.id.result.now ≡ c.args.id.now =
    sym (encodes-chars c.id.result.now c.id.utf8) ∙ ap encode_utf8_all characters ∙ encodes-chars c.args.id.now c.utf8.id in
    let equal : bytes_eq c.id.result.now c.args.id.now ≡ true = (bytes_eq-Decides c.id.result.now c.args.id.now).1 same in
    let differ : bytes_eq c.id.result.now c.args.id.now ≡ false = sym c.eq.ensures ∙ c.if-eq.false in cc in
    below-more (λ k. slice_get (ids g.R.Rule.meaning c.args.self.now.rules) k ≢ Some (chars c.args.id.now)) i other c.loop-place.invariant

pub returns : goal.returns
returns g c = λ place is.
    let inside : place < length c.args.self.now.rules = id-within g.R.Rule.meaning c.args.self.now.rules place (chars c.args.id.now) is in
    let before : place < c.loop-place.place = search rules in
    c.loop-place.invariant place before is
