use Rattle.std.proofs.Common.{arith, ◌≡◌, ℕ, ◌∙◌, ◌<◌, ◌+◌, ◌∷◌, [], All, ap, sym, subst, length, length-append, slice_index_or, map, List}
use Rattle.std.proofs.lemmas.List.{length-map}
use Rattle.es_host.specs.declared.listeners.Listener.{Listener}
use Rattle.es_host.specs.Files.{file_in}
use Rattle.es_host.specs.Listeners.{ServeAll}
use Rattle.es_host.proofs.ListsLemmas.{Before, Before-push}
use Rattle.es_host.proofs.listeners.kinds_of.Goals as goal

pub loop-kind-preserved : goal.loop-kind-preserved
loop-kind-preserved g c =
    let kind : ℕ = c.loop-kind.kind in
    let meanings = map g.R.Rule.meaning c.args.rules.now in
    let P : ℕ → List Listener → Type 0 = λ k listeners. ServeAll meanings (file_in c.args.file.now) k listeners × All (λ listener. listener.rule < length meanings) listeners in
    let count : length c.loop-kind.kinds.items ≡ kind = c.loop-kind.invariant.0 in
    let same : c.from_vec.result ≡ c.in_ok-listeners.listeners.items = c.from_vec.ensures in
    let new : P kind c.from_vec.result =
    subst (P kind) (sym same) (
      c.in_ok-listeners.ensures.serve,
      subst (λ n. All (λ listener. listener.rule < n) c.in_ok-listeners.listeners.items)
          (sym (length-map c.args.rules.now g.R.Rule.meaning)) c.in_ok-listeners.ensures.rules,
    ) in
    let all : (k : ℕ) (other : List Listener) → k < kind + 1 → P k (slice_index_or c.push.new.self.items k other) =
    subst (Before (kind + 1) P) (sym c.in_ok-push.ensures.items) (Before-push P c.loop-kind.kinds.items c.from_vec.result kind count new c.loop-kind.invariant.1) in
    let more : length c.push.new.self.items ≡ kind + 1 =
    ap length c.in_ok-push.ensures.items ∙ length-append c.loop-kind.kinds.items (c.from_vec.result ∷ []) ∙ ap (λ n. n + 1) count in
    (more, all)

pub returns : goal.returns
returns g c = record {
  all = λ node kind is. let most = c.greatest_kind.ensures node kind is in omega (arith, most, c.loop-kind.invariant.0, c.loop-kind-test.false, c.loop-kind.auto);
  serve = λ kind other less. (c.loop-kind.invariant.1 kind other (omega (arith, less, c.loop-kind.invariant.0))).0;
  rules = λ kind other less. (c.loop-kind.invariant.1 kind other (omega (arith, less, c.loop-kind.invariant.0))).1;
}
