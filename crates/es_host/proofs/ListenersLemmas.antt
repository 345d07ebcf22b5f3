-- What listeners tell a rule.
use Rattle.std.proofs.Common.{◌≡◌, ◌≢◌, ◌∙◌, ℕ, suc, ◌+◌, ◌<◌, Bool, true, false, List, [], ◌∷◌, ◌++◌, length, slice_index_or, take, ap, sym, refl, append-nil, arith}
use Rattle.std.specs.Prelude.{◌==◌, if◌then◌else◌}
use Rattle.std.proofs.Math.Seq.{take-suc}
use Rattle.std.proofs.lemmas.Bool.{eqb-true, eq-eqb}
use Rattle.std.proofs.lemmas.Grind.{flat_map-append}
use Rattle.es_tree.specs.Rows.{Row}
use Rattle.es_selectors.specs.declared.selector.Spelling.{Spelling}
use Rattle.es_host.specs.declared.listeners.Listener.{Listener}
use Rattle.es_host.specs.Lawful.{told_of}
use Rattle.es_host.specs.Listeners.{told_by, told_by_one}
use Rattle.es_host.specs.Walk.{Moment}

-- one more listener
pub told_by-more : (rows : List Row) (interest : List Spelling) (moment : Moment) (place : ℕ) (listeners : List Listener) (one : Listener)
    → told_by rows interest moment place (listeners ++ one ∷ []) ≡ told_by rows interest moment place listeners ++ told_by_one rows interest moment place one
told_by-more rows interest moment place listeners one =
    flat_map-append (told_by_one rows interest moment place) listeners (one ∷ [])
    ∙ ap (λ ys. told_by rows interest moment place listeners ++ ys) (append-nil (told_by_one rows interest moment place one))

module _ (rows : List Row) (interest : List Spelling) (moment : Moment) (place : ℕ) where
  -- those of other rules tell this one nothing
  pub other-tells : (listener : Listener) → place ≢ listener.rule → told_by_one rows interest moment place listener ≡ []
  other-tells listener apart = cases (listener.rule == place) refl
    where
      cases : (b : Bool) → (listener.rule == place) ≡ b → (if b then told_of rows interest moment listener.which else []) ≡ []
      cases false is = refl
      cases true is = absurd (apart (sym (eqb-true listener.rule place is)))

  pub own-tells : (listener : Listener) → listener.rule ≡ place → told_by_one rows interest moment place listener ≡ told_of rows interest moment listener.which
  own-tells listener own = ap (λ (b : Bool). if b then told_of rows interest moment listener.which else []) (eq-eqb listener.rule place own)

  pub take-more : (listeners : List Listener) (j : ℕ) (d : Listener) → j < length listeners
      → told_by rows interest moment place (take (j + 1) listeners)
      ≡ told_by rows interest moment place (take j listeners) ++ told_by_one rows interest moment place (slice_index_or listeners j d)
  take-more listeners j d within =
      let one : j + 1 ≡ suc j = omega arith in
      ap (λ (n : ℕ). told_by rows interest moment place (take n listeners)) one
      ∙ ap (told_by rows interest moment place) (take-suc listeners j d within)
      ∙ told_by-more rows interest moment place (take j listeners) (slice_index_or listeners j d)
