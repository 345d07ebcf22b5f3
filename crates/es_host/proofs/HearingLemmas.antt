-- What the rules of a kit heard, one of which is told at a time.
use Rattle.std.proofs.Common.{◌≡◌, ◌≢◌, ◌∙◌, ℕ, ◌+◌, ◌<◌, ◌≤◌, List, [], ◌∷◌, ◌++◌, slice_index_or, slice_set, length, map, take, ap, sym, subst, refl, append_assoc, append-nil, arith}
use Rattle.std.specs.Prelude.{IsTrue, Some}
use Rattle.es_tree.specs.Rows.{kind_of}
use Rattle.es_settings.specs.Settings.{Options}
use Rattle.es_host.specs.declared.listeners.Listener.{Listener}
use Rattle.std.proofs.lemmas.List.{length-map, take_all}
use Rattle.es_host.proofs.LawfulLemmas.{told-one}
use Rattle.es_host.proofs.ListsLemmas.{Each-set}
use Rattle.es_host.proofs.ListenersLemmas.{other-tells, own-tells, take-more}
use Rattle.es_host.proofs.MeaningsLemmas.{meaning-here}
use Rattle.es_host.specs.Files.{File, rows_in}
use Rattle.es_host.specs.Hearing.{EachHeard, HasHeard, events_of}
use Rattle.es_host.specs.Lawful.{told_of}
use Rattle.es_host.specs.Listeners.{ServeAll, told_by, told_by_one}
use Rattle.es_host.specs.Meanings.{Event, Meaning, interest_at, is_on, meaning_at, options_at, setting_at}
use Rattle.es_host.specs.Walk.{Moment}

module _ {R : Type 0} (meaning : R → Meaning) (heard : R → File → Options → List Event → Type 0) (file : File) where
  -- the same events
  pub EachHeard-alike : (these others : ℕ → List Event) (rules : List R)
      → ((k : ℕ) → k < length rules → IsTrue (is_on (setting_at file k)) → these k ≡ others k)
      → EachHeard heard file these rules → EachHeard heard file others rules
  EachHeard-alike these others rules alike each k d within on =
      subst (heard (slice_index_or rules k d) file (options_at file k)) (alike k within on) (each k d within on)

  module _ (meanings : List Meaning) (moments : List Moment) (moment : Moment) (listeners : List Listener) where
    -- what the rules heard of the moments, and then what the first j listeners told of one more
    abbrev pub so_far : ℕ → ℕ → List Event
    so_far j k = events_of meanings file moments k ++ told_by (rows_in file) (interest_at meanings file k) moment k (take j listeners)

    -- one more listener
    pub so_far-more : (j : ℕ) (d : Listener) → j < length listeners → (k : ℕ)
        → so_far (j + 1) k ≡ so_far j k ++ told_by_one (rows_in file) (interest_at meanings file k) moment k (slice_index_or listeners j d)
    so_far-more j d within k =
        let before = events_of meanings file moments k in
        let told = told_by (rows_in file) (interest_at meanings file k) moment k (take j listeners) in
        let one = told_by_one (rows_in file) (interest_at meanings file k) moment k (slice_index_or listeners j d) in
        ap (λ events. before ++ events) (take-more (rows_in file) (interest_at meanings file k) moment k listeners j d within)
        ∙ sym (append_assoc before told one)

    module _ (rules : List R) (same : map meaning rules ≡ meanings) (j : ℕ) (d listener : Listener) (within : j < length listeners)
        (is : slice_index_or listeners j d ≡ listener) (here : listener.rule < length rules) (old new : R)
        (told : slice_index_or rules listener.rule old ≡ old) where
      -- one rule is told by one more listener
      pub one-told : ((options : Options) (events : List Event) → heard old file options events
          → heard new file options (events ++ told_of (rows_in file) ((meaning old).interest options) moment listener.which))
          → EachHeard heard file (so_far j) rules → EachHeard heard file (so_far (j + 1)) (slice_set rules listener.rule new)
      one-told more each =
          Each-set (HasHeard heard file (so_far j)) (HasHeard heard file (so_far (j + 1))) rules listener.rule new here own others each
        where
          i : ℕ
          i = listener.rule

          asked : (meaning old).interest (options_at file i) ≡ interest_at meanings file i
          asked =
              ap (λ (m : Meaning). m.interest (options_at file i))
              (ap meaning (sym told) ∙ sym (meaning-here meaning rules i old here) ∙ ap (λ ms. meaning_at ms i) same)

          one_more : (k : ℕ) → so_far (j + 1) k ≡ so_far j k ++ told_by_one (rows_in file) (interest_at meanings file k) moment k listener
          one_more k =
              so_far-more j d within k
              ∙ ap (λ l. so_far j k ++ told_by_one (rows_in file) (interest_at meanings file k) moment k l) is

          own : HasHeard heard file (so_far (j + 1)) i new
          own on =
              let before : heard old file (options_at file i) (so_far j i) = subst (λ r. heard r file (options_at file i) (so_far j i)) told (each i old here on) in
              subst (heard new file (options_at file i))
              (ap (λ interest. so_far j i ++ told_of (rows_in file) interest moment listener.which) asked
              ∙ sym (one_more i ∙ ap (λ events. so_far j i ++ events) (own-tells (rows_in file) (interest_at meanings file i) moment i listener refl)))
              (more (options_at file i) (so_far j i) before)

          others : (k : ℕ) (r : R) → k ≢ i → HasHeard heard file (so_far j) k r → HasHeard heard file (so_far (j + 1)) k r
          others k r apart has on =
              subst (heard r file (options_at file k))
              (sym (one_more k ∙ ap (λ events. so_far j k ++ events) (other-tells (rows_in file) (interest_at meanings file k) moment k listener apart) ∙ append-nil (so_far j k)))
              (has on)

    -- all listeners told their rules
    pub all-told : (rules : List R) (j kind : ℕ) → length listeners ≤ j → length rules ≡ length meanings → kind_of (rows_in file) moment.node ≡ Some kind
        → ServeAll meanings file kind listeners → EachHeard heard file (so_far j) rules → EachHeard heard file (events_of meanings file (moments ++ moment ∷ [])) rules
    all-told rules j kind all count is serve each =
        EachHeard-alike (so_far j) (events_of meanings file (moments ++ moment ∷ [])) rules alike each
      where
        alike : (k : ℕ) → k < length rules → IsTrue (is_on (setting_at file k)) → so_far j k ≡ events_of meanings file (moments ++ moment ∷ []) k
        alike k within on =
            let inside : k < length meanings = omega (arith, within, count) in
            ap (λ ls. events_of meanings file moments k ++ told_by (rows_in file) (interest_at meanings file k) moment k ls) (take_all j listeners all)
            ∙ ap (λ events. events_of meanings file moments k ++ events) (serve k inside on (rows_in file) moment is)
            ∙ sym (told-one (rows_in file) (interest_at meanings file k) moments moment)

pub same-length : {X Y : Type 0} (f : X → Y) (xs ys : List X) → map f xs ≡ map f ys → length xs ≡ length ys
same-length f xs ys same = sym (length-map xs f) ∙ ap length same ∙ length-map ys f
