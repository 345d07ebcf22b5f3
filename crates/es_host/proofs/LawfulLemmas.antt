-- What a rule hears of more moments.
use Rattle.std.proofs.Common.{◌≡◌, ◌∙◌, ℕ, true, false, List, [], ◌∷◌, ◌++◌, ap, append-nil}
use Rattle.std.specs.Prelude.{◌&&◌, Option, Some, None, slice_get}
use Rattle.std.specs.Option.{option_map_or}
use Rattle.std.proofs.lemmas.Bool.{and_parts}
use Rattle.std.proofs.lemmas.Grind.{flat_map-append}
use Rattle.es_tree.specs.Rows.{Row}
use Rattle.es_selectors.specs.declared.selector.Spelling.{Spelling}
use Rattle.es_selectors.specs.Selects.{selects}
use Rattle.es_host.specs.Lawful.{hears, hears_phase, is_asked, told, told_at}
use Rattle.es_host.specs.Walk.{Moment}

-- a selector that hears of a moment matches its node
pub hears-asked : (rows : List Row) (interest : List Spelling) (moment : Moment) (which : ℕ) → hears rows interest moment which ≡ true
    → is_asked rows interest moment.node which ≡ true
hears-asked rows interest moment which = of_one (slice_get interest which)
  where
    of_one : (one : Option Spelling)
        → option_map_or (λ selector. hears_phase selector moment.leaves && selects selector rows moment.node) one false ≡ true
        → option_map_or (λ selector. selects selector rows moment.node) one false ≡ true
    of_one None is = is
    of_one (Some selector) is = (and_parts (hears_phase selector moment.leaves) (selects selector rows moment.node) is).1

pub told-more : (rows : List Row) (interest : List Spelling) (before after : List Moment)
    → told rows interest (before ++ after) ≡ told rows interest before ++ told rows interest after
told-more rows interest before after = flat_map-append (told_at rows interest) before after

pub told-one : (rows : List Row) (interest : List Spelling) (before : List Moment) (moment : Moment)
    → told rows interest (before ++ moment ∷ []) ≡ told rows interest before ++ told_at rows interest moment
told-one rows interest before moment =
    told-more rows interest before (moment ∷ [])
    ∙ ap (λ events. told rows interest before ++ events) (append-nil (told_at rows interest moment))
