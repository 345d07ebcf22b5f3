-- One question after the other comes to the same as the list of bad words.
use Rattle.std.proofs.Common.{◌≡◌, ◌==◌, ◌&&◌, ◌||◌, ℕ, Bool, true, false, not, List, [], ◌∷◌, Option, Some, None, Ok, Err, refl, sym, length, codes, if◌then◌else◌, nat_lt, rules}
use Rattle.std.specs.Prelude.{is_some, option_map, unwrap_or}
use Rattle.std.specs.List.{list_any}
use Rattle.std.specs.Option.{option_map_or}
use Rattle.std.proofs.lemmas.Bool.{true≢false}
use Rattle.clap.specs.Walk.{Row, Text, first_of}
use Rattle.es_plan.specs.Plans.{MOST_LINES, MOST_NAMES, asked_with, files_of, format_of, is_bare, is_unlisted, limit_of, lint_plan}
use Rattle.es_plan.specs.Numbers.{number_of}
use Rattle.es_plan.specs.Steps.{to_do, to_generate, with_count, with_values}
use Rattle.es_plan.specs.declared.plan.Plan.{Plan}
use Rattle.es_plan.specs.declared.plan.Plan.TheVariants.{Generate, Lint}
use Rattle.es_plan.specs.declared.plan.PlanFault.TheVariants.{BadWords, TooMany}

by_lint : (found : List Row) (bare empty any : Bool) (format : Option Bool) (limit : Option (Option ℕ))
    → (if not empty && not any then with_values found format limit else Err BadWords)
    ≡ (if (empty && true) || (any || ((false && not bare) || not (is_some format && (is_some limit && true)))) then Err BadWords
    else (if nat_lt MOST_NAMES (length (files_of found)) then Err (TooMany (length (files_of found)))
    else Ok (Lint (lint_plan found (files_of found) (unwrap_or format false) (unwrap_or limit None)))))
by_lint found bare true any format limit = refl
by_lint found bare false true format limit = refl
by_lint found bare false false None limit = refl
by_lint found bare false false (Some json) None = refl
by_lint found bare false false (Some json) (Some most) = refl

is_refused : (empty any unlisted : Bool) → ((empty && false) || (any || ((true && true) || unlisted))) ≡ true
is_refused true true unlisted = refl
is_refused true false unlisted = refl
is_refused false true unlisted = refl
is_refused false false unlisted = refl

left : (a b : Bool) → (a && b) ≡ true → a ≡ true
left true b h = refl
left false b h = absurd (true≢false (sym h))

right : (a b : Bool) → (a && b) ≡ true → b ≡ true
right true b h = h
right false b h = absurd (true≢false (sym h))

no_texts : (texts : List Text) → (length texts == 0) ≡ true → texts ≡ []
no_texts [] h = refl
no_texts (text ∷ texts) h = search (rules, h)

no_value : (o : Option Text) → not (is_some o) ≡ true → o ≡ None
no_value None h = refl
no_value (Some text) h = absurd (true≢false (sym h))

counted : (plan : Plan) (count : Option ℕ)
    → with_count count ≡ (if not (is_some (option_map (λ n. Some n) count)) then Err BadWords
    else Ok (option_map_or (λ n. Generate n) (unwrap_or (option_map (λ n. Some n) count) None) plan))
counted plan None = refl
counted plan (Some n) = refl

by_bare : (found : List Row) (number : Text) (bare : Bool) → is_bare found ≡ bare → to_generate found number ≡ asked_with found (Some number)
by_bare found number false h =
    rw (h, is_refused (length (files_of found) == 0) (list_any (λ file. length file == 0) (files_of found)) (is_unlisted found (Some number))) refl
by_bare found number true h =
    let options = right _ _ h in
    let format = right _ _ options in
    let warnings = right _ _ format in
    let files_are = no_texts (files_of found) (left _ _ h) in
    let format_is = no_value (first_of (codes "format") found) (left _ _ format) in
    let warnings_are = no_value (first_of (codes "max-warnings") found) (left _ _ warnings) in
    rw (h, files_are, format_is, warnings_are) (counted _ (number_of MOST_LINES number))

pub same_by : (found : List Row) (generate : Option Text) → to_do found generate ≡ asked_with found generate
same_by found None =
    by_lint found (is_bare found) (length (files_of found) == 0) (list_any (λ file. length file == 0) (files_of found))
    (format_of (first_of (codes "format") found)) (limit_of (first_of (codes "max-warnings") found))
same_by found (Some number) = by_bare found number (is_bare found) refl
