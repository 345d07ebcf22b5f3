-- The options of no-restricted-syntax: each is a selector as a text, or an object with a text `selector` and perhaps
-- a text `message`.
use Rattle.std.specs.Prelude.{ℕ, zero, suc, ◌==◌, ◌++◌, false, List, [], ◌∷◌, Option, None, Some, codes, if◌then◌else◌, option_and_then}
use Rattle.std.specs.List.{flat_map}
use Rattle.std.specs.Option.{option_map_or, option_to_list, unwrap_or}
use Rattle.std.specs.Str.{chars}
use Rattle.serde_json.specs.Data.{Data, Members, member, no_members}
use Rattle.serde_json.specs.Find.{as_object, as_str, get}
use Rattle.es_selectors.specs.declared.selector.Spelling.{Spelling}
use Rattle.es_settings.specs.declared.verdict.Verdict.{Verdict}
use Rattle.es_settings.specs.declared.verdict.Verdict.TheVariants.{BadOption, BadSelector, Fine}
use Rattle.es_settings.specs.Settings.{Options}
use Rattle.es_rules_plain.specs.declared.restriction.Restriction.{Restriction}
use Rattle.es_rules_plain.specs.SpelledSelectors.{spelled}

-- what is said where there is no message, of a selector by its characters
unfoldable pub told_usually : List ℕ → List ℕ
told_usually selector = codes "Using '" ++ (selector ++ codes "' is not allowed.")

-- the restriction of a selector, which JSON gives in UTF-8, without a message and with one
abbrev pub usual : List ℕ → Restriction
usual selector = record { selector = chars selector; text = told_usually (chars selector) }

abbrev pub message_in : List ℕ → Option (List ℕ) → Option Restriction
message_in selector None = None
message_in selector (Some message) = Some (record { selector = chars selector; text = chars message })

-- the text that an object has under this name
abbrev pub text_at : List ℕ → Data → Option (List ℕ)
text_at name option = option_and_then as_str (get name option)

abbrev pub count_members : Members → ℕ
count_members no_members = zero
count_members (member key value members) = suc (count_members members)

-- the one member is the selector, or the two are selector and message
abbrev pub by_count : Data → List ℕ → ℕ → Option Restriction
by_count option selector count =
    if count == 1 then Some (usual selector)
    else if count == 2 then message_in selector (text_at (codes "message") option)
    else None

abbrev pub by_members : Data → Members → Option Restriction
by_members option members = option_and_then (λ selector. by_count option selector (count_members members)) (text_at (codes "selector") option)

abbrev pub by_object : Data → Option Restriction
by_object option = option_and_then (by_members option) (as_object option)

-- what the option restricts; None where it has another shape
abbrev pub restriction_in : Data → Option Restriction
restriction_in option = option_map_or (λ selector. Some (usual selector)) (as_str option) (by_object option)

abbrev pub restrictions : Options → List Restriction
restrictions options = flat_map (λ option. option_to_list (restriction_in option)) options

-- a selector that isn't read is a bad one
abbrev pub if_spelled : Option Spelling → Verdict
if_spelled None = BadSelector
if_spelled (Some spelling) = Fine

abbrev pub verdict_of : Data → Verdict
verdict_of option = option_map_or (λ restriction. if_spelled (spelled restriction.selector)) (restriction_in option) BadOption

-- of several options that aren't taken the first decides
abbrev pub first_bad : Verdict → Verdict → Verdict
first_bad Fine later = later
first_bad BadOption later = BadOption
first_bad BadSelector later = BadSelector

abbrev pub verdict_on : Options → Verdict
verdict_on [] = Fine
verdict_on (option ∷ options) = first_bad (verdict_of option) (verdict_on options)

-- a selector that isn't read, which no option that is taken has, matches nothing
abbrev pub nothing : Spelling
nothing = record { chains = []; exit = false }

abbrev pub restricted_by : Restriction → Spelling
restricted_by restriction = unwrap_or (spelled restriction.selector) nothing
