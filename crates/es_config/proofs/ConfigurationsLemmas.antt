-- Globs that are read one by one from texts in ASCII.
use Rattle.std.proofs.Common.{◌≡◌, ◌∙◌, ℕ, zero, suc, List, [], ◌∷◌, ◌++◌, append_assoc, ap, arith}
use Rattle.std.specs.Prelude.{true, option_to_list}
use Rattle.std.specs.List.{list_all}
use Rattle.std.specs.Char.{is_ascii}
use Rattle.std.specs.Str.{chars, IsAscii}
use Rattle.std.proofs.lemmas.Bool.{and_parts}
use Rattle.std.proofs.lemmas.Bool.Decides.{nat_tests}
use Rattle.std.proofs.lemmas.Str.{chars-IsAscii}
use Rattle.es_globs.specs.Globs.{Patterns, glob_of}
use Rattle.es_config.specs.Configurations.{any_of, globs_of}

all_ascii : (bytes : List ℕ) → list_all is_ascii bytes ≡ true → IsAscii bytes
all_ascii [] all i = omega arith
all_ascii (b ∷ bytes) all zero =
    let h : is_ascii b ≡ true = (and_parts (is_ascii b) (list_all is_ascii bytes) all).0 in grind (arith, nat_tests)
all_ascii (b ∷ bytes) all (suc i) = all_ascii bytes (and_parts (is_ascii b) (list_all is_ascii bytes) all).1 i

spelled : (bytes : List ℕ) → list_all is_ascii bytes ≡ true → chars bytes ≡ bytes
spelled bytes all = chars-IsAscii bytes (all_ascii bytes all)

one_glob : (a : List ℕ) (before after : List Patterns) → list_all is_ascii a ≡ true → after ≡ before ++ globs_of (chars a ∷ [])
    → after ≡ before ++ globs_of (a ∷ [])
one_glob a before after all read = read ∙ ap (λ text. before ++ globs_of (text ∷ [])) (spelled a all)

pub two_globs : (a b : List ℕ) (none one two : List Patterns) → list_all is_ascii a ≡ true → list_all is_ascii b ≡ true
    → none ≡ [] → one ≡ none ++ globs_of (chars a ∷ []) → two ≡ one ++ globs_of (chars b ∷ []) → two ≡ globs_of (a ∷ b ∷ [])
two_globs a b none one two all_a all_b empty first second =
    one_glob b one two all_b second
    ∙ ap (λ globs. globs ++ globs_of (b ∷ [])) (one_glob a none one all_a first ∙ ap (λ globs. globs ++ globs_of (a ∷ [])) empty)
    ∙ append_assoc (option_to_list (glob_of a)) [] (globs_of (b ∷ []))

pub one_choice : (a : List ℕ) (before after : List (List Patterns)) → list_all is_ascii a ≡ true → after ≡ before ++ any_of (chars a ∷ [])
    → after ≡ before ++ any_of (a ∷ [])
one_choice a before after all read = read ∙ ap (λ text. before ++ any_of (text ∷ [])) (spelled a all)

pub first_choice : (a : List ℕ) (none one : List (List Patterns)) → list_all is_ascii a ≡ true → none ≡ [] → one ≡ none ++ any_of (chars a ∷ [])
    → one ≡ any_of (a ∷ [])
first_choice a none one all empty read = one_choice a none one all read ∙ ap (λ files. files ++ any_of (a ∷ [])) empty

pub three_choices : (a b c : List ℕ) (none one two three : List (List Patterns))
    → list_all is_ascii a ≡ true → list_all is_ascii b ≡ true → list_all is_ascii c ≡ true
    → none ≡ [] → one ≡ none ++ any_of (chars a ∷ []) → two ≡ one ++ any_of (chars b ∷ []) → three ≡ two ++ any_of (chars c ∷ [])
    → three ≡ any_of (a ∷ b ∷ c ∷ [])
three_choices a b c none one two three all_a all_b all_c empty first second third =
    one_choice c two three all_c third
    ∙ ap (λ files. files ++ any_of (c ∷ []))
    (one_choice b one two all_b second ∙ ap (λ files. files ++ any_of (b ∷ [])) (first_choice a none one all_a empty first))
