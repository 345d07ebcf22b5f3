-- The directives at the head of a list.
use Rattle.std.proofs.Common.{◌≡◌, ◌∙◌, ap, sym, Bool, true, false, List, ◌∷◌}
use Rattle.std.specs.Prelude.{Some, None}
use Rattle.std.specs.Option.{option_map_or}
use Rattle.std.specs.Bool.{OnTrue, OnFalse}
use Rattle.es_grammar.specs.declared.draft.Child.{Child}
use Rattle.es_grammar.specs.Parts.{told, told_child}

-- what is made of the rest of a list, where all so far are directives, or not all
abbrev pub rest_told : Bool → List Child → List Child
rest_told true children = told told_child children
rest_told false children = children

pub one_told : (so : Bool) (child it : Child) (rest : List Child) → OnTrue so (told_child child ≡ Some it) →
    OnFalse so (told_child child ≡ None) → OnFalse so (it ≡ child) → rest_told true (child ∷ rest) ≡ it ∷ rest_told so rest
one_told true child it rest some none kept = ap (λ found. option_map_or (λ one. one ∷ told told_child rest) found (child ∷ rest)) some
one_told false child it rest some none kept =
    ap (λ found. option_map_or (λ one. one ∷ told told_child rest) found (child ∷ rest)) none ∙ ap (λ one. one ∷ rest) (sym kept)
