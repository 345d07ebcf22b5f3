-- As many items as there are: the count of the characters is always enough, where each item has one.
use Rattle.std.proofs.Common.{◌≡◌, ◌≤◌, ℕ, zero, suc, List, [], ◌∷◌, length, Bool, true, false, refl, sym, ◌∙◌, ap, subst, arith}
use Rattle.std.specs.Prelude.{◌||◌, ◌&&◌, ◌==◌, if◌then◌else◌, Option, Some, None}
use Rattle.std.specs.Option.{option_map_or}
use Rattle.es_text.specs.Characters.{is_line_terminator}
use Rattle.es_lexer.specs.Items.{Shrinks}
use Rattle.es_lexer.proofs.SkippedLemmas.{cond_le, tail_le}
use Rattle.es_text.specs.Productions.{just}
use Rattle.es_text.specs.Rest.{begins_with, many, many_in, tail}
use Rattle.es_text.specs.Tokens.{after_class, body_character, class_character, escaped, escaped_in_line, template_character, text_character}

same_map : (o : Option (List ℕ)) (f g : List ℕ → List ℕ) (d : List ℕ) → ((ds : List ℕ) → o ≡ Some ds → f ds ≡ g ds) → option_map_or f o d ≡ option_map_or g o d
same_map None f g d h = refl
same_map (Some ds) f g d h = h ds refl

at_nothing : (o : Option (List ℕ)) (f : List ℕ → List ℕ) → ((ds : List ℕ) → o ≡ Some ds → ⊥) → option_map_or f o [] ≡ []
at_nothing None f impossible = refl
at_nothing (Some ds) f impossible = absurd (impossible ds refl)

enough : (item : List ℕ → Option (List ℕ)) → Shrinks item → (n m : ℕ) (cs : List ℕ) → length cs ≤ n → length cs ≤ m → many_in n item cs ≡ many_in m item cs
unfolding many_in
enough item shrinks zero zero cs h k = refl
enough item shrinks zero (suc m) [] h k = sym (at_nothing (item []) (many_in m item) (λ ds is. omega (arith, shrinks [] ds is)))
enough item shrinks zero (suc m) (c ∷ cs) h k = absurd (omega arith)
enough item shrinks (suc n) zero [] h k = at_nothing (item []) (many_in n item) (λ ds is. omega (arith, shrinks [] ds is))
enough item shrinks (suc n) zero (c ∷ cs) h k = absurd (omega arith)
enough item shrinks (suc n) (suc m) cs h k =
    same_map (item cs) (many_in n item) (many_in m item) cs
    (λ ds is. enough item shrinks n m ds (omega (arith, shrinks cs ds is)) (omega (arith, shrinks cs ds is)))

pub many_more : (item : List ℕ → Option (List ℕ)) → Shrinks item → (cs ds all : List ℕ) → Some ds ≡ item cs → many item cs ≡ all → many item ds ≡ all
unfolding many_in
many_more item shrinks [] ds all is known = absurd (omega (arith, shrinks [] ds (sym is)))
many_more item shrinks (c ∷ cs) ds all is known =
    enough item shrinks (length ds) (length cs) ds (omega arith) (omega (arith, shrinks (c ∷ cs) ds (sym is)))
    ∙ ap (λ o. option_map_or (many_in (length cs) item) o (c ∷ cs)) is
    ∙ known

pub many_none : (item : List ℕ → Option (List ℕ)) (cs all : List ℕ) → None ≡ item cs → many item cs ≡ all → cs ≡ all
unfolding many_in
many_none item [] all none known = known
many_none item (c ∷ cs) all none known = ap (λ o. option_map_or (many_in (length cs) item) o (c ∷ cs)) none ∙ known

map_le : (o : Option (List ℕ)) (f : List ℕ → List ℕ) (cs : List ℕ) → ((ds : List ℕ) → o ≡ Some ds → length (f ds) ≤ length cs) → length (option_map_or f o cs) ≤ length cs
map_le None f cs h = omega arith
map_le (Some ds) f cs h = h ds refl

pub many_in_le : (item : List ℕ → Option (List ℕ)) → Shrinks item → (n : ℕ) (cs : List ℕ) → length (many_in n item cs) ≤ length cs
unfolding many_in
many_in_le item shrinks zero cs = omega arith
many_in_le item shrinks (suc n) cs = map_le (item cs) (many_in n item) cs (λ ds is. omega (arith, many_in_le item shrinks n ds, shrinks cs ds is))

-- what follows has no more characters than this
Within : ℕ → Option (List ℕ) → Type 0
Within n None = Unit {0}
Within n (Some ds) = length ds ≤ n

within-wider : (m n : ℕ) (o : Option (List ℕ)) → m ≤ n → Within m o → Within n o
unfolding Within
within-wider m n None h w = tt
within-wider m n (Some ds) h w = omega arith

within-if : (n : ℕ) (b : Bool) (x y : Option (List ℕ)) → Within n x → Within n y → Within n (if b then x else y)
within-if n true x y h k = h
within-if n false x y h k = k

shrinks_by : (item : List ℕ → Option (List ℕ)) → item [] ≡ None → ((c : ℕ) (cs : List ℕ) → Within (length cs) (item (c ∷ cs))) → Shrinks item
unfolding Within
shrinks_by item nothing within [] ds is = cc
shrinks_by item nothing within (c ∷ cs) ds is =
    let h : Within (length cs) (Some ds) = subst (Within (length cs)) is (within c cs) in omega arith

escaped_within : (cs : List ℕ) → Within (length cs) (escaped cs)
unfolding Within escaped
escaped_within [] = tt
escaped_within (c ∷ cs) = cond_le (length (c ∷ cs)) (c == 13 && begins_with 10 cs) (tail cs) cs (omega (arith, tail_le cs)) (omega arith)

escaped_in_line_within : (cs : List ℕ) → Within (length cs) (escaped_in_line cs)
unfolding Within escaped_in_line
escaped_in_line_within [] = tt
escaped_in_line_within (c ∷ cs) = within-if (length (c ∷ cs)) (is_line_terminator c) None (Some cs) tt (omega arith)

closed_within : (x : ℕ) (cs : List ℕ) → Within (length cs) (just x cs)
unfolding Within
closed_within x [] = tt
closed_within x (c ∷ cs) = within-if (length (c ∷ cs)) (c == x) (Some cs) None (omega arith) tt

-- nothing, or what follows the first character
rest_within : (b : Bool) (cs : List ℕ) → Within (length cs) (if b then None else Some cs)
unfolding Within
rest_within b cs = within-if (length cs) b None (Some cs) tt (omega arith)

pub text_character_shrinks : (quote : ℕ) → Shrinks (text_character quote)
unfolding text_character
text_character_shrinks quote =
    shrinks_by (text_character quote) refl
    (λ c cs. within-if (length cs) (c == 92) (escaped cs) _ (escaped_within cs) (rest_within (c == quote || (c == 10 || c == 13)) cs))

pub template_character_shrinks : Shrinks template_character
unfolding template_character
template_character_shrinks =
    shrinks_by template_character refl
    (λ c cs. within-if (length cs) (c == 92) (escaped cs) _ (escaped_within cs) (rest_within (c == 96 || (c == 36 && begins_with 123 cs)) cs))

pub class_character_shrinks : Shrinks class_character
unfolding class_character
class_character_shrinks =
    shrinks_by class_character refl
    (λ c cs. within-if (length cs) (c == 92) (escaped_in_line cs) _ (escaped_in_line_within cs) (rest_within (c == 93 || is_line_terminator c) cs))

after_class_within : (cs : List ℕ) → Within (length cs) (after_class cs)
after_class_within cs =
    within-wider (length (many class_character cs)) (length cs) (after_class cs)
    (many_in_le class_character class_character_shrinks (length cs) cs) (closed_within 93 (many class_character cs))

pub body_character_shrinks : Shrinks body_character
unfolding body_character
body_character_shrinks =
    shrinks_by body_character refl
    (λ c cs. within-if (length cs) (c == 92) (escaped_in_line cs) _ (escaped_in_line_within cs)
    (within-if (length cs) (c == 91) (after_class cs) _ (after_class_within cs) (rest_within (c == 47 || is_line_terminator c) cs)))
