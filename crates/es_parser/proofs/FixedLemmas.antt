-- The texts of single tokens.
use Rattle.std.proofs.Common.{◌≡◌, ℕ, ◌<◌, ◌+◌, List, [], ◌∷◌, ◌++◌, length, Bool, true, false, Option, Some, None, ap, arith, refl, sym, subst, ◌∙◌, zero, suc, ◌⊎◌, inl, inr}
use Rattle.std.specs.Prelude.{◌↔◌, ◌&&◌, ◌||◌, IsSome, slice_get, if◌then◌else◌}
use Rattle.std.specs.List.{list_any}
use Rattle.std.specs.Option.{option_map_or}
use Rattle.std.specs.Str.{bytes_eq}
use Rattle.std.proofs.lemmas.Slice.Eq.{bytes_eq-Decides}
use Rattle.es_text.specs.declared.token.Token.{Token}
use Rattle.es_grammar.specs.Terminals.{contextual_words, spellings}
use Rattle.es_parser.specs.Found.{fixed_words}

-- elements of two lists one behind the other

pub got_left : {X : Type 0} (xs ys : List X) (i : ℕ) (x : X) → slice_get xs i ≡ Some x → slice_get (xs ++ ys) i ≡ Some x
got_left [] ys i x h = absurd (cc)
got_left (y ∷ xs) ys zero x h = h
got_left (y ∷ xs) ys (suc i) x h = got_left xs ys i x h

pub got_right : {X : Type 0} (xs ys : List X) (i j : ℕ) (x : X) → j ≡ length xs + i → slice_get ys i ≡ Some x → slice_get (xs ++ ys) j ≡ Some x
got_right [] ys i j x e h = subst (λ k. slice_get ys k ≡ Some x) (omega (arith, e)) h
got_right (y ∷ xs) ys i zero x e h = absurd (omega (arith, e))
got_right (y ∷ xs) ys i (suc j) x e h = got_right xs ys i j x (omega (arith, e)) h

pub got_either : {X : Type 0} (xs ys : List X) (i : ℕ) (x : X) → slice_get (xs ++ ys) i ≡ Some x → (slice_get xs i ≡ Some x) ⊎ ((j : ℕ) × (slice_get ys j ≡ Some x))
got_either [] ys i x h = inr (i, h)
got_either (y ∷ xs) ys zero x h = inl h
got_either (y ∷ xs) ys (suc i) x h = got_either xs ys i x h

before_end : {X : Type 0} (xs ys : List X) (i : ℕ) → i < length xs → slice_get (xs ++ ys) i ≡ slice_get xs i
before_end [] ys i h = absurd (omega arith)
before_end (x ∷ xs) ys zero h = refl
before_end (x ∷ xs) ys (suc i) h = before_end xs ys i (omega arith)

pub first_of_both : (a b : Bool) → (a && b) ≡ true → a ≡ true
first_of_both true b h = refl
first_of_both false b h = h

pub second_of_both : (a b : Bool) → (a && b) ≡ true → b ≡ true
second_of_both true b h = h
second_of_both false b h = absurd (cc)

ninety_five : length fixed_words ≡ 95
ninety_five = refl

-- a token is read by the terminal of its text

or_false : (b : Bool) → (b || false) ≡ b
or_false true = refl
or_false false = refl

pub by_text : (bs : List ℕ) (o : Option (List ℕ)) → (list_any (bytes_eq bs) (option_map_or (λ (text : List ℕ). text ∷ []) o []) ≡ true) ↔ (o ≡ Some bs)
by_text bs None = (λ h. absurd (cc), λ h. absurd (cc))
by_text bs (Some text) =
    let same = bytes_eq-Decides bs text in (
      λ h. ap Some (sym (same.0 (sym (or_false (bytes_eq bs text)) ∙ h))),
      λ h. let e : bs ≡ text = cc in or_false (bytes_eq bs text) ∙ same.1 e,
    )

pub fixed_first : (code : ℕ) → code < 95 → slice_get spellings code ≡ slice_get fixed_words code
fixed_first code low = before_end fixed_words contextual_words code (omega (arith, ninety_five, low))

pub some_read : (b : Bool) (found : Token) → IsSome (if b then Some found else None) ↔ (b ≡ true)
some_read true found = (λ _. refl, λ _. refl)
some_read false found = (λ h. absurd (cc), λ h. absurd (cc))
