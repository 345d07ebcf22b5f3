-- What terminals read, from lists of texts in memory.
use Rattle.std.proofs.Common.{◌≡◌, ℕ, List, [], ◌∷◌, Bool, true, false, Some, None, map, refl, sym, ◌∙◌, ap}
use Rattle.std.specs.Prelude.{◌||◌, option_map, slice_get}
use Rattle.std.specs.List.{list_any}
use Rattle.std.specs.Option.{option_map_or}
use Rattle.std.specs.Str.{bytes_eq}
use Rattle.std.proofs.lemmas.Option.{slice_get-map}
use Rattle.es_grammar.specs.declared.part.Terminal.TheVariants as t
use Rattle.es_grammar.specs.Terminals.{spellings, texts_of}

pub any_map : {A : Type 0} (f : List ℕ → Bool) (g : A → List ℕ) (xs : List A) → list_any f (map g xs) ≡ list_any (λ x. f (g x)) xs
any_map f g [] = refl
any_map f g (x ∷ xs) = ap (λ b. f (g x) || b) (any_map f g xs)

any_one : (b : Bool) → (b || false) ≡ b
any_one true = refl
any_one false = refl

-- a text and the texts of the terminal of a code
pub spelled_some : (text spelling : List ℕ) (code : ℕ) → slice_get spellings code ≡ Some spelling →
    list_any (bytes_eq text) (texts_of (t.Spelled code)) ≡ bytes_eq text spelling
unfolding texts_of
spelled_some text spelling code e =
    ap (λ found. list_any (bytes_eq text) (option_map_or (λ one. one ∷ []) found [])) e ∙ any_one (bytes_eq text spelling)

pub spelled_none : (text : List ℕ) (code : ℕ) → slice_get spellings code ≡ None → list_any (bytes_eq text) (texts_of (t.Spelled code)) ≡ false
unfolding texts_of
spelled_none text code e = ap (λ found. list_any (bytes_eq text) (option_map_or (λ one. one ∷ []) found [])) e

pub in_memory : {A : Type 0} (now : A → List ℕ) (xs : List A) (code : ℕ) → map now xs ≡ spellings →
    slice_get spellings code ≡ option_map now (slice_get xs code)
in_memory now xs code e = sym (ap (λ texts. slice_get texts code) e) ∙ slice_get-map now xs code
