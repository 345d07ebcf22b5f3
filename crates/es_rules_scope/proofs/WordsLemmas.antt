-- Words of a list of texts.
use Rattle.std.proofs.Common.{◌≡◌, ℕ, List, [], ◌∷◌, Bor, map, refl, ap}
use Rattle.std.specs.Prelude.{◌||◌}
use Rattle.std.specs.List.{list_any}
use Rattle.std.specs.Str.{bytes_eq}
use Rattle.es_rules_scope.specs.Globals.{is_word}

-- the texts are words that contracts see
pub words_in : (words : List (Bor (List ℕ))) (name : List ℕ)
    → list_any (λ word. bytes_eq word.now name) words ≡ is_word (map (λ (word : Bor (List ℕ)). word.now) words) name
words_in [] name = refl
words_in (word ∷ words) name = ap (λ rest. bytes_eq word.now name || rest) (words_in words name)
