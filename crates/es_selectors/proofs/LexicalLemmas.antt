-- Runs of characters.
use Rattle.std.proofs.Common.{◌≡◌, ℕ, ◌<◌, ◌≤◌, Bool, true, false, ◌&&◌, List, [], ◌∷◌, ◌++◌, length, cond, refl, ap, append-nil, ◌∙◌, arith}
use lib.Utf8.{scalar, scalars}
use Rattle.std.specs.Prelude.{encode_utf8, encode_utf8_all}
use Rattle.std.proofs.lemmas.Str.{encodes-append}
use Rattle.es_text.specs.Rest.{begins, drop_while}

and_both : (a b : Bool) → (a && b) ≡ true → (a ≡ true) × (b ≡ true)
and_both true b h = (refl, h)
and_both false b h = cc

no_longer : (class : ℕ → Bool) (cs : List ℕ) → length (drop_while class cs) ≤ length cs
no_longer class [] = omega arith
no_longer class (c ∷ cs) =
    let least = no_longer class cs in
    elim (class c) as (λ b. length (cond b (drop_while class cs) (c ∷ cs)) ≤ length (c ∷ cs)) [
      | true ↦ omega (arith, least)
      | false ↦ omega arith
    ]

-- where a character of the class stands, what follows the run is shorter
pub shorter_behind : (class : ℕ → Bool) (cs : List ℕ) → begins class cs ≡ true → length (drop_while class cs) < length cs
shorter_behind class [] h = cc
shorter_behind class (c ∷ cs) h = let least = no_longer class cs in rw h (omega (arith, least))

-- a character that joins at the end
pub scalars_and : (cs : List ℕ) (c : ℕ) → scalars cs ≡ true → scalar c ≡ true → scalars (cs ++ c ∷ []) ≡ true
scalars_and [] c all one = rw one refl
scalars_and (d ∷ cs) c all one =
    let both = and_both (scalar d) (scalars cs) all in rw (both.0, scalars_and cs c both.1 one) refl

pub encoded_and : (cs : List ℕ) (c : ℕ) → encode_utf8_all (cs ++ c ∷ []) ≡ encode_utf8_all cs ++ encode_utf8 c
encoded_and cs c = encodes-append cs (c ∷ []) ∙ ap (λ bytes. encode_utf8_all cs ++ bytes) (append-nil (encode_utf8 c))
