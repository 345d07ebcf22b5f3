-- Parts of names.
use Rattle.std.proofs.Common.{◌≡◌, ◌-◌, Bool, true, false, List, [], ◌∷◌, ◌++◌, Bor, codes, length, map, slice_get, take, refl, ap}
use Rattle.std.specs.List.{flat_map, join_by}
use Rattle.std.proofs.lemmas.List.{length-map, take-map}
use Rattle.es_plan.specs.Names.{Text, climbed, leads_down}

abbrev texts : List (Bor Text) → List Text
texts = map (λ part. part.now)

pub taken_back : (absolute : Bool) (parts : List (Bor Text)) → leads_down (slice_get (texts parts) (length parts - 1)) ≡ true
    → texts (take (length parts - 1) parts) ≡ climbed absolute (texts parts)
taken_back absolute parts h = rw (length-map parts (λ (part : Bor Text). part.now), h, take-map (λ (part : Bor Text). part.now) (length parts - 1) parts) refl

pub dropped : (parts : List (Bor Text)) → leads_down (slice_get (texts parts) (length parts - 1)) ≡ false
    → texts parts ≡ climbed true (texts parts)
dropped parts h = rw (length-map parts (λ (part : Bor Text). part.now), h) refl

pub put_behind : (parts : List (Bor Text)) → leads_down (slice_get (texts parts) (length parts - 1)) ≡ false
    → texts parts ++ codes ".." ∷ [] ≡ climbed false (texts parts)
put_behind parts h = rw (length-map parts (λ (part : Bor Text). part.now), h) refl

pub joined_behind : (slash : Text) (parts : List (Bor Text))
    → flat_map (λ (part : Bor Text). slash ++ part.now) parts ≡ flat_map (λ part. slash ++ part) (texts parts)
joined_behind slash [] = refl
joined_behind slash (part ∷ parts) = ap (λ rest. (slash ++ part.now) ++ rest) (joined_behind slash parts)

pub joined_texts : (slash : Text) (parts : List (Bor Text))
    → join_by (λ (part : Bor Text). part.now) slash parts ≡ join_by (λ part. part) slash (texts parts)
joined_texts slash [] = refl
joined_texts slash (part ∷ parts) = ap (λ rest. part.now ++ rest) (joined_behind slash parts)
