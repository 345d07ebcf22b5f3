-- What follows is the end of what was there before, and so it begins on a boundary of a character, further on.
use Rattle.std.proofs.Common.{◌≡◌, ℕ, zero, suc, ◌≤◌, Bool, true, false, List, [], ◌∷◌, ◌++◌, length, take, drop, refl, sym, ap, subst, ◌∙◌, append_assoc, arith, length-append, length-drop, IsUtf8, encode_utf8_all, if◌then◌else◌}
use Rattle.std.specs.Prelude.{Option, Some, None}
use Rattle.std.specs.Option.{option_map_or}
use Rattle.std.specs.Str.{all_scalars, IsCharBoundary}
use Rattle.std.proofs.lemmas.Bool.{and_parts}
use Rattle.std.proofs.lemmas.List.{take-append-drop}
use Rattle.std.proofs.lemmas.Str.{encodes-append, encodes-chars, IsCharBoundary-at_seam, IsUtf8-drop, scalars-chars}
use Rattle.es_text.specs.Rest.{rest, offset_of, tail, drop_while, many_in, many}

-- the second list is what is left of the first one
pub record IsSuffix (whole rest : List ℕ) : Type 0 where
  pub front : List ℕ
  pub split : whole ≡ front ++ rest

pub suffix-all : (cs : List ℕ) → IsSuffix cs cs
suffix-all cs = record { front = []; split = refl }

pub suffix-behind : (c : ℕ) (cs ds : List ℕ) → IsSuffix cs ds → IsSuffix (c ∷ cs) ds
suffix-behind c cs ds further = record { front = c ∷ further.front; split = ap (λ xs. c ∷ xs) further.split }

-- behind the first character
pub suffix-next : (c : ℕ) (cs : List ℕ) → IsSuffix (c ∷ cs) cs
suffix-next c cs = suffix-behind c cs cs (suffix-all cs)

pub suffix-further : (cs ds es : List ℕ) → IsSuffix cs ds → IsSuffix ds es → IsSuffix cs es
suffix-further cs ds es one other = record {
  front = one.front ++ other.front;
  split = one.split ∙ ap (λ xs. one.front ++ xs) other.split ∙ sym (append_assoc one.front other.front es);
}

pub suffix-if : (b : Bool) (cs ds es : List ℕ) → IsSuffix cs ds → IsSuffix cs es → IsSuffix cs (if b then ds else es)
suffix-if true cs ds es one other = one
suffix-if false cs ds es one other = other

pub suffix-drop : (n : ℕ) (cs : List ℕ) → IsSuffix cs (drop n cs)
suffix-drop n cs = record { front = take n cs; split = sym (take-append-drop n cs) }

pub suffix-tail : (cs : List ℕ) → IsSuffix cs (tail cs)
suffix-tail [] = suffix-all []
suffix-tail (c ∷ cs) = suffix-next c cs

pub suffix-drop_while : (class : ℕ → Bool) (cs : List ℕ) → IsSuffix cs (drop_while class cs)
suffix-drop_while class [] = suffix-all []
suffix-drop_while class (c ∷ cs) =
    suffix-if (class c) (c ∷ cs) (drop_while class cs) (c ∷ cs)
    (suffix-behind c cs (drop_while class cs) (suffix-drop_while class cs)) (suffix-all (c ∷ cs))

-- what follows, if anything is said to follow, is left of what was there
abbrev pub Follows : List ℕ → Option (List ℕ) → Type 0
Follows cs None = Unit {0}
Follows cs (Some ds) = IsSuffix cs ds

-- the production says of all characters what is left of them
abbrev pub Takes : (List ℕ → Option (List ℕ)) → Type 0
Takes part = (cs : List ℕ) → Follows cs (part cs)

suffix-else : (f : List ℕ → List ℕ) → ((ds : List ℕ) → IsSuffix ds (f ds)) → (cs : List ℕ) (o : Option (List ℕ)) → Follows cs o → IsSuffix cs (option_map_or f o cs)
suffix-else f more cs None follows = suffix-all cs
suffix-else f more cs (Some ds) follows = suffix-further cs ds (f ds) follows (more ds)

suffix-many_in : (turns : ℕ) (item : List ℕ → Option (List ℕ)) → Takes item → (cs : List ℕ) → IsSuffix cs (many_in turns item cs)
unfolding many_in
suffix-many_in zero item takes cs = suffix-all cs
suffix-many_in (suc turns) item takes cs =
    suffix-else (many_in turns item) (suffix-many_in turns item takes) cs (item cs) (takes cs)

pub suffix-many : (item : List ℕ → Option (List ℕ)) → Takes item → (cs : List ℕ) → IsSuffix cs (many item cs)
suffix-many item takes cs = suffix-many_in (length cs) item takes cs

scalars-behind : (front cs : List ℕ) → all_scalars (front ++ cs) ≡ true → all_scalars cs ≡ true
scalars-behind [] cs all = all
scalars-behind (c ∷ front) cs all = scalars-behind front cs (and_parts _ (all_scalars (front ++ cs)) all).1

-- in bytes, what is left is no longer than what was there
bytes-left : (cs ds : List ℕ) → IsSuffix cs ds → length (encode_utf8_all ds) ≤ length (encode_utf8_all cs)
bytes-left cs ds left =
    let split = ap (λ xs. length (encode_utf8_all xs)) left.split in
    let sum = ap length (encodes-append left.front ds) in
    omega (arith, split, sum, length-append (encode_utf8_all left.front) (encode_utf8_all ds))

-- it begins no earlier
pub offset-order : (text cs ds : List ℕ) → IsSuffix cs ds → offset_of text cs ≤ offset_of text ds
offset-order text cs ds left = omega (arith, bytes-left cs ds left)

-- from a boundary of a character of a text on
module _ (text : List ℕ) (at : ℕ) (utf8 : IsUtf8 text) (boundary : IsCharBoundary text at) where
  encodes-rest : encode_utf8_all (rest text at) ≡ drop at text
  unfolding rest
  encodes-rest = encodes-chars (drop at text) (IsUtf8-drop text at utf8 boundary)

  scalars-rest : all_scalars (rest text at) ≡ true
  unfolding rest
  scalars-rest = scalars-chars (drop at text) (IsUtf8-drop text at utf8 boundary)

  -- the bytes before what is left
  abbrev before : List ℕ → List ℕ
  before front = take at text ++ encode_utf8_all front

  seam : (cs : List ℕ) (left : IsSuffix (rest text at) cs) → text ≡ before left.front ++ encode_utf8_all cs
  seam cs left =
      sym (take-append-drop at text)
      ∙ ap (λ xs. take at text ++ xs) (sym encodes-rest ∙ ap encode_utf8_all left.split ∙ encodes-append left.front cs)
      ∙ sym (append_assoc (take at text) (encode_utf8_all left.front) (encode_utf8_all cs))

  offset-seam : (cs : List ℕ) (left : IsSuffix (rest text at) cs) → length (before left.front) ≡ offset_of text cs
  offset-seam cs left =
      omega (arith, ap length (seam cs left), length-append (before left.front) (encode_utf8_all cs))

  -- what is left begins on a boundary of a character
  pub offset-boundary : (cs : List ℕ) → IsSuffix (rest text at) cs → IsCharBoundary text (offset_of text cs)
  offset-boundary cs left =
      let scalars = scalars-behind left.front cs (subst (λ xs. all_scalars xs ≡ true) left.split scalars-rest) in
      subst (IsCharBoundary text) (offset-seam cs left)
      (IsCharBoundary-at_seam text (before left.front) (encode_utf8_all cs) (seam cs left) (cs, (scalars, refl)))

  -- behind where it was read from
  pub offset-behind : (cs : List ℕ) → IsSuffix (rest text at) cs → at ≤ offset_of text cs
  offset-behind cs left =
      omega (arith, bytes-left (rest text at) cs left, ap length encodes-rest, length-drop at text, boundary.0)
