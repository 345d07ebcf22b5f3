-- Pieces that are read one by one.
use Rattle.std.proofs.Common.{◌≡◌, ◌∙◌, ℕ, zero, suc, ◌+◌, ◌-◌, ◌<◌, ◌≤◌, cond, List, [], ◌∷◌, ◌++◌, drop, get_or, length, take, refl, sym, ap, append_assoc, arith, Option, None, Some, option_map}
use Rattle.std.specs.Prelude.{option_and_then}
use Rattle.std.specs.List.{before_first, position_or_len}
use Rattle.std.proofs.lemmas.Bool.{le-ltb, lt-ltb}
use Rattle.std.proofs.lemmas.List.{take_rest}
use Rattle.es_globs.specs.declared.piece.Piece.{Piece}
use Rattle.es_globs.specs.declared.reading.Taken.{Taken}
use Rattle.es_globs.specs.Reading.{class_in, class_of, is_right_bracket, piece_at, pieces_behind}

-- characters of an earlier piece are passed over
skipped : (k : ℕ) (cs : List ℕ) → pieces_behind k cs ≡ pieces_behind 0 (drop k cs)
skipped zero cs = refl
skipped (suc k) [] = refl
skipped (suc k) (c ∷ cs) = skipped k cs

abbrev pub with_read : List Piece → Option (List Piece) → Option (List Piece)
with_read done others = option_map (λ others. done ++ others) others

pub one_more : (done : List Piece) (c : ℕ) (behind : List ℕ) (taken : Taken) → Some taken ≡ piece_at c behind
    → with_read (done ++ taken.piece ∷ []) (pieces_behind 0 (drop taken.more behind)) ≡ with_read done (pieces_behind 0 (c ∷ behind))
one_more done c behind taken is =
    ap (with_read (done ++ taken.piece ∷ [])) (sym (skipped taken.more behind))
    ∙ both (pieces_behind taken.more behind)
    ∙ ap (λ o. with_read done (option_and_then (λ taken. option_map (λ others. taken.piece ∷ others) (pieces_behind taken.more behind)) o)) is
  where
    both : (o : Option (List Piece)) → with_read (done ++ taken.piece ∷ []) o ≡ with_read done (option_map (λ others. taken.piece ∷ others) o)
    both None = refl
    both (Some others) = ap Some (append_assoc done (taken.piece ∷ []) others)

abbrev pub class_taken : ℕ → Piece → Taken
class_taken n piece = record { piece = piece; more = n + 1 }

-- a class that ends at this character, and one that doesn't end
pub class_ends : (cs : List ℕ) (n : ℕ) (class : Option Piece) → n ≡ position_or_len is_right_bracket cs → n < length cs → class ≡ class_of (take n cs)
    → option_map (class_taken n) class ≡ class_in cs
class_ends cs n class here near is =
    ap (option_map (class_taken n)) is
    ∙ ap (λ k. option_map (class_taken k) (class_of (take k cs))) here
    ∙ sym (ap (λ b. cond b (option_map (class_taken (position_or_len is_right_bracket cs)) (class_of (before_first is_right_bracket cs))) None)
    (lt-ltb (position_or_len is_right_bracket cs) (length cs) (omega (arith, here, near))))

pub class_ends_nowhere : (cs : List ℕ) (n : ℕ) → n ≡ position_or_len is_right_bracket cs → length cs ≤ n → None ≡ class_in cs
class_ends_nowhere cs n here far =
    sym (ap (λ b. cond b (option_map (class_taken (position_or_len is_right_bracket cs)) (class_of (before_first is_right_bracket cs))) None)
    (le-ltb (position_or_len is_right_bracket cs) (length cs) (omega (arith, here, far))))

-- one piece more of what is left
pub read_more : (done more : List Piece) (rest behind : List ℕ) (c d : ℕ) (taken : Taken) → 1 ≤ length rest → c ≡ get_or rest 0 d → behind ≡ drop 1 rest → Some taken ≡ piece_at c behind → more ≡ done ++ taken.piece ∷ []
    → with_read more (pieces_behind 0 (take (length behind - taken.more) (drop taken.more behind))) ≡ with_read done (pieces_behind 0 rest)
read_more done more [] behind c d taken some here left is new = absurd (omega (arith, some))
read_more done more (first ∷ rest) behind c d taken some here left is new =
    ap (λ l. with_read more (pieces_behind 0 l)) (take_rest behind taken.more)
    ∙ ap (λ all. with_read all (pieces_behind 0 (drop taken.more behind))) new
    ∙ one_more done c behind taken is
    ∙ ap (λ x. with_read done (pieces_behind 0 (x ∷ behind))) here
    ∙ ap (λ l. with_read done (pieces_behind 0 (first ∷ l))) left
