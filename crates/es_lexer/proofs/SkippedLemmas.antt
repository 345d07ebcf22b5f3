-- What is skipped, piece by piece: the count of the characters is always enough.
use Rattle.std.proofs.Common.{◌≡◌, ◌<◌, ◌≤◌, ℕ, zero, suc, List, [], ◌∷◌, length, Bool, true, false, refl, sym, ◌∙◌, ap, subst, arith}
use Rattle.std.specs.Prelude.{◌||◌, ◌&&◌, ◌==◌, if◌then◌else◌, Option, Some, None}
use Rattle.std.specs.Option.{option_map_or}
use Rattle.std.proofs.lemmas.Bool.Decides.{nat_tests}
use Rattle.es_text.specs.Rest.{begins_with, tail, drop_while}
use Rattle.es_text.specs.Characters.{is_in_line, is_line_terminator, is_white_space}
use Rattle.es_text.specs.Skipped.{Piece, after_block, after_line, after_slash, behind_all, blank, comment, hold_line, piece, pieces, skipped}

Shorter : ℕ → Option Piece → Type 0
Shorter n None = Unit {0}
Shorter n (Some p) = length p.behind ≤ n

weaker : (m n : ℕ) (o : Option Piece) → m ≤ n → Shorter m o → Shorter n o
unfolding Shorter
weaker m n None h s = tt
weaker m n (Some p) h s = omega arith

either : (n : ℕ) (b : Bool) (x y : Option Piece) → Shorter n x → Shorter n y → Shorter n (if b then x else y)
either n true x y h k = h
either n false x y h k = k

pub cond_le : (n : ℕ) (b : Bool) (x y : List ℕ) → length x ≤ n → length y ≤ n → length (if b then x else y) ≤ n
cond_le n true x y h k = h
cond_le n false x y h k = k

drop_while_le : (p : ℕ → Bool) (cs : List ℕ) → length (drop_while p cs) ≤ length cs
drop_while_le p [] = omega arith
drop_while_le p (c ∷ cs) = cond_le (length (c ∷ cs)) (p c) (drop_while p cs) (c ∷ cs) (omega (arith, drop_while_le p cs)) (omega arith)

pub tail_le : (cs : List ℕ) → length (tail cs) ≤ length cs
tail_le [] = omega arith
tail_le (c ∷ cs) = omega arith

after_block_le : (line : Bool) (cs : List ℕ) → Shorter (length cs) (after_block line cs)
unfolding Shorter after_block
after_block_le line [] = tt
after_block_le line (c ∷ cs) =
    either _ _ (Some (record { kind = comment true; line = line; behind = tail cs })) (after_block (line || is_line_terminator c) cs)
    (omega (arith, tail_le cs))
    (weaker (length cs) _ _ (omega arith) (after_block_le (line || is_line_terminator c) cs))

after_line_le : (cs : List ℕ) → length (after_line cs).behind ≤ length cs
after_line_le cs = drop_while_le is_in_line cs

after_slash_le : (cs : List ℕ) → Shorter (length cs) (after_slash cs)
unfolding Shorter after_slash
after_slash_le [] = tt
after_slash_le (c ∷ cs) =
    let n : ℕ = length (c ∷ cs) in
    either n (c == 47) (Some (after_line cs)) (if c == 42 then after_block false cs else None) (omega (arith, after_line_le cs))
    (either n (c == 42) (after_block false cs) None (weaker (length cs) n (after_block false cs) (omega arith) (after_block_le false cs)) tt)

piece_le : (first : Bool) (c : ℕ) (cs : List ℕ) → Shorter (length cs) (piece first (c ∷ cs))
unfolding Shorter piece
piece_le first c cs =
    let hashbang : Option Piece = if first && (c == 35 && begins_with 33 cs) then Some (after_line (tail cs)) else None in
    either (length cs) (is_white_space c || is_line_terminator c) (Some (record { kind = blank; line = is_line_terminator c; behind = cs }))
    (if c == 47 then after_slash cs else hashbang) (omega arith)
    (either (length cs) (c == 47) (after_slash cs) hashbang (after_slash_le cs)
    (either (length cs) (first && (c == 35 && begins_with 33 cs)) (Some (after_line (tail cs))) None
    (omega (arith, after_line_le (tail cs), tail_le cs)) tt))

pub piece_shorter : (first : Bool) (cs : List ℕ) (p : Piece) → piece first cs ≡ Some p → length p.behind < length cs
unfolding Shorter piece
piece_shorter first [] p e = cc
piece_shorter first (c ∷ cs) p e = let h : Shorter (length cs) (Some p) = subst (Shorter (length cs)) e (piece_le first c cs) in omega arith

same_map : (o : Option Piece) (f g : Piece → List Piece) → ((p : Piece) → o ≡ Some p → f p ≡ g p) → option_map_or f o [] ≡ option_map_or g o []
same_map None f g h = refl
same_map (Some p) f g h = h p refl

enough : (n m : ℕ) (first : Bool) (cs : List ℕ) → length cs ≤ n → length cs ≤ m → pieces n first cs ≡ pieces m first cs
unfolding pieces piece
enough zero zero first cs h k = refl
enough zero (suc m) first [] h k = refl
enough zero (suc m) first (c ∷ cs) h k = absurd (omega arith)
enough (suc n) zero first [] h k = refl
enough (suc n) zero first (c ∷ cs) h k = absurd (omega arith)
enough (suc n) (suc m) first cs h k =
    same_map (piece first cs) (λ p. p ∷ pieces n false p.behind) (λ p. p ∷ pieces m false p.behind)
    (λ p e. ap (λ ps. p ∷ ps) (enough n m false p.behind (omega (arith, piece_shorter first cs p e)) (omega (arith, piece_shorter first cs p e))))

pub skipped_more : (first : Bool) (cs : List ℕ) (p : Piece) → piece first cs ≡ Some p → skipped first cs ≡ p ∷ skipped false p.behind
unfolding pieces piece
skipped_more first [] p e = cc
skipped_more first (c ∷ cs) p e =
    ap (λ o. option_map_or (λ p. p ∷ pieces (length cs) false p.behind) o []) e
    ∙ ap (λ ps. p ∷ ps) (enough (length cs) (length p.behind) false p.behind (omega (arith, piece_shorter first (c ∷ cs) p e)) (omega arith))

pub skipped_none : (first : Bool) (cs : List ℕ) → piece first cs ≡ None → skipped first cs ≡ []
unfolding pieces piece
skipped_none first [] e = refl
skipped_none first (c ∷ cs) e = ap (λ o. option_map_or (λ p. p ∷ pieces (length cs) false p.behind) o []) e

not_first : (next at : ℕ) → at < next → (next == 0) ≡ false
not_first next at h = grind (arith, nat_tests)

-- what is skipped from an offset on, by its first piece, which ends at the offset `next`
pub turn : (at next : ℕ) (cs ds : List ℕ) (p : Piece) → at < next → p.behind ≡ ds → Some p ≡ piece (at == 0) cs
    → skipped (at == 0) cs ≡ p ∷ skipped (next == 0) ds
turn at next cs ds p later behind is =
    skipped_more (at == 0) cs p (sym is)
    ∙ ap (λ xs. p ∷ skipped false xs) behind
    ∙ ap (λ b. p ∷ skipped b ds) (sym (not_first next at later))

or_or : (a b x : Bool) → ((a || b) || x) ≡ (a || (b || x))
or_or true b x = refl
or_or false b x = refl

pub turn_line : (at next : ℕ) (cs ds : List ℕ) (p : Piece) (line line' all : Bool) → at < next → p.behind ≡ ds → Some p ≡ piece (at == 0) cs
    → line' ≡ (line || p.line) → (line || hold_line (skipped (at == 0) cs)) ≡ all
    → (line' || hold_line (skipped (next == 0) ds)) ≡ all
turn_line at next cs ds p line line' all later behind is moved known =
    ap (λ b. b || hold_line (skipped (next == 0) ds)) moved
    ∙ or_or line p.line (hold_line (skipped (next == 0) ds))
    ∙ ap (λ ps. line || hold_line ps) (sym (turn at next cs ds p later behind is))
    ∙ known

pub turn_behind : (at next : ℕ) (cs ds all : List ℕ) (p : Piece) → at < next → p.behind ≡ ds → Some p ≡ piece (at == 0) cs
    → behind_all cs (skipped (at == 0) cs) ≡ all → behind_all ds (skipped (next == 0) ds) ≡ all
turn_behind at next cs ds all p later behind is known =
    ap (λ xs. behind_all xs (skipped (next == 0) ds)) (sym behind)
    ∙ ap (λ ps. behind_all cs ps) (sym (turn at next cs ds p later behind is))
    ∙ known

pub stop_line : (first : Bool) (cs : List ℕ) (line : Bool) → None ≡ piece first cs → (line || hold_line (skipped first cs)) ≡ line
stop_line first cs true none = refl
stop_line first cs false none = ap hold_line (skipped_none first cs (sym none))

pub stop_behind : (first : Bool) (cs : List ℕ) → None ≡ piece first cs → behind_all cs (skipped first cs) ≡ cs
stop_behind first cs none = ap (λ ps. behind_all cs ps) (skipped_none first cs (sym none))
