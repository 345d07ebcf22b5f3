-- What is left behind white space, line ends and comments.
use Rattle.std.proofs.Common.{ℕ, zero, suc, Bool, true, false, List, [], ◌∷◌, length, if◌then◌else◌}
use Rattle.std.specs.Prelude.{Option, Some, None, ◌||◌, ◌&&◌, ◌==◌}
use Rattle.std.specs.Option.{option_map_or}
use Rattle.es_text.specs.Rest.{begins_with, tail, drop_while}
use Rattle.es_text.specs.Characters.{is_in_line, is_line_terminator, is_white_space, asterisk, exclamation_mark, number_sign, slash}
use Rattle.es_text.specs.Skipped.{Piece, after_block, after_line, after_slash, behind_all, blank, comment, piece, pieces, skipped}
use Rattle.es_text.proofs.RestLemmas.{IsSuffix, suffix-all, suffix-behind, suffix-drop_while, suffix-further, suffix-next, suffix-tail}

-- what follows the piece, if there is one, is left of what was there
abbrev pub PieceFollows : List ℕ → Option Piece → Type 0
PieceFollows cs None = Unit {0}
PieceFollows cs (Some found) = IsSuffix cs found.behind

piece-if : (b : Bool) (cs : List ℕ) (o p : Option Piece) → PieceFollows cs o → PieceFollows cs p → PieceFollows cs (if b then o else p)
piece-if true cs o p one other = one
piece-if false cs o p one other = other

piece-next : (c : ℕ) (cs : List ℕ) (o : Option Piece) → PieceFollows cs o → PieceFollows (c ∷ cs) o
piece-next c cs None follows = tt
piece-next c cs (Some found) follows = suffix-behind c cs found.behind follows

follows-after_block : (line : Bool) (cs : List ℕ) → PieceFollows cs (after_block line cs)
unfolding after_block
follows-after_block line [] = tt
follows-after_block line (c ∷ cs) =
    piece-if (c == asterisk && begins_with slash cs) (c ∷ cs)
    (Some (record { kind = comment true; line = line; behind = tail cs }))
    (after_block (line || is_line_terminator c) cs)
    (suffix-behind c cs (tail cs) (suffix-tail cs))
    (piece-next c cs (after_block (line || is_line_terminator c) cs) (follows-after_block (line || is_line_terminator c) cs))

follows-after_slash : (cs : List ℕ) → PieceFollows cs (after_slash cs)
unfolding after_slash
follows-after_slash [] = tt
follows-after_slash (c ∷ cs) =
    piece-if (c == slash) (c ∷ cs) (Some (after_line cs)) (if c == asterisk then after_block false cs else None)
    (suffix-behind c cs (drop_while is_in_line cs) (suffix-drop_while is_in_line cs))
    (piece-if (c == asterisk) (c ∷ cs) (after_block false cs) None
    (piece-next c cs (after_block false cs) (follows-after_block false cs)) tt)

suffix-line : (cs : List ℕ) → IsSuffix cs (drop_while is_in_line (tail cs))
suffix-line cs = suffix-further cs (tail cs) (drop_while is_in_line (tail cs)) (suffix-tail cs) (suffix-drop_while is_in_line (tail cs))

pub follows-piece : (first : Bool) (cs : List ℕ) → PieceFollows cs (piece first cs)
unfolding piece
follows-piece first [] = tt
follows-piece first (c ∷ cs) =
    piece-if (is_white_space c || is_line_terminator c) (c ∷ cs)
    (Some (record { kind = blank; line = is_line_terminator c; behind = cs }))
    (if c == slash then after_slash cs
    else if first && (c == number_sign && begins_with exclamation_mark cs)
    then Some (after_line (tail cs))
    else None)
    (suffix-next c cs)
    (piece-if (c == slash) (c ∷ cs) (after_slash cs)
    (if first && (c == number_sign && begins_with exclamation_mark cs)
    then Some (after_line (tail cs))
    else None)
    (piece-next c cs (after_slash cs) (follows-after_slash cs))
    (piece-if (first && (c == number_sign && begins_with exclamation_mark cs)) (c ∷ cs) (Some (after_line (tail cs))) None
    (suffix-behind c cs (drop_while is_in_line (tail cs)) (suffix-line cs)) tt))

-- what follows all pieces, where what follows all that begin behind the first one is known
suffix-piece : (turns : ℕ) → ((cs : List ℕ) → IsSuffix cs (behind_all cs (pieces turns false cs))) → (cs : List ℕ) (o : Option Piece) → PieceFollows cs o
    → IsSuffix cs (behind_all cs (option_map_or (λ found. found ∷ pieces turns false found.behind) o []))
suffix-piece turns more cs None follows = suffix-all cs
suffix-piece turns more cs (Some found) follows =
    suffix-further cs found.behind (behind_all found.behind (pieces turns false found.behind)) follows (more found.behind)

suffix-pieces : (turns : ℕ) (first : Bool) (cs : List ℕ) → IsSuffix cs (behind_all cs (pieces turns first cs))
unfolding pieces
suffix-pieces zero first cs = suffix-all cs
suffix-pieces (suc turns) first cs =
    suffix-piece turns (suffix-pieces turns false) cs (piece first cs) (follows-piece first cs)

pub suffix-skipped : (first : Bool) (cs : List ℕ) → IsSuffix cs (behind_all cs (skipped first cs))
suffix-skipped first cs = suffix-pieces (length cs) first cs
