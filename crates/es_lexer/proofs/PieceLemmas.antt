-- The comments among what is skipped.
use Rattle.std.proofs.Common.{◌≡◌, ℕ, List, [], ◌∷◌, ◌++◌, Bool, ap, ◌∙◌, sym, subst, append_assoc, append-nil, IsUtf8}
use Rattle.std.specs.Prelude.{Some, None, ◌==◌}
use Rattle.std.specs.Str.{IsCharBoundary}
use Rattle.es_text.specs.declared.token.Comment.{Comment}
use Rattle.es_text.specs.Rest.{rest, offset_of}
use Rattle.es_text.specs.Skipped as spec
use Rattle.es_text.specs.Skipped.{comment_of, comments_among, piece, skipped}
use Rattle.es_lexer.specs.declared.cursor.Cursor.{Cursor}
use Rattle.es_lexer.specs.declared.skip.PieceKind.{PieceKind}
use Rattle.es_lexer.specs.declared.skip.PieceKind.TheVariants as kind
use Rattle.es_lexer.specs.declared.skip.Piece.{Piece}
use Rattle.es_lexer.specs.Cursors.{rest_of, StepsOn}
use Rattle.es_lexer.specs.Pieces.{comments_from, kind_of, piece_of}
use Rattle.es_lexer.proofs.SkippedLemmas.{turn, skipped_none}
use Rattle.es_lexer.proofs.TokenLemmas.{offset_rest}

-- a cursor in this text
abbrev pub In : List ℕ → Cursor → Type 0
In text cursor = cursor.text.now ≡ text

rest_in : (text : List ℕ) (cursor : Cursor) → In text cursor → rest_of cursor ≡ rest text cursor.offset
rest_in text cursor here = ap (λ t. rest t cursor.offset) here

boundary_in : (text : List ℕ) (cursor : Cursor) → In text cursor → IsCharBoundary text cursor.offset
boundary_in text cursor here = subst (λ (t : List ℕ). IsCharBoundary t cursor.offset) here cursor.on_boundary

-- the comments from a cursor on, by the first piece
by_piece : (text : List ℕ) (from : Cursor) (p : Piece) → In text from → StepsOn from p.end → Some (piece_of p) ≡ piece (from.offset == 0) (rest_of from)
    → comment_of text (rest text from.offset) (kind_of p.kind) (rest text p.end.offset) ++ comments_from text p.end.offset ≡ comments_from text from.offset
by_piece text from p here moves is =
    let behind = rest_in text p.end (moves.text ∙ here) in
    let ds = rest text p.end.offset in
    let first = turn from.offset p.end.offset (rest text from.offset) ds (piece_of p) moves.order behind (is ∙ ap (piece (from.offset == 0)) (rest_in text from here)) in
    sym
    (ap (comments_among text (rest text from.offset)) first
    ∙ ap (λ cs. comment_of text (rest text from.offset) (kind_of p.kind) cs ++ comments_among text cs (skipped (p.end.offset == 0) ds)) behind)

abbrev pub spanning : Bool → ℕ → ℕ → Comment
spanning block start end = record { block = block; span = record { start = start; end = end } }

comment_is : (text : List ℕ) (at end : ℕ) (block : Bool) → IsUtf8 text → IsCharBoundary text at → IsCharBoundary text end
    → spanning block at end ∷ [] ≡ comment_of text (rest text at) (spec.comment block) (rest text end)
comment_is text at end block utf8 here there =
    ap (λ n. spanning block n end ∷ []) (sym (offset_rest text at utf8 here))
    ∙ ap (λ n. spanning block (offset_of text (rest text at)) n ∷ []) (sym (offset_rest text end utf8 there))

pub with_comment : (text : List ℕ) (from : Cursor) (p : Piece) (block : Bool) (items items' all : List Comment)
    → IsUtf8 text → In text from → StepsOn from p.end → Some (piece_of p) ≡ piece (from.offset == 0) (rest_of from)
    → p.kind ≡ kind.Comment block → items' ≡ items ++ spanning block from.offset p.end.offset ∷ [] → items ++ comments_from text from.offset ≡ all
    → items' ++ comments_from text p.end.offset ≡ all
with_comment text from p block items items' all utf8 here moves is of pushed known =
    let after = comments_from text p.end.offset in
    let between : PieceKind → List Comment = λ k. comment_of text (rest text from.offset) (kind_of k) (rest text p.end.offset) in
    ap (λ xs. xs ++ after) pushed
    ∙ append_assoc items (spanning block from.offset p.end.offset ∷ []) after
    ∙ ap (λ xs. items ++ (xs ++ after))
    (comment_is text from.offset p.end.offset block utf8 (boundary_in text from here) (boundary_in text p.end (moves.text ∙ here)) ∙ ap between (sym of))
    ∙ ap (λ xs. items ++ xs) (by_piece text from p here moves is)
    ∙ known

pub with_blank : (text : List ℕ) (from : Cursor) (p : Piece) (items items' all : List Comment)
    → In text from → StepsOn from p.end → Some (piece_of p) ≡ piece (from.offset == 0) (rest_of from)
    → p.kind ≡ kind.Blank → items' ≡ items → items ++ comments_from text from.offset ≡ all → items' ++ comments_from text p.end.offset ≡ all
with_blank text from p items items' all here moves is of same known =
    let between : PieceKind → List Comment = λ k. comment_of text (rest text from.offset) (kind_of k) (rest text p.end.offset) in
    ap (λ xs. xs ++ comments_from text p.end.offset) same
    ∙ ap (λ k. items ++ (between k ++ comments_from text p.end.offset)) (sym of)
    ∙ ap (λ xs. items ++ xs) (by_piece text from p here moves is)
    ∙ known

pub with_no_more : (text : List ℕ) (from : Cursor) (items all : List Comment) → In text from → None ≡ piece (from.offset == 0) (rest_of from)
    → items ++ comments_from text from.offset ≡ all → items ≡ all
with_no_more text from items all here none known =
    let nothing = skipped_none (from.offset == 0) (rest text from.offset) (sym (none ∙ ap (piece (from.offset == 0)) (rest_in text from here))) in
    sym (append-nil items)
    ∙ ap (λ ps. items ++ comments_among text (rest text from.offset) ps) (sym nothing)
    ∙ known
