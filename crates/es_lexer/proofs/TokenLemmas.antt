-- The offsets of what is read.
use Rattle.std.proofs.Common.{◌≡◌, ℕ, List, Bool, length, drop, ap, subst, ◌∙◌, sym, arith, length-drop, IsUtf8}
use Rattle.std.specs.Prelude.{Some, None}
use Rattle.std.specs.Option.{option_map}
use Rattle.std.specs.Str.{IsCharBoundary}
use Rattle.std.proofs.lemmas.Str.{IsUtf8-drop, encodes-chars}
use Rattle.es_text.specs.declared.token.LexMode.{LexMode}
use Rattle.es_text.specs.declared.token.Token.{Token}
use Rattle.es_text.specs.declared.token.TokenKind.{TokenKind}
use Rattle.es_text.specs.Rest.{rest, offset_of}
use Rattle.es_text.specs.Skipped.{behind_all, hold_line}
use Rattle.es_lexer.specs.declared.cursor.Cursor.{Cursor}
use Rattle.es_lexer.specs.Cursors.{GoesOn, rest_of}
use Rattle.es_lexer.specs.Pieces.{skipped_from}
use Rattle.es_text.specs.Tokens.{Form, behind_skipped, first_offset, form, skipped_at, token}

pub offset_rest : (text : List ℕ) (at : ℕ) → IsUtf8 text → IsCharBoundary text at → offset_of text (rest text at) ≡ at
unfolding rest
offset_rest text at utf8 boundary =
    let back = ap length (encodes-chars (drop at text) (IsUtf8-drop text at utf8 boundary)) in
    omega (arith, back, length-drop at text, boundary.0)

abbrev pub made : TokenKind → ℕ → ℕ → Bool → Token
made k start end line = record { kind = k; span = record { start = start; end = end }; line_before = line }

-- what is skipped from a cursor on, up to another one
pub record Skips (text : List ℕ) (at : ℕ) (from start : Cursor) : Type 0 where
  pub text_is : from.text.now ≡ text
  pub offset_is : from.offset ≡ at
  pub moves : GoesOn from start
  pub behind : rest_of start ≡ behind_all (rest_of from) (skipped_from from)

boundary_in : (text : List ℕ) (cursor : Cursor) → cursor.text.now ≡ text → IsCharBoundary text cursor.offset
boundary_in text cursor here = subst (λ (t : List ℕ). IsCharBoundary t cursor.offset) here cursor.on_boundary

skipped_is : (text : List ℕ) (at : ℕ) (from start : Cursor) → Skips text at from start → skipped_from from ≡ skipped_at text at
skipped_is text at from start skips = ap (λ t. skipped_at t from.offset) skips.text_is ∙ ap (skipped_at text) skips.offset_is

behind_is : (text : List ℕ) (at : ℕ) (from start : Cursor) → Skips text at from start → rest text start.offset ≡ behind_skipped text at
behind_is text at from start skips =
    ap (λ t. rest t start.offset) (sym (skips.moves.text ∙ skips.text_is))
    ∙ skips.behind
    ∙ ap (behind_all (rest_of from)) (skipped_is text at from start skips)
    ∙ ap (λ t. behind_all (rest t from.offset) (skipped_at text at)) skips.text_is
    ∙ ap (λ n. behind_all (rest text n) (skipped_at text at)) skips.offset_is

pub first_is : (text : List ℕ) (at : ℕ) (from start : Cursor) → IsUtf8 text → Skips text at from start → start.offset ≡ first_offset text at
first_is text at from start utf8 skips =
    sym (offset_rest text start.offset utf8 (boundary_in text start (skips.moves.text ∙ skips.text_is)))
    ∙ ap (offset_of text) (behind_is text at from start skips)

pub first_boundary : (text : List ℕ) (at : ℕ) (from start : Cursor) → IsUtf8 text → Skips text at from start → IsCharBoundary text (first_offset text at)
first_boundary text at from start utf8 skips =
    subst (IsCharBoundary text) (first_is text at from start utf8 skips) (boundary_in text start (skips.moves.text ∙ skips.text_is))

form_in : (text : List ℕ) (at : ℕ) (from start : Cursor) (m : LexMode) → Skips text at from start → form m (rest_of start) ≡ form m (behind_skipped text at)
form_in text at from start m skips =
    ap (λ t. form m (rest t start.offset)) (skips.moves.text ∙ skips.text_is) ∙ ap (form m) (behind_is text at from start skips)

pub read_token : (text : List ℕ) (at : ℕ) (from start end : Cursor) (m : LexMode) (k : TokenKind) (line : Bool)
    → IsUtf8 text → Skips text at from start → GoesOn start end → line ≡ hold_line (skipped_from from)
    → Some (record { kind = k; behind = rest_of end }) ≡ form m (rest_of start)
    → token text at m ≡ Some (made k start.offset end.offset line)
unfolding token
read_token text at from start end m k line utf8 skips moves lines found =
    let F : Form → Token = λ f. made f.kind (first_offset text at) (offset_of text f.behind) (hold_line (skipped_at text at)) in
    let there = moves.text ∙ skips.moves.text ∙ skips.text_is in
    ap (option_map F) (sym (found ∙ form_in text at from start m skips))
    ∙ ap (λ n. Some (made k n (offset_of text (rest_of end)) (hold_line (skipped_at text at)))) (sym (first_is text at from start utf8 skips))
    ∙ ap (λ t. Some (made k start.offset (offset_of text (rest t end.offset)) (hold_line (skipped_at text at)))) there
    ∙ ap (λ n. Some (made k start.offset n (hold_line (skipped_at text at)))) (offset_rest text end.offset utf8 (boundary_in text end there))
    ∙ ap (λ b. Some (made k start.offset end.offset b)) (sym (lines ∙ ap hold_line (skipped_is text at from start skips)))

pub no_token : (text : List ℕ) (at : ℕ) (from start : Cursor) (m : LexMode) → Skips text at from start → None ≡ form m (rest_of start) → token text at m ≡ None
unfolding token
no_token text at from start m skips none =
    let F : Form → Token = λ f. made f.kind (first_offset text at) (offset_of text f.behind) (hold_line (skipped_at text at)) in
    ap (option_map F) (sym (none ∙ form_in text at from start m skips))
