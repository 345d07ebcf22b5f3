-- Comments stand in the order of their places.
use Rattle.std.proofs.Common.{◌≡◌, ℕ, zero, suc, ◌<◌, ◌≤◌, ◌==◌, Bool, false, List, [], ◌∷◌, ◌++◌, length, slice_index_or, Option, Some, None, ap, IsUtf8, arith}
use Rattle.std.specs.Option.{option_map, option_map_or}
use Rattle.std.specs.Str.{IsCharBoundary}
use Rattle.std.specs.List.Sorted.{IsNonDecreasingBy}
use Rattle.es_text.specs.declared.token.Comment.{Comment}
use Rattle.es_text.specs.declared.token.LexMode.{LexMode}
use Rattle.es_text.specs.declared.token.Token.{Token}
use Rattle.es_text.specs.Rest.{offset_of, rest}
use Rattle.es_text.specs.Skipped.{Piece, PieceKind, behind_all, blank, comment, comment_of, comments_among, hold_line, piece, pieces}
use Rattle.es_text.specs.Tokens.{Form, behind_skipped, comments_between, first_offset, form, skipped_at, token}
use Rattle.es_text.specs.Within.{IsWithin, TokensLie}
use Rattle.es_text.proofs.RestLemmas.{offset-behind, offset-order, suffix-all}
use Rattle.es_text.proofs.SkippedLemmas.{PieceFollows, follows-piece}
use Rattle.es_host.proofs.ReadTokensLemmas.{AreRead}

-- comments that begin one behind the other, from one offset up to another
abbrev pub Rise : ℕ → List Comment → ℕ → Type 0
Rise low [] high = low ≤ high
Rise low (first ∷ rest) high = (low ≤ first.span.start) × Rise first.span.start rest high

rise-earlier : (low mid high : ℕ) (comments : List Comment) → low ≤ mid → Rise mid comments high → Rise low comments high
rise-earlier low mid high [] order rise = omega (arith, order, rise)
rise-earlier low mid high (first ∷ rest) order rise = (omega (arith, order, rise.0), rise.1)

rise-append : (low mid high : ℕ) (comments more : List Comment) → Rise low comments mid → Rise mid more high → Rise low (comments ++ more) high
rise-append low mid high [] more one other = rise-earlier low mid high more one other
rise-append low mid high (first ∷ rest) more one other = (one.0, rise-append first.span.start mid high rest more one.1 other)

begins-behind : (low high : ℕ) (comments : List Comment) → Rise low comments high → (k : ℕ) (d : Comment) → k < length comments
    → low ≤ (slice_index_or comments k d).span.start
begins-behind low high [] rise k d within = absurd (omega (arith, within))
begins-behind low high (first ∷ rest) rise zero d within = rise.0
begins-behind low high (first ∷ rest) rise (suc k) d within =
    omega (arith, rise.0, begins-behind first.span.start high rest rise.1 k d (omega (arith, within)))

pub in-order : (low high : ℕ) (comments : List Comment) → Rise low comments high → IsNonDecreasingBy (λ comment. comment.span.start) comments
in-order low high [] rise i j d order within = absurd (omega (arith, within))
in-order low high (first ∷ rest) rise zero zero d order within = omega arith
in-order low high (first ∷ rest) rise zero (suc j) d order within = begins-behind first.span.start high rest rise.1 j d (omega (arith, within))
in-order low high (first ∷ rest) rise (suc i) zero d order within = absurd (omega (arith, order))
in-order low high (first ∷ rest) rise (suc i) (suc j) d order within = in-order first.span.start high rest rise.1 i j d (omega (arith, order)) (omega (arith, within))

module _ (text : List ℕ) where
  -- the comments among pieces, with which the characters begin
  among-piece : (turns : ℕ)
      → ((cs : List ℕ) → Rise (offset_of text cs) (comments_among text cs (pieces turns false cs)) (offset_of text (behind_all cs (pieces turns false cs))))
      → (cs : List ℕ) (o : Option Piece) → PieceFollows cs o
      → Rise (offset_of text cs) (comments_among text cs (option_map_or (λ p. p ∷ pieces turns false p.behind) o []))
      (offset_of text (behind_all cs (option_map_or (λ p. p ∷ pieces turns false p.behind) o [])))
  among-piece turns more cs None follows = omega arith
  among-piece turns more cs (Some found) follows =
      rise-append (offset_of text cs) (offset_of text found.behind) _ (comment_of text cs found.kind found.behind)
      (comments_among text found.behind (pieces turns false found.behind)) (one found.kind) (more found.behind)
    where
      one : (kind : PieceKind) → Rise (offset_of text cs) (comment_of text cs kind found.behind) (offset_of text found.behind)
      one blank = offset-order text cs found.behind follows
      one (comment block) = (omega arith, offset-order text cs found.behind follows)

  among-pieces : (turns : ℕ) (first : Bool) (cs : List ℕ)
      → Rise (offset_of text cs) (comments_among text cs (pieces turns first cs)) (offset_of text (behind_all cs (pieces turns first cs)))
  unfolding pieces
  among-pieces zero first cs = omega arith
  among-pieces (suc turns) first cs = among-piece turns (among-pieces turns false) cs (piece first cs) (follows-piece first cs)

  -- those before a token
  token-starts : (at : ℕ) (mode : LexMode) (found : Token) → token text at mode ≡ Some found → first_offset text at ≡ found.span.start
  unfolding token
  token-starts at mode found is = of_form (form mode (behind_skipped text at)) is
    where
      token_of : Form → Token
      token_of f = record {
        kind = f.kind;
        span = record { start = first_offset text at; end = offset_of text f.behind };
        line_before = hold_line (skipped_at text at);
      }

      of_form : (o : Option Form) → option_map token_of o ≡ Some found → first_offset text at ≡ found.span.start
      of_form None is = absurd cc
      of_form (Some f) is = let same : token_of f ≡ found = cc in ap (λ (t : Token). t.span.start) same

  abbrev text_from : ℕ → List ℕ
  text_from at = rest text at

  module _ (utf8 : IsUtf8 text) (lie : TokensLie) where
    pub comments-rise : (at : ℕ) (tokens : List Token) (to : ℕ) → IsCharBoundary text at → AreRead text at tokens to → Rise at (comments_between text at tokens) to
    comments-rise at [] to boundary read = omega (arith, read)
    comments-rise at (found ∷ more) to boundary read =
        let within : IsWithin text at found = lie text at read.0.0 found utf8 boundary read.0.1 in
        let starts : first_offset text at ≡ found.span.start = token-starts at read.0.0 found read.0.1 in
        let low = offset-behind text at utf8 boundary (text_from at) (suffix-all (text_from at)) in
        let gap : Rise (offset_of text (text_from at)) (comments_among text (text_from at) (skipped_at text at)) (first_offset text at) =
        among-pieces (length (text_from at)) (at == 0) (text_from at) in
        let order : first_offset text at ≤ found.span.end = omega (arith, starts, within.order) in
        rise-earlier at (offset_of text (text_from at)) to _ low
        (rise-append (offset_of text (text_from at)) (first_offset text at) to (comments_among text (text_from at) (skipped_at text at)) (comments_between text found.span.end more) gap
        (rise-earlier (first_offset text at) found.span.end to (comments_between text found.span.end more) order (comments-rise found.span.end more to within.end read.1)))
