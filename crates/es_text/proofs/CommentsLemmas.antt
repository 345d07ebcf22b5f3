-- Comments lie in their text.
use Rattle.std.proofs.Common.{◌≡◌, ℕ, zero, suc, Bool, true, false, List, [], ◌∷◌, ◌++◌, length, refl, ◌∙◌, arith, IsUtf8, ◌==◌}
use Rattle.std.specs.Prelude.{All, Option, Some, None}
use Rattle.std.specs.List.{list_all}
use Rattle.std.specs.Option.{option_map_or}
use Rattle.std.specs.Str.{IsCharBoundary}
use Rattle.std.proofs.lemmas.Bool.{and_from}
use Rattle.std.proofs.lemmas.List.Folds.{list_all-append}
use Rattle.es_text.specs.declared.token.Comment.{Comment}
use Rattle.es_text.specs.declared.token.Token.{Token}
use Rattle.es_text.specs.Rest.{rest, offset_of}
use Rattle.es_text.specs.Skipped.{PieceKind, blank, comment, Piece, comment_of, comments_among, piece, pieces}
use Rattle.es_text.specs.Spans.{is_part}
use Rattle.es_text.specs.Tokens.{comments_between, skipped_at}
use Rattle.es_text.proofs.RestLemmas.{IsSuffix, offset-boundary, offset-order, suffix-all, suffix-further}
use Rattle.es_text.proofs.SkippedLemmas.{PieceFollows, follows-piece}
use Rattle.es_text.proofs.SpansLemmas.{part-told}

-- the comments lie in the text
abbrev pub comments_fit : List ℕ → List Comment → Bool
comments_fit text comments = list_all (λ comment. is_part text comment.span) comments

comments-append : (text : List ℕ) (comments more : List Comment) → comments_fit text comments ≡ true → comments_fit text more ≡ true → comments_fit text (comments ++ more) ≡ true
comments-append text comments more one other =
    list_all-append (λ (found : Comment). is_part text found.span) comments more
    ∙ and_from (comments_fit text comments) (comments_fit text more) one other

module _ (text : List ℕ) (at : ℕ) (utf8 : IsUtf8 text) (boundary : IsCharBoundary text at) where
  comment-fits : (cs behind : List ℕ) (kind : PieceKind) → IsSuffix (rest text at) cs → IsSuffix cs behind → comments_fit text (comment_of text cs kind behind) ≡ true
  comment-fits cs behind blank here left = refl
  comment-fits cs behind (comment block) here left =
      let own = part-told text (record { start = offset_of text cs; end = offset_of text behind }) (record {
        order = offset-order text cs behind left;
        start = offset-boundary text at utf8 boundary cs here;
        end = offset-boundary text at utf8 boundary behind (suffix-further (rest text at) cs behind here left);
      }) in
      and_from (is_part text (record { start = offset_of text cs; end = offset_of text behind })) true own refl

  -- those among the pieces, where those among all further pieces are known to
  comments-piece : (turns : ℕ) → ((cs : List ℕ) → IsSuffix (rest text at) cs → comments_fit text (comments_among text cs (pieces turns false cs)) ≡ true)
      → (cs : List ℕ) (o : Option Piece) → IsSuffix (rest text at) cs → PieceFollows cs o
      → comments_fit text (comments_among text cs (option_map_or (λ found. found ∷ pieces turns false found.behind) o [])) ≡ true
  comments-piece turns more cs None here follows = refl
  comments-piece turns more cs (Some found) here follows =
      comments-append text (comment_of text cs found.kind found.behind) (comments_among text found.behind (pieces turns false found.behind))
      (comment-fits cs found.behind found.kind here follows)
      (more found.behind (suffix-further (rest text at) cs found.behind here follows))

  comments-pieces : (turns : ℕ) (first : Bool) (cs : List ℕ) → IsSuffix (rest text at) cs → comments_fit text (comments_among text cs (pieces turns first cs)) ≡ true
  unfolding pieces
  comments-pieces zero first cs here = refl
  comments-pieces (suc turns) first cs here =
      comments-piece turns (comments-pieces turns false) cs (piece first cs) here (follows-piece first cs)

  comments-skipped : comments_fit text (comments_among text (rest text at) (skipped_at text at)) ≡ true
  comments-skipped = comments-pieces (length (rest text at)) (at == 0) (rest text at) (suffix-all (rest text at))

pub comments-lie : (text : List ℕ) (at : ℕ) (found : List Token) → IsUtf8 text → IsCharBoundary text at → All (λ one. IsCharBoundary text one.span.end) found
    → comments_fit text (comments_between text at found) ≡ true
comments-lie text at [] utf8 boundary ends = refl
comments-lie text at (one ∷ more) utf8 boundary ends =
    comments-append text (comments_among text (rest text at) (skipped_at text at)) (comments_between text one.span.end more)
    (comments-skipped text at utf8 boundary)
    (comments-lie text one.span.end more utf8 (ends 0 one (omega arith)) (λ k d less. ends (suc k) d (omega (arith, less))))
