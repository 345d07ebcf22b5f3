-- The comments of a file lie in its text.
use Rattle.std.proofs.Common.{◌≡◌, ◌∙◌, ℕ, true, cond, List, [], ◌∷◌, ap, refl, sym, subst, arith}
use Rattle.std.proofs.lemmas.Bool.Decides.{nat_tests}
use Rattle.std.specs.Prelude.{nat_le}
use Rattle.std.specs.List.{All, filter}
use Rattle.std.specs.Str.{IsCharBoundary, IsUtf8}
use Rattle.es_text.specs.declared.token.Token.{Token}
use Rattle.es_text.specs.Spans.{PartsLie}
use Rattle.es_text.specs.Texts.{text_bytes}
use Rattle.es_text.specs.Within.{CommentsLie}
use Rattle.es_host.specs.Files.{File, IsWhole}
use Rattle.es_host.specs.TokensAround.{AreInside, tokens_from}
use Rattle.es_messages.specs.Directives.{comments_fit}

from_zero : (n : ℕ) → nat_le 0 n ≡ true
from_zero n = grind (arith, nat_tests)

all_from_start : (tokens : List Token) → filter (λ token. nat_le 0 token.span.start) tokens ≡ tokens
all_from_start [] = refl
all_from_start (token ∷ tokens) =
    let rest : List Token = filter (λ token. nat_le 0 token.span.start) tokens in
    ap (λ b. cond b (token ∷ rest) rest) (from_zero token.span.start) ∙ ap (λ more. token ∷ more) (all_from_start tokens)

pub comments_within : (file : File) → IsWhole file → PartsLie → CommentsLie → IsUtf8 (text_bytes file.text) → IsCharBoundary (text_bytes file.text) 0
    → AreInside file (tokens_from file 0) → comments_fit (text_bytes file.text) file.parsed.comments ≡ true
comments_within file whole parts comments utf8 start inside =
    let bytes : List ℕ = text_bytes file.text in
    let all : AreInside file file.parsed.tokens = subst (AreInside file) (all_from_start file.parsed.tokens) inside in
    let ends : All (λ (token : Token). IsCharBoundary bytes token.span.end) file.parsed.tokens =
    λ k d within. ((parts bytes _).0 (all k d within)).end in
    subst (λ cs. comments_fit bytes cs ≡ true) (sym whole.parsed.comments) (comments bytes 0 file.parsed.tokens utf8 start ends)
