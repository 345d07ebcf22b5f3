-- Tokens lie in their text.
use Rattle.std.proofs.Common.{◌≡◌, ℕ, ◌≤◌, List, subst, ◌==◌, IsUtf8}
use Rattle.std.specs.Prelude.{Option, Some, None}
use Rattle.std.specs.Option.{option_map}
use Rattle.std.specs.Str.{IsCharBoundary}
use Rattle.es_text.specs.declared.token.LexMode.{LexMode}
use Rattle.es_text.specs.declared.token.Token.{Token}
use Rattle.es_text.specs.Rest.{rest, offset_of}
use Rattle.es_text.specs.Skipped.{hold_line}
use Rattle.es_text.specs.Tokens.{Form, behind_skipped, first_offset, form, skipped_at, token}
use Rattle.es_text.specs.Within.{IsWithin}
use Rattle.es_text.proofs.RestLemmas.{IsSuffix, offset-behind, offset-boundary, offset-order, suffix-further}
use Rattle.es_text.proofs.SkippedLemmas.{suffix-skipped}
use Rattle.es_text.proofs.TokensLemmas.{FormFollows, form-follows}

module _ (text : List ℕ) (at : ℕ) (utf8 : IsUtf8 text) (boundary : IsCharBoundary text at) where
  skipped-left : IsSuffix (rest text at) (behind_skipped text at)
  skipped-left = suffix-skipped (at == 0) (rest text at)

  pub first_offset-lies : (at ≤ first_offset text at) × IsCharBoundary text (first_offset text at)
  first_offset-lies = (
    offset-behind text at utf8 boundary (behind_skipped text at) skipped-left,
    offset-boundary text at utf8 boundary (behind_skipped text at) skipped-left,
  )

  -- the token of a form
  abbrev token_of : Form → Token
  token_of found = record {
    kind = found.kind;
    span = record { start = first_offset text at; end = offset_of text found.behind };
    line_before = hold_line (skipped_at text at);
  }

  form-within : (found : Form) → IsSuffix (behind_skipped text at) found.behind → IsWithin text at (token_of found)
  form-within found left = record {
    behind = first_offset-lies.0;
    order = offset-order text (behind_skipped text at) found.behind left;
    start = first_offset-lies.1;
    end = offset-boundary text at utf8 boundary found.behind (suffix-further (rest text at) (behind_skipped text at) found.behind skipped-left left);
  }

  forms-within : (o : Option Form) (found : Token) → FormFollows (behind_skipped text at) o → option_map token_of o ≡ Some found → IsWithin text at found
  forms-within None found follows is = cc
  forms-within (Some one) found follows is =
      let same : token_of one ≡ found = cc in
      subst (IsWithin text at) same (form-within one follows)

  pub token-within : (m : LexMode) (found : Token) → token text at m ≡ Some found → IsWithin text at found
  unfolding token
  token-within m found is = forms-within (form m (behind_skipped text at)) found (form-follows m (behind_skipped text at)) is
