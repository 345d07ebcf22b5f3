-- What ends a line.
use Rattle.std.proofs.Common.{◌≡◌, ℕ, Bool, true, false, not, List, [], ◌∷◌, ◌++◌, drop, refl, sym, ap, ◌∙◌, arith, ⊎_elim, encode_utf8, encode_utf8_all, IsUtf8, ◌==◌, ◌≢◌}
use Rattle.std.specs.Prelude.{None}
use Rattle.std.specs.Bool.{MatchBool}
use Rattle.std.specs.Str.{chars}
use Rattle.std.specs.Str.Pattern.{FindsCharPrefix, HasPrefixMatch}
use Rattle.std.proofs.lemmas.Bool.{cases_Bool}
use Rattle.std.proofs.lemmas.Bool.Decides.{nat_tests}
use Rattle.std.proofs.lemmas.Str.{chars_past_char, encodes-chars}
use Rattle.es_text.specs.Texts.{begins_with_line_feed, ends_line}

pub begins-true : (s rest : List ℕ) → IsUtf8 s → s ≡ encode_utf8 10 ++ rest → true ≡ begins_with_line_feed (chars s)
begins-true s rest utf8 splits = sym (ap begins_with_line_feed (chars_past_char s rest 10 utf8 splits))

begins-none : (cs : List ℕ) → ((rest : List ℕ) → encode_utf8_all cs ≢ encode_utf8 10 ++ rest) → false ≡ begins_with_line_feed cs
begins-none [] none = refl
begins-none (c ∷ cs) none =
    ⊎_elim
    (λ (is : c == 10 ≡ true).
    let same : c ≡ 10 = grind (arith, nat_tests) in
    absurd (none (encode_utf8_all cs) (ap (λ n. encode_utf8 n ++ encode_utf8_all cs) same)))
    (λ (other : c == 10 ≡ false). sym other)
    (cases_Bool (c == 10))

pub begins-false : (s : List ℕ) → IsUtf8 s → ((rest : List ℕ) → s ≢ encode_utf8 10 ++ rest) → false ≡ begins_with_line_feed (chars s)
begins-false s utf8 none = begins-none (chars s) (λ rest same. none rest (sym (encodes-chars s utf8) ∙ same))

-- a CR ends a line unless an LF follows it
pub ends_line-return : (cs : List ℕ) (b : Bool) → b ≡ begins_with_line_feed cs → not b ≡ ends_line 13 cs
ends_line-return cs b is = ap not is

-- what `starts_with` answers for an LF
pub begins-is : (s : List ℕ) (b : Bool) → IsUtf8 s → MatchBool b (HasPrefixMatch (FindsCharPrefix 10) s) (FindsCharPrefix 10 s None)
    → b ≡ begins_with_line_feed (chars s)
begins-is s true utf8 found = begins-true s (drop found.0 s) utf8 found.1.split
begins-is s false utf8 none = begins-false s utf8 none
