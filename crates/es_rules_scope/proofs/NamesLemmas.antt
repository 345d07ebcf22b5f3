-- Names in quotation marks.
use Rattle.std.proofs.Common.{◌≡◌, ◌∙◌, ℕ, true, List, ◌++◌, nat_lt, refl, ap, IsUtf8}
use Rattle.std.specs.Prelude.{codes}
use Rattle.std.specs.List.{list_all}
use Rattle.std.specs.Str.{IsAscii, chars}
use Rattle.std.proofs.lemmas.List.Sums.{AllPass-from_list_all}
use Rattle.std.proofs.lemmas.Str.{IsUtf8-from_ascii, chars-IsAscii, chars-append}
use Rattle.std.proofs.lemmas.Str.Ascii.{IsAscii-from_all}
use borrow.Author.Tests.{ltb-true}
use Rattle.es_rules_scope.specs.Names.{quoted}

ascii : (bytes : List ℕ) → list_all (λ byte. nat_lt byte 128) bytes ≡ true → IsAscii bytes
ascii bytes plain = IsAscii-from_all bytes (λ k d within. ltb-true _ _ (AllPass-from_list_all (λ byte. nat_lt byte 128) bytes plain k d within))

pub quoted_chars : (name rest : List ℕ) → IsUtf8 name → list_all (λ byte. nat_lt byte 128) rest ≡ true
    → chars (codes "'" ++ (name ++ rest)) ≡ quoted (chars name) rest
quoted_chars name rest utf8 plain =
    let front = ascii (codes "'") refl in
    let behind = ascii rest plain in
    chars-append (codes "'") (name ++ rest) (IsUtf8-from_ascii (codes "'") front)
    ∙ ap (λ text. text ++ chars (name ++ rest)) (chars-IsAscii (codes "'") front)
    ∙ ap (λ text. codes "'" ++ text) (chars-append name rest utf8)
    ∙ ap (λ text. codes "'" ++ (chars name ++ text)) (chars-IsAscii rest behind)
