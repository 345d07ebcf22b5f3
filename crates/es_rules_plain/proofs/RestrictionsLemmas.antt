-- Texts that are put together, and members that are counted.
use Rattle.std.proofs.Common.{◌≡◌, ℕ, true, List, [], ◌∷◌, ◌++◌, suc, length, nat_lt, refl, ap, ◌∙◌, IsUtf8}
use Rattle.std.specs.Prelude.{String, codes}
use Rattle.std.specs.List.{list_all}
use Rattle.std.specs.Str.{IsAscii, chars}
use Rattle.std.proofs.lemmas.List.Sums.{AllPass-from_list_all}
use Rattle.std.proofs.lemmas.Str.{IsUtf8-from_ascii, chars-IsAscii, chars-append}
use Rattle.std.proofs.lemmas.Str.Ascii.{IsAscii-from_all}
use borrow.Author.Tests.{ltb-true}
use Rattle.serde_json.specs.View.{members_view}
use Rattle.serde_json.specs.declared.value.Value.{Value}
use Rattle.std.specs.declared.alloc.Global.{Global}
use Rattle.es_rules_plain.specs.Restrictions.{count_members, told_usually}

ascii : (bytes : List ℕ) → list_all (λ byte. nat_lt byte 128) bytes ≡ true → IsAscii bytes
ascii bytes plain = IsAscii-from_all bytes (λ k d within. ltb-true _ _ (AllPass-from_list_all (λ byte. nat_lt byte 128) bytes plain k d within))

pub usual_chars : (selector : List ℕ) → IsUtf8 selector → chars (codes "Using '" ++ (selector ++ codes "' is not allowed.")) ≡ told_usually (chars selector)
unfolding told_usually
usual_chars selector utf8 =
    let front = ascii (codes "Using '") refl in
    let behind = ascii (codes "' is not allowed.") refl in
    chars-append (codes "Using '") (selector ++ codes "' is not allowed.") (IsUtf8-from_ascii (codes "Using '") front)
    ∙ ap (λ text. text ++ chars (selector ++ codes "' is not allowed.")) (chars-IsAscii (codes "Using '") front)
    ∙ ap (λ text. codes "Using '" ++ text) (chars-append selector (codes "' is not allowed.") utf8)
    ∙ ap (λ text. codes "Using '" ++ (chars selector ++ text)) (chars-IsAscii (codes "' is not allowed.") behind)

pub count_entries : (entries : List (String Global × Value)) → length entries ≡ count_members (members_view entries)
count_entries [] = refl
count_entries (entry ∷ entries) = ap suc (count_entries entries)
