-- The bytes of the lines at the end.
use Rattle.std.proofs.Common.{◌≡◌, ℕ, ◌<◌, ◌^◌, [], ◌∷◌, ◌++◌, codes, encode_utf8_all, refl, append_assoc, lit<, Bool, true, false, ◌==◌, if◌then◌else◌}
use Rattle.std.proofs.lemmas.Str.{encodes-append}
use Rattle.std.proofs.lemmas.Str.Ascii.{encodes-IsAscii, IsAscii-cons, IsAscii-nil}
use Rattle.std.proofs.lemmas.Fmt.{IsAscii-decimal}
use Rattle.std.specs.Str.{IsAscii}
use Rattle.std.specs.Fmt.{decimal}
use lib.Utf8.{encode}
use Rattle.es_format.specs.Stylish.{counted, ending_of, fixable_end, fixable_text, line_end, summary}

IsAscii-ending : (number : ℕ) → IsAscii (ending_of number)
IsAscii-ending number = cases (number == 1)
  where
    cases : (one : Bool) → IsAscii (if one then [] else codes "s")
    cases true = IsAscii-nil
    cases false = IsAscii-cons 115 [] (lit< tt) IsAscii-nil

encodes-decimal : (number : ℕ) → number < 2 ^ 64 → encode_utf8_all (decimal number) ≡ decimal number
encodes-decimal number small = encodes-IsAscii (decimal number) (IsAscii-decimal number small)

encodes-ending : (number : ℕ) → encode_utf8_all (ending_of number) ≡ ending_of number
encodes-ending number = encodes-IsAscii (ending_of number) (IsAscii-ending number)

-- the bytes of the numbers of problems
pub encodes-summary : (problems errors warnings : ℕ) → problems < 2 ^ 64 → errors < 2 ^ 64 → warnings < 2 ^ 64
    → encode_utf8_all (summary problems errors warnings)
    ≡ (226 ∷ 156 ∷ 150 ∷ codes " ") ++ (counted problems (codes "problem")
    ++ (codes " (" ++ (counted errors (codes "error")
    ++ (codes ", " ++ (counted warnings (codes "warning") ++ (codes ")" ++ line_end))))))
unfolding encode
encodes-summary problems errors warnings small-p small-e small-w =
    simp (encodes-append, append_assoc, encodes-decimal problems small-p, encodes-decimal errors small-e, encodes-decimal warnings small-w, encodes-ending)

encodes-fixable_end : encode_utf8_all fixable_end ≡ fixable_end
unfolding fixable_end encode
encodes-fixable_end = refl

-- the bytes of the line of the problems that have a fix
pub encodes-fixable_text : (errors warnings : ℕ) → errors < 2 ^ 64 → warnings < 2 ^ 64
    → encode_utf8_all (fixable_text errors warnings) ≡ fixable_text errors warnings
unfolding encode
encodes-fixable_text errors warnings small-e small-w =
    simp (encodes-append, append_assoc, encodes-decimal errors small-e, encodes-decimal warnings small-w, encodes-ending, encodes-fixable_end)
