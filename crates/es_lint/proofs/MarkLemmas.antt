-- The byte order mark in UTF-8.
use Rattle.std.proofs.Common.{◌≡◌, ℕ, List, [], ◌∷◌, refl}
use Rattle.std.specs.Str.{chars}
use Rattle.es_text.specs.Texts.{byte_order_mark}

pub mark_chars : (bytes : List ℕ) → chars (0xEF ∷ 0xBB ∷ 0xBF ∷ bytes) ≡ byte_order_mark ∷ chars bytes
unfolding chars
mark_chars [] = refl
mark_chars (byte ∷ bytes) = refl
