-- UTF-16 code units are counted by the bytes that begin characters.
use Rattle.std.proofs.Common.{◌≡◌, ℕ, suc, ◌+◌, ◌-◌, ◌/◌, ◌<◌, ◌≤◌, false, List, [], ◌∷◌, ◌++◌, length, take, drop, refl, sym, ap, ◌∙◌, arith, ⊎_elim, take-append-drop, encode_utf8, encode_utf8_all, IsUtf8, lt-ltb, le-ltb, ◌==◌}
use Rattle.std.specs.Char.{len_utf8}
use Rattle.std.specs.Str.{chars, IsAscii, IsCharBoundary}
use Rattle.std.proofs.lemmas.Bool.{cases_lt, cond-false}
use Rattle.std.proofs.lemmas.Bool.Decides.{nat_tests}
use Rattle.std.proofs.lemmas.List.{length-take-le, take-take, drop-take}
use Rattle.std.proofs.lemmas.List.Sums.{sum_by-cons, sum_by-append, sum_by-take-drop}
use Rattle.std.proofs.lemmas.Str.{chars-append, encodes-chars, len_utf8_bounds, IsAscii-take, IsUtf8-take}
use lib.Utf8.{encode, next}
use Rattle.es_text.specs.Texts.{len_utf16, units_at}
use Rattle.es_text.specs.UnitCounts.{units_begun, units_begun_in}
use Rattle.es_text.proofs.PlaceLemmas.{bytes_of, bytes_of-cons, units_of}

-- a byte that continues a character begins none
next-none : (bits : ℕ) → units_begun (next bits) ≡ 0
next-none bits = grind (arith, nat_tests)

one-byte : (c : ℕ) → c < 128 → encode c ≡ c ∷ []
unfolding encode
one-byte c low = rw (lt-ltb c 128 low)

two-bytes : (c : ℕ) → 128 ≤ c → c < 2048 → encode c ≡ (192 + c / 64) ∷ next c ∷ []
unfolding encode
two-bytes c high low = rw (le-ltb c 128 high, lt-ltb c 2048 low)

three-bytes : (c : ℕ) → 2048 ≤ c → c < 65536 → encode c ≡ (224 + c / 4096) ∷ next (c / 64) ∷ next c ∷ []
unfolding encode
three-bytes c high low = rw (le-ltb c 128 (omega arith), le-ltb c 2048 high, lt-ltb c 65536 low)

four-bytes : (c : ℕ) → 65536 ≤ c → encode c ≡ (240 + c / 262144) ∷ next (c / 4096) ∷ next (c / 64) ∷ next c ∷ []
unfolding encode
four-bytes c high = rw (le-ltb c 128 (omega arith), le-ltb c 2048 (omega arith), le-ltb c 65536 high)

-- a character's first byte tells its units
begun-character : (c : ℕ) → units_begun_in (encode_utf8 c) ≡ len_utf16 c
begun-character c =
    ⊎_elim
    (λ (below : c < 128). ap units_begun_in (one-byte c below) ∙ grind (arith, nat_tests))
    (λ (above : 128 ≤ c).
    ⊎_elim
    (λ (below : c < 2048). ap units_begun_in (two-bytes c above below) ∙ grind (arith, nat_tests, next-none c))
    (λ (higher : 2048 ≤ c).
    ⊎_elim
    (λ (below : c < 65536). ap units_begun_in (three-bytes c higher below) ∙ grind (arith, nat_tests, next-none c, next-none (c / 64)))
    (λ (highest : 65536 ≤ c). ap units_begun_in (four-bytes c highest) ∙ grind (arith, nat_tests, next-none c, next-none (c / 64), next-none (c / 4096)))
    (cases_lt c 65536))
    (cases_lt c 2048))
    (cases_lt c 128)

-- the bytes of a text begin its units
pub begun-encodes : (cs : List ℕ) → units_begun_in (encode_utf8_all cs) ≡ units_of cs
begun-encodes [] = refl
begun-encodes (c ∷ cs) =
    omega (arith, sum_by-append units_begun (encode_utf8 c) (encode_utf8_all cs), begun-character c, begun-encodes cs)

units_at-none : (cs : List ℕ) → units_at cs 0 ≡ 0
units_at-none [] = refl
units_at-none (c ∷ cs) = refl

-- the units before the byte at which a front of the characters ends
units_at-front : (front back : List ℕ) → units_at (front ++ back) (bytes_of front) ≡ units_of front
units_at-front [] back = units_at-none back
units_at-front (c ∷ front) back =
    let bytes = bytes_of (c ∷ front) in
    let some : 0 < bytes = omega (arith, bytes_of-cons c front, (len_utf8_bounds c).0) in
    let left : bytes - len_utf8 c ≡ bytes_of front = omega (arith, bytes_of-cons c front) in
    let more : bytes == 0 ≡ false = grind (arith, nat_tests) in
    cond-false _ _ _ more
    ∙ ap (λ n. len_utf16 c + units_at (front ++ back) n) left
    ∙ ap (λ n. len_utf16 c + n) (units_at-front front back)

-- the bytes before a character's begin the units before it
pub begun-units_at : (text : List ℕ) (at : ℕ) → IsUtf8 text → IsCharBoundary text at
    → units_begun_in (take at text) ≡ units_at (chars text) at
begun-units_at text at utf8 boundary =
    let front_utf8 = IsUtf8-take text at utf8 boundary in
    let front = chars (take at text) in
    let written = encodes-chars (take at text) front_utf8 in
    let end : bytes_of front ≡ at = ap length written ∙ length-take-le at text boundary.0 in
    let joined : chars text ≡ front ++ chars (drop at text) = ap chars (sym (take-append-drop at text)) ∙ chars-append (take at text) (drop at text) front_utf8 in
    ap units_begun_in (sym written)
    ∙ begun-encodes front
    ∙ sym (units_at-front front (chars (drop at text)))
    ∙ ap (units_at (front ++ chars (drop at text))) end
    ∙ ap (λ cs. units_at cs at) (sym joined)

units-le-bytes : (cs : List ℕ) → units_of cs ≤ bytes_of cs
units-le-bytes [] = omega arith
units-le-bytes (c ∷ cs) =
    let here : len_utf16 c ≤ len_utf8 c = grind (arith, nat_tests) in
    omega (arith, here, units-le-bytes cs, bytes_of-cons c cs)

-- a text has no more units than bytes
pub begun-le-at : (text : List ℕ) (at : ℕ) → IsUtf8 text → IsCharBoundary text at → units_begun_in (take at text) ≤ at
begun-le-at text at utf8 boundary =
    let written = encodes-chars (take at text) (IsUtf8-take text at utf8 boundary) in
    let front = chars (take at text) in
    omega (
      arith,
      ap units_begun_in written,
      begun-encodes front,
      units-le-bytes front,
      ap length written,
      length-take-le at text boundary.0,
    )

pub begun-le-two : (byte : ℕ) → units_begun byte ≤ 2
begun-le-two byte = grind (arith, nat_tests)

begun-all-ascii : (bytes : List ℕ) → IsAscii bytes → units_begun_in bytes ≡ length bytes
begun-all-ascii [] ascii = refl
begun-all-ascii (b ∷ bytes) ascii =
    let below : b < 128 = ascii 0 in
    let here : units_begun b ≡ 1 = grind (arith, nat_tests) in
    omega (arith, here, sum_by-cons units_begun b bytes, begun-all-ascii bytes (λ i. ascii (suc i)))

-- in ASCII a byte is a unit
pub begun-ascii : (bytes : List ℕ) (at : ℕ) → IsAscii bytes → at ≤ length bytes → at ≡ units_begun_in (take at bytes)
begun-ascii bytes at ascii within =
    sym (length-take-le at bytes within) ∙ sym (begun-all-ascii (take at bytes) (IsAscii-take bytes at ascii))

-- the units that begin up to a byte are those up to an earlier one, and those since
pub begun-parts : (bytes : List ℕ) (start len : ℕ)
    → units_begun_in (take (start + len) bytes) ≡ units_begun_in (take start bytes) + units_begun_in (take len (drop start bytes))
begun-parts bytes start len =
    let front = ap units_begun_in (take-take start (start + len) bytes (omega arith)) in
    let back = ap units_begun_in (drop-take start len bytes) in
    omega (arith, sum_by-take-drop units_begun (take (start + len) bytes) start, front, back)
