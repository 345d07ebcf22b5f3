-- The place that a source finds.
use Rattle.std.proofs.Common.{◌≡◌, ℕ, ◌+◌, ◌-◌, ◌<◌, ◌≤◌, Bool, true, false, List, [], ◌∷◌, ◌++◌, length, get_or, take, drop, leb, leb-true, sym, ap, subst, ◌∙◌, arith, ⊎_elim, append_assoc, zero-add, take-append-drop, encode_utf8_all, IsUtf8}
use Rattle.std.specs.Char.{len_utf8}
use Rattle.std.specs.Str.{chars, IsCharBoundary}
use Rattle.std.specs.List.Sorted.{IsNonDecreasing, IsPartitionPoint}
use Rattle.std.proofs.lemmas.Bool.{cases_Bool, cases_lt, leb-false}
use Rattle.std.proofs.lemmas.List.{get_or_default, length-take-le, take_at}
use Rattle.std.proofs.lemmas.Str.{chars-append, encodes-append, encodes-chars, length-le-encodes, IsUtf8-take}
use Rattle.es_text.specs.LineStarts.{later_starts, line_starts, IsLineAt}
use Rattle.es_text.specs.Texts.{Text, ends_line, place_at, text_bytes}
use Rattle.es_text.specs.UnitCounts.{units_begun_in}
use Rattle.es_text.proofs.PlaceLemmas.{bytes_of, bytes_of-append, units_of, units_of-append, line_starts-rise, later_starts-ends, later_starts-runs, place-line}
use Rattle.es_text.proofs.UnitCountLemmas.{begun-encodes}

-- what the search over the line starts has found
pub IsLineAt-from_point : (starts : List ℕ) (at n : ℕ) → 0 < length starts → get_or starts 0 0 ≤ at
    → IsPartitionPoint (λ y. leb y at ≡ true) (λ y. leb y at ≡ false) starts n → n ≤ length starts
    → (1 ≤ n) × IsLineAt starts (n - 1) at
IsLineAt-from_point starts at n some first point bound =
    let counted : 1 ≤ n =
    ⊎_elim (λ (more : 0 < n). omega arith)
    (λ (none : n ≤ 0). absurd (omega (arith, leb-false (get_or starts 0 0) at (point.1 0 0 none some))))
    (cases_lt 0 n) in (
      counted,
      record {
        within = omega arith;
        reached = leb-true (get_or starts (n - 1) 0) at (point.0 (n - 1) 0 (omega arith) (omega arith));
        beyond = λ i after inside. leb-false (get_or starts i 0) at (point.1 i 0 (omega arith) inside);
      },
    )

-- the line that starts at this byte of a text, and its place
pub record FoundLine (text : List ℕ) (at start line : ℕ) : Type 0 where
  pub few : line ≤ length text
  pub units : ℕ
  pub counted : units_begun_in (take at text) ≡ units_begun_in (take start text) + units
  pub place_is : place_at (chars text) at ≡ record { line = line + 1; column = units + 1 }

later_starts-few : (cs : List ℕ) (at : ℕ) → length (later_starts at cs) ≤ length cs
later_starts-few [] at = omega arith
later_starts-few (c ∷ cs) at =
    ⊎_elim
    (λ ends. omega (arith, ap length (later_starts-ends at c cs ends), later_starts-few cs (at + len_utf8 c)))
    (λ runs. omega (arith, ap length (later_starts-runs at c cs runs), later_starts-few cs (at + len_utf8 c)))
    (cases_Bool (ends_line c cs))

-- the units that begin in the front of a text that is written in two parts
begun-front : (text : List ℕ) (n : ℕ) (front back : List ℕ) → IsUtf8 text → chars text ≡ front ++ back → n ≡ bytes_of front
    → units_begun_in (take n text) ≡ units_of front
begun-front text n front back utf8 splits end =
    let written : text ≡ encode_utf8_all front ++ encode_utf8_all back =
    sym (encodes-chars text utf8) ∙ ap encode_utf8_all splits ∙ encodes-append front back in
    ap (λ t. units_begun_in (take n t)) written
    ∙ ap units_begun_in (take_at (encode_utf8_all front) (encode_utf8_all back) n (sym end))
    ∙ begun-encodes front

located : (text : List ℕ) (at start line : ℕ) (front part rest : List ℕ) → IsUtf8 text → line ≤ length text
    → chars text ≡ front ++ (part ++ rest) → start ≡ bytes_of front → at ≡ bytes_of front + bytes_of part
    → place_at (chars text) at ≡ record { line = 1 + line; column = 1 + units_of part } → FoundLine text at start line
located text at start line front part rest utf8 few splits start_is end place =
    let lines : 1 + line ≡ line + 1 = omega arith in
    let columns : 1 + units_of part ≡ units_of part + 1 = omega arith in
    let before = begun-front text start front (part ++ rest) utf8 splits start_is in
    let upto = begun-front text at (front ++ part) rest utf8 (splits ∙ sym (append_assoc front part rest)) (end ∙ sym (bytes_of-append front part)) in
    record {
      few = few;
      units = units_of part;
      counted = omega (arith, before, upto, units_of-append front part);
      place_is = place ∙ ap (λ n. record { line = n; column = 1 + units_of part }) lines ∙ ap (λ n. record { line = line + 1; column = n }) columns;
    }

pub found : (text : List ℕ) (at k : ℕ) → IsUtf8 text → IsCharBoundary text at → IsLineAt (line_starts (chars text)) k at
    → FoundLine text at (get_or (line_starts (chars text)) k 0) k
found text at k utf8 boundary is =
    let upto = chars (take at text) in
    let rest = chars (drop at text) in
    let front_utf8 = IsUtf8-take text at utf8 boundary in
    let joined : chars text ≡ upto ++ rest = ap chars (sym (take-append-drop at text)) ∙ chars-append (take at text) (drop at text) front_utf8 in
    let end : at ≡ 0 + bytes_of upto =
    omega (arith, ap length (encodes-chars (take at text) front_utf8), length-take-le at text boundary.0) in
    let P : List ℕ → Type 0 = λ cs. IsLineAt (line_starts cs) k at in
    let there : IsLineAt (line_starts (upto ++ rest)) k at = subst P joined is in
    let Q : ℕ → Type 0 = λ n. IsLineAt (line_starts (upto ++ rest)) k n in
    let line = place-line [] upto rest 0 0 1 1 k (omega arith) (omega arith) (subst Q end there) in
    let start_is : get_or (line_starts (chars text)) k 0 ≡ bytes_of line.front =
    ap (λ cs. get_or (line_starts cs) k 0) joined ∙ line.from_is ∙ zero-add (bytes_of line.front) in
    let place : place_at (chars text) at ≡ record { line = 1 + k; column = 1 + units_of line.part } =
    ap (λ cs. place_at cs at) joined ∙ ap (λ n. place_at (upto ++ rest) n) (end ∙ zero-add (bytes_of upto)) ∙ line.place_is in
    let few : k ≤ length text = omega (arith, is.within, later_starts-few (chars text) 0, length-le-encodes (chars text), ap length (encodes-chars text utf8)) in
    located text at (get_or (line_starts (chars text)) k 0) k line.front line.part rest utf8 few
    (joined ∙ ap (λ cs. cs ++ rest) line.splits ∙ append_assoc line.front line.part rest) start_is
    (omega (arith, end, ap bytes_of line.splits, bytes_of-append line.front line.part)) place

-- the bytes that a source keeps are its text's
pub bytes-held : (text : List ℕ) (marked : Bool) (value : Text) → IsUtf8 text → record { characters = chars text; marked = marked } ≡ value
    → text ≡ text_bytes value
bytes-held text marked value utf8 view = sym (encodes-chars text utf8) ∙ ap text_bytes view

pub boundary-held : (text : List ℕ) (marked : Bool) (value : Text) (at : ℕ) → IsUtf8 text → record { characters = chars text; marked = marked } ≡ value
    → IsCharBoundary (text_bytes value) at → IsCharBoundary text at
boundary-held text marked value at utf8 view boundary =
    let P : List ℕ → Type 0 = λ t. IsCharBoundary t at in
    subst P (sym (bytes-held text marked value utf8 view)) boundary

-- the line, from the starts that a source keeps
pub found-kept : (text slice items : List ℕ) (at k start : ℕ) → IsUtf8 text → IsCharBoundary text at
    → items ≡ line_starts (chars text) → slice ≡ items → IsLineAt slice k at → start ≡ get_or items k start → FoundLine text at start k
found-kept text slice items at k start utf8 boundary kept read is start_is =
    let Q : List ℕ → Type 0 = λ starts. IsLineAt starts k at in
    let R : ℕ → Type 0 = λ n. FoundLine text at n k in
    let here = subst Q (read ∙ kept) is in
    let there : get_or (line_starts (chars text)) k 0 ≡ start =
    get_or_default (line_starts (chars text)) k 0 start here.within ∙ ap (λ starts. get_or starts k start) (sym kept) ∙ sym start_is in
    subst R there (found text at k utf8 boundary here)

-- the starts that a source keeps rise
pub rise-kept : (cs slice items : List ℕ) → items ≡ line_starts cs → slice ≡ items → IsNonDecreasing slice
rise-kept cs slice items kept read = subst IsNonDecreasing (sym (read ∙ kept)) (line_starts-rise cs)

-- the line that was found starts at the byte or before it
pub start-reached : (slice items : List ℕ) (at k start : ℕ) → slice ≡ items → IsLineAt slice k at → start ≡ get_or items k start → start ≤ at
start-reached slice items at k start read is start_is =
    omega (arith, is.reached, get_or_default slice k 0 start is.within, ap (λ starts. get_or starts k start) read, start_is)
