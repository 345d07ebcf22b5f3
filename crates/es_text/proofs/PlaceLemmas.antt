-- Places by the starts of lines.
use Rattle.std.proofs.Common.{◌≡◌, ℕ, zero, suc, ◌+◌, ◌-◌, ◌<◌, ◌≤◌, true, false, List, [], ◌∷◌, ◌++◌, length, get_or, refl, sym, ap, subst, ◌∙◌, arith, ⊎_elim, append_assoc, append-nil, length-append, encode_utf8, encode_utf8_all, ◌==◌}
use Rattle.std.specs.Char.{len_utf8}
use Rattle.std.proofs.lemmas.Bool.{cases_Bool, cond-true, cond-false}
use Rattle.std.proofs.lemmas.Bool.Decides.{nat_tests}
use Rattle.std.proofs.lemmas.Str.{encodes-append, length-encode, len_utf8_bounds}
use Rattle.es_text.specs.declared.span.Place.{Place}
use Rattle.es_text.specs.LineStarts.{later_starts, line_starts, IsLineAt}
use Rattle.es_text.specs.Texts.{ends_line, len_utf16, place_behind, place_after}

-- how many bytes of UTF-8 the characters take
abbrev pub bytes_of : List ℕ → ℕ
bytes_of cs = length (encode_utf8_all cs)

pub bytes_of-cons : (c : ℕ) (cs : List ℕ) → bytes_of (c ∷ cs) ≡ len_utf8 c + bytes_of cs
bytes_of-cons c cs = length-append (encode_utf8 c) (encode_utf8_all cs) ∙ ap (λ n. n + bytes_of cs) (length-encode c)

pub bytes_of-append : (xs ys : List ℕ) → bytes_of (xs ++ ys) ≡ bytes_of xs + bytes_of ys
bytes_of-append xs ys = ap length (encodes-append xs ys) ∙ length-append (encode_utf8_all xs) (encode_utf8_all ys)

-- how many UTF-16 code units the characters take
abbrev pub units_of : List ℕ → ℕ
units_of [] = 0
units_of (c ∷ cs) = len_utf16 c + units_of cs

pub units_of-append : (xs ys : List ℕ) → units_of (xs ++ ys) ≡ units_of xs + units_of ys
units_of-append [] ys = omega arith
units_of-append (x ∷ xs) ys = omega (arith, units_of-append xs ys)

-- the line starts that a character adds
pub later_starts-ends : (at c : ℕ) (cs : List ℕ) → ends_line c cs ≡ true
    → later_starts at (c ∷ cs) ≡ (at + len_utf8 c) ∷ later_starts (at + len_utf8 c) cs
later_starts-ends at c cs ends = cond-true _ _ _ ends

pub later_starts-runs : (at c : ℕ) (cs : List ℕ) → ends_line c cs ≡ false → later_starts at (c ∷ cs) ≡ later_starts (at + len_utf8 c) cs
later_starts-runs at c cs runs = cond-false _ _ _ runs

above_cons : (low x k d : ℕ) (xs : List ℕ) → low < x → ((j : ℕ) → j < length xs → low < get_or xs j d) → k < length (x ∷ xs)
    → low < get_or (x ∷ xs) k d
above_cons low x zero d xs first rest within = first
above_cons low x (suc k) d xs first rest within = rest k (omega arith)

cons_rises : (x : ℕ) (xs : List ℕ) (i j d : ℕ) → ((k : ℕ) → k < length xs → x ≤ get_or xs k d)
    → ((k l : ℕ) → k ≤ l → l < length xs → get_or xs k d ≤ get_or xs l d) → i ≤ j → j < length (x ∷ xs)
    → get_or (x ∷ xs) i d ≤ get_or (x ∷ xs) j d
cons_rises x xs zero zero d low rise order within = omega arith
cons_rises x xs zero (suc j) d low rise order within = low j (omega arith)
cons_rises x xs (suc i) zero d low rise order within = absurd (omega arith)
cons_rises x xs (suc i) (suc j) d low rise order within = rise i j (omega arith) (omega arith)

-- each later start stands behind the place where the characters begin
pub later_starts-above : (cs : List ℕ) (at k d : ℕ) → k < length (later_starts at cs) → at < get_or (later_starts at cs) k d
later_starts-above [] at k d within = absurd (omega arith)
later_starts-above (c ∷ cs) at k d within =
    let some = (len_utf8_bounds c).0 in
    ⊎_elim
    (λ ends. let e = later_starts-ends at c cs ends in
    subst (λ starts. at < get_or starts k d) (sym e)
    (above_cons at (at + len_utf8 c) k d (later_starts (at + len_utf8 c) cs) (omega arith)
    (λ j inside. omega (arith, later_starts-above cs (at + len_utf8 c) j d inside)) (subst (λ starts. k < length starts) e within)))
    (λ runs. let e = later_starts-runs at c cs runs in
    subst (λ starts. at < get_or starts k d) (sym e)
    (omega (arith, later_starts-above cs (at + len_utf8 c) k d (subst (λ starts. k < length starts) e within))))
    (cases_Bool (ends_line c cs))

-- the later starts rise
pub later_starts-rise : (cs : List ℕ) (at i j d : ℕ) → i ≤ j → j < length (later_starts at cs)
    → get_or (later_starts at cs) i d ≤ get_or (later_starts at cs) j d
later_starts-rise [] at i j d order within = absurd (omega arith)
later_starts-rise (c ∷ cs) at i j d order within =
    let next = at + len_utf8 c in
    ⊎_elim
    (λ ends. let e = later_starts-ends at c cs ends in
    subst (λ starts. get_or starts i d ≤ get_or starts j d) (sym e)
    (cons_rises next (later_starts next cs) i j d (λ k inside. omega (arith, later_starts-above cs next k d inside))
    (λ k l ordered inside. later_starts-rise cs next k l d ordered inside) order (subst (λ starts. j < length starts) e within)))
    (λ runs. let e = later_starts-runs at c cs runs in
    subst (λ starts. get_or starts i d ≤ get_or starts j d) (sym e)
    (later_starts-rise cs next i j d order (subst (λ starts. j < length starts) e within)))
    (cases_Bool (ends_line c cs))

-- all line starts rise
pub line_starts-rise : (cs : List ℕ) (i j d : ℕ) → i ≤ j → j < length (line_starts cs) → get_or (line_starts cs) i d ≤ get_or (line_starts cs) j d
line_starts-rise cs i j d order within =
    cons_rises 0 (later_starts 0 cs) i j d (λ k inside. omega arith) (λ k l ordered inside. later_starts-rise cs 0 k l d ordered inside) order within

-- the place stands where no byte is left to go
place_after-here : (place : Place) (cs : List ℕ) → place_after place cs 0 ≡ place
place_after-here place [] = refl
place_after-here place (c ∷ cs) = refl

-- a step over a character
place_after-step : (place : Place) (c : ℕ) (front back : List ℕ)
    → place_after place (c ∷ (front ++ back)) (bytes_of (c ∷ front)) ≡ place_after (place_behind c (front ++ back) place) (front ++ back) (bytes_of front)
place_after-step place c front back =
    let bytes = bytes_of (c ∷ front) in
    let some : 0 < bytes = omega (arith, bytes_of-cons c front, (len_utf8_bounds c).0) in
    let left : bytes - len_utf8 c ≡ bytes_of front = omega (arith, bytes_of-cons c front) in
    let more : bytes == 0 ≡ false = grind (arith, nat_tests) in
    cond-false _ _ _ more ∙ ap (λ n. place_after (place_behind c (front ++ back) place) (front ++ back) n) left

-- the characters from the line's start on, which is so many bytes behind the byte `low`, give the place
pub record LineOf (cs : List ℕ) (low from line : ℕ) (place : Place) : Type 0 where
  pub front : List ℕ
  pub part : List ℕ
  pub splits : cs ≡ front ++ part
  pub from_is : from ≡ low + bytes_of front
  pub place_is : place ≡ record { line = line; column = 1 + units_of part }

from_shifted : (low next k j : ℕ) (starts : List ℕ) → k ≡ j + 1 → get_or (low ∷ next ∷ starts) k 0 ≡ get_or (next ∷ starts) j 0
from_shifted low next zero j starts is = absurd (omega arith)
from_shifted low next (suc k) j starts is =
    let same : k ≡ j = omega arith in
    ap (λ n. get_or (next ∷ starts) n 0) same

-- where a line starts behind the first of these characters, the line at k is no earlier
from_next : (low next at k : ℕ) (starts : List ℕ) → IsLineAt (low ∷ next ∷ starts) k at → next ≤ at
    → (j : ℕ) × (k ≡ j + 1) × IsLineAt (next ∷ starts) j at
from_next low next at zero starts line before = absurd (omega (arith, line.beyond 1 (omega arith) (omega arith)))
from_next low next at (suc j) starts line before = (
  j,
  omega arith,
  record {
    within = omega (arith, line.within);
    reached = line.reached;
    beyond = λ i after inside. line.beyond (suc i) (omega arith) (omega arith);
  },
)

-- by the characters since the line's start, and those up to the byte
pub place-line : (since upto rest : List ℕ) (low base line column k : ℕ) → base ≡ low + bytes_of since → column ≡ 1 + units_of since
    → IsLineAt (low ∷ later_starts base (upto ++ rest)) k (base + bytes_of upto)
    → LineOf (since ++ upto) low (get_or (low ∷ later_starts base (upto ++ rest)) k 0) (line + k)
    (place_after (record { line = line; column = column }) (upto ++ rest) (bytes_of upto))
place-line since [] rest low base line column zero base_is column_is at =
    let same : line ≡ line + 0 = omega arith in
    record {
      front = [];
      part = since;
      splits = append-nil since;
      from_is = omega arith;
      place_is = place_after-here (record { line = line; column = column }) rest
          ∙ ap (λ n. record { line = n; column = column }) same
          ∙ ap (λ n. record { line = line + 0; column = n }) column_is;
    }
place-line since [] rest low base line column (suc k) base_is column_is at =
    absurd (omega (arith, at.reached, later_starts-above rest base k 0 (omega (arith, at.within))))
place-line since (c ∷ upto) rest low base line column k base_is column_is at =
    let all = upto ++ rest in
    let next = base + len_utf8 c in
    let end = base + bytes_of (c ∷ upto) in
    let end_is : end ≡ next + bytes_of upto = omega (arith, bytes_of-cons c upto) in
    let here : Place = record { line = line; column = column } in
    ⊎_elim
    (λ (ends : ends_line c all ≡ true).
    let e = later_starts-ends base c all ends in
    let first : IsLineAt (low ∷ next ∷ later_starts next all) k end = subst (λ starts. IsLineAt (low ∷ starts) k end) e at in
    let later = from_next low next end k (later_starts next all) first (omega arith) in
    let j = later.0 in
    let behind : IsLineAt (next ∷ later_starts next all) j (next + bytes_of upto) = subst (λ n. IsLineAt (next ∷ later_starts next all) j n) end_is later.2 in
    let found = place-line [] upto rest next next (line + 1) 1 j (omega arith) (omega arith) behind in
    let moved : place_behind c all here ≡ record { line = line + 1; column = 1 } = cond-true _ _ _ ends in
    let bytes : next + bytes_of found.front ≡ low + bytes_of (since ++ c ∷ found.front) =
    omega (arith, bytes_of-append since (c ∷ found.front), bytes_of-cons c found.front) in
    let lines : line + 1 + j ≡ line + k = omega (arith, later.1) in
    record {
      front = since ++ c ∷ found.front;
      part = found.part;
      splits = ap (λ cs. since ++ c ∷ cs) found.splits ∙ sym (append_assoc since (c ∷ found.front) found.part);
      from_is = ap (λ starts. get_or (low ∷ starts) k 0) e
          ∙ from_shifted low next k j (later_starts next all) later.1 ∙ found.from_is ∙ bytes;
      place_is = place_after-step here c upto rest
          ∙ ap (λ p. place_after p all (bytes_of upto)) moved
          ∙ found.place_is
          ∙ ap (λ n. record { line = n; column = 1 + units_of found.part }) lines;
    })
    (λ (runs : ends_line c all ≡ false).
    let e = later_starts-runs base c all runs in
    let first : IsLineAt (low ∷ later_starts next all) k end = subst (λ starts. IsLineAt (low ∷ starts) k end) e at in
    let behind : IsLineAt (low ∷ later_starts next all) k (next + bytes_of upto) = subst (λ n. IsLineAt (low ∷ later_starts next all) k n) end_is first in
    let found = place-line (since ++ c ∷ []) upto rest low next line (column + len_utf16 c) k
    (omega (arith, bytes_of-append since (c ∷ []), bytes_of-cons c [])) (omega (arith, units_of-append since (c ∷ []))) behind in
    let moved : place_behind c all here ≡ record { line = line; column = column + len_utf16 c } = cond-false _ _ _ runs in
    record {
      front = found.front;
      part = found.part;
      splits = sym (append_assoc since (c ∷ []) upto) ∙ found.splits;
      from_is = ap (λ starts. get_or (low ∷ starts) k 0) e ∙ found.from_is;
      place_is = place_after-step here c upto rest ∙ ap (λ p. place_after p all (bytes_of upto)) moved ∙ found.place_is;
    })
    (cases_Bool (ends_line c all))
