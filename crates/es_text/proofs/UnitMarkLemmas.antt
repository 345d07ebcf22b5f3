-- Marks, which say how many UTF-16 code units begin before each 256th byte.
use Rattle.std.proofs.Common.{◌≡◌, ℕ, ◌+◌, ◌-◌, ◌*◌, ◌/◌, ◌<◌, ◌≤◌, List, [], ◌∷◌, ◌++◌, length, get_or, take, drop, sym, ap, ◌∙◌, subst, arith, ⊎_elim}
use Rattle.std.specs.Prelude.{slice_index}
use Rattle.std.proofs.lemmas.Bool.{cases_lt}
use Rattle.std.proofs.lemmas.List.{get_or_append_left, get_or_push, length_push}
use Rattle.es_text.specs.UnitCounts.{AreMarks, units_begun_in}
use Rattle.es_text.proofs.UnitCountLemmas.{begun-parts}

-- each of these is the mark of its byte
abbrev pub EachMark : List ℕ → List ℕ → Type 0
EachMark bytes marks = (k : ℕ) → k < length marks → slice_index marks k ≡ units_begun_in (take (k * 256) bytes)

-- the last mark before a byte, and the units since it
pub begun-since : (bytes marks : List ℕ) (at units : ℕ) → AreMarks bytes marks → at ≤ length bytes
    → units ≡ units_begun_in (take (at - at / 256 * 256) (drop (at / 256 * 256) bytes))
    → get_or marks (at / 256) 0 + units ≡ units_begun_in (take at bytes)
begun-since bytes marks at units are within since =
    let start = at / 256 * 256 in
    let inside : at / 256 < length marks = omega (arith, are.enough) in
    let whole : start + (at - start) ≡ at = omega arith in
    omega (arith, since, are.each (at / 256) inside, begun-parts bytes start (at - start), ap (λ n. units_begun_in (take n bytes)) whole)

-- the units up to the next mark
pub begun-next : (bytes : List ℕ) (k units more : ℕ) → units ≡ units_begun_in (take (k * 256) bytes)
    → more ≡ units_begun_in (take 256 (drop (k * 256) bytes)) → units + more ≡ units_begun_in (take ((k + 1) * 256) bytes)
begun-next bytes k units more upto since =
    let whole : k * 256 + 256 ≡ (k + 1) * 256 = omega arith in
    omega (arith, upto, since, begun-parts bytes (k * 256) 256, ap (λ n. units_begun_in (take n bytes)) whole)

-- one more mark
pub each-pushed : (bytes marks pushed : List ℕ) (k units : ℕ) → EachMark bytes marks → length marks ≡ k + 1
    → units ≡ units_begun_in (take ((k + 1) * 256) bytes) → pushed ≡ marks ++ units ∷ [] → EachMark bytes pushed
each-pushed bytes marks pushed k units each count mark is =
    let P : List ℕ → Type 0 = λ items. EachMark bytes items in
    subst P (sym is) (λ j inside.
    ⊎_elim
    (λ (below : j < length marks). get_or_append_left marks (units ∷ []) 0 j below ∙ each j below)
    (λ (last : length marks ≤ j).
    let same : j ≡ k + 1 = omega (arith, length_push marks units) in
    get_or_push marks units 0 j (count ∙ sym same) ∙ mark ∙ ap (λ n. units_begun_in (take (n * 256) bytes)) (sym same))
    (cases_lt j (length marks)))
