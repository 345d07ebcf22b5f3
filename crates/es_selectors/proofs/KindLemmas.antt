-- The kind that a word names is that of the one row whose text it is in any case of ASCII.
use Rattle.std.proofs.Common.{◌≡◌, ℕ, zero, suc, ◌+◌, ◌<◌, Bool, true, false, ◌&&◌, List, [], ◌∷◌, length, cond, nat_eq, refl, sym, ap, ◌∙◌, arith}
use Rattle.std.specs.Prelude.{Option, Some, None, find, option_map, slice_get, slice_index_or}
use Rattle.std.specs.List.{position_from}
use Rattle.std.specs.Option.{option_eq}
use Rattle.std.specs.Str.{bytes_eq, str_eq_ignore_ascii_case, str_to_ascii_lowercase}
use Rattle.std.proofs.lemmas.Bool.{and_parts}
use Rattle.std.proofs.lemmas.Bool.Decides.{nat_tests}
use Rattle.std.proofs.lemmas.Slice.Eq.{bytes_eq-Decides}
use Rattle.es_tables.specs.declared.row.Row.{Row}
use Rattle.es_tables.specs.Nodes.{kind_words}
use Rattle.es_tables.specs.Rows.{HasRow, IsNumbered, entries}
use Rattle.es_selectors.specs.KindAtoms.{kind_named}

abbrev alike : List ℕ → List ℕ → Bool
alike = str_eq_ignore_ascii_case

-- each word, from this index on, is the first that it is like
abbrev own_index : ℕ → List (List ℕ) → Bool
own_index i [] = true
own_index i (word ∷ words) = option_eq nat_eq (position_from (alike word) 0 kind_words) (Some i) && own_index (i + 1) words

each_own : own_index 0 kind_words ≡ true
each_own = refl

same_index : (o : Option ℕ) (i : ℕ) → option_eq nat_eq o (Some i) ≡ true → o ≡ Some i
same_index None i h = cc
same_index (Some j) i h = ap Some (grind (arith, h))

own_at : (i : ℕ) (words : List (List ℕ)) → own_index i words ≡ true → (k : ℕ) (word : List ℕ) → slice_get words k ≡ Some word →
    position_from (alike word) 0 kind_words ≡ Some (i + k)
own_at i [] own k word at = cc
own_at i (first ∷ words) own zero word at =
    let same : first ≡ word = cc in
    ap (λ w. position_from (alike w) 0 kind_words) (sym same)
    ∙ same_index (position_from (alike first) 0 kind_words) i (and_parts _ _ own).0 ∙ ap Some (omega arith)
own_at i (first ∷ words) own (suc k) word at =
    own_at (i + 1) words (and_parts _ _ own).1 k word at ∙ ap Some (omega arith)

-- the words are the same in lower case
same_lower : (one other : List ℕ) → alike one other ≡ true → str_to_ascii_lowercase one ≡ str_to_ascii_lowercase other
same_lower one other h = (bytes_eq-Decides (str_to_ascii_lowercase one) (str_to_ascii_lowercase other)).0 h

module _ (passes : List ℕ → Bool) where
  abbrev row_passes : Row → Bool
  row_passes row = passes row.text.now

  found_row : (rows : List Row) (row : Row) → find row_passes rows ≡ Some row → HasRow rows row.text.now row.code × (passes row.text.now ≡ true)
  found_row [] row h = cc
  found_row (first ∷ rows) row h =
      elim (row_passes first) as (λ b. row_passes first ≡ b → cond b (Some first) (find row_passes rows) ≡ Some row → HasRow (first ∷ rows) row.text.now row.code × (passes row.text.now ≡ true)) [
        | true ↦ λ yes is. let same : first ≡ row = cc in
            ((0, omega arith, ap (λ (r : Row). (r.text.now, r.code)) same), ap row_passes (sym same) ∙ yes)
        | false ↦ λ no is. let further = found_row rows row is in
            ((suc further.0.0, omega (arith, further.0.1), further.0.2), further.1)
      ] refl h

  missing_row : (rows : List Row) → find row_passes rows ≡ None → (text : List ℕ) (code k : ℕ) → k < length (entries rows) →
      slice_index_or (entries rows) k (text, code) ≡ (text, code) → passes text ≡ false
  missing_row [] none text code k within at = absurd (omega arith)
  missing_row (first ∷ rows) none text code zero within at =
      elim (row_passes first) as (λ b. row_passes first ≡ b → cond b (Some first) (find row_passes rows) ≡ None → passes text ≡ false) [
        | true ↦ λ yes is. cc
        | false ↦ λ no is. let same : first.text.now ≡ text = ap (λ (p : List ℕ × ℕ). p.0) at in ap passes (sym same) ∙ no
      ] refl none
  missing_row (first ∷ rows) none text code (suc k) within at =
      elim (row_passes first) as (λ b. row_passes first ≡ b → cond b (Some first) (find row_passes rows) ≡ None → passes text ≡ false) [
        | true ↦ λ yes is. cc
        | false ↦ λ no is. missing_row rows is text code k (omega arith) at
      ] refl none

-- what is found among words is one of them, and passes
found_at : (passes : List ℕ → Bool) (i : ℕ) (words : List (List ℕ)) (n : ℕ) → position_from passes i words ≡ Some n →
    (k : ℕ) × (n ≡ i + k) × (word : List ℕ) × (slice_get words k ≡ Some word) × (passes word ≡ true)
found_at passes i [] n h = cc
found_at passes i (first ∷ words) n h =
    elim (passes first) as (λ b. passes first ≡ b → cond b (Some i) (position_from passes (i + 1) words) ≡ Some n →
    (k : ℕ) × (n ≡ i + k) × (word : List ℕ) × (slice_get (first ∷ words) k ≡ Some word) × (passes word ≡ true)) [
      | true ↦ λ yes is. let same : i ≡ n = cc in (0, omega arith, first, refl, yes)
      | false ↦ λ no is. let further = found_at passes (i + 1) words n is in
          (suc further.0, omega (arith, further.1), further.2, further.3, further.4)
    ] refl h

pub code_is : (rows : List Row) (word : List ℕ) → IsNumbered kind_words rows →
    option_map (λ row. row.code) (find (λ row. alike word row.text.now) rows) ≡ kind_named word
unfolding kind_named
code_is rows word numbered =
    elim (find (row_passes (alike word)) rows) as (λ o. find (row_passes (alike word)) rows ≡ o →
    option_map (λ (row : Row). row.code) o ≡ position_from (alike word) 0 kind_words) [
      | Some row ↦ λ is.
          let found = found_row (alike word) rows row is in
          let at = (numbered row.text.now row.code).1 found.0 in
          let own = own_at 0 kind_words each_own row.code row.text.now at in
          sym (ap (λ (lower : List ℕ). position_from (λ (w : List ℕ). bytes_eq lower (str_to_ascii_lowercase w)) 0 kind_words) (same_lower word row.text.now found.1) ∙ own ∙ ap Some (omega arith))
      | None ↦ λ none.
          elim (position_from (alike word) 0 kind_words) as (λ o. position_from (alike word) 0 kind_words ≡ o → None ≡ o) [
            | None ↦ λ is. refl
            | Some n ↦ λ is.
                let found = found_at (alike word) 0 kind_words n is in
                let row = (numbered found.2 found.0).0 found.3 in
                let no = missing_row (alike word) rows none found.2 found.0 row.0 row.1 row.2 in
                cc
          ] refl
    ] refl

alike_itself : (word : List ℕ) → alike word word ≡ true
alike_itself word = (bytes_eq-Decides (str_to_ascii_lowercase word) (str_to_ascii_lowercase word)).1 refl

-- two kinds with one word are one
one_kind : (word : List ℕ) (j k : ℕ) → slice_get kind_words j ≡ Some word → slice_get kind_words k ≡ Some word → j ≡ k
one_kind word j k at_j at_k =
    let first = own_at 0 kind_words each_own j word at_j in
    let second = own_at 0 kind_words each_own k word at_k in
    let same : Some (0 + j) ≡ Some (0 + k) = sym first ∙ second in
    let sums : 0 + j ≡ 0 + k = cc in
    omega arith

-- the kind has the word of the row that was found just where its code is the row's
pub found_word : (rows : List Row) (text : List ℕ) (code kind : ℕ) → IsNumbered kind_words rows → HasRow rows text code →
    nat_eq code kind ≡ option_eq bytes_eq (slice_get kind_words kind) (Some text)
found_word rows text code kind numbered row =
    let at = (numbered text code).1 row in
    elim (slice_get kind_words kind) as (λ o. slice_get kind_words kind ≡ o → nat_eq code kind ≡ option_eq bytes_eq o (Some text)) [
      | None ↦ λ is.
          elim (nat_eq code kind) as (λ b. nat_eq code kind ≡ b → b ≡ false) [
            | true ↦ λ yes. let same : code ≡ kind = grind (arith, nat_tests) in let k = ap (slice_get kind_words) same in cc
            | false ↦ λ no. refl
          ] refl
      | Some word ↦ λ is.
          elim (nat_eq code kind) as (λ b. nat_eq code kind ≡ b → b ≡ bytes_eq word text) [
            | true ↦ λ yes. let same : code ≡ kind = grind (arith, nat_tests) in
                let k = ap (slice_get kind_words) same in
                let w : word ≡ text = cc in
                sym ((bytes_eq-Decides word text).1 w)
            | false ↦ λ no.
                elim (bytes_eq word text) as (λ b. bytes_eq word text ≡ b → false ≡ b) [
                  | true ↦ λ yes. let w : word ≡ text = (bytes_eq-Decides word text).0 yes in
                      let here : slice_get kind_words kind ≡ Some text = is ∙ ap Some w in
                      let same = one_kind text code kind at here in
                      absurd (grind (arith, nat_tests, same, no))
                  | false ↦ λ other. refl
                ] refl
          ] refl
    ] refl

pub missing_word : (rows : List Row) (text : List ℕ) (kind : ℕ) → IsNumbered kind_words rows → ((code : ℕ) → HasRow rows text code → ⊥) →
    false ≡ option_eq bytes_eq (slice_get kind_words kind) (Some text)
missing_word rows text kind numbered none =
    elim (slice_get kind_words kind) as (λ o. slice_get kind_words kind ≡ o → false ≡ option_eq bytes_eq o (Some text)) [
      | None ↦ λ is. refl
      | Some word ↦ λ is.
          elim (bytes_eq word text) as (λ b. bytes_eq word text ≡ b → false ≡ b) [
            | true ↦ λ yes. let w : word ≡ text = (bytes_eq-Decides word text).0 yes in
                absurd (none kind ((numbered text kind).0 (is ∙ ap Some w)))
            | false ↦ λ other. refl
          ] refl
    ] refl
