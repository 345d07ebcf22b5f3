-- Steps over the characters of a text in search of white space at the ends of lines.
use Rattle.std.proofs.Common.{◌≡◌, ℕ, ◌+◌, ◌-◌, ◌<◌, ◌≤◌, Bool, true, false, not, ◌&&◌, List, [], ◌∷◌, ◌++◌, cond, if◌then◌else◌, length, nat_lt, refl, sym, ap, subst, ◌∙◌, arith, append_assoc, length-append, encode_utf8, encode_utf8_all, IsUtf8}
use Rattle.std.specs.Char.{len_utf8}
use Rattle.std.specs.List.{list_all}
use Rattle.std.specs.Str.{IsCharBoundary, chars}
use Rattle.std.proofs.lemmas.List.Folds.{list_all-append}
use Rattle.std.proofs.lemmas.Str.{chars_past_char, len_utf8_bounds, length-encode}
use Rattle.std.proofs.lemmas.Bool.Decides.{nat_tests}
use Rattle.es_text.specs.Characters.{is_line_terminator, is_white_space}
use Rattle.es_text.specs.declared.span.Span.{Span}
use Rattle.es_text.specs.Rest.{drop_while}
use Rattle.es_text.specs.Spans.{PartsLie, is_part}
use Rattle.es_rules_plain.specs.TrailingSpaces.{blank_between, blank_from, ends_line, trailing_from}

-- what is yet to come, where white space stands from `from` to `at`, before these characters
abbrev pub left_over : ℕ → ℕ → List ℕ → List Span
left_over from at cs = if nat_lt from at then blank_from from at cs ++ trailing_from true at cs else trailing_from false at cs

encoded : (c : ℕ) (cs : List ℕ) → length (encode_utf8_all (c ∷ cs)) ≡ len_utf8 c + length (encode_utf8_all cs)
encoded c cs = length-append (encode_utf8 c) (encode_utf8_all cs) ∙ ap (λ n. n + length (encode_utf8_all cs)) (length-encode c)

dropped_le : (class : ℕ → Bool) (cs : List ℕ) → length (encode_utf8_all (drop_while class cs)) ≤ length (encode_utf8_all cs)
dropped_le class [] = omega arith
dropped_le class (c ∷ cs) =
    let least = dropped_le class cs in
    let whole = encoded c cs in
    elim (class c) as (λ b. length (encode_utf8_all (cond b (drop_while class cs) (c ∷ cs))) ≤ length (encode_utf8_all (c ∷ cs))) [
      | true ↦ omega arith
      | false ↦ omega arith
    ]

-- white space ends no line
blank_no_end : (c : ℕ) → is_white_space c ≡ true → is_line_terminator c ≡ false
unfolding is_white_space
blank_no_end c blank = grind (arith, nat_tests)

less_true : (a b : ℕ) → a < b → nat_lt a b ≡ true
less_true a b h = grind (arith, nat_tests)

not_less : (a b : ℕ) → b ≤ a → nat_lt a b ≡ false
not_less a b h = grind (arith, nat_tests)

abbrev span_of : ℕ → ℕ → List Span
span_of from at = record { start = from; end = at } ∷ []

module _ (c : ℕ) (cs : List ℕ) where
  behind_blank : is_white_space c ≡ true → drop_while is_white_space (c ∷ cs) ≡ drop_while is_white_space cs
  behind_blank blank = ap (λ b. cond b (drop_while is_white_space cs) (c ∷ cs)) blank

  -- white space goes on
  blank_on : (from at : ℕ) → is_white_space c ≡ true → blank_from from at (c ∷ cs) ≡ blank_from from (at + len_utf8 c) cs
  blank_on from at blank =
      let whole = encoded c cs in
      let least = dropped_le is_white_space cs in
      let end : at + (length (encode_utf8_all (c ∷ cs)) - length (encode_utf8_all (drop_while is_white_space cs)))
      ≡ (at + len_utf8 c) + (length (encode_utf8_all cs) - length (encode_utf8_all (drop_while is_white_space cs))) = omega arith in
      ap (λ rest. cond (ends_line rest) (span_of from (at + (length (encode_utf8_all (c ∷ cs)) - length (encode_utf8_all rest)))) []) (behind_blank blank)
      ∙ ap (λ n. cond (ends_line (drop_while is_white_space cs)) (span_of from n) []) end

  -- or it ends
  blank_over : (from at : ℕ) → is_white_space c ≡ false → blank_from from at (c ∷ cs) ≡ (if is_line_terminator c then span_of from at else [])
  blank_over from at other =
      let end : at + (length (encode_utf8_all (c ∷ cs)) - length (encode_utf8_all (c ∷ cs))) ≡ at = omega arith in
      ap (λ rest. cond (ends_line rest) (span_of from (at + (length (encode_utf8_all (c ∷ cs)) - length (encode_utf8_all rest)))) [])
      (ap (λ b. cond b (drop_while is_white_space cs) (c ∷ cs)) other)
      ∙ ap (λ n. cond (is_line_terminator c) (span_of from n) []) end

  -- what begins at this character
  here : (behind blank : Bool) → is_white_space c ≡ blank → (at : ℕ) →
      trailing_from behind at (c ∷ cs) ≡ (if blank && not behind then blank_from at at (c ∷ cs) else []) ++ trailing_from blank (at + len_utf8 c) cs
  here behind blank is at = ap (λ b. cond (b && not behind) (blank_from at at (c ∷ cs)) [] ++ trailing_from b (at + len_utf8 c) cs) is

  -- in white space
  in_blank : (from at : ℕ) → from ≤ at → is_white_space c ≡ true → left_over from at (c ∷ cs) ≡ left_over from (at + len_utf8 c) cs
  in_blank from at order blank =
      let bounds = len_utf8_bounds c in
      let goes_on : left_over from (at + len_utf8 c) cs ≡ blank_from from (at + len_utf8 c) cs ++ trailing_from true (at + len_utf8 c) cs =
      ap (λ b. cond b (blank_from from (at + len_utf8 c) cs ++ trailing_from true (at + len_utf8 c) cs) (trailing_from false (at + len_utf8 c) cs))
      (less_true from (at + len_utf8 c) (omega arith)) in
      elim (nat_lt from at) as (λ b. nat_lt from at ≡ b →
      cond b (blank_from from at (c ∷ cs) ++ trailing_from true at (c ∷ cs)) (trailing_from false at (c ∷ cs)) ≡ left_over from (at + len_utf8 c) cs) [
        | true ↦ λ less. ap (λ spans. spans ++ trailing_from true at (c ∷ cs)) (blank_on from at blank)
            ∙ ap (λ spans. blank_from from (at + len_utf8 c) cs ++ spans) (here true true blank at) ∙ sym goes_on
        | false ↦ λ same. let equal : at ≡ from = grind (arith, nat_tests) in
            here false true blank at
            ∙ ap (λ a. blank_from a at (c ∷ cs) ++ trailing_from true (at + len_utf8 c) cs) equal
            ∙ ap (λ spans. spans ++ trailing_from true (at + len_utf8 c) cs) (blank_on from at blank) ∙ sym goes_on
      ] refl

  -- behind white space, if there was any
  past_blank : (from at : ℕ) → from ≤ at → is_white_space c ≡ false →
      left_over from at (c ∷ cs) ≡ (if is_line_terminator c then blank_between from at else []) ++ left_over (at + len_utf8 c) (at + len_utf8 c) cs
  past_blank from at order other =
      let begins : left_over (at + len_utf8 c) (at + len_utf8 c) cs ≡ trailing_from false (at + len_utf8 c) cs =
      ap (λ b. cond b (blank_from (at + len_utf8 c) (at + len_utf8 c) cs ++ trailing_from true (at + len_utf8 c) cs) (trailing_from false (at + len_utf8 c) cs))
      (not_less (at + len_utf8 c) (at + len_utf8 c) (omega arith)) in
      elim (nat_lt from at) as (λ b. nat_lt from at ≡ b →
      cond b (blank_from from at (c ∷ cs) ++ trailing_from true at (c ∷ cs)) (trailing_from false at (c ∷ cs))
      ≡ cond (is_line_terminator c) (cond b (span_of from at) []) [] ++ left_over (at + len_utf8 c) (at + len_utf8 c) cs) [
        | true ↦ λ less. ap (λ spans. spans ++ trailing_from true at (c ∷ cs)) (blank_over from at other)
            ∙ ap (λ spans. cond (is_line_terminator c) (span_of from at) [] ++ spans) (here true false other at ∙ sym begins)
        | false ↦ λ same. here false false other at ∙ sym begins
            ∙ ap (λ spans. spans ++ left_over (at + len_utf8 c) (at + len_utf8 c) cs) (sym (either (is_line_terminator c)))
      ] refl
    where
      either : (b : Bool) → cond {A = List Span} b [] [] ≡ []
      either true = refl
      either false = refl

  over : (from at : ℕ) → from ≤ at → left_over from at (c ∷ cs)
      ≡ (if is_line_terminator c then blank_between from at else []) ++ left_over (if is_white_space c then from else at + len_utf8 c) (at + len_utf8 c) cs
  over from at order =
      elim (is_white_space c) as (λ b. is_white_space c ≡ b → left_over from at (c ∷ cs)
      ≡ (if is_line_terminator c then blank_between from at else []) ++ left_over (cond b from (at + len_utf8 c)) (at + len_utf8 c) cs) [
        | true ↦ λ blank. in_blank from at order blank
            ∙ ap (λ b. cond b (blank_between from at) [] ++ left_over from (at + len_utf8 c) cs) (sym (blank_no_end c blank))
        | false ↦ λ other. past_blank from at order other
      ] refl

-- ---- steps of the loop
pub spans_step : (items more all : List Span) (s t : List ℕ) (c from at start : ℕ) → IsUtf8 s → s ≡ encode_utf8 c ++ t → from ≤ at →
    items ++ left_over from at (chars s) ≡ all →
    more ≡ items ++ (if is_line_terminator c then blank_between from at else []) →
    start ≡ (if is_white_space c then from else at + len_utf8 c) → more ++ left_over start (at + len_utf8 c) (chars t) ≡ all
spans_step items more all s t c from at start utf8 splits order known pushed begins =
    let ended = cond (is_line_terminator c) (blank_between from at) [] in
    ap (λ spans. spans ++ left_over start (at + len_utf8 c) (chars t)) pushed
    ∙ ap (λ n. (items ++ ended) ++ left_over n (at + len_utf8 c) (chars t)) begins
    ∙ append_assoc items ended (left_over (cond (is_white_space c) from (at + len_utf8 c)) (at + len_utf8 c) (chars t))
    ∙ ap (λ spans. items ++ spans) (sym (ap (left_over from at) (chars_past_char s t c utf8 splits) ∙ over c (chars t) from at order))
    ∙ known

-- at the end of the text
pub spans_end : (items more all : List Span) (from at : ℕ) → items ++ left_over from at [] ≡ all → more ≡ items ++ blank_between from at → more ≡ all
spans_end items more all from at known pushed =
    pushed ∙ ap (λ spans. items ++ spans) (elim (nat_lt from at) as (λ b. cond b (span_of from at) [] ≡ cond b (blank_from from at [] ++ []) []) [
      | true ↦ let same : at ≡ at + 0 = omega arith in ap (span_of from) same
      | false ↦ refl
    ]) ∙ known

between_parts : (text : List ℕ) (from at : ℕ) → PartsLie → from ≤ at → IsCharBoundary text from → IsCharBoundary text at →
    list_all (is_part text) (blank_between from at) ≡ true
between_parts text from at law order start end =
    let part = (law text (record { start = from; end = at })).1 (record { order = order; start = start; end = end }) in
    elim (nat_lt from at) as (λ b. list_all (is_part text) (cond b (span_of from at) []) ≡ true) [
      | true ↦ ap (λ b. b && true) part
      | false ↦ refl
    ]

pub parts_step : (text : List ℕ) (items more : List Span) (ends : Bool) (from at : ℕ) → PartsLie → from ≤ at → IsCharBoundary text from →
    IsCharBoundary text at → list_all (is_part text) items ≡ true → more ≡ items ++ (if ends then blank_between from at else []) →
    list_all (is_part text) more ≡ true
parts_step text items more ends from at law order start end known pushed =
    ap (list_all (is_part text)) pushed ∙ list_all-append (is_part text) items (cond ends (blank_between from at) [])
    ∙ ap (λ b. b && list_all (is_part text) (cond ends (blank_between from at) [])) known
    ∙ elim ends as (λ b. list_all (is_part text) (cond b (blank_between from at) []) ≡ true) [
      | true ↦ between_parts text from at law order start end
      | false ↦ refl
    ]

-- white space begins where it began, or behind the character
pub start_step : (P : ℕ → Type 0) (blank : Bool) (start from behind : ℕ) → start ≡ (if blank then from else behind) → P from → P behind → P start
start_step P blank start from behind is one other = subst P (sym is) (elim blank as (λ b. P (cond b from behind)) [
  | true ↦ one
  | false ↦ other
])
