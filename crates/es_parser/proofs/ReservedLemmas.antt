-- The reserved words, by their codes.
use Rattle.std.proofs.Common.{◌≡◌, ◌+◌, ◌∙◌, ℕ, zero, suc, List, [], ◌∷◌, Bool, true, false, Option, Some, None, refl, sym, ap, subst, arith}
use Rattle.std.specs.Prelude.{◌==◌, ◌&&◌, ◌||◌, IfNone, IfSome, codes, nat_lt, not, slice_get}
use Rattle.std.specs.List.{list_any}
use Rattle.std.specs.Str.{bytes_eq}
use Rattle.std.proofs.lemmas.Slice.Eq.{bytes_eq-Decides}
use Rattle.es_tables.specs.Words.{keyword_words}
use Rattle.es_grammar.specs.declared.context.Context.{Context}
use Rattle.es_grammar.specs.Terminals.{is_reserved, spellings}
use Rattle.es_parser.specs.KindSets.{is_reserved_code}
use Rattle.es_parser.proofs.FixedLemmas.{first_of_both, second_of_both}
use Rattle.es_parser.proofs.TextSetsLemmas.{agree, keyword_at}

alike : (a b : Bool) → agree a b ≡ true → a ≡ b
unfolding agree
alike true true h = refl
alike true false h = absurd (cc)
alike false true h = absurd (cc)
alike false false h = refl

is_keyword : List ℕ → Bool
is_keyword word = list_any (bytes_eq word) keyword_words

is_await : List ℕ → Bool
is_await word = bytes_eq word (codes "await")

within : ℕ → Bool
within code = not (nat_lt code 57) && nat_lt code 95

row_right : List ℕ → ℕ → Bool
row_right word code = agree (is_keyword word) (within code) && agree (is_await word) (code == 95)

rows_right : List (List ℕ) → ℕ → Bool
rows_right [] from = true
rows_right (word ∷ words) from = row_right word from && rows_right words (suc from)

all_right : rows_right spellings 0 ≡ true
unfolding agree is_await is_keyword row_right rows_right within
all_right = refl

row_at : (words : List (List ℕ)) (from i : ℕ) (word : List ℕ) → rows_right words from ≡ true → slice_get words i ≡ Some word → row_right word (from + i) ≡ true
unfolding rows_right
row_at [] from i word h is = absurd (cc)
row_at (one ∷ words) from zero word h is =
    let same : one ≡ word = (cc) in
    let none : from ≡ from + 0 = omega arith in
    subst (λ k. row_right word k ≡ true) none
    (subst (λ it. row_right it from ≡ true) same (first_of_both (row_right one from) (rows_right words (suc from)) h))
row_at (one ∷ words) from (suc i) word h is =
    let next : suc from + i ≡ from + suc i = omega arith in
    subst (λ k. row_right word k ≡ true) next (row_at words (suc from) i word (second_of_both (row_right one from) (rows_right words (suc from)) h) is)

reserved_some : (context : Context) (code : ℕ) (bs : List ℕ) → slice_get spellings code ≡ Some bs → is_reserved_code context (Some code) ≡ is_reserved context bs
unfolding is_await is_keyword is_reserved_code row_right within
reserved_some context code bs is =
    let none : 0 + code ≡ code = omega arith in
    let row : row_right bs code ≡ true = subst (λ k. row_right bs k ≡ true) none (row_at spellings 0 code bs all_right is) in
    let keyword = alike (is_keyword bs) (within code) (first_of_both (agree (is_keyword bs) (within code)) (agree (is_await bs) (code == 95)) row) in
    let await = alike (is_await bs) (code == 95) (second_of_both (agree (is_keyword bs) (within code)) (agree (is_await bs) (code == 95)) row) in
    sym (ap (λ a. a || (is_await bs && (context.in_module || context.await_operator))) keyword
    ∙ ap (λ b. within code || (b && (context.in_module || context.await_operator))) await)

module _ (bs : List ℕ) (never : (code : ℕ) → slice_get spellings code ≡ Some bs → ⊥) where
  no_keyword : (b : Bool) → is_keyword bs ≡ b → is_keyword bs ≡ false
  unfolding is_keyword
  no_keyword true e = let at = keyword_at bs e in absurd (never at.0 at.1)
  no_keyword false e = e

  no_await : (b : Bool) → is_await bs ≡ b → is_await bs ≡ false
  unfolding is_await
  no_await true e = absurd (never 95 (ap Some (sym ((bytes_eq-Decides bs (codes "await")).0 e))))
  no_await false e = e

  reserved_none : (context : Context) → is_reserved_code context None ≡ is_reserved context bs
  unfolding is_await is_keyword is_reserved_code
  reserved_none context =
      sym (ap (λ a. a || (is_await bs && (context.in_module || context.await_operator))) (no_keyword (is_keyword bs) refl)
      ∙ ap (λ b. b && (context.in_module || context.await_operator)) (no_await (is_await bs) refl))

-- the code of a text tells whether it is reserved
pub reserved_by : (context : Context) (code : Option ℕ) (bs : List ℕ) → IfSome code (λ code. slice_get spellings code ≡ Some bs) →
    IfNone code ((code : ℕ) → slice_get spellings code ≡ Some bs → ⊥) → is_reserved_code context code ≡ is_reserved context bs
reserved_by context None bs some none = reserved_none bs none context
reserved_by context (Some code) bs some none = reserved_some context code bs some
