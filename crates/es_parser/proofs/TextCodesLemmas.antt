-- The code of a text, by its key.
use Rattle.std.proofs.Common.{◌≡◌, ◌+◌, ◌∙◌, ℕ, zero, suc, List, [], ◌∷◌, Bool, true, false, Some, refl, sym, subst, arith, eqb-true}
use Rattle.std.specs.Prelude.{◌==◌, ◌&&◌, slice_get}
use Rattle.es_text.specs.declared.token.TokenKind.{TokenKind}
use Rattle.es_grammar.specs.declared.context.Context.{Context}
use Rattle.es_grammar.specs.declared.part.Terminal.TheVariants as t
use Rattle.es_grammar.specs.Terminals.{reads_kind, spellings}
use Rattle.es_parser.specs.TextCodes.{candidate, text_codes}
use Rattle.es_parser.proofs.FixedLemmas.{first_of_both, second_of_both}
use Rattle.es_parser.proofs.TextSetsLemmas.{spelled_read}

-- each text has its index as its candidate
coded : List (List ℕ) → ℕ → Bool
coded [] from = true
coded (word ∷ words) from = (candidate word == from) && coded words (suc from)

all_coded : coded spellings 0 ≡ true
unfolding coded text_codes
all_coded = refl

coded_at : (words : List (List ℕ)) (from i : ℕ) (word : List ℕ) → coded words from ≡ true → slice_get words i ≡ Some word → candidate word ≡ from + i
unfolding coded
coded_at [] from i word h is = absurd (cc)
coded_at (one ∷ words) from zero word h is =
    let same : one ≡ word = (cc) in
    let own : candidate word ≡ from =
    subst (λ it. candidate it ≡ from) same (eqb-true (candidate one) from (first_of_both (candidate one == from) (coded words (suc from)) h)) in
    omega (arith, own)
coded_at (one ∷ words) from (suc i) word h is =
    let later = coded_at words (suc from) i word (second_of_both (candidate one == from) (coded words (suc from)) h) is in
    omega (arith, later)

pub code_is : (code : ℕ) (bs : List ℕ) → slice_get spellings code ≡ Some bs → candidate bs ≡ code
code_is code bs is = let own = coded_at spellings 0 code bs all_coded is in omega (arith, own)

-- a text that isn't that of its candidate is none of them
pub no_code : (context : Context) (kind : TokenKind) (bs : List ℕ) (code : ℕ) → code ≡ candidate bs →
    reads_kind context (t.Spelled code) kind bs ≡ false → (k : ℕ) → slice_get spellings k ≡ Some bs → ⊥
no_code context kind bs code own fails k is =
    let same : code ≡ k = own ∙ code_is k bs is in
    let reads : reads_kind context (t.Spelled code) kind bs ≡ true =
    (spelled_read context kind bs code).1 (subst (λ i. slice_get spellings i ≡ Some bs) (sym same) is) in
    cc
