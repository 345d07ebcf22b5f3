-- The terminals that read a token by its text.
use Rattle.std.proofs.Common.{◌≡◌, ◌<◌, ◌≤◌, ◌∙◌, ◌^◌, ℕ, zero, suc, List, [], ◌∷◌, Bool, true, false, Option, Some, None, refl, sym, ap, subst, arith, max, eqb-true, eq-eqb, ltb-true, ltb-false}
use Rattle.std.specs.Prelude.{◌↔◌, ◌==◌, ◌&&◌, ◌||◌, IsSome, nat_lt, slice_get}
use Rattle.std.specs.Int.{bit_at}
use Rattle.std.specs.Option.{unwrap_or}
use Rattle.std.specs.Int.RustNames.{bit_or}
use Rattle.std.specs.List.{list_all, list_any}
use Rattle.std.specs.Str.{bytes_eq}
use Rattle.std.proofs.lemmas.Nat.Bits.{bit_at_above, bit_at_or, bit_at-lt}
use Rattle.std.proofs.lemmas.Slice.Eq.{bytes_eq-Decides}
use Rattle.es_tables.specs.Words.{keyword_words}
use Rattle.es_text.specs.declared.token.LexMode.TheVariants.{Division}
use Rattle.es_text.specs.declared.token.Token.{Token}
use Rattle.es_text.specs.declared.token.TokenKind.{TokenKind}
use Rattle.es_text.specs.Tokens.{token}
use Rattle.es_grammar.specs.declared.context.Context.{Context}
use Rattle.es_grammar.specs.declared.part.Terminal.{Terminal}
use Rattle.es_grammar.specs.declared.part.Terminal.TheVariants as t
use Rattle.es_grammar.specs.TerminalSets.{HasTerminal, code_of}
use Rattle.es_grammar.specs.Terminals.{mode_of, read_by, reads_kind, spellings, terminal_at, text_of, texts_of}
use Rattle.es_parser.specs.Found.{Found}
use Rattle.es_parser.specs.Kept.{plain_at}
use Rattle.es_parser.specs.TextSets.{text_sets}
use Rattle.es_parser.proofs.BeginningsLemmas.{ne_from}
use Rattle.es_parser.proofs.FixedLemmas.{by_text, first_of_both, second_of_both, some_read}

-- tests of all terminals that read by texts
all_below : (ℕ → Bool) → ℕ → Bool
all_below test zero = true
all_below test (suc n) = test n && all_below test n

below_step : (test : ℕ → Bool) (n k : ℕ) (b : Bool) → (k == n) ≡ b → test n ≡ true → (k < n → test k ≡ true) → k < suc n → test k ≡ true
below_step test n k true e last rest low = subst (λ i. test i ≡ true) (sym (eqb-true k n e)) last
below_step test n k false e last rest low = let apart = ne_from k n e in rest (omega (arith, low, apart))

below_at : (test : ℕ → Bool) (n k : ℕ) → all_below test n ≡ true → k < n → test k ≡ true
unfolding all_below
below_at test zero k h low = absurd (omega (arith, low))
below_at test (suc n) k h low =
    below_step test n k (k == n) refl (first_of_both (test n) (all_below test n) h) (below_at test n k (second_of_both (test n) (all_below test n) h)) low

pub all_at : {X : Type 0} (test : X → Bool) (xs : List X) (i : ℕ) (x : X) → slice_get xs i ≡ Some x → list_all test xs ≡ true → test x ≡ true
all_at test [] i x is h = absurd (cc)
all_at test (y ∷ xs) zero x is h = let same : y ≡ x = (cc) in subst (λ one. test one ≡ true) same (first_of_both (test y) (list_all test xs) h)
all_at test (y ∷ xs) (suc i) x is h = all_at test xs i x is (second_of_both (test y) (list_all test xs) h)

classes : List Terminal
classes =
    t.AccessorWord ∷ t.DeclarationWord ∷ t.AssignmentOperator ∷ t.EqualityOperator ∷ t.RelationalOperator ∷ t.ShiftOperator
    ∷ t.AdditiveOperator ∷ t.MultiplicativeOperator ∷ t.UnaryOperator ∷ t.UpdateOperator ∷ []

of_texts : (Terminal → Bool) → Bool
of_texts test = list_all test classes && all_below (λ code. test (t.Spelled code)) 105

module _ (test : Terminal → Bool) (h : of_texts test ≡ true) where
  class_at : (i : ℕ) (terminal : Terminal) → slice_get classes i ≡ Some terminal → test terminal ≡ true
  unfolding of_texts
  class_at i terminal is = all_at test classes i terminal is (first_of_both (list_all test classes) (all_below (λ code. test (t.Spelled code)) 105) h)

  of_texts_at : (terminal : Terminal) → 10 ≤ code_of terminal → code_of terminal < 125 → test terminal ≡ true
  unfolding code_of classes of_texts
  of_texts_at t.Word from low = absurd (omega (arith, from))
  of_texts_at t.Name from low = absurd (omega (arith, from))
  of_texts_at t.Private from low = absurd (omega (arith, from))
  of_texts_at t.Number from low = absurd (omega (arith, from))
  of_texts_at t.Text from low = absurd (omega (arith, from))
  of_texts_at t.RegExp from low = absurd (omega (arith, from))
  of_texts_at t.Full from low = absurd (omega (arith, from))
  of_texts_at t.Head from low = absurd (omega (arith, from))
  of_texts_at t.Middle from low = absurd (omega (arith, from))
  of_texts_at t.Tail from low = absurd (omega (arith, from))
  of_texts_at t.AccessorWord from low = class_at 0 t.AccessorWord refl
  of_texts_at t.DeclarationWord from low = class_at 1 t.DeclarationWord refl
  of_texts_at t.AssignmentOperator from low = class_at 2 t.AssignmentOperator refl
  of_texts_at t.EqualityOperator from low = class_at 3 t.EqualityOperator refl
  of_texts_at t.RelationalOperator from low = class_at 4 t.RelationalOperator refl
  of_texts_at t.ShiftOperator from low = class_at 5 t.ShiftOperator refl
  of_texts_at t.AdditiveOperator from low = class_at 6 t.AdditiveOperator refl
  of_texts_at t.MultiplicativeOperator from low = class_at 7 t.MultiplicativeOperator refl
  of_texts_at t.UnaryOperator from low = class_at 8 t.UnaryOperator refl
  of_texts_at t.UpdateOperator from low = class_at 9 t.UpdateOperator refl
  of_texts_at (t.Spelled code) from low =
      below_at (λ code. test (t.Spelled code)) 105 code
      (second_of_both (list_all test classes) (all_below (λ code. test (t.Spelled code)) 105) h) (omega (arith, low))

-- each set has exactly the terminals that read its text
unfoldable pub agree : Bool → Bool → Bool
agree true so = so
agree false true = false
agree false false = true

pub agreed : (a b : Bool) → agree a b ≡ true → (a ≡ true) ↔ (b ≡ true)
unfolding agree
agreed true b h = (λ _. h, λ _. refl)
agreed false true h = absurd (cc)
agreed false false h = (λ e. e, λ e. e)

reads_word : List ℕ → Terminal → Bool
reads_word word terminal = list_any (bytes_eq word) (texts_of terminal)

row_right : List ℕ → ℕ → Bool
row_right word set =
    of_texts (λ terminal. agree (bit_at set (code_of terminal) == 1) (reads_word word terminal))
    && (all_below (λ k. bit_at set k == 0) 10 && nat_lt set (2 ^ 125))

rows_right : List (List ℕ) → List ℕ → Bool
rows_right [] [] = true
rows_right (word ∷ words) (set ∷ sets) = row_right word set && rows_right words sets
rows_right (word ∷ words) [] = false
rows_right [] (set ∷ sets) = false

all_right : rows_right spellings text_sets ≡ true
unfolding agree all_below classes code_of of_texts reads_word row_right rows_right text_sets texts_of
all_right = refl

row_at : (words : List (List ℕ)) (sets : List ℕ) (i : ℕ) (word : List ℕ) → rows_right words sets ≡ true → slice_get words i ≡ Some word →
    (set : ℕ) × (slice_get sets i ≡ Some set) × (row_right word set ≡ true)
unfolding rows_right
row_at [] sets i word h is = absurd (cc)
row_at (one ∷ words) [] i word h is = absurd (cc)
row_at (one ∷ words) (set ∷ sets) zero word h is =
    let same : one ≡ word = (cc) in
    (set, refl, subst (λ one. row_right one set ≡ true) same (first_of_both (row_right one set) (rows_right words sets) h))
row_at (one ∷ words) (set ∷ sets) (suc i) word h is = row_at words sets i word (second_of_both (row_right one set) (rows_right words sets) h) is

-- each text that a terminal names is among those of single tokens
spelled_all : List (List ℕ) → Bool
spelled_all texts = list_all (λ text. list_any (bytes_eq text) spellings) texts

all_spelled : of_texts (λ terminal. spelled_all (texts_of terminal)) ≡ true
unfolding all_below classes of_texts spelled_all texts_of
all_spelled = refl

pick_in : (bs text : List ℕ) (texts : List (List ℕ)) (b : Bool) → bytes_eq bs text ≡ b → (b || list_any (bytes_eq bs) texts) ≡ true →
    list_any (bytes_eq text) spellings ≡ true → (list_any (bytes_eq bs) texts ≡ true → list_any (bytes_eq bs) spellings ≡ true) →
    list_any (bytes_eq bs) spellings ≡ true
pick_in bs text texts true e h one rest =
    let same : bs ≡ text = (bytes_eq-Decides bs text).0 e in subst (λ it. list_any (bytes_eq it) spellings ≡ true) (sym same) one
pick_in bs text texts false e h one rest = rest h

any_in : (bs : List ℕ) (texts : List (List ℕ)) → list_any (bytes_eq bs) texts ≡ true → spelled_all texts ≡ true → list_any (bytes_eq bs) spellings ≡ true
unfolding spelled_all
any_in bs [] h all = absurd (cc)
any_in bs (text ∷ texts) h all =
    pick_in bs text texts (bytes_eq bs text) refl h (first_of_both (list_any (bytes_eq text) spellings) (spelled_all texts) all)
    (λ further. any_in bs texts further (second_of_both (list_any (bytes_eq text) spellings) (spelled_all texts) all))

-- the reserved words are among them
keywords_spelled : spelled_all keyword_words ≡ true
unfolding spelled_all
keywords_spelled = refl

pick_at : (bs text : List ℕ) (texts : List (List ℕ)) (b : Bool) → bytes_eq bs text ≡ b → (b || list_any (bytes_eq bs) texts) ≡ true →
    (list_any (bytes_eq bs) texts ≡ true → (i : ℕ) × (slice_get texts i ≡ Some bs)) → (i : ℕ) × (slice_get (text ∷ texts) i ≡ Some bs)
pick_at bs text texts true e h rest = let same : bs ≡ text = (bytes_eq-Decides bs text).0 e in (0, ap Some (sym same))
pick_at bs text texts false e h rest = let further = rest h in (suc further.0, further.1)

any_at : (bs : List ℕ) (texts : List (List ℕ)) → list_any (bytes_eq bs) texts ≡ true → (i : ℕ) × (slice_get texts i ≡ Some bs)
any_at bs [] h = absurd (cc)
any_at bs (text ∷ texts) h = pick_at bs text texts (bytes_eq bs text) refl h (any_at bs texts)

pub keyword_at : (bs : List ℕ) → list_any (bytes_eq bs) keyword_words ≡ true → (i : ℕ) × (slice_get spellings i ≡ Some bs)
keyword_at bs h = any_at bs spellings (any_in bs keyword_words h keywords_spelled)

-- a terminal with a code from 10 on reads the plain token by its text
module _ (text : List ℕ) (context : Context) (at : ℕ) where
  by_texts : (terminal : Terminal) → 10 ≤ code_of terminal → plain_at text context terminal at ≡ read_by text context terminal (token text at Division)
  unfolding code_of terminal_at mode_of
  by_texts t.Word from = absurd (omega (arith, from))
  by_texts t.Name from = absurd (omega (arith, from))
  by_texts t.Private from = absurd (omega (arith, from))
  by_texts t.Number from = absurd (omega (arith, from))
  by_texts t.Text from = absurd (omega (arith, from))
  by_texts t.RegExp from = absurd (omega (arith, from))
  by_texts t.Full from = absurd (omega (arith, from))
  by_texts t.Head from = absurd (omega (arith, from))
  by_texts t.Middle from = absurd (omega (arith, from))
  by_texts t.Tail from = absurd (omega (arith, from))
  by_texts t.AccessorWord from = refl
  by_texts t.DeclarationWord from = refl
  by_texts t.AssignmentOperator from = refl
  by_texts t.EqualityOperator from = refl
  by_texts t.RelationalOperator from = refl
  by_texts t.ShiftOperator from = refl
  by_texts t.AdditiveOperator from = refl
  by_texts t.MultiplicativeOperator from = refl
  by_texts t.UnaryOperator from = refl
  by_texts t.UpdateOperator from = refl
  by_texts (t.Spelled code) from = refl

  word_read : (terminal : Terminal) (kind : TokenKind) (bs : List ℕ) → 10 ≤ code_of terminal → reads_kind context terminal kind bs ≡ reads_word bs terminal
  unfolding code_of reads_kind reads_word
  word_read t.Word kind bs from = absurd (omega (arith, from))
  word_read t.Name kind bs from = absurd (omega (arith, from))
  word_read t.Private kind bs from = absurd (omega (arith, from))
  word_read t.Number kind bs from = absurd (omega (arith, from))
  word_read t.Text kind bs from = absurd (omega (arith, from))
  word_read t.RegExp kind bs from = absurd (omega (arith, from))
  word_read t.Full kind bs from = absurd (omega (arith, from))
  word_read t.Head kind bs from = absurd (omega (arith, from))
  word_read t.Middle kind bs from = absurd (omega (arith, from))
  word_read t.Tail kind bs from = absurd (omega (arith, from))
  word_read t.AccessorWord kind bs from = refl
  word_read t.DeclarationWord kind bs from = refl
  word_read t.AssignmentOperator kind bs from = refl
  word_read t.EqualityOperator kind bs from = refl
  word_read t.RelationalOperator kind bs from = refl
  word_read t.ShiftOperator kind bs from = refl
  word_read t.AdditiveOperator kind bs from = refl
  word_read t.MultiplicativeOperator kind bs from = refl
  word_read t.UnaryOperator kind bs from = refl
  word_read t.UpdateOperator kind bs from = refl
  word_read (t.Spelled code) kind bs from = refl

  no_read : (terminal : Terminal) → 10 ≤ code_of terminal → token text at Division ≡ None → IsSome (plain_at text context terminal at) → ⊥
  no_read terminal from none h =
      let same : plain_at text context terminal at ≡ None = by_texts terminal from ∙ ap (λ (o : Option Token). read_by text context terminal o) none in
      let both : IsSome {T = Token} None = subst (λ (o : Option Token). IsSome o) same h in cc

  read_word : (found : Token) (terminal : Terminal) → 10 ≤ code_of terminal → token text at Division ≡ Some found →
      IsSome (plain_at text context terminal at) ↔ (reads_word (text_of text found) terminal ≡ true)
  read_word found terminal from some =
      let same : plain_at text context terminal at ≡ read_by text context terminal (Some found) =
      by_texts terminal from ∙ ap (λ (o : Option Token). read_by text context terminal o) some in
      let one = some_read (reads_kind context terminal found.kind (text_of text found)) found in
      let word = word_read terminal found.kind (text_of text found) from in (
        λ h. sym word ∙ one.0 (subst (λ (o : Option Token). IsSome o) same h),
        λ h. subst (λ (o : Option Token). IsSome o) (sym same) (one.1 (word ∙ h)),
      )

  module _ (set new : ℕ) (before : Found text context at set 10) (low : (k : ℕ) → k < 10 → bit_at new k ≡ bit_at set k)
      (high : (k : ℕ) → 125 ≤ k → bit_at new k ≡ 0)
      (each : (terminal : Terminal) → 10 ≤ code_of terminal → code_of terminal < 125 → HasTerminal new terminal ↔ IsSome (plain_at text context terminal at)) where
    each_by : (terminal : Terminal) (b : Bool) → nat_lt (code_of terminal) 10 ≡ b → code_of terminal < 125 →
        HasTerminal new terminal ↔ IsSome (plain_at text context terminal at)
    each_by terminal true e h =
        let below : code_of terminal < 10 = ltb-true (code_of terminal) 10 e in
        let old = before.each terminal below in
        let same = low (code_of terminal) below in
        (λ k. old.0 (sym same ∙ k), λ k. same ∙ old.1 k)
    each_by terminal false e h = each terminal (ltb-false (code_of terminal) 10 e) h

    whole_found : Found text context at new 125
    whole_found = record { each = λ terminal h. each_by terminal (nat_lt (code_of terminal) 10) refl h; above = high }

  module _ (set : ℕ) (before : Found text context at set 10) where
    unset : (k : ℕ) → 10 ≤ k → bit_at set k ≡ 1 → ⊥
    unset k from h = absurd (omega (arith, h, before.above k from))

    same_found : ((terminal : Terminal) → 10 ≤ code_of terminal → code_of terminal < 125 → IsSome (plain_at text context terminal at) → ⊥) →
        Found text context at set 125
    same_found never =
        whole_found set set before (λ k low. refl) (λ k high. before.above k (omega (arith, high)))
        (λ terminal from low. (λ h. absurd (unset (code_of terminal) from h), λ h. absurd (never terminal from low h)))

    pub no_token : token text at Division ≡ None → Found text context at set 125
    no_token none = same_found (λ terminal from low. no_read terminal from none)

    module _ (found : Token) (some : token text at Division ≡ Some found) where
      pub no_word : ((code : ℕ) → slice_get spellings code ≡ Some (text_of text found) → ⊥) → Found text context at set 125
      unfolding reads_word
      no_word never =
          same_found (λ terminal from low h.
          let word = (read_word found terminal from some).0 h in
          let spelled = of_texts_at (λ terminal. spelled_all (texts_of terminal)) all_spelled terminal from low in
          let last = any_at (text_of text found) spellings (any_in (text_of text found) (texts_of terminal) word spelled) in
          never last.0 last.1)

      module _ (own : ℕ) (right : row_right (text_of text found) own ≡ true) where
        agrees : of_texts (λ terminal. agree (bit_at own (code_of terminal) == 1) (reads_word (text_of text found) terminal)) ≡ true
        unfolding row_right
        agrees = first_of_both _ _ right

        lower : (k : ℕ) → k < 10 → bit_at own k ≡ 0
        unfolding row_right
        lower k low =
            eqb-true (bit_at own k) 0
            (below_at (λ k. bit_at own k == 0) 10 k (first_of_both (all_below (λ k. bit_at own k == 0) 10) (nat_lt own (2 ^ 125)) (second_of_both _ _ right)) low)

        higher : (k : ℕ) → 125 ≤ k → bit_at own k ≡ 0
        unfolding row_right
        higher k high =
            bit_at_above own 125 k (ltb-true own (2 ^ 125) (second_of_both (all_below (λ k. bit_at own k == 0) 10) (nat_lt own (2 ^ 125)) (second_of_both _ _ right))) high

        both : (k : ℕ) → bit_at (bit_or set own) k ≡ max (bit_at set k) (bit_at own k)
        both k = bit_at_or set own k

        own_found : Found text context at (bit_or set own) 125
        own_found =
            whole_found set (bit_or set own) before (λ k low. omega (arith, both k, lower k low, bit_at-lt set k))
            (λ k high. omega (arith, both k, higher k high, before.above k (omega (arith, high))))
            (λ terminal from low.
            let one : bit_at (bit_or set own) (code_of terminal) ≡ bit_at own (code_of terminal) =
            omega (arith, both (code_of terminal), before.above (code_of terminal) from, bit_at-lt own (code_of terminal)) in
            let told = agreed (bit_at own (code_of terminal) == 1) (reads_word (text_of text found) terminal)
            (of_texts_at (λ terminal. agree (bit_at own (code_of terminal) == 1) (reads_word (text_of text found) terminal)) agrees terminal from low) in
            let read = read_word found terminal from some in (
              λ h. read.1 (told.0 (eq-eqb (bit_at own (code_of terminal)) 1 (sym one ∙ h))),
              λ h. one ∙ eqb-true (bit_at own (code_of terminal)) 1 (told.1 (read.0 h)),
            ))

      pub this_word : (code own : ℕ) → slice_get spellings code ≡ Some (text_of text found) → own ≡ unwrap_or (slice_get text_sets code) 0 →
          Found text context at (bit_or set own) 125
      this_word code own word is =
          let row = row_at spellings text_sets code (text_of text found) all_right word in
          let same : own ≡ row.0 = is ∙ ap (λ o. unwrap_or o 0) row.1 in
          subst (λ own. Found text context at (bit_or set own) 125) (sym same) (own_found row.0 row.2)

-- a word that the grammar names besides
pub spelled_read : (context : Context) (kind : TokenKind) (bs : List ℕ) (code : ℕ) →
    (reads_kind context (t.Spelled code) kind bs ≡ true) ↔ (slice_get spellings code ≡ Some bs)
unfolding reads_kind texts_of
spelled_read context kind bs code = by_text bs (slice_get spellings code)
