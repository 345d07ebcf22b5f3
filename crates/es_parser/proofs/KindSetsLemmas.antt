-- The terminals that read a token by its kind.
use Rattle.std.proofs.Common.{◌≡◌, ◌<◌, ◌^◌, ◌∙◌, ℕ, List, [], ◌∷◌, Bool, true, false, Option, Some, refl, sym, ap, subst, arith, eqb-true, eq-eqb, ltb-true}
use Rattle.std.specs.Prelude.{◌↔◌, ◌≢◌, ◌==◌, ◌&&◌, IfNone, IfSome, IsSome, is_some, nat_lt, not, slice_get}
use Rattle.std.specs.Int.{bit_at}
use Rattle.std.specs.List.{list_all}
use Rattle.std.proofs.lemmas.Nat.Bits.{bit_at_above}
use Rattle.es_text.specs.declared.token.LexMode.TheVariants.{Division}
use Rattle.es_text.specs.declared.token.Token.{Token}
use Rattle.es_text.specs.declared.token.TokenKind.{TokenKind}
use Rattle.es_text.specs.declared.token.TokenKind.TheVariants as kind
use Rattle.es_text.specs.Tokens.{token}
use Rattle.es_grammar.specs.declared.context.Context.{Context}
use Rattle.es_grammar.specs.declared.part.Terminal.{Terminal}
use Rattle.es_grammar.specs.declared.part.Terminal.TheVariants as t
use Rattle.es_grammar.specs.TerminalSets.{HasTerminal, code_of}
use Rattle.es_grammar.specs.Terminals.{is_reserved, kind_index, mode_of, read_by, reads_kind, same_kind, spellings, terminal_at, text_of}
use Rattle.es_parser.specs.Found.{Found}
use Rattle.es_parser.specs.Kept.{plain_at}
use Rattle.es_parser.specs.KindSets.{is_reserved_code, kind_set}
use Rattle.es_parser.proofs.BeginningsLemmas.{Same, no_some, this_one}
use Rattle.es_parser.proofs.FixedLemmas.{first_of_both, second_of_both, some_read}
use Rattle.es_parser.proofs.ReservedLemmas.{reserved_by}
use Rattle.es_parser.proofs.TextSetsLemmas.{agree, agreed, all_at}

terminals : List Terminal
terminals = t.Word ∷ t.Name ∷ t.Private ∷ t.Number ∷ t.Text ∷ t.Full ∷ t.Head ∷ []

reads_plain : Bool → TokenKind → Terminal → Bool
reads_plain reserved k t.Word = same_kind k kind.Word
reads_plain reserved k t.Name = same_kind k kind.Word && not reserved
reads_plain reserved k t.Private = same_kind k kind.Private
reads_plain reserved k t.Number = same_kind k kind.Number
reads_plain reserved k t.Text = same_kind k kind.Text
reads_plain reserved k t.Full = same_kind k kind.Full
reads_plain reserved k t.Head = same_kind k kind.Head
reads_plain reserved k other = false

these_right : Bool → TokenKind → Bool
these_right reserved k =
    list_all (λ terminal. agree (bit_at (kind_set k reserved) (code_of terminal) == 1) (reads_plain reserved k terminal)) terminals

is_zero : ℕ → ℕ → Bool
is_zero set k = bit_at set k == 0

rest_right : Bool → TokenKind → Bool
rest_right reserved k =
    is_zero (kind_set k reserved) 5
    && (is_zero (kind_set k reserved) 8 && (is_zero (kind_set k reserved) 9 && nat_lt (kind_set k reserved) (2 ^ 10)))

these_hold : (reserved : Bool) (k : TokenKind) → these_right reserved k ≡ true
unfolding agree code_of kind_index kind_set reads_plain terminals these_right
these_hold true kind.Word = refl
these_hold false kind.Word = refl
these_hold reserved kind.Private = refl
these_hold reserved (kind.Punctuator code) = refl
these_hold reserved kind.Number = refl
these_hold reserved kind.Text = refl
these_hold reserved kind.RegExp = refl
these_hold reserved kind.Full = refl
these_hold reserved kind.Head = refl
these_hold reserved kind.Middle = refl
these_hold reserved kind.Tail = refl
these_hold reserved kind.End = refl

rest_holds : (reserved : Bool) (k : TokenKind) → rest_right reserved k ≡ true
unfolding is_zero kind_set rest_right
rest_holds true kind.Word = refl
rest_holds false kind.Word = refl
rest_holds reserved kind.Private = refl
rest_holds reserved (kind.Punctuator code) = refl
rest_holds reserved kind.Number = refl
rest_holds reserved kind.Text = refl
rest_holds reserved kind.RegExp = refl
rest_holds reserved kind.Full = refl
rest_holds reserved kind.Head = refl
rest_holds reserved kind.Middle = refl
rest_holds reserved kind.Tail = refl
rest_holds reserved kind.End = refl

module _ (reserved : Bool) (k : TokenKind) where
  from_5 : (bit_at (kind_set k reserved) 5 ≡ 0)
  unfolding is_zero rest_right
  from_5 = eqb-true (bit_at (kind_set k reserved) 5) 0 (first_of_both (is_zero (kind_set k reserved) 5) _ (rest_holds reserved k))

  behind_5 : (is_zero (kind_set k reserved) 8 && (is_zero (kind_set k reserved) 9 && nat_lt (kind_set k reserved) (2 ^ 10))) ≡ true
  unfolding rest_right
  behind_5 = second_of_both (is_zero (kind_set k reserved) 5) _ (rest_holds reserved k)

  from_8 : bit_at (kind_set k reserved) 8 ≡ 0
  unfolding is_zero
  from_8 = eqb-true (bit_at (kind_set k reserved) 8) 0 (first_of_both (is_zero (kind_set k reserved) 8) _ behind_5)

  behind_8 : (is_zero (kind_set k reserved) 9 && nat_lt (kind_set k reserved) (2 ^ 10)) ≡ true
  behind_8 = second_of_both (is_zero (kind_set k reserved) 8) _ behind_5

  from_9 : bit_at (kind_set k reserved) 9 ≡ 0
  unfolding is_zero
  from_9 = eqb-true (bit_at (kind_set k reserved) 9) 0 (first_of_both (is_zero (kind_set k reserved) 9) _ behind_8)

  from_10 : kind_set k reserved < 2 ^ 10
  from_10 = ltb-true (kind_set k reserved) (2 ^ 10) (second_of_both (is_zero (kind_set k reserved) 9) _ behind_8)

-- the set of a token's kind, and the bit of what reads regular expressions
module _ (text : List ℕ) (context : Context) (at : ℕ) (found : Token) (some : token text at Division ≡ Some found) (reserved : Bool)
    (own : reserved ≡ is_reserved context (text_of text found)) (new : ℕ) (slash : Bool) (reads : slash ≡ is_some (plain_at text context t.RegExp at))
    (others : (k : ℕ) → k ≢ 5 → bit_at new k ≡ bit_at (kind_set found.kind reserved) k) (put : slash ≡ true → bit_at new 5 ≡ 1)
    (left : slash ≡ false → new ≡ kind_set found.kind reserved) where
  one : (terminal : Terminal) (i : ℕ) → slice_get terminals i ≡ Some terminal → code_of terminal ≢ 5 →
      plain_at text context terminal at ≡ read_by text context terminal (token text at Division) →
      reads_kind context terminal found.kind (text_of text found) ≡ reads_plain (is_reserved context (text_of text found)) found.kind terminal →
      HasTerminal new terminal ↔ IsSome (plain_at text context terminal at)
  unfolding these_right
  one terminal i is apart plain by_kind =
      let same : plain_at text context terminal at ≡ read_by text context terminal (Some found) =
      plain ∙ ap (λ (o : Option Token). read_by text context terminal o) some in
      let kinds : reads_kind context terminal found.kind (text_of text found) ≡ reads_plain reserved found.kind terminal =
      by_kind ∙ ap (λ so. reads_plain so found.kind terminal) (sym own) in
      let read = some_read (reads_kind context terminal found.kind (text_of text found)) found in
      let told = agreed (bit_at (kind_set found.kind reserved) (code_of terminal) == 1) (reads_plain reserved found.kind terminal)
      (all_at (λ terminal. agree (bit_at (kind_set found.kind reserved) (code_of terminal) == 1) (reads_plain reserved found.kind terminal)) terminals i terminal is
      (these_hold reserved found.kind)) in
      let bit = others (code_of terminal) apart in (
        λ h. subst (λ (o : Option Token). IsSome o) (sym same)
            (read.1 (kinds ∙ told.0 (eq-eqb (bit_at (kind_set found.kind reserved) (code_of terminal)) 1 (sym bit ∙ h)))),
        λ h. bit ∙ eqb-true (bit_at (kind_set found.kind reserved) (code_of terminal)) 1
            (told.1 (sym kinds ∙ read.0 (subst (λ (o : Option Token). IsSome o) same h))),
      )

  each : (terminal : Terminal) → code_of terminal < 10 → HasTerminal new terminal ↔ IsSome (plain_at text context terminal at)
  unfolding Same code_of mode_of reads_kind reads_plain terminal_at terminals
  each t.Word low = one t.Word 0 refl (omega arith) refl refl
  each t.Name low = one t.Name 1 refl (omega arith) refl refl
  each t.Private low = one t.Private 2 refl (omega arith) refl refl
  each t.Number low = one t.Number 3 refl (omega arith) refl refl
  each t.Text low = one t.Text 4 refl (omega arith) refl refl
  each t.RegExp low = this_one text context at (kind_set found.kind reserved) new t.RegExp slash (from_5 reserved found.kind) reads put left
  each t.Full low = one t.Full 5 refl (omega arith) refl refl
  each t.Head low = one t.Head 6 refl (omega arith) refl refl
  each t.Middle low =
      let bit = others 8 (omega arith) in
      (λ h. absurd (omega (arith, h, bit, from_8 reserved found.kind)), λ h. absurd (no_some (plain_at text context t.Middle at) refl h))
  each t.Tail low =
      let bit = others 9 (omega arith) in
      (λ h. absurd (omega (arith, h, bit, from_9 reserved found.kind)), λ h. absurd (no_some (plain_at text context t.Tail at) refl h))
  each t.AccessorWord low = absurd (omega (arith, low))
  each t.DeclarationWord low = absurd (omega (arith, low))
  each t.AssignmentOperator low = absurd (omega (arith, low))
  each t.EqualityOperator low = absurd (omega (arith, low))
  each t.RelationalOperator low = absurd (omega (arith, low))
  each t.ShiftOperator low = absurd (omega (arith, low))
  each t.AdditiveOperator low = absurd (omega (arith, low))
  each t.MultiplicativeOperator low = absurd (omega (arith, low))
  each t.UnaryOperator low = absurd (omega (arith, low))
  each t.UpdateOperator low = absurd (omega (arith, low))
  each (t.Spelled code) low = absurd (omega (arith, low))

  kinds_found : Found text context at new 10
  kinds_found = record {
    each = each;
    above = λ k high. others k (omega (arith, high)) ∙ bit_at_above (kind_set found.kind reserved) 10 k (from_10 reserved found.kind) high;
  }

-- the same by the code of the token's text
pub kinds_by : (text : List ℕ) (context : Context) (at : ℕ) (found : Token) → token text at Division ≡ Some found → (code : Option ℕ) (bs : List ℕ) →
    bs ≡ text_of text found → IfSome code (λ code. slice_get spellings code ≡ Some bs) → IfNone code ((code : ℕ) → slice_get spellings code ≡ Some bs → ⊥) →
    (reserved : Bool) → reserved ≡ is_reserved_code context code → (own : ℕ) → own ≡ kind_set found.kind reserved → (slash : Bool) →
    slash ≡ is_some (plain_at text context t.RegExp at) → (new : ℕ) → ((k : ℕ) → k ≢ 5 → bit_at new k ≡ bit_at own k) → (slash ≡ true → bit_at new 5 ≡ 1) →
    (slash ≡ false → new ≡ own) → Found text context at new 10
kinds_by text context at found some code bs same spelled unspelled reserved by_code own is slash reads new others put left =
    kinds_found text context at found some reserved (by_code ∙ reserved_by context code bs spelled unspelled ∙ ap (is_reserved context) same) new slash reads
    (λ k apart. others k apart ∙ ap (λ set. bit_at set k) is) put (λ e. left e ∙ is)
