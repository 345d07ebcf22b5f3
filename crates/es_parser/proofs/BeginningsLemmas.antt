-- The set of the terminals that read the next token, as far as it is found.
use Rattle.std.proofs.Common.{◌≡◌, ℕ, ◌<◌, ◌≤◌, ◌+◌, ◌^◌, ◌*◌, ◌%◌, List, [], ◌∷◌, Bool, true, false, Option, Some, None, ap, arith, refl, sym, subst, ◌∙◌, ltb-true, ltb-false, eqb-true, eq-eqb, ◌⊎◌, inl, inr}
use Rattle.std.specs.Prelude.{◌↔◌, IsSome, IsTrue, is_some, ◌==◌, nat_lt, if◌then◌else◌, ◌≢◌}
use Rattle.std.specs.List.{list_any}
use Rattle.std.specs.Option.{option_map_or}
use Rattle.std.specs.Str.{bytes_eq}
use Rattle.std.specs.Int.{bit_at, w128}
use Rattle.std.specs.Int.RustNames.{bit_or}
use Rattle.std.proofs.lemmas.Option.{slice_get_past}
use Rattle.std.proofs.lemmas.Nat.Bits.{bit_at_or, bit_at_set_other, bit_at-lt, bit_at-zero}
use Rattle.es_text.specs.declared.token.Token.{Token}
use Rattle.es_text.specs.declared.token.TokenKind.{TokenKind}
use Rattle.es_text.specs.Tokens.{token}
use Rattle.es_grammar.specs.declared.context.Context.{Context}
use Rattle.es_grammar.specs.declared.part.Terminal.{Terminal}
use Rattle.es_grammar.specs.declared.part.Terminal.TheVariants as t
use Rattle.es_grammar.specs.declared.symbol.Symbol.{Symbol}
use Rattle.es_grammar.specs.declared.context.Spot.{Spot}
use Rattle.es_grammar.specs.Firsts.{BeginsTurn, CanBegin, next_begins, turn_rows}
use Rattle.es_grammar.specs.Grammar.{rule_of}
use Rattle.es_grammar.specs.TerminalSets.{HasTerminal, OneCode, code_of}
use Rattle.es_grammar.specs.Terminals.{mode_of, read_by, reads_kind, spellings, terminal_at, text_of, texts_of}
use Rattle.es_parser.specs.Found.{Found}
use Rattle.es_parser.specs.Kept.{HasTerminals, goes_on, plain_at}
use Rattle.es_parser.specs.Begins.{BeginsNext}

pub ne_from : (a b : ℕ) → (a == b) ≡ false → a ≢ b
ne_from a b e same = let known : (a == b) ≡ true = eq-eqb a b same in cc

module _ (text : List ℕ) (context : Context) (at : ℕ) where
  pub none_found : Found text context at 0 0
  none_found = record { each = λ terminal h. absurd (omega arith); above = λ k h. bit_at-zero k }

  unfoldable pub Same : ℕ → Terminal → Type 0
  Same set terminal = HasTerminal set terminal ↔ IsSome (plain_at text context terminal at)

  pub this_one : (set new : ℕ) (terminal : Terminal) (found : Bool) → bit_at set (code_of terminal) ≡ 0 →
      found ≡ is_some (plain_at text context terminal at) → (found ≡ true → bit_at new (code_of terminal) ≡ 1) → (found ≡ false → new ≡ set) →
      Same new terminal
  unfolding Same
  this_one set new terminal true none so put left = (λ _. sym so, λ _. put refl)
  this_one set new terminal false none so put left =
      (λ h. absurd (omega (arith, h, none, ap (λ n. bit_at n (code_of terminal)) (left refl))), λ h. absurd (cc))

  module _ (same_code : OneCode) (set new code : ℕ) (terminal : Terminal) (found : Bool) (before : Found text context at set code) (is_code : code_of terminal ≡ code)
      (so : found ≡ is_some (plain_at text context terminal at)) (others : (k : ℕ) → k ≢ code → bit_at new k ≡ bit_at set k)
      (put : found ≡ true → bit_at new code ≡ 1) (left : found ≡ false → new ≡ set) where
    here : Same new terminal
    here = this_one set new terminal found (before.above (code_of terminal) (omega arith)) so (λ e. subst (λ k. bit_at new k ≡ 1) (sym is_code) (put e)) left

    each_one : (other : Terminal) (b : Bool) → (code_of other == code) ≡ b → code_of other < code + 1 → Same new other
    unfolding Same
    each_one other true e h = subst (λ (one : Terminal). Same new one) (same_code terminal other (is_code ∙ sym (eqb-true (code_of other) code e))) here
    each_one other false e h =
        let apart : code_of other ≢ code = ne_from (code_of other) code e in
        let low : code_of other < code = omega (arith, h) in
        let old : HasTerminal set other ↔ IsSome (plain_at text context other at) = before.each other low in
        let bits : bit_at new (code_of other) ≡ bit_at set (code_of other) = others (code_of other) apart in
        (λ k. old.0 (sym bits ∙ k), λ k. bits ∙ old.1 k)

    pub more_found : Found text context at new (code + 1)
    unfolding Same
    more_found = record {
      each = λ other h. each_one other (code_of other == code) refl h;
      above = λ k h. let apart : k ≢ code = omega (arith, h) in others k apart ∙ before.above k (omega (arith, h));
    }

pub no_some : (o : Option Token) → o ≡ None → IsSome o → ⊥
no_some None e h = cc
no_some (Some found) e h = cc

-- the texts of single tokens end before the greatest codes

no_text : (code : ℕ) → 105 ≤ code → texts_of (t.Spelled code) ≡ []
unfolding texts_of
no_text code high = ap (λ o. option_map_or (λ (text : List ℕ). text ∷ []) o []) (slice_get_past spellings code high)

reads_none : (context : Context) (code : ℕ) (k : TokenKind) (text : List ℕ) → 105 ≤ code → reads_kind context (t.Spelled code) k text ≡ false
unfolding reads_kind
reads_none context code k text high = ap (list_any (bytes_eq text)) (no_text code high)

none_by : (text : List ℕ) (context : Context) (code : ℕ) (found : Option Token) → 105 ≤ code → read_by text context (t.Spelled code) found ≡ None
none_by text context code None high = refl
none_by text context code (Some found) high =
    ap (λ (so : Bool). if so then Some found else None) (reads_none context code found.kind (text_of text found) high)

none_at : (text : List ℕ) (context : Context) (code at : ℕ) → 105 ≤ code → terminal_at text context (t.Spelled code) at ≡ None
unfolding terminal_at
none_at text context code at high = none_by text context code (token text at (mode_of (t.Spelled code))) high

pub is_spelled : (terminal : Terminal) → 20 ≤ code_of terminal → (code : ℕ) × (code_of terminal ≡ 20 + code) × (terminal ≡ t.Spelled code)
unfolding code_of
is_spelled t.Word h = absurd (omega arith)
is_spelled t.Name h = absurd (omega arith)
is_spelled t.Private h = absurd (omega arith)
is_spelled t.Number h = absurd (omega arith)
is_spelled t.Text h = absurd (omega arith)
is_spelled t.RegExp h = absurd (omega arith)
is_spelled t.Full h = absurd (omega arith)
is_spelled t.Head h = absurd (omega arith)
is_spelled t.Middle h = absurd (omega arith)
is_spelled t.Tail h = absurd (omega arith)
is_spelled t.AccessorWord h = absurd (omega arith)
is_spelled t.DeclarationWord h = absurd (omega arith)
is_spelled t.AssignmentOperator h = absurd (omega arith)
is_spelled t.EqualityOperator h = absurd (omega arith)
is_spelled t.RelationalOperator h = absurd (omega arith)
is_spelled t.ShiftOperator h = absurd (omega arith)
is_spelled t.AdditiveOperator h = absurd (omega arith)
is_spelled t.MultiplicativeOperator h = absurd (omega arith)
is_spelled t.UnaryOperator h = absurd (omega arith)
is_spelled t.UpdateOperator h = absurd (omega arith)
is_spelled (t.Spelled code) h = (code, refl, refl)

-- when all codes below are found, the set has exactly the terminals that read the next token
module _ (text : List ℕ) (context : Context) (at set : ℕ) (found : Found text context at set 125) where
  beyond : (terminal : Terminal) → 125 ≤ code_of terminal → Same text context at set terminal
  unfolding Same
  beyond terminal high =
      let last : (code : ℕ) × (code_of terminal ≡ 20 + code) × (terminal ≡ t.Spelled code) = is_spelled terminal (omega (arith, high)) in
      let none : plain_at text context terminal at ≡ None =
      ap (λ (one : Terminal). plain_at text context one at) last.2 ∙ none_at text context last.0 at (omega (arith, high, last.1)) in
      (λ h. absurd (omega (arith, h, found.above (code_of terminal) high)), λ h. absurd (no_some (plain_at text context terminal at) none h))

  by_code : (terminal : Terminal) (b : Bool) → nat_lt (code_of terminal) 125 ≡ b → Same text context at set terminal
  unfolding Same
  by_code terminal true e = found.each terminal (ltb-true (code_of terminal) 125 e)
  by_code terminal false e = beyond terminal (ltb-false (code_of terminal) 125 e)

  pub all_found : HasTerminals text context at set
  unfolding Same
  all_found = record { each = λ terminal. by_code terminal (nat_lt (code_of terminal) 125) refl }

-- a set of one terminal

this_bit : (code k : ℕ) → code < 128 → bit_at (1 * 2 ^ code % 2 ^ 128) k ≡ 1 → k ≡ code
this_bit code k low h = by_bit (k == code) refl
  where
    by_bit : (b : Bool) → (k == code) ≡ b → k ≡ code
    by_bit true e = eqb-true k code e
    by_bit false e =
        let none : bit_at (bit_or 0 (1 * 2 ^ code % 2 ^ 128)) k ≡ bit_at 0 k = bit_at_set_other w128 0 code low k (ne_from k code e) in
        absurd (omega (arith, h, none, bit_at-zero k))

pub only_this : OneCode → (symbol : Symbol) (terminal other : Terminal) (code : ℕ) → code ≡ code_of terminal → code_of terminal < 128 →
    HasTerminal (1 * 2 ^ code % 2 ^ 128) other → BeginsTurn other symbol → BeginsTurn terminal symbol
only_this same_code symbol terminal other code e low has begins =
    let same : code_of other ≡ code = this_bit code (code_of other) (omega (arith, e, low)) has in
    subst (λ (one : Terminal). BeginsTurn one symbol) (same_code other terminal (same ∙ e)) begins

-- what begins a turn

plain_some : (o : Option Token) (b : Bool) → IsSome (if b then None else o) → IsSome o
plain_some o true h = absurd (cc)
plain_some o false h = h

some_plain : (o : Option Token) (b : Bool) → b ≡ false → IsSome o → IsSome (if b then None else o)
some_plain o true e h = absurd (cc)
some_plain o false e h = h

pub is_part : (terminal : Terminal) → goes_on terminal ≡ true → (terminal ≡ t.Middle) ⊎ (terminal ≡ t.Tail)
is_part t.Word h = absurd (cc)
is_part t.Name h = absurd (cc)
is_part t.Private h = absurd (cc)
is_part t.Number h = absurd (cc)
is_part t.Text h = absurd (cc)
is_part t.RegExp h = absurd (cc)
is_part t.Full h = absurd (cc)
is_part t.Head h = absurd (cc)
is_part t.Middle h = inl refl
is_part t.Tail h = inr refl
is_part t.AccessorWord h = absurd (cc)
is_part t.DeclarationWord h = absurd (cc)
is_part t.AssignmentOperator h = absurd (cc)
is_part t.EqualityOperator h = absurd (cc)
is_part t.RelationalOperator h = absurd (cc)
is_part t.ShiftOperator h = absurd (cc)
is_part t.AdditiveOperator h = absurd (cc)
is_part t.MultiplicativeOperator h = absurd (cc)
is_part t.UnaryOperator h = absurd (cc)
is_part t.UpdateOperator h = absurd (cc)
is_part (t.Spelled code) h = absurd (cc)

in_first : (set more i : ℕ) → bit_at set i ≡ 1 → bit_at (bit_or set more) i ≡ 1
in_first set more i h = omega (arith, bit_at_or set more i, bit_at-lt more i, h)

in_second : (set more i : ℕ) → bit_at more i ≡ 1 → bit_at (bit_or set more) i ≡ 1
in_second set more i h = omega (arith, bit_at_or set more i, bit_at-lt set i, h)

module _ (text : List ℕ) (spot : Spot) where
  pub by_next : (terminal : Terminal) (symbol : Symbol) → BeginsNext text spot terminal symbol → CanBegin text spot (turn_rows (rule_of symbol))
  by_next terminal symbol next = next_begins terminal next.0 next.1

  module _ (symbol : Symbol) (set : ℕ) (exact : HasTerminals text spot.context spot.at set) where
    pub by_set : (terminal : Terminal) × HasTerminal set terminal × BeginsTurn terminal symbol → CanBegin text spot (turn_rows (rule_of symbol))
    by_set begins = next_begins begins.0 begins.2 (plain_some (terminal_at text spot.context begins.0 spot.at) (goes_on begins.0) ((exact.each begins.0).0 begins.1))

    module _ (so : Bool) (not_so : so ≡ false) (each : (terminal : Terminal) → HasTerminal set terminal → BeginsTurn terminal symbol → IsTrue so)
        (middle : BeginsNext text spot t.Middle symbol → ⊥) (tail : BeginsNext text spot t.Tail symbol → ⊥) where
      not_this : (terminal : Terminal) (b : Bool) → goes_on terminal ≡ b → BeginsNext text spot terminal symbol → ⊥
      not_this terminal false e next =
          let told : so ≡ true = each terminal ((exact.each terminal).1 (some_plain (terminal_at text spot.context terminal spot.at) (goes_on terminal) e next.1)) next.0 in cc
      not_this terminal true e next = elim (is_part terminal e) [
        | inl same ↦ middle (subst (λ (one : Terminal). BeginsNext text spot one symbol) same next)
        | inr same ↦ tail (subst (λ (one : Terminal). BeginsNext text spot one symbol) same next)
      ]

      pub no_beginning : CanBegin text spot (turn_rows (rule_of symbol)) → ⊥
      no_beginning (next_begins terminal begins some) = not_this terminal (goes_on terminal) refl (begins, some)

    -- where neither the set nor the later parts of templates begin one
    pub none_among : (later : ℕ) → HasTerminal later t.Middle → HasTerminal later t.Tail → (so : Bool) → so ≡ false →
        ((terminal : Terminal) → HasTerminal (bit_or set later) terminal → BeginsTurn terminal symbol → IsTrue so) → CanBegin text spot (turn_rows (rule_of symbol)) → ⊥
    none_among later middle tail so not_so each =
        no_beginning so not_so (λ terminal has begins. each terminal (in_first set later (code_of terminal) has) begins)
        (λ next. let told : so ≡ true = each t.Middle (in_second set later (code_of t.Middle) middle) next.0 in cc)
        (λ next. let told : so ≡ true = each t.Tail (in_second set later (code_of t.Tail) tail) next.0 in cc)
