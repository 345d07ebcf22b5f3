-- The tables of first tokens hold exactly the least sets.
use Rattle.std.proofs.Common.{◌≡◌, ℕ, List, [], ◌∷◌, Bool, true, false, refl, sym, ◌∙◌, ap, subst, ◌<◌, ◌⊎◌, inl, inr, zero, suc, arith, ltb-true, ltb-false, zero-add, eqb-true, ◌^◌, ◌+◌, ◌-◌, slice_index_or, length, ◌≤◌}
use Rattle.std.specs.Prelude.{◌&&◌, ◌==◌, if◌then◌else◌, nat_lt}
use Rattle.std.specs.List.{list_all}
use Rattle.std.specs.Int.{bit_at}
use Rattle.std.specs.Int.RustNames.{bit_and, bit_or}
use Rattle.std.proofs.lemmas.Nat.{and_le_l}
use Rattle.std.proofs.lemmas.Nat.Bits.{bit_at-pow_same}
use Rattle.es_grammar.specs.declared.part.Part.{Part}
use Rattle.es_grammar.specs.declared.part.Part.TheVariants as part
use Rattle.es_grammar.specs.declared.part.Terminal.{Terminal}
use Rattle.es_grammar.specs.declared.part.Terminal.TheVariants as t
use Rattle.es_grammar.specs.declared.symbol.Symbol.{Symbol}
use Rattle.es_grammar.specs.FirstSets.{first_of, is_closed, lead_of, may_be_empty, part_empty, part_first, part_lead, parts_first, parts_lead, same, ways_empty, ways_first}
use Rattle.es_grammar.specs.TerminalSets.{code_of}
use Rattle.es_grammar.specs.Firsts.{Begins, begins_by, BeginsOne, this_begins, later_begins, BeginsParts, at_once, behind_empty, BeginsPart, token_begins, words_begin, leaf_begins, symbol_begins, deeper_begins, Empty, empty_by, EmptyOne, this_empty, later_empty, EmptyParts, no_parts, empty_parts, EmptyPart, empty_symbol, empty_deeper, reads_none, reads_nothing, ways}
use Rattle.es_grammar.specs.Grammar.{rule_of}
use Rattle.es_grammar.proofs.Bits.{and_one_left, and_one_right, bit_of, both, both_some, either, either_left, either_right, first_of_both, no_bit, or_left, or_one, or_right, pow_bit, second_of_both}
use Rattle.es_grammar.proofs.Closed.{all_closed}

closed_first : (s : Symbol) → ways_first (ways (rule_of s)) ≡ first_of s
unfolding is_closed
closed_first s = eqb-true (ways_first (ways (rule_of s))) (first_of s) (first_of_both _ _ (first_of_both _ _ (all_closed s)))

same_is : (a b : Bool) → same a b ≡ true → a ≡ b
unfolding same
same_is true true h = refl
same_is true false h = sym h
same_is false true h = h
same_is false false h = refl

closed_empty : (s : Symbol) → ways_empty (ways (rule_of s)) ≡ may_be_empty s
unfolding is_closed
closed_empty s = same_is (ways_empty (ways (rule_of s))) (may_be_empty s) (second_of_both _ _ (first_of_both _ _ (all_closed s)))

closed_lead : (s : Symbol) → list_all (parts_lead (lead_of s)) (ways (rule_of s)) ≡ true
unfolding is_closed
closed_lead s = second_of_both _ _ (all_closed s)

-- what is empty, the tables say to be empty

nothing_empty : (p : Part) → reads_nothing p ≡ true → part_empty p ≡ true
unfolding reads_nothing part_empty
nothing_empty (part.Token terminal) h = h
nothing_empty (part.Words terminal field) h = h
nothing_empty (part.Leaf terminal kind field) h = h
nothing_empty (part.Twin terminal kind field) h = h
nothing_empty (part.Symbol symbol change field) h = absurd (cc)
nothing_empty (part.Deeper symbol change field) h = absurd (cc)
nothing_empty (part.Check condition) h = h
nothing_empty part.Hole h = h
nothing_empty (part.Flag field) h = h
nothing_empty (part.Kind member) h = h
nothing_empty (part.Becomes kind) h = h
nothing_empty part.Directives h = h

mutual
  unfolding part_empty ways_empty

  symbol_told : {s : Symbol} → Empty s → may_be_empty s ≡ true
  symbol_told {s} (empty_by one) = sym (closed_empty s) ∙ ways_told one

  ways_told : {ws : List (List Part)} → EmptyOne ws → ways_empty ws ≡ true
  ways_told (this_empty {parts = ps} {rest = rest} h) = either_left (list_all part_empty ps) (ways_empty rest) (parts_told h)
  ways_told (later_empty {parts = ps} {rest = rest} h) = either_right (list_all part_empty ps) (ways_empty rest) (ways_told h)

  parts_told : {ps : List Part} → EmptyParts ps → list_all part_empty ps ≡ true
  parts_told no_parts = refl
  parts_told (empty_parts {p = p} {parts = ps} h k) = both (part_empty p) (list_all part_empty ps) (part_told h) (parts_told k)

  part_told : {p : Part} → EmptyPart p → part_empty p ≡ true
  part_told (empty_symbol h) = symbol_told h
  part_told (empty_deeper h) = symbol_told h
  part_told (reads_none {p = p} h) = nothing_empty p h

-- what begins a symbol stands in its set

behind_told : (b : Bool) (m n i : ℕ) → b ≡ true → bit_at n i ≡ 1 → bit_at (if b then bit_or m n else m) i ≡ 1
behind_told true m n i e h = or_right m n i h
behind_told false m n i e h = cc

once_told : (b : Bool) (m n i : ℕ) → bit_at m i ≡ 1 → bit_at (if b then bit_or m n else m) i ≡ 1
once_told true m n i h = or_left m n i h
once_told false m n i h = h

mutual
  unfolding part_first parts_first ways_first

  pub begins_told : {terminal : Terminal} {s : Symbol} → Begins terminal s → bit_at (first_of s) (code_of terminal) ≡ 1
  begins_told {terminal} {s} (begins_by one) = subst (λ n. bit_at n (code_of terminal) ≡ 1) (closed_first s) (one_told one)

  pub one_told : {terminal : Terminal} {ws : List (List Part)} → BeginsOne terminal ws → bit_at (ways_first ws) (code_of terminal) ≡ 1
  one_told {terminal} (this_begins {parts = ps} {rest = rest} h) = or_left (parts_first ps) (ways_first rest) (code_of terminal) (begin_told h)
  one_told {terminal} (later_begins {parts = ps} {rest = rest} h) = or_right (parts_first ps) (ways_first rest) (code_of terminal) (one_told h)

  begin_told : {terminal : Terminal} {ps : List Part} → BeginsParts terminal ps → bit_at (parts_first ps) (code_of terminal) ≡ 1
  begin_told {terminal} (at_once {p = p} {parts = ps} h) = once_told (part_empty p) (part_first p) (parts_first ps) (code_of terminal) (first_told h)
  begin_told {terminal} (behind_empty {p = p} {parts = ps} e h) =
      behind_told (part_empty p) (part_first p) (parts_first ps) (code_of terminal) (part_told e) (begin_told h)

  first_told : {terminal : Terminal} {p : Part} → BeginsPart terminal p → bit_at (part_first p) (code_of terminal) ≡ 1
  first_told {terminal} token_begins = bit_at-pow_same (code_of terminal)
  first_told {terminal} words_begin = bit_at-pow_same (code_of terminal)
  first_told {terminal} leaf_begins = bit_at-pow_same (code_of terminal)
  first_told (symbol_begins h) = begins_told h
  first_told (deeper_begins h) = begins_told h

-- what the tables say to be empty, is empty

EmptyBelow : ℕ → Type 0
EmptyBelow n = (u : Symbol) → lead_of u < n → may_be_empty u ≡ true → Empty u

part_sound : (n : ℕ) → EmptyBelow n → (p : Part) → part_empty p ≡ true → part_lead n p ≡ true → EmptyPart p
unfolding part_empty part_lead EmptyBelow
part_sound n ih (part.Token terminal) h l = cc
part_sound n ih (part.Words terminal field) h l = cc
part_sound n ih (part.Leaf terminal kind field) h l = cc
part_sound n ih (part.Twin terminal kind field) h l = reads_none h
part_sound n ih (part.Symbol symbol change field) h l = empty_symbol (ih symbol (ltb-true (lead_of symbol) n l) h)
part_sound n ih (part.Deeper symbol change field) h l = empty_deeper (ih symbol (ltb-true (lead_of symbol) n l) h)
part_sound n ih (part.Check condition) h l = reads_none h
part_sound n ih part.Hole h l = reads_none h
part_sound n ih (part.Flag field) h l = reads_none h
part_sound n ih (part.Kind member) h l = reads_none h
part_sound n ih (part.Becomes kind) h l = reads_none h
part_sound n ih part.Directives h l = reads_none h

past_empty : (b c : Bool) → b ≡ true → (if b then c else true) ≡ true → c ≡ true
past_empty true c h k = k
past_empty false c h k = cc

lead_here : (n : ℕ) (p : Part) (ps : List Part) → parts_lead n (p ∷ ps) ≡ true → part_lead n p ≡ true
unfolding parts_lead
lead_here n p ps l = first_of_both (part_lead n p) (if part_empty p then parts_lead n ps else true) l

lead_behind : (n : ℕ) (p : Part) (ps : List Part) → part_empty p ≡ true → parts_lead n (p ∷ ps) ≡ true → parts_lead n ps ≡ true
unfolding parts_lead
lead_behind n p ps e l =
    past_empty (part_empty p) (parts_lead n ps) e (second_of_both (part_lead n p) (if part_empty p then parts_lead n ps else true) l)

parts_sound : (n : ℕ) → EmptyBelow n → (ps : List Part) → list_all part_empty ps ≡ true → parts_lead n ps ≡ true → EmptyParts ps
parts_sound n ih [] h l = no_parts
parts_sound n ih (p ∷ ps) h l =
    let e : part_empty p ≡ true = first_of_both (part_empty p) (list_all part_empty ps) h in
    empty_parts (part_sound n ih p e (lead_here n p ps l))
    (parts_sound n ih ps (second_of_both (part_empty p) (list_all part_empty ps) h) (lead_behind n p ps e l))

ways_sound : (n : ℕ) → EmptyBelow n → (ws : List (List Part)) → ways_empty ws ≡ true → list_all (parts_lead n) ws ≡ true → EmptyOne ws
unfolding ways_empty
ways_sound n ih [] h l = cc
ways_sound n ih (ps ∷ rest) h l =
    split (either (list_all part_empty ps) (ways_empty rest) h)
    (λ k. ways_sound n ih rest k (second_of_both (parts_lead n ps) (list_all (parts_lead n) rest) l))
  where
    split : (list_all part_empty ps ≡ true) ⊎ (ways_empty rest ≡ true) → (ways_empty rest ≡ true → EmptyOne rest) → EmptyOne (ps ∷ rest)
    split (inl k) more = this_empty (parts_sound n ih ps k (first_of_both (parts_lead n ps) (list_all (parts_lead n) rest) l))
    split (inr k) more = later_empty (more k)

empty_sound : (n : ℕ) → EmptyBelow n
unfolding EmptyBelow
empty_sound zero u l h = absurd (omega arith)
empty_sound (suc n) u l h =
    empty_by (ways_sound (lead_of u) (λ v m k. empty_sound n v (omega arith) k) (ways (rule_of u)) (closed_empty u ∙ h) (closed_lead u))

pub told_empty : (s : Symbol) → may_be_empty s ≡ true → Empty s
unfolding EmptyBelow
told_empty s h = empty_sound (suc (lead_of s)) s (omega arith) h

-- what stands in the set of a symbol, begins it

-- the terminal of a code
pub terminals : List Terminal
terminals =
    t.Word ∷ t.Name ∷ t.Private ∷ t.Number ∷ t.Text ∷ t.RegExp ∷ t.Full ∷ t.Head ∷ t.Middle ∷ t.Tail ∷ t.AccessorWord ∷ t.DeclarationWord ∷ t.AssignmentOperator ∷ t.EqualityOperator ∷ t.RelationalOperator ∷ t.ShiftOperator ∷ t.AdditiveOperator ∷ t.MultiplicativeOperator ∷ t.UnaryOperator ∷ t.UpdateOperator ∷ []

pub decoded_by : Bool → ℕ → Terminal
decoded_by true n = slice_index_or terminals n t.Word
decoded_by false n = t.Spelled (n - 20)

pub decoded : ℕ → Terminal
decoded n = decoded_by (nat_lt n 20) n

spelled_back : (b : Bool) (code : ℕ) → nat_lt (20 + code) 20 ≡ b → decoded_by b (20 + code) ≡ t.Spelled code
unfolding decoded_by
spelled_back true code e = let low : 20 + code < 20 = ltb-true (20 + code) 20 e in absurd (omega arith)
spelled_back false code e = ap t.Spelled (omega arith)

pub decoded_code : (terminal : Terminal) → decoded (code_of terminal) ≡ terminal
unfolding code_of decoded decoded_by terminals
decoded_code t.Word = refl
decoded_code t.Name = refl
decoded_code t.Private = refl
decoded_code t.Number = refl
decoded_code t.Text = refl
decoded_code t.RegExp = refl
decoded_code t.Full = refl
decoded_code t.Head = refl
decoded_code t.Middle = refl
decoded_code t.Tail = refl
decoded_code t.AccessorWord = refl
decoded_code t.DeclarationWord = refl
decoded_code t.AssignmentOperator = refl
decoded_code t.EqualityOperator = refl
decoded_code t.RelationalOperator = refl
decoded_code t.ShiftOperator = refl
decoded_code t.AdditiveOperator = refl
decoded_code t.MultiplicativeOperator = refl
decoded_code t.UnaryOperator = refl
decoded_code t.UpdateOperator = refl
decoded_code (t.Spelled code) = spelled_back (nat_lt (20 + code) 20) code refl

numbered : List Terminal → ℕ → Bool
numbered [] n = true
numbered (terminal ∷ rest) n = (code_of terminal == n) && numbered rest (suc n)

code_in : (ts : List Terminal) (n i : ℕ) → numbered ts n ≡ true → i < length ts → code_of (slice_index_or ts i t.Word) ≡ n + i
unfolding numbered
code_in [] n i h l = absurd (omega arith)
code_in (terminal ∷ rest) n zero h l =
    let e : code_of terminal ≡ n = eqb-true (code_of terminal) n (first_of_both _ _ h) in omega (arith, e)
code_in (terminal ∷ rest) n (suc i) h l =
    let e : code_of (slice_index_or rest i t.Word) ≡ suc n + i = code_in rest (suc n) i (second_of_both _ _ h) (omega arith) in omega (arith, e)

all_numbered : numbered terminals 0 ≡ true
unfolding numbered terminals code_of
all_numbered = refl

twenty : length terminals ≡ 20
unfolding terminals
twenty = refl

code_by : (b : Bool) (i : ℕ) → nat_lt i 20 ≡ b → code_of (decoded_by b i) ≡ i
unfolding decoded_by code_of
code_by true i e = let low : i < 20 = ltb-true i 20 e in code_in terminals 0 i all_numbered (omega (arith, twenty)) ∙ zero-add i
code_by false i e = let high : 20 ≤ i = ltb-false i 20 e in omega arith

pub code_decoded : (i : ℕ) → code_of (decoded i) ≡ i
unfolding decoded
code_decoded i = code_by (nat_lt i 20) i refl

pub same_code : (terminal other : Terminal) → code_of terminal ≡ code_of other → terminal ≡ other
same_code terminal other h = sym (decoded_code terminal) ∙ ap decoded h ∙ decoded_code other

BeginsBelow : Terminal → ℕ → Type 0
BeginsBelow terminal n = (u : Symbol) → lead_of u < n → bit_at (first_of u) (code_of terminal) ≡ 1 → Begins terminal u

is_this : (terminal other : Terminal) → bit_at (2 ^ code_of other) (code_of terminal) ≡ 1 → terminal ≡ other
is_this terminal other h = same_code terminal other (pow_bit (code_of terminal) (code_of other) h)

begin_sound : (terminal : Terminal) (n : ℕ) → BeginsBelow terminal n → (p : Part) → bit_at (part_first p) (code_of terminal) ≡ 1 →
    part_lead n p ≡ true → BeginsPart terminal p
unfolding part_first part_lead BeginsBelow
begin_sound terminal n ih (part.Token other) h l = subst (λ x. BeginsPart terminal (part.Token x)) (is_this terminal other h) token_begins
begin_sound terminal n ih (part.Words other field) h l = subst (λ x. BeginsPart terminal (part.Words x field)) (is_this terminal other h) words_begin
begin_sound terminal n ih (part.Leaf other kind field) h l =
    subst (λ x. BeginsPart terminal (part.Leaf x kind field)) (is_this terminal other h) leaf_begins
begin_sound terminal n ih (part.Twin other kind field) h l = no_bit (code_of terminal) h
begin_sound terminal n ih (part.Symbol symbol change field) h l = symbol_begins (ih symbol (ltb-true (lead_of symbol) n l) h)
begin_sound terminal n ih (part.Deeper symbol change field) h l = deeper_begins (ih symbol (ltb-true (lead_of symbol) n l) h)
begin_sound terminal n ih (part.Check condition) h l = no_bit (code_of terminal) h
begin_sound terminal n ih part.Hole h l = no_bit (code_of terminal) h
begin_sound terminal n ih (part.Flag field) h l = no_bit (code_of terminal) h
begin_sound terminal n ih (part.Kind member) h l = no_bit (code_of terminal) h
begin_sound terminal n ih (part.Becomes kind) h l = no_bit (code_of terminal) h
begin_sound terminal n ih part.Directives h l = no_bit (code_of terminal) h

told_part : (p : Part) → part_empty p ≡ true → EmptyPart p
unfolding part_empty
told_part (part.Token terminal) h = cc
told_part (part.Words terminal field) h = cc
told_part (part.Leaf terminal kind field) h = cc
told_part (part.Twin terminal kind field) h = reads_none h
told_part (part.Symbol symbol change field) h = empty_symbol (told_empty symbol h)
told_part (part.Deeper symbol change field) h = empty_deeper (told_empty symbol h)
told_part (part.Check condition) h = reads_none h
told_part part.Hole h = reads_none h
told_part (part.Flag field) h = reads_none h
told_part (part.Kind member) h = reads_none h
told_part (part.Becomes kind) h = reads_none h
told_part part.Directives h = reads_none h

begins_sound : (terminal : Terminal) (n : ℕ) → BeginsBelow terminal n → (ps : List Part) → bit_at (parts_first ps) (code_of terminal) ≡ 1 →
    parts_lead n ps ≡ true → BeginsParts terminal ps
unfolding parts_first parts_lead
begins_sound terminal n ih [] h l = no_bit (code_of terminal) h
begins_sound terminal n ih (p ∷ ps) h l =
    split (part_empty p) refl h (second_of_both (part_lead n p) (if part_empty p then parts_lead n ps else true) l) (begins_sound terminal n ih ps)
  where
    now : bit_at (part_first p) (code_of terminal) ≡ 1 → BeginsParts terminal (p ∷ ps)
    now k = at_once (begin_sound terminal n ih p k (lead_here n p ps l))

    either_way : part_empty p ≡ true → (bit_at (part_first p) (code_of terminal) ≡ 1) ⊎ (bit_at (parts_first ps) (code_of terminal) ≡ 1) →
        (bit_at (parts_first ps) (code_of terminal) ≡ 1 → BeginsParts terminal ps) → BeginsParts terminal (p ∷ ps)
    either_way e (inl k) more = now k
    either_way e (inr k) more = behind_empty (told_part p e) (more k)

    split : (b : Bool) → part_empty p ≡ b → bit_at (if b then bit_or (part_first p) (parts_first ps) else part_first p) (code_of terminal) ≡ 1 →
        (if b then parts_lead n ps else true) ≡ true →
        (bit_at (parts_first ps) (code_of terminal) ≡ 1 → parts_lead n ps ≡ true → BeginsParts terminal ps) → BeginsParts terminal (p ∷ ps)
    split true e k m more = either_way e (or_one (part_first p) (parts_first ps) (code_of terminal) k) (λ j. more j m)
    split false e k m more = now k

one_sound : (terminal : Terminal) (n : ℕ) → BeginsBelow terminal n → (ws : List (List Part)) → bit_at (ways_first ws) (code_of terminal) ≡ 1 →
    list_all (parts_lead n) ws ≡ true → BeginsOne terminal ws
unfolding ways_first
one_sound terminal n ih [] h l = no_bit (code_of terminal) h
one_sound terminal n ih (ps ∷ rest) h l =
    split (or_one (parts_first ps) (ways_first rest) (code_of terminal) h)
    (λ k. one_sound terminal n ih rest k (second_of_both (parts_lead n ps) (list_all (parts_lead n) rest) l))
  where
    split : (bit_at (parts_first ps) (code_of terminal) ≡ 1) ⊎ (bit_at (ways_first rest) (code_of terminal) ≡ 1) →
        (bit_at (ways_first rest) (code_of terminal) ≡ 1 → BeginsOne terminal rest) → BeginsOne terminal (ps ∷ rest)
    split (inl k) more = this_begins (begins_sound terminal n ih ps k (first_of_both (parts_lead n ps) (list_all (parts_lead n) rest) l))
    split (inr k) more = later_begins (more k)

sound : (terminal : Terminal) (n : ℕ) → BeginsBelow terminal n
unfolding BeginsBelow
sound terminal zero u l h = absurd (omega arith)
sound terminal (suc n) u l h =
    begins_by (one_sound terminal (lead_of u) (λ v m k. sound terminal n v (omega arith) k) (ways (rule_of u))
    (subst (λ x. bit_at x (code_of terminal) ≡ 1) (sym (closed_first u)) h) (closed_lead u))

pub told_begins : (terminal : Terminal) (s : Symbol) → bit_at (first_of s) (code_of terminal) ≡ 1 → Begins terminal s
unfolding BeginsBelow
told_begins terminal s h = sound terminal (suc (lead_of s)) s (omega arith) h

-- the same of the rows of a rule, without a bound

told_first : (terminal : Terminal) (p : Part) → bit_at (part_first p) (code_of terminal) ≡ 1 → BeginsPart terminal p
unfolding part_first
told_first terminal (part.Token other) h = subst (λ x. BeginsPart terminal (part.Token x)) (is_this terminal other h) token_begins
told_first terminal (part.Words other field) h = subst (λ x. BeginsPart terminal (part.Words x field)) (is_this terminal other h) words_begin
told_first terminal (part.Leaf other kind field) h =
    subst (λ x. BeginsPart terminal (part.Leaf x kind field)) (is_this terminal other h) leaf_begins
told_first terminal (part.Twin other kind field) h = no_bit (code_of terminal) h
told_first terminal (part.Symbol symbol change field) h = symbol_begins (told_begins terminal symbol h)
told_first terminal (part.Deeper symbol change field) h = deeper_begins (told_begins terminal symbol h)
told_first terminal (part.Check condition) h = no_bit (code_of terminal) h
told_first terminal part.Hole h = no_bit (code_of terminal) h
told_first terminal (part.Flag field) h = no_bit (code_of terminal) h
told_first terminal (part.Kind member) h = no_bit (code_of terminal) h
told_first terminal (part.Becomes kind) h = no_bit (code_of terminal) h
told_first terminal part.Directives h = no_bit (code_of terminal) h

told_parts : (terminal : Terminal) (ps : List Part) → bit_at (parts_first ps) (code_of terminal) ≡ 1 → BeginsParts terminal ps
unfolding parts_first
told_parts terminal [] h = no_bit (code_of terminal) h
told_parts terminal (p ∷ ps) h = split (part_empty p) refl h (told_parts terminal ps)
  where
    either_way : part_empty p ≡ true → (bit_at (part_first p) (code_of terminal) ≡ 1) ⊎ (bit_at (parts_first ps) (code_of terminal) ≡ 1) →
        (bit_at (parts_first ps) (code_of terminal) ≡ 1 → BeginsParts terminal ps) → BeginsParts terminal (p ∷ ps)
    either_way e (inl k) more = at_once (told_first terminal p k)
    either_way e (inr k) more = behind_empty (told_part p e) (more k)

    split : (b : Bool) → part_empty p ≡ b → bit_at (if b then bit_or (part_first p) (parts_first ps) else part_first p) (code_of terminal) ≡ 1 →
        (bit_at (parts_first ps) (code_of terminal) ≡ 1 → BeginsParts terminal ps) → BeginsParts terminal (p ∷ ps)
    split true e k more = either_way e (or_one (part_first p) (parts_first ps) (code_of terminal) k) more
    split false e k more = at_once (told_first terminal p k)

pub told_one : (terminal : Terminal) (ws : List (List Part)) → bit_at (ways_first ws) (code_of terminal) ≡ 1 → BeginsOne terminal ws
unfolding ways_first
told_one terminal [] h = no_bit (code_of terminal) h
told_one terminal (ps ∷ rest) h = split (or_one (parts_first ps) (ways_first rest) (code_of terminal) h) (told_one terminal rest)
  where
    split : (bit_at (parts_first ps) (code_of terminal) ≡ 1) ⊎ (bit_at (ways_first rest) (code_of terminal) ≡ 1) →
        (bit_at (ways_first rest) (code_of terminal) ≡ 1 → BeginsOne terminal rest) → BeginsOne terminal (ps ∷ rest)
    split (inl k) more = this_begins (told_parts terminal ps k)
    split (inr k) more = later_begins (more k)

-- a terminal of two sets, one of which is that of some ways

pub found : (n : ℕ) (ws : List (List Part)) → n < 2 ^ 128 → 0 < bit_and n (ways_first ws) →
    (terminal : Terminal) × (bit_at n (code_of terminal) ≡ 1) × BeginsOne terminal ws
found n ws fits some =
    let bit = bit_of (bit_and n (ways_first ws)) (omega (arith, and_le_l n (ways_first ws))) some in
    let in_n : bit_at n bit.0 ≡ 1 = and_one_left n (ways_first ws) bit.0 bit.1 in
    let in_ws : bit_at (ways_first ws) bit.0 ≡ 1 = and_one_right n (ways_first ws) bit.0 bit.1 in
    let coded : code_of (decoded bit.0) ≡ bit.0 = code_decoded bit.0 in (
      decoded bit.0,
      subst (λ i. bit_at n i ≡ 1) (sym coded) in_n,
      told_one (decoded bit.0) ws (subst (λ i. bit_at (ways_first ws) i ≡ 1) (sym coded) in_ws),
    )

pub not_none : (n : ℕ) (ws : List (List Part)) (terminal : Terminal) → bit_at n (code_of terminal) ≡ 1 → BeginsOne terminal ws →
    0 < bit_and n (ways_first ws)
not_none n ws terminal h k = both_some n (ways_first ws) (code_of terminal) h (one_told k)
