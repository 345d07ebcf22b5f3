-- A symbol reads one thing at most.
use Rattle.std.proofs.Common.{◌≡◌, ℕ, List, true, Option, None, refl, ap, subst, arith}
use Rattle.es_grammar.specs.declared.context.Change.{Change}
use Rattle.es_grammar.specs.declared.part.Field.{Field}
use Rattle.es_grammar.specs.declared.part.Part.{Part}
use Rattle.es_grammar.specs.declared.part.Part.TheVariants as part
use Rattle.es_grammar.specs.declared.symbol.Symbol.{Symbol}
use Rattle.es_grammar.specs.Contexts.{Spot, in_change, moved}
use Rattle.es_grammar.specs.Drafts.{Draft, empty, joined}
use Rattle.es_grammar.specs.Forms.{Row, Turns}
use Rattle.es_grammar.specs.Parts.{Outcome, Not, Deep, Read, after, finish, is_last_turn, is_not, is_read, plainly, with_token}
use Rattle.es_grammar.specs.Reading.{Reads, by_choice, by_turns, by_commas, behind, headless, ReadsTurns, left, over, stuck, deep_turn, last_turn, next_turn, ReadsCommas, no_more, broken, deep_item, last_item, next_item, ReadsChoice, no_row, this_row, next_row, ReadsParts, done, stop, go_on, ReadsPart, plain, symbol, deeper, too_deep, comma_at, grown}

symbol_none : (text : List ℕ) (s : Symbol) (change : Change) (field : Option Field) (spot : Spot) (draft : Draft) →
    plainly text spot (part.Symbol s change field) draft ≡ None
unfolding plainly
symbol_none text s change field spot draft = refl

deeper_none : (text : List ℕ) (s : Symbol) (change : Change) (field : Option Field) (spot : Spot) (draft : Draft) →
    plainly text spot (part.Deeper s change field) draft ≡ None
unfolding plainly
deeper_none text s change field spot draft = refl

read_is : (d : Draft) (end : ℕ) → is_read (Read d end) ≡ true
read_is d end = refl

not_is : is_not Not ≡ true
not_is = refl

-- what a turn or an item gives, from what its rows give
regrown : Turns → Draft → Outcome → Outcome
regrown turns draft Not = Not
regrown turns draft Deep = Deep
regrown turns draft (Read turn end) = Read (grown turns draft turn) end

rejoined : Draft → Outcome → Outcome
rejoined draft Not = Not
rejoined draft Deep = Deep
rejoined draft (Read item end) = Read (joined draft item) end

mutual
  unfolding regrown rejoined

  pub reads_once : {text : List ℕ} {s : Symbol} {spot : Spot} {o p : Outcome} → Reads text s spot o → Reads text s spot p → o ≡ p
  reads_once {text} {s} {spot} {o} {p} (by_choice {rows = r1} e1 a1) (by_choice {rows = r2} e2 a2) = let k : r2 ≡ r1 = cc in choice_once a1 (subst (λ r. ReadsChoice text r spot empty p) k a2)
  reads_once {text} {s} {spot} {o} {p} (by_choice {rows = r1} e1 a1) (by_turns {turns = t2} e2 a2) = cc
  reads_once {text} {s} {spot} {o} {p} (by_choice {rows = r1} e1 a1) (by_commas {rows = r2} e2 a2) = cc
  reads_once {text} {s} {spot} {o} {p} (by_choice {rows = r1} e1 a1) (behind {head = h2} {turns = t2} {draft = d2} {end = n2} e2 b2 a2) = cc
  reads_once {text} {s} {spot} {o} {p} (by_choice {rows = r1} e1 a1) (headless {head = h2} {turns = t2} e2 a2 k2) = cc
  reads_once {text} {s} {spot} {o} {p} (by_turns {turns = t1} e1 a1) (by_choice {rows = r2} e2 a2) = cc
  reads_once {text} {s} {spot} {o} {p} (by_turns {turns = t1} e1 a1) (by_turns {turns = t2} e2 a2) = let k : t2 ≡ t1 = cc in turns_once a1 (subst (λ t. ReadsTurns text t spot empty p) k a2)
  reads_once {text} {s} {spot} {o} {p} (by_turns {turns = t1} e1 a1) (by_commas {rows = r2} e2 a2) = cc
  reads_once {text} {s} {spot} {o} {p} (by_turns {turns = t1} e1 a1) (behind {head = h2} {turns = t2} {draft = d2} {end = n2} e2 b2 a2) = cc
  reads_once {text} {s} {spot} {o} {p} (by_turns {turns = t1} e1 a1) (headless {head = h2} {turns = t2} e2 a2 k2) = cc
  reads_once {text} {s} {spot} {o} {p} (by_commas {rows = r1} e1 a1) (by_choice {rows = r2} e2 a2) = cc
  reads_once {text} {s} {spot} {o} {p} (by_commas {rows = r1} e1 a1) (by_turns {turns = t2} e2 a2) = cc
  reads_once {text} {s} {spot} {o} {p} (by_commas {rows = r1} e1 a1) (by_commas {rows = r2} e2 a2) = let k : r2 ≡ r1 = cc in commas_once a1 (subst (λ r. ReadsCommas text r spot empty p) k a2)
  reads_once {text} {s} {spot} {o} {p} (by_commas {rows = r1} e1 a1) (behind {head = h2} {turns = t2} {draft = d2} {end = n2} e2 b2 a2) = cc
  reads_once {text} {s} {spot} {o} {p} (by_commas {rows = r1} e1 a1) (headless {head = h2} {turns = t2} e2 a2 k2) = cc
  reads_once {text} {s} {spot} {o} {p} (behind {head = h1} {turns = t1} {draft = d1} {end = n1} e1 b1 a1) (by_choice {rows = r2} e2 a2) = cc
  reads_once {text} {s} {spot} {o} {p} (behind {head = h1} {turns = t1} {draft = d1} {end = n1} e1 b1 a1) (by_turns {turns = t2} e2 a2) = cc
  reads_once {text} {s} {spot} {o} {p} (behind {head = h1} {turns = t1} {draft = d1} {end = n1} e1 b1 a1) (by_commas {rows = r2} e2 a2) = cc
  reads_once {text} {s} {spot} {o} {p} (behind {head = h1} {turns = t1} {draft = d1} {end = n1} e1 b1 a1) (behind {head = h2} {turns = t2} {draft = d2} {end = n2} e2 b2 a2) = let g : h2 ≡ h1 = cc in let k : t2 ≡ t1 = cc in let w = reads_once b1 (subst (λ h. Reads text h spot (Read d2 n2)) g b2) in let u : d2 ≡ d1 = cc in let v : n2 ≡ n1 = cc in
      turns_once a1 (subst (λ d. ReadsTurns text t1 (moved spot n1) d p) u (subst (λ n. ReadsTurns text t1 (moved spot n) d2 p) v (subst (λ t. ReadsTurns text t (moved spot n2) d2 p) k a2)))
  reads_once {text} {s} {spot} {o} {p} (behind {head = h1} {turns = t1} {draft = d1} {end = n1} e1 b1 a1) (headless {head = h2} {turns = t2} e2 a2 k2) = let g : h2 ≡ h1 = cc in let w = reads_once b1 (subst (λ h. Reads text h spot p) g a2) in cc (read_is d1 n1)
  reads_once {text} {s} {spot} {o} {p} (headless {head = h1} {turns = t1} e1 a1 k1) (by_choice {rows = r2} e2 a2) = cc
  reads_once {text} {s} {spot} {o} {p} (headless {head = h1} {turns = t1} e1 a1 k1) (by_turns {turns = t2} e2 a2) = cc
  reads_once {text} {s} {spot} {o} {p} (headless {head = h1} {turns = t1} e1 a1 k1) (by_commas {rows = r2} e2 a2) = cc
  reads_once {text} {s} {spot} {o} {p} (headless {head = h1} {turns = t1} e1 a1 k1) (behind {head = h2} {turns = t2} {draft = d2} {end = n2} e2 b2 a2) = let g : h2 ≡ h1 = cc in let w = reads_once a1 (subst (λ h. Reads text h spot (Read d2 n2)) g b2) in cc (read_is d2 n2)
  reads_once {text} {s} {spot} {o} {p} (headless {head = h1} {turns = t1} e1 a1 k1) (headless {head = h2} {turns = t2} e2 a2 k2) = let g : h2 ≡ h1 = cc in reads_once a1 (subst (λ h. Reads text h spot p) g a2)

  pub turns_once : {text : List ℕ} {turns : Turns} {spot : Spot} {draft : Draft} {o p : Outcome} →
      ReadsTurns text turns spot draft o → ReadsTurns text turns spot draft p → o ≡ p
  turns_once {text} {turns} {spot} {draft} {o} {p} (left h1) (left h2) = refl
  turns_once {text} {turns} {spot} {draft} {o} {p} (left h1) (over h2 a2 k2) = cc
  turns_once {text} {turns} {spot} {draft} {o} {p} (left h1) (stuck h2 a2 k2) = cc
  turns_once {text} {turns} {spot} {draft} {o} {p} (left h1) (deep_turn h2 a2) = cc
  turns_once {text} {turns} {spot} {draft} {o} {p} (left h1) (last_turn {turn = t2} {end = n2} h2 a2 l2) = cc
  turns_once {text} {turns} {spot} {draft} {o} {p} (left h1) (next_turn {turn = t2} {end = n2} h2 a2 l2 b2) = cc
  turns_once {text} {turns} {spot} {draft} {o} {p} (over h1 a1 k1) (left h2) = cc
  turns_once {text} {turns} {spot} {draft} {o} {p} (over h1 a1 k1) (over h2 a2 k2) = refl
  turns_once {text} {turns} {spot} {draft} {o} {p} (over h1 a1 k1) (stuck h2 a2 k2) = absurd (k1 k2)
  turns_once {text} {turns} {spot} {draft} {o} {p} (over h1 a1 k1) (deep_turn h2 a2) = let w = choice_once a1 a2 in cc
  turns_once {text} {turns} {spot} {draft} {o} {p} (over h1 a1 k1) (last_turn {turn = t2} {end = n2} h2 a2 l2) = let w = choice_once a1 a2 in cc
  turns_once {text} {turns} {spot} {draft} {o} {p} (over h1 a1 k1) (next_turn {turn = t2} {end = n2} h2 a2 l2 b2) = let w = choice_once a1 a2 in cc
  turns_once {text} {turns} {spot} {draft} {o} {p} (stuck h1 a1 k1) (left h2) = cc
  turns_once {text} {turns} {spot} {draft} {o} {p} (stuck h1 a1 k1) (over h2 a2 k2) = absurd (k2 k1)
  turns_once {text} {turns} {spot} {draft} {o} {p} (stuck h1 a1 k1) (stuck h2 a2 k2) = refl
  turns_once {text} {turns} {spot} {draft} {o} {p} (stuck h1 a1 k1) (deep_turn h2 a2) = let w = choice_once a1 a2 in cc
  turns_once {text} {turns} {spot} {draft} {o} {p} (stuck h1 a1 k1) (last_turn {turn = t2} {end = n2} h2 a2 l2) = let w = choice_once a1 a2 in cc
  turns_once {text} {turns} {spot} {draft} {o} {p} (stuck h1 a1 k1) (next_turn {turn = t2} {end = n2} h2 a2 l2 b2) = let w = choice_once a1 a2 in cc
  turns_once {text} {turns} {spot} {draft} {o} {p} (deep_turn h1 a1) (left h2) = cc
  turns_once {text} {turns} {spot} {draft} {o} {p} (deep_turn h1 a1) (over h2 a2 k2) = let w = choice_once a1 a2 in cc
  turns_once {text} {turns} {spot} {draft} {o} {p} (deep_turn h1 a1) (stuck h2 a2 k2) = let w = choice_once a1 a2 in cc
  turns_once {text} {turns} {spot} {draft} {o} {p} (deep_turn h1 a1) (deep_turn h2 a2) = refl
  turns_once {text} {turns} {spot} {draft} {o} {p} (deep_turn h1 a1) (last_turn {turn = t2} {end = n2} h2 a2 l2) = let w = choice_once a1 a2 in cc
  turns_once {text} {turns} {spot} {draft} {o} {p} (deep_turn h1 a1) (next_turn {turn = t2} {end = n2} h2 a2 l2 b2) = let w = choice_once a1 a2 in cc
  turns_once {text} {turns} {spot} {draft} {o} {p} (last_turn {turn = t1} {end = n1} h1 a1 l1) (left h2) = cc
  turns_once {text} {turns} {spot} {draft} {o} {p} (last_turn {turn = t1} {end = n1} h1 a1 l1) (over h2 a2 k2) = let w = choice_once a1 a2 in cc
  turns_once {text} {turns} {spot} {draft} {o} {p} (last_turn {turn = t1} {end = n1} h1 a1 l1) (stuck h2 a2 k2) = let w = choice_once a1 a2 in cc
  turns_once {text} {turns} {spot} {draft} {o} {p} (last_turn {turn = t1} {end = n1} h1 a1 l1) (deep_turn h2 a2) = let w = choice_once a1 a2 in cc
  turns_once {text} {turns} {spot} {draft} {o} {p} (last_turn {turn = t1} {end = n1} h1 a1 l1) (last_turn {turn = t2} {end = n2} h2 a2 l2) = ap (regrown turns draft) (choice_once a1 a2)
  turns_once {text} {turns} {spot} {draft} {o} {p} (last_turn {turn = t1} {end = n1} h1 a1 l1) (next_turn {turn = t2} {end = n2} h2 a2 l2 b2) = let w = choice_once a1 a2 in let v : n2 ≡ n1 = cc in let z : is_last_turn turns.many spot.at n2 ≡ is_last_turn turns.many spot.at n1 = ap (is_last_turn turns.many spot.at) v in cc
  turns_once {text} {turns} {spot} {draft} {o} {p} (next_turn {turn = t1} {end = n1} h1 a1 l1 b1) (left h2) = cc
  turns_once {text} {turns} {spot} {draft} {o} {p} (next_turn {turn = t1} {end = n1} h1 a1 l1 b1) (over h2 a2 k2) = let w = choice_once a1 a2 in cc
  turns_once {text} {turns} {spot} {draft} {o} {p} (next_turn {turn = t1} {end = n1} h1 a1 l1 b1) (stuck h2 a2 k2) = let w = choice_once a1 a2 in cc
  turns_once {text} {turns} {spot} {draft} {o} {p} (next_turn {turn = t1} {end = n1} h1 a1 l1 b1) (deep_turn h2 a2) = let w = choice_once a1 a2 in cc
  turns_once {text} {turns} {spot} {draft} {o} {p} (next_turn {turn = t1} {end = n1} h1 a1 l1 b1) (last_turn {turn = t2} {end = n2} h2 a2 l2) = let w = choice_once a1 a2 in let v : n2 ≡ n1 = cc in let z : is_last_turn turns.many spot.at n2 ≡ is_last_turn turns.many spot.at n1 = ap (is_last_turn turns.many spot.at) v in cc
  turns_once {text} {turns} {spot} {draft} {o} {p} (next_turn {turn = t1} {end = n1} h1 a1 l1 b1) (next_turn {turn = t2} {end = n2} h2 a2 l2 b2) = let w = choice_once a1 a2 in let u : t2 ≡ t1 = cc in let v : n2 ≡ n1 = cc in
      turns_once b1 (subst (λ t. ReadsTurns text turns (moved spot n1) (grown turns draft t) p) u (subst (λ n. ReadsTurns text turns (moved spot n) (grown turns draft t2) p) v b2))

  pub commas_once : {text : List ℕ} {rows : List Row} {spot : Spot} {draft : Draft} {o p : Outcome} →
      ReadsCommas text rows spot draft o → ReadsCommas text rows spot draft p → o ≡ p
  commas_once {text} {rows} {spot} {draft} {o} {p} (no_more a1 k1) (no_more a2 k2) = refl
  commas_once {text} {rows} {spot} {draft} {o} {p} (no_more a1 k1) (broken a2 k2) = absurd (k1 k2)
  commas_once {text} {rows} {spot} {draft} {o} {p} (no_more a1 k1) (deep_item a2) = let w = choice_once a1 a2 in cc
  commas_once {text} {rows} {spot} {draft} {o} {p} (no_more a1 k1) (last_item {item = t2} {end = n2} a2 c2) = let w = choice_once a1 a2 in cc
  commas_once {text} {rows} {spot} {draft} {o} {p} (no_more a1 k1) (next_item {item = t2} {end = n2} {comma = m2} a2 c2 b2) = let w = choice_once a1 a2 in cc
  commas_once {text} {rows} {spot} {draft} {o} {p} (broken a1 k1) (no_more a2 k2) = absurd (k2 k1)
  commas_once {text} {rows} {spot} {draft} {o} {p} (broken a1 k1) (broken a2 k2) = refl
  commas_once {text} {rows} {spot} {draft} {o} {p} (broken a1 k1) (deep_item a2) = let w = choice_once a1 a2 in cc
  commas_once {text} {rows} {spot} {draft} {o} {p} (broken a1 k1) (last_item {item = t2} {end = n2} a2 c2) = let w = choice_once a1 a2 in cc
  commas_once {text} {rows} {spot} {draft} {o} {p} (broken a1 k1) (next_item {item = t2} {end = n2} {comma = m2} a2 c2 b2) = let w = choice_once a1 a2 in cc
  commas_once {text} {rows} {spot} {draft} {o} {p} (deep_item a1) (no_more a2 k2) = let w = choice_once a1 a2 in cc
  commas_once {text} {rows} {spot} {draft} {o} {p} (deep_item a1) (broken a2 k2) = let w = choice_once a1 a2 in cc
  commas_once {text} {rows} {spot} {draft} {o} {p} (deep_item a1) (deep_item a2) = refl
  commas_once {text} {rows} {spot} {draft} {o} {p} (deep_item a1) (last_item {item = t2} {end = n2} a2 c2) = let w = choice_once a1 a2 in cc
  commas_once {text} {rows} {spot} {draft} {o} {p} (deep_item a1) (next_item {item = t2} {end = n2} {comma = m2} a2 c2 b2) = let w = choice_once a1 a2 in cc
  commas_once {text} {rows} {spot} {draft} {o} {p} (last_item {item = t1} {end = n1} a1 c1) (no_more a2 k2) = let w = choice_once a1 a2 in cc
  commas_once {text} {rows} {spot} {draft} {o} {p} (last_item {item = t1} {end = n1} a1 c1) (broken a2 k2) = let w = choice_once a1 a2 in cc
  commas_once {text} {rows} {spot} {draft} {o} {p} (last_item {item = t1} {end = n1} a1 c1) (deep_item a2) = let w = choice_once a1 a2 in cc
  commas_once {text} {rows} {spot} {draft} {o} {p} (last_item {item = t1} {end = n1} a1 c1) (last_item {item = t2} {end = n2} a2 c2) = ap (rejoined draft) (choice_once a1 a2)
  commas_once {text} {rows} {spot} {draft} {o} {p} (last_item {item = t1} {end = n1} a1 c1) (next_item {item = t2} {end = n2} {comma = m2} a2 c2 b2) = let w = choice_once a1 a2 in let v : n2 ≡ n1 = cc in let z : comma_at text (moved spot n2) ≡ comma_at text (moved spot n1) = ap (λ n. comma_at text (moved spot n)) v in cc
  commas_once {text} {rows} {spot} {draft} {o} {p} (next_item {item = t1} {end = n1} {comma = m1} a1 c1 b1) (no_more a2 k2) = let w = choice_once a1 a2 in cc
  commas_once {text} {rows} {spot} {draft} {o} {p} (next_item {item = t1} {end = n1} {comma = m1} a1 c1 b1) (broken a2 k2) = let w = choice_once a1 a2 in cc
  commas_once {text} {rows} {spot} {draft} {o} {p} (next_item {item = t1} {end = n1} {comma = m1} a1 c1 b1) (deep_item a2) = let w = choice_once a1 a2 in cc
  commas_once {text} {rows} {spot} {draft} {o} {p} (next_item {item = t1} {end = n1} {comma = m1} a1 c1 b1) (last_item {item = t2} {end = n2} a2 c2) = let w = choice_once a1 a2 in let v : n2 ≡ n1 = cc in let z : comma_at text (moved spot n2) ≡ comma_at text (moved spot n1) = ap (λ n. comma_at text (moved spot n)) v in cc
  commas_once {text} {rows} {spot} {draft} {o} {p} (next_item {item = t1} {end = n1} {comma = m1} a1 c1 b1) (next_item {item = t2} {end = n2} {comma = m2} a2 c2 b2) = let w = choice_once a1 a2 in let u : t2 ≡ t1 = cc in let v : n2 ≡ n1 = cc in
      let z : comma_at text (moved spot n2) ≡ comma_at text (moved spot n1) = ap (λ n. comma_at text (moved spot n)) v in let y : m2 ≡ m1 = cc in
      commas_once b1 (subst (λ t. ReadsCommas text rows (moved spot m1.span.end) (with_token (joined draft t) m1) p) u
      (subst (λ m. ReadsCommas text rows (moved spot m.span.end) (with_token (joined draft t2) m) p) y b2))

  pub choice_once : {text : List ℕ} {rows : List Row} {spot : Spot} {seed : Draft} {o p : Outcome} →
      ReadsChoice text rows spot seed o → ReadsChoice text rows spot seed p → o ≡ p
  choice_once no_row no_row = refl
  choice_once {text} {rows} {spot} {seed} {o} {p} (this_row {row = w1} a1 k1) (this_row a2 k2) = ap (finish w1.makes seed) (parts_once a1 a2)
  choice_once {text} {rows} {spot} {seed} {o} {p} (this_row a1 k1) (next_row a2 b2) = let z = parts_once a1 a2 in cc not_is
  choice_once {text} {rows} {spot} {seed} {o} {p} (next_row a1 b1) (this_row a2 k2) = let z = parts_once a1 a2 in cc not_is
  choice_once {text} {rows} {spot} {seed} {o} {p} (next_row a1 b1) (next_row a2 b2) = choice_once b1 b2

  pub parts_once : {text : List ℕ} {ps : List Part} {spot : Spot} {draft : Draft} {o p : Outcome} →
      ReadsParts text ps spot draft o → ReadsParts text ps spot draft p → o ≡ p
  parts_once done done = refl
  parts_once (stop a1 k1) (stop a2 k2) = part_once a1 a2
  parts_once (stop a1 k1) (go_on {further = d2} {end = n2} a2 b2) = let z = part_once a1 a2 in cc (read_is d2 n2)
  parts_once (go_on {further = d1} {end = n1} a1 b1) (stop a2 k2) = let z = part_once a1 a2 in cc (read_is d1 n1)
  parts_once {text} {ps} {spot} {draft} {o} {p} (go_on {ps = rest} {further = d1} {end = n1} a1 b1) (go_on {further = d2} {end = n2} a2 b2) =
      let z = part_once a1 a2 in let u : d2 ≡ d1 = cc in let v : n2 ≡ n1 = cc in
      parts_once b1 (subst (λ d. ReadsParts text rest (moved spot n1) d p) u (subst (λ n. ReadsParts text rest (moved spot n) d2 p) v b2))

  pub part_once : {text : List ℕ} {q : Part} {spot : Spot} {draft : Draft} {o p : Outcome} →
      ReadsPart text q spot draft o → ReadsPart text q spot draft p → o ≡ p
  part_once {text} {q} {spot} {draft} {o} {p} (plain e1) (plain e2) = cc
  part_once {text} {q} {spot} {draft} {o} {p} (plain e1) (symbol {s = s2} {change = c2} {field = f2} a2) = cc (symbol_none text s2 c2 f2 spot draft)
  part_once {text} {q} {spot} {draft} {o} {p} (plain e1) (deeper {s = s2} {change = c2} {field = f2} {o = q2} {room = r2} l2 a2) = cc (deeper_none text s2 c2 f2 spot draft)
  part_once {text} {q} {spot} {draft} {o} {p} (plain e1) (too_deep {s = s2} {change = c2} {field = f2} z2) = cc (deeper_none text s2 c2 f2 spot draft)
  part_once {text} {q} {spot} {draft} {o} {p} (symbol {s = s1} {change = c1} {field = f1} a1) (plain e2) = cc (symbol_none text s1 c1 f1 spot draft)
  part_once {text} {q} {spot} {draft} {o} {p} (symbol {s = s1} {change = c1} {field = f1} a1) (symbol {s = s2} {change = c2} {field = f2} a2) = ap (after draft f1) (reads_once a1 a2)
  part_once {text} {q} {spot} {draft} {o} {p} (deeper {s = s1} {change = c1} {field = f1} {o = q1} {room = r1} l1 a1) (plain e2) = cc (deeper_none text s1 c1 f1 spot draft)
  part_once {text} {q} {spot} {draft} {o} {p} (deeper {s = s1} {change = c1} {field = f1} {o = q1} {room = r1} l1 a1) (deeper {s = s2} {change = c2} {field = f2} {o = q2} {room = r2} l2 a2) = let w : r2 ≡ r1 = omega arith in ap (after draft f1) (reads_once a1 (subst (λ r. Reads text s1 (in_change c1 (record spot { room = r })) q2) w a2))
  part_once {text} {q} {spot} {draft} {o} {p} (deeper {s = s1} {change = c1} {field = f1} {o = q1} {room = r1} l1 a1) (too_deep {s = s2} {change = c2} {field = f2} z2) = absurd (omega arith)
  part_once {text} {q} {spot} {draft} {o} {p} (too_deep {s = s1} {change = c1} {field = f1} z1) (plain e2) = cc (deeper_none text s1 c1 f1 spot draft)
  part_once {text} {q} {spot} {draft} {o} {p} (too_deep {s = s1} {change = c1} {field = f1} z1) (deeper {s = s2} {change = c2} {field = f2} {o = q2} {room = r2} l2 a2) = absurd (omega arith)
  part_once {text} {q} {spot} {draft} {o} {p} (too_deep {s = s1} {change = c1} {field = f1} z1) (too_deep {s = s2} {change = c2} {field = f2} z2) = refl
