-- The steps of a reading, in the form in which the interpreter takes them.
use Rattle.std.proofs.Common.{◌≡◌, ◌<◌, ◌≤◌, ℕ, zero, suc, ◌+◌, ltb-true, leb-false, Bor, List, [], ◌∷◌, length, map, get_or, drop, drop-cons, add-one, Bool, true, false, Option, Some, None, Result, Ok, Err, IfOk, IsTrue, refl, sym, ◌∙◌, ap, subst, arith}
use Rattle.std.specs.Prelude.{◌&&◌, nat_le, nat_lt, if◌then◌else◌}
use Rattle.std.specs.Option.{option_map_or, option_or}
use Rattle.std.specs.List.{list_all}
use Rattle.std.specs.Str.{IsCharBoundary, chars}
use Rattle.std.proofs.lemmas.List.{drop_all}
use Rattle.es_text.specs.declared.token.Token.{Token}
use Rattle.es_tree.specs.Shapes.{height}
use Rattle.es_grammar.specs.declared.context.Change.{Change}
use Rattle.es_grammar.specs.declared.context.Context.{Context}
use Rattle.es_grammar.specs.declared.context.Spot.{Spot}
use Rattle.es_grammar.specs.declared.draft.Draft.{Draft}
use Rattle.es_grammar.specs.declared.draft.Outcome.{Outcome}
use Rattle.es_grammar.specs.declared.draft.Outcome.TheVariants.{Not, Deep, Read}
use Rattle.es_grammar.specs.declared.part.Alternative.{Alternative}
use Rattle.es_grammar.specs.declared.part.Field.{Field}
use Rattle.es_grammar.specs.declared.part.Part.{Part}
use Rattle.es_grammar.specs.declared.part.Part.TheVariants as part
use Rattle.es_grammar.specs.declared.part.Product.{Product}
use Rattle.es_grammar.specs.declared.part.Product.TheVariants as product
use Rattle.es_grammar.specs.declared.part.Rule.{Rule}
use Rattle.es_grammar.specs.declared.part.Rule.TheVariants as rule
use Rattle.es_grammar.specs.declared.part.TheConstants.{GREATEST_HEIGHT}
use Rattle.es_grammar.specs.declared.part.Turns.{Turns as KeptTurns}
use Rattle.es_grammar.specs.declared.symbol.Symbol.{Symbol}
use Rattle.es_grammar.specs.Contexts.{changed, moved}
use Rattle.es_grammar.specs.declared.part.Terminal.{Terminal}
use Rattle.es_grammar.specs.Terminals.{terminal_at, text_of}
use Rattle.es_grammar.specs.Drafts.{empty, joined, shape_of, span_of, words}
use Rattle.es_grammar.specs.Firsts.{CanBegin, turn_rows}
use Rattle.es_grammar.specs.Forms.{Row, Turns, Form, Choice, More, Commas, Behind}
use Rattle.es_grammar.specs.Grammar.{rule_of}
use Rattle.es_grammar.specs.Parts.{if_token, leaf_child, with_child, with_setting, after, all_hold, finish, is_last_turn, is_not, is_read, made, placed, plainly, with_token}
use Rattle.es_grammar.specs.Ranks.{form_below, is_below, rank_of, rows_below}
use Rattle.es_grammar.specs.Rules.{row, seen, turns}
use Rattle.es_grammar.specs.Reading.{Reads, ReadsTurns, ReadsCommas, ReadsChoice, ReadsParts, ReadsPart, left, over, stuck, deep_turn, last_turn, next_turn, no_more, broken, deep_item, last_item, next_item, no_row, this_row, next_row, done, stop, go_on, plain, symbol, deeper, too_deep, comma_at, taken, by_choice, by_turns, by_commas, behind, headless}
use Rattle.es_parser.proofs.PlacesLemmas.{unplaced}
use Rattle.es_parser.specs.declared.reached.Reached.{Reached}
use Rattle.es_parser.specs.declared.reached.Reached.TheVariants.{Nothing, TooDeep, At}
use Rattle.es_parser.specs.Ends.{EndsFrom, EndsIn, terminal_of}
use Rattle.es_parser.specs.Turns.{IsOver, ReadsBehind, head_of, joined_to, outcome_of, turn_of}

and_left : (a b : Bool) → IsTrue (a && b) → IsTrue a
and_left true b h = refl
and_left false b h = h

and_right : (a b : Bool) → IsTrue (a && b) → IsTrue b
and_right true b h = h
and_right false b h = cc

-- what each Ok has, it still has
pub if_ok : {A E : Type 0} (P Q : A → Type 0) (r : Result A E) → ((x : A) → P x → Q x) → IfOk r P → IfOk r Q
if_ok P Q (Ok x) f p = f x p
if_ok P Q (Err e) f p = tt

pub drop_at : {A : Type 0} (d : A) (xs : List A) (i : ℕ) → i < length xs → drop i xs ≡ get_or xs i d ∷ drop (i + 1) xs
drop_at d xs i h = drop-cons xs i d h ∙ ap (λ n. get_or xs i d ∷ drop n xs) (sym (add-one i))

-- every part of every row is below
pub rows_below_at : (r : ℕ) (d : Alternative) (rows : List Alternative) (i : ℕ) → i < length rows →
    IsTrue (rows_below r (map row rows)) → IsTrue (list_all (is_below r) (get_or rows i d).parts.now)
rows_below_at r d [] i h all = absurd (omega arith)
rows_below_at r d (a ∷ rows) zero h all = and_left (list_all (is_below r) a.parts.now) (rows_below r (map row rows)) all
rows_below_at r d (a ∷ rows) (suc i) h all =
    rows_below_at r d rows i (omega arith) (and_right (list_all (is_below r) a.parts.now) (rows_below r (map row rows)) all)

pub part_below_at : (r : ℕ) (d : Part) (ps : List Part) (i : ℕ) → i < length ps →
    IsTrue (list_all (is_below r) ps) → IsTrue (is_below r (get_or ps i d))
part_below_at r d [] i h all = absurd (omega arith)
part_below_at r d (p ∷ ps) zero h all = and_left (is_below r p) (list_all (is_below r) ps) all
part_below_at r d (p ∷ ps) (suc i) h all = part_below_at r d ps i (omega arith) (and_right (is_below r p) (list_all (is_below r) ps) all)

-- parts, read from a text that is the same as before
pub parts_step : {old text : List ℕ} {at end : ℕ} {draft further : Draft} {o q : Outcome} → old ≡ text → (spot : Spot) (d : Part) (ps : List Part) (i : ℕ) →
    i < length ps → ReadsPart old (get_or ps i d) (moved spot at) draft q → q ≡ Read further end →
    ReadsParts text (drop (i + 1) ps) (moved spot end) further o → ReadsParts text (drop i ps) (moved spot at) draft o
parts_step {old} {text} {at} {end} {draft} {further} {o} {q} same spot d ps i h p is rest =
    subst (λ qs. ReadsParts text qs (moved spot at) draft o) (sym (drop_at d ps i h))
    (go_on (subst (λ x. ReadsPart text (get_or ps i d) (moved spot at) draft x) is
    (subst (λ t. ReadsPart t (get_or ps i d) (moved spot at) draft q) same p)) rest)

pub parts_stop : {old text : List ℕ} {at : ℕ} {draft : Draft} {o : Outcome} → old ≡ text → (spot : Spot) (d : Part) (ps : List Part) (i : ℕ) →
    i < length ps → ReadsPart old (get_or ps i d) (moved spot at) draft o → is_read o ≡ false →
    ReadsParts text (drop i ps) (moved spot at) draft o
parts_stop {old} {text} {at} {draft} {o} same spot d ps i h p stops =
    subst (λ qs. ReadsParts text qs (moved spot at) draft o) (sym (drop_at d ps i h))
    (stop (subst (λ t. ReadsPart t (get_or ps i d) (moved spot at) draft o) same p) stops)

pub parts_done : {text : List ℕ} {at : ℕ} {draft : Draft} (spot : Spot) (ps : List Part) (i : ℕ) →
    length ps ≤ i → ReadsParts text (drop i ps) (moved spot at) draft (Read draft at)
parts_done {text} {at} {draft} spot ps i h =
    subst (λ qs. ReadsParts text qs (moved spot at) draft (Read draft at)) (sym (drop_all i ps h)) done

-- rows
pub rows_next : {old text : List ℕ} {spot : Spot} {seed before : Draft} {o q : Outcome} → old ≡ text → before ≡ empty →
    (d : Alternative) (rows : List Alternative) (i : ℕ) → i < length rows → ReadsParts old (get_or rows i d).parts.now spot before q → q ≡ Not →
    ReadsChoice text (map row (drop (i + 1) rows)) spot seed o → ReadsChoice text (map row (drop i rows)) spot seed o
rows_next {old} {text} {spot} {seed} {before} {o} {q} same none d rows i h p is rest =
    subst (λ qs. ReadsChoice text (map row qs) spot seed o) (sym (drop_at d rows i h))
    (next_row (subst (λ x. ReadsParts text (get_or rows i d).parts.now spot empty x) is
    (subst (λ b. ReadsParts text (get_or rows i d).parts.now spot b q) none
    (subst (λ t. ReadsParts t (get_or rows i d).parts.now spot before q) same p))) rest)

pub rows_first : {old text : List ℕ} {spot : Spot} {seed before : Draft} {q : Outcome} → old ≡ text → before ≡ empty →
    (d : Alternative) (rows : List Alternative) (i : ℕ) → i < length rows → ReadsParts old (get_or rows i d).parts.now spot before q → is_not q ≡ false →
    ReadsChoice text (map row (drop i rows)) spot seed (finish (get_or rows i d).makes seed q)
rows_first {old} {text} {spot} {seed} {before} {q} same none d rows i h p reads =
    subst (λ qs. ReadsChoice text (map row qs) spot seed (finish (get_or rows i d).makes seed q)) (sym (drop_at d rows i h))
    (this_row (subst (λ b. ReadsParts text (get_or rows i d).parts.now spot b q) none
    (subst (λ t. ReadsParts t (get_or rows i d).parts.now spot before q) same p)) reads)

pub rows_none : {text : List ℕ} {spot : Spot} {seed : Draft} (rows : List Alternative) (i : ℕ) →
    length rows ≤ i → ReadsChoice text (map row (drop i rows)) spot seed Not
rows_none {text} {spot} {seed} rows i h =
    subst (λ qs. ReadsChoice text (map row qs) spot seed Not) (sym (drop_all i rows h)) no_row

pub stops_unless_at : (r : Reached) (draft : Draft) → ((end : ℕ) → r ≡ At end → ⊥) → is_read (outcome_of r draft) ≡ false
stops_unless_at Nothing draft h = refl
stops_unless_at TooDeep draft h = refl
stops_unless_at (At end) draft h = absurd (h end refl)

pub is_not_unless : (r : Reached) (draft : Draft) → (r ≡ Nothing → ⊥) → is_not (outcome_of r draft) ≡ false
is_not_unless Nothing draft h = absurd (h refl)
is_not_unless TooDeep draft h = refl
is_not_unless (At end) draft h = refl

-- what isn't Not doesn't become it
cond_reads : (b : Bool) (draft : Draft) (end : ℕ) → (if b then Read draft end else Deep) ≡ Not → ⊥
cond_reads true draft end e = cc
cond_reads false draft end e = cc

made_reads : (kind : ℕ) (draft : Draft) (becomes : Option ℕ) (end : ℕ) → made kind draft becomes end ≡ Not → ⊥
unfolding made
made_reads kind draft becomes end e =
    cond_reads (nat_le (height (shape_of kind (span_of draft.tokens) draft.children draft.settings)) GREATEST_HEIGHT) _ end e

becoming_reads : (draft : Draft) (end : ℕ) (kind : Option ℕ) → option_map_or (λ kind. made kind draft None end) kind (Read draft end) ≡ Not → ⊥
becoming_reads draft end None e = cc
becoming_reads draft end (Some kind) e = made_reads kind draft None end e

pub finish_reads : (makes : Product) (seed : Draft) (q : Outcome) → is_not q ≡ false → finish makes seed q ≡ Not → ⊥
unfolding finish
finish_reads makes seed Not h e = cc
finish_reads makes seed Deep h e = cc
finish_reads product.Parts seed (Read draft end) h e = cc
finish_reads (product.Node kind) seed (Read draft end) h e = made_reads kind (joined seed draft) (joined seed draft).becomes end e
finish_reads product.Becoming seed (Read draft end) h e = becoming_reads (joined seed draft) end (joined seed draft).becomes e

-- what a row makes ends where its parts do
cond_ends : (text : List ℕ) (from : ℕ) (b : Bool) (draft : Draft) (end : ℕ) → (from ≤ end) × IsCharBoundary text end →
    EndsFrom text from (if b then Read draft end else Deep)
cond_ends text from true draft end h = h
cond_ends text from false draft end h = tt

made_ends : (text : List ℕ) (from kind : ℕ) (draft : Draft) (becomes : Option ℕ) (end : ℕ) → (from ≤ end) × IsCharBoundary text end →
    EndsFrom text from (made kind draft becomes end)
unfolding made
made_ends text from kind draft becomes end h =
    cond_ends text from (nat_le (height (shape_of kind (span_of draft.tokens) draft.children draft.settings)) GREATEST_HEIGHT) _ end h

becoming_ends : (text : List ℕ) (from : ℕ) (draft : Draft) (end : ℕ) (kind : Option ℕ) → (from ≤ end) × IsCharBoundary text end →
    EndsFrom text from (option_map_or (λ kind. made kind draft None end) kind (Read draft end))
becoming_ends text from draft end None h = h
becoming_ends text from draft end (Some kind) h = made_ends text from kind draft None end h

pub finish_ends : (text : List ℕ) (from : ℕ) (makes : Product) (seed : Draft) (q : Outcome) → EndsFrom text from q → EndsFrom text from (finish makes seed q)
unfolding finish
finish_ends text from makes seed Not h = tt
finish_ends text from makes seed Deep h = tt
finish_ends text from product.Parts seed (Read draft end) h = h
finish_ends text from (product.Node kind) seed (Read draft end) h = made_ends text from kind (joined seed draft) (joined seed draft).becomes end h
finish_ends text from product.Becoming seed (Read draft end) h = becoming_ends text from (joined seed draft) end (joined seed draft).becomes h

pub after_ends : (text : List ℕ) (from : ℕ) (draft : Draft) (field : Option Field) (q : Outcome) → EndsFrom text from q → EndsFrom text from (after draft field q)
unfolding after
after_ends text from draft field Not h = tt
after_ends text from draft field Deep h = tt
after_ends text from draft field (Read more end) h = h

joined_ends : (text : List ℕ) (from : ℕ) (draft : Draft) (q : Outcome) → EndsFrom text from q → EndsFrom text from (joined_to draft q)
joined_ends text from draft Not h = tt
joined_ends text from draft Deep h = tt
joined_ends text from draft (Read turn end) h = h

pub turn_ends : (text : List ℕ) (from : ℕ) (taking : Bool) (draft : Draft) (makes : Product) (q : Outcome) → EndsFrom text from q → EndsFrom text from (turn_of taking draft makes q)
turn_ends text from true draft makes q h = finish_ends text from makes draft q h
turn_ends text from false draft makes q h = joined_ends text from draft (finish makes empty q) (finish_ends text from makes empty q h)

-- what ends behind a later offset
pub ends_later : (text : List ℕ) (from later : ℕ) (q : Outcome) → from ≤ later → EndsFrom text later q → EndsFrom text from q
ends_later text from later Not h ends = tt
ends_later text from later Deep h ends = tt
ends_later text from later (Read draft end) h ends = (omega (arith, ends.0), ends.1)

pub ends_in : (text : List ℕ) (from : ℕ) (q : Outcome) → EndsFrom text from q → EndsIn text q
ends_in text from Not ends = tt
ends_in text from Deep ends = tt
ends_in text from (Read draft end) ends = ends.1

-- what came to an offset ends there
pub at_ends : {old text : List ℕ} {end : ℕ} (from : ℕ) (r : Reached) (draft : Draft) → old ≡ text → r ≡ At end → EndsFrom old from (outcome_of r draft) →
    (from ≤ end) × IsCharBoundary text end
at_ends {old} {text} {end} from r draft same is ends =
    subst (λ r. EndsFrom text from (outcome_of r draft)) is (subst (λ t. EndsFrom t from (outcome_of r draft)) same ends)

-- what a turn gives, behind what its row gave from an offset on
pub grown_ends : {old text : List ℕ} (from : ℕ) (taking : Bool) (draft turn : Draft) (makes : Product) (q r : Reached) (further : Draft) → old ≡ text →
    EndsFrom old from (outcome_of q turn) → outcome_of r further ≡ turn_of taking draft makes (outcome_of q turn) → EndsFrom text from (outcome_of r further)
grown_ends {old} {text} from taking draft turn makes q r further same ends is =
    subst (EndsFrom text from) (sym is) (turn_ends text from taking draft makes (outcome_of q turn) (subst (λ t. EndsFrom t from (outcome_of q turn)) same ends))

pub finished_ends : {old text : List ℕ} (from : ℕ) (parts : Draft) (makes : Product) (q r : Reached) (further : Draft) → old ≡ text →
    EndsFrom old from (outcome_of q parts) → outcome_of r further ≡ finish makes empty (outcome_of q parts) → EndsFrom text from (outcome_of r further)
finished_ends {old} {text} from parts makes q r further same ends is =
    subst (EndsFrom text from) (sym is) (finish_ends text from makes empty (outcome_of q parts) (subst (λ t. EndsFrom t from (outcome_of q parts)) same ends))

pub extended_ends : (text : List ℕ) (from : ℕ) (draft more : Draft) (field : Option Field) (q r : Reached) (further : Draft) →
    EndsFrom text from (outcome_of q more) → outcome_of r further ≡ after draft field (outcome_of q more) → EndsFrom text from (outcome_of r further)
extended_ends text from draft more field q r further ends is =
    subst (EndsFrom text from) (sym is) (after_ends text from draft field (outcome_of q more) ends)

joined_is : {further : Draft} {end : ℕ} (draft : Draft) (q : Outcome) → joined_to draft q ≡ Read further end →
    (turn : Draft) × (q ≡ Read turn end) × (joined draft turn ≡ further)
joined_is draft Not is = absurd (cc)
joined_is draft Deep is = absurd (cc)
joined_is draft (Read turn last) is = (turn, cc, cc)

-- what a row gives, before it is made into what the row makes
abbrev pub Gives : List ℕ → List Row → Spot → Product → Outcome → Type 0
Gives text rows spot makes q = (seed : Draft) → ReadsChoice text rows spot seed (finish makes seed q)

gives_in : {old text : List ℕ} {rows : List Row} {spot : Spot} (makes : Product) (q : Outcome) → old ≡ text → Gives old rows spot makes q → Gives text rows spot makes q
gives_in {old} {text} {rows} {spot} makes q same gives = λ seed. subst (λ t. ReadsChoice t rows spot seed (finish makes seed q)) same (gives seed)

-- what a turn's rows give, where the turn gives this
turn_grown : {text : List ℕ} {rows : List Row} {spot : Spot} {further : Draft} {end : ℕ} (taking : Bool) (draft : Draft) (makes : Product) (q : Outcome) →
    Gives text rows spot makes q → turn_of taking draft makes q ≡ Read further end →
    (turn : Draft) × ReadsChoice text rows spot (if taking then draft else empty) (Read turn end) × ((if taking then turn else joined draft turn) ≡ further)
turn_grown {text} {rows} {spot} {further} true draft makes q gives is =
    (further, subst (λ o. ReadsChoice text rows spot draft o) is (gives draft), refl)
turn_grown {text} {rows} {spot} false draft makes q gives is =
    let known = joined_is draft (finish makes empty q) is in
    (known.0, subst (λ o. ReadsChoice text rows spot empty o) known.1 (gives empty), known.2)

only_deep : (q : Outcome) → (q ≡ Not → ⊥) → ((draft : Draft) (end : ℕ) → q ≡ Read draft end → ⊥) → q ≡ Deep
only_deep Not never stops = absurd (never refl)
only_deep Deep never stops = refl
only_deep (Read draft end) never stops = absurd (stops draft end refl)

-- a turn that gives nothing is nested too deeply
turn_deep : {text : List ℕ} {rows : List Row} {spot : Spot} (taking : Bool) (draft : Draft) (makes : Product) (q : Outcome) →
    Gives text rows spot makes q → is_not q ≡ false → ((further : Draft) (end : ℕ) → turn_of taking draft makes q ≡ Read further end → ⊥) →
    (turn_of taking draft makes q ≡ Deep) × ReadsChoice text rows spot (if taking then draft else empty) Deep
turn_deep {text} {rows} {spot} true draft makes q gives some stops =
    let deep : finish makes draft q ≡ Deep = only_deep (finish makes draft q) (finish_reads makes draft q some) stops in
    (deep, subst (λ o. ReadsChoice text rows spot draft o) deep (gives draft))
turn_deep {text} {rows} {spot} false draft makes q gives some stops =
    let deep : finish makes empty q ≡ Deep =
    only_deep (finish makes empty q) (finish_reads makes empty q some)
    (λ turn end is. stops (joined draft turn) end (ap (joined_to draft) is)) in
    (ap (joined_to draft) deep, subst (λ o. ReadsChoice text rows spot empty o) deep (gives empty))

at_unless : (r : Reached) (draft further : Draft) (end : ℕ) → ((end : ℕ) → r ≡ At end → ⊥) → outcome_of r draft ≡ Read further end → ⊥
at_unless Nothing draft further end h is = cc
at_unless TooDeep draft further end h is = cc
at_unless (At last) draft further end h is = h last refl

none_gives : {text : List ℕ} {rows : List Row} {spot : Spot} {seed : Draft} (makes : Product) (q : Reached) (turn : Draft) → Gives text rows spot makes (outcome_of q turn) →
    q ≡ Nothing → ReadsChoice text rows spot seed Not
unfolding finish
none_gives {text} {rows} {spot} {seed} makes q turn gives none =
    subst (λ q. ReadsChoice text rows spot seed (finish makes seed (outcome_of q turn))) none (gives seed)

pub can_in : {old text : List ℕ} {spot : Spot} {rows own : List Row} → old ≡ text → rows ≡ own → CanBegin old spot rows → CanBegin text spot own
can_in {old} {text} {spot} {rows} {own} same is can = subst (λ rs. CanBegin text spot rs) is (subst (λ t. CanBegin t spot rows) same can)

-- an option or a repetition that is left, over or stuck
pub turns_left : {old text : List ℕ} {at : ℕ} {draft : Draft} {so : Bool} (spot : Spot) (taking : Bool) (more : KeptTurns) → old ≡ text →
    so ≡ all_hold old (moved spot at) draft more.conditions.now → so ≡ false → ReadsTurns text (turns taking more) (moved spot at) draft (Read draft at)
turns_left {old} {text} {at} {draft} {so} spot taking more same holds fails =
    left (subst (λ t. all_hold t (moved spot at) draft more.conditions.now ≡ false) same (sym holds ∙ fails))

pub turns_over : {first old text : List ℕ} {at : ℕ} {draft : Draft} {so : Bool} {own : List Row} (spot : Spot) (taking : Bool) (more : KeptTurns) (makes : Product) (q : Reached) (turn : Draft) →
    first ≡ text → so ≡ all_hold first (moved spot at) draft more.conditions.now → so ≡ true →
    old ≡ text → Gives old (map row more.rows.now) (moved spot at) makes (outcome_of q turn) → q ≡ Nothing →
    own ≡ map row more.rows.now → (CanBegin text (moved spot at) own → ⊥) → ReadsTurns text (turns taking more) (moved spot at) draft (Read draft at)
turns_over {first} {old} {text} {at} {draft} {so} {own} spot taking more makes q turn before holds hold same gives none is never =
    over (subst (λ t. all_hold t (moved spot at) draft more.conditions.now ≡ true) before (sym holds ∙ hold))
    (none_gives makes q turn (gives_in makes (outcome_of q turn) same gives) none) (λ can. never (can_in refl (sym is) can))

pub turns_stuck : {first old text : List ℕ} {at : ℕ} {draft : Draft} {so : Bool} {own : List Row} (spot : Spot) (taking : Bool) (more : KeptTurns) (makes : Product) (q : Reached) (turn : Draft) →
    first ≡ text → so ≡ all_hold first (moved spot at) draft more.conditions.now → so ≡ true →
    old ≡ text → Gives old (map row more.rows.now) (moved spot at) makes (outcome_of q turn) → q ≡ Nothing →
    own ≡ map row more.rows.now → CanBegin text (moved spot at) own → ReadsTurns text (turns taking more) (moved spot at) draft Not
turns_stuck {first} {old} {text} {at} {draft} {so} {own} spot taking more makes q turn before holds hold same gives none is can =
    stuck (subst (λ t. all_hold t (moved spot at) draft more.conditions.now ≡ true) before (sym holds ∙ hold))
    (none_gives makes q turn (gives_in makes (outcome_of q turn) same gives) none) (can_in refl is can)

-- a turn that stops the rule
pub turns_stop : {first old text : List ℕ} {at : ℕ} {draft : Draft} {so : Bool} (spot : Spot) (taking : Bool) (more : KeptTurns) (makes : Product) (q : Reached) (turn : Draft) (r : Reached) (further : Draft) →
    first ≡ text → so ≡ all_hold first (moved spot at) draft more.conditions.now → so ≡ true →
    old ≡ text → Gives old (map row more.rows.now) (moved spot at) makes (outcome_of q turn) → (q ≡ Nothing → ⊥) →
    outcome_of r further ≡ turn_of taking draft makes (outcome_of q turn) → ((end : ℕ) → r ≡ At end → ⊥) →
    ReadsTurns text (turns taking more) (moved spot at) draft (outcome_of r further)
turns_stop {first} {old} {text} {at} {draft} {so} spot taking more makes q turn r further before holds hold same gives some is stops =
    let known = turn_deep {text = text} {rows = map row more.rows.now} {spot = moved spot at} taking draft makes (outcome_of q turn) (gives_in makes (outcome_of q turn) same gives) (is_not_unless q turn some)
    (λ later end reads. at_unless r further later end stops (is ∙ reads)) in
    subst (λ o. ReadsTurns text (turns taking more) (moved spot at) draft o) (sym (is ∙ known.0))
    (deep_turn (subst (λ t. all_hold t (moved spot at) draft more.conditions.now ≡ true) before (sym holds ∙ hold)) known.1)

-- the last turn
pub turns_last : {first old text : List ℕ} {at end : ℕ} {draft : Draft} {so last : Bool} (spot : Spot) (taking : Bool) (more : KeptTurns) (makes : Product) (q : Reached) (turn : Draft) (r : Reached) (further : Draft) →
    first ≡ text → so ≡ all_hold first (moved spot at) draft more.conditions.now → so ≡ true →
    old ≡ text → Gives old (map row more.rows.now) (moved spot at) makes (outcome_of q turn) →
    outcome_of r further ≡ turn_of taking draft makes (outcome_of q turn) → r ≡ At end → last ≡ is_last_turn more.many at end → last ≡ true →
    ReadsTurns text (turns taking more) (moved spot at) draft (Read further end)
turns_last {first} {old} {text} {at} {end} {draft} {so} {last} spot taking more makes q turn r further before holds hold same gives is comes ends is_last =
    let known = turn_grown {text = text} {rows = map row more.rows.now} {spot = moved spot at} {further = further} {end = end} taking draft makes (outcome_of q turn) (gives_in makes (outcome_of q turn) same gives) (sym is ∙ ap (λ r. outcome_of r further) comes) in
    subst (λ d. ReadsTurns text (turns taking more) (moved spot at) draft (Read d end)) known.2
    (last_turn (subst (λ t. all_hold t (moved spot at) draft more.conditions.now ≡ true) before (sym holds ∙ hold)) known.1 (sym ends ∙ is_last))

-- a turn, and those behind it
pub turns_next : {first old text : List ℕ} {at end : ℕ} {draft : Draft} {so last : Bool} {o : Outcome} (spot : Spot) (taking : Bool) (more : KeptTurns) (makes : Product) (q : Reached) (turn : Draft) (r : Reached) (further : Draft) →
    first ≡ text → so ≡ all_hold first (moved spot at) draft more.conditions.now → so ≡ true →
    old ≡ text → Gives old (map row more.rows.now) (moved spot at) makes (outcome_of q turn) →
    outcome_of r further ≡ turn_of taking draft makes (outcome_of q turn) → r ≡ At end → last ≡ is_last_turn more.many at end → last ≡ false →
    ReadsTurns text (turns taking more) (moved spot end) further o → ReadsTurns text (turns taking more) (moved spot at) draft o
turns_next {first} {old} {text} {at} {end} {draft} {so} {last} {o} spot taking more makes q turn r further before holds hold same gives is comes ends is_last rest =
    let known = turn_grown {text = text} {rows = map row more.rows.now} {spot = moved spot at} {further = further} {end = end} taking draft makes (outcome_of q turn) (gives_in makes (outcome_of q turn) same gives) (sym is ∙ ap (λ r. outcome_of r further) comes) in
    next_turn (subst (λ t. all_hold t (moved spot at) draft more.conditions.now ≡ true) before (sym holds ∙ hold)) known.1 (sym ends ∙ is_last)
    (subst (λ d. ReadsTurns text (turns taking more) (moved spot end) d o) (sym known.2) rest)

-- a further turn begins further on
pub moves_on : (many : Bool) (at end : ℕ) → is_last_turn many at end ≡ false → at < end
moves_on true at end h = leb-false end at h
moves_on false at end h = absurd (cc)

-- lists
pub list_over : {old text : List ℕ} {at : ℕ} {draft : Draft} {own : List Row} (spot : Spot) (rows : List Alternative) (makes : Product) (q : Reached) (item : Draft) →
    old ≡ text → Gives old (map row rows) (moved spot at) makes (outcome_of q item) → q ≡ Nothing →
    own ≡ map row rows → (CanBegin text (moved spot at) own → ⊥) → ReadsCommas text (map row rows) (moved spot at) draft (Read draft at)
list_over {old} {text} {at} {draft} {own} spot rows makes q item same gives none is never =
    no_more (none_gives makes q item (gives_in makes (outcome_of q item) same gives) none) (λ can. never (can_in refl (sym is) can))

pub list_broken : {old text : List ℕ} {at : ℕ} {draft : Draft} {own : List Row} (spot : Spot) (rows : List Alternative) (makes : Product) (q : Reached) (item : Draft) →
    old ≡ text → Gives old (map row rows) (moved spot at) makes (outcome_of q item) → q ≡ Nothing →
    own ≡ map row rows → CanBegin text (moved spot at) own → ReadsCommas text (map row rows) (moved spot at) draft Not
list_broken {old} {text} {at} {draft} {own} spot rows makes q item same gives none is can =
    broken (none_gives makes q item (gives_in makes (outcome_of q item) same gives) none) (can_in refl is can)

pub list_stop : {old text : List ℕ} {at : ℕ} {draft : Draft} (spot : Spot) (rows : List Alternative) (makes : Product) (q : Reached) (item : Draft) (r : Reached) (further : Draft) →
    old ≡ text → Gives old (map row rows) (moved spot at) makes (outcome_of q item) → (q ≡ Nothing → ⊥) →
    outcome_of r further ≡ turn_of false draft makes (outcome_of q item) → ((end : ℕ) → r ≡ At end → ⊥) →
    ReadsCommas text (map row rows) (moved spot at) draft (outcome_of r further)
list_stop {old} {text} {at} {draft} spot rows makes q item r further same gives some is stops =
    let known = turn_deep {text = text} {rows = map row rows} {spot = moved spot at} false draft makes (outcome_of q item) (gives_in makes (outcome_of q item) same gives) (is_not_unless q item some)
    (λ later end reads. at_unless r further later end stops (is ∙ reads)) in
    subst (λ o. ReadsCommas text (map row rows) (moved spot at) draft o) (sym (is ∙ known.0)) (deep_item known.1)

pub list_last : {old text : List ℕ} {at end : ℕ} {draft : Draft} (spot : Spot) (rows : List Alternative) (makes : Product) (q : Reached) (item : Draft) (r : Reached) (further : Draft) →
    old ≡ text → Gives old (map row rows) (moved spot at) makes (outcome_of q item) →
    outcome_of r further ≡ turn_of false draft makes (outcome_of q item) → r ≡ At end → comma_at text (moved spot end) ≡ None →
    ReadsCommas text (map row rows) (moved spot at) draft (Read further end)
list_last {old} {text} {at} {end} {draft} spot rows makes q item r further same gives is comes no_comma =
    let known = turn_grown {text = text} {rows = map row rows} {spot = moved spot at} {further = further} {end = end} false draft makes (outcome_of q item) (gives_in makes (outcome_of q item) same gives) (sym is ∙ ap (λ r. outcome_of r further) comes) in
    subst (λ d. ReadsCommas text (map row rows) (moved spot at) draft (Read d end)) known.2 (last_item known.1 no_comma)

pub list_next : {old text : List ℕ} {at end : ℕ} {draft : Draft} {comma : Token} {o : Outcome} (spot : Spot) (rows : List Alternative) (makes : Product) (q : Reached) (item : Draft) (r : Reached) (further : Draft) →
    old ≡ text → Gives old (map row rows) (moved spot at) makes (outcome_of q item) →
    outcome_of r further ≡ turn_of false draft makes (outcome_of q item) → r ≡ At end → comma_at text (moved spot end) ≡ Some comma →
    ReadsCommas text (map row rows) (moved spot comma.span.end) (with_token further comma) o → ReadsCommas text (map row rows) (moved spot at) draft o
list_next {old} {text} {at} {end} {draft} {comma} {o} spot rows makes q item r further same gives is comes is_comma rest =
    let known = turn_grown {text = text} {rows = map row rows} {spot = moved spot at} {further = further} {end = end} false draft makes (outcome_of q item) (gives_in makes (outcome_of q item) same gives) (sym is ∙ ap (λ r. outcome_of r further) comes) in
    next_item known.1 is_comma
    (subst (λ d. ReadsCommas text (map row rows) (moved spot comma.span.end) (with_token d comma) o) (sym known.2) rest)

-- a symbol as a part, in the changed context
pub symbol_read : {text : List ℕ} {p : Part} {s : Symbol} {change : Change} {field : Option Field} {context : Context} {draft : Draft} {q o : Outcome} (spot : Spot) →
    p ≡ part.Symbol s change field → context ≡ changed change spot.context → Reads text s (record spot { context = context }) q →
    o ≡ after draft field q → ReadsPart text p spot draft o
symbol_read {text} {p} {s} {change} {field} {context} {draft} {q} {o} spot is inside reads made =
    subst (λ p. ReadsPart text p spot draft o) (sym is)
    (subst (λ o. ReadsPart text (part.Symbol s change field) spot draft o) (sym made)
    (symbol (subst (λ c. Reads text s (record spot { context = c }) q) inside reads)))

pub no_room : {text : List ℕ} {p : Part} {s : Symbol} {change : Change} {field : Option Field} {draft : Draft} (spot : Spot) →
    p ≡ part.Deeper s change field → spot.room ≡ 0 → ReadsPart text p spot draft Deep
no_room {text} {p} {s} {change} {field} {draft} spot is none = subst (λ p. ReadsPart text p spot draft Deep) (sym is) (too_deep none)

pub deeper_read : {text : List ℕ} {p : Part} {s : Symbol} {change : Change} {field : Option Field} {context : Context} {draft : Draft} {q o : Outcome} {room : ℕ} (spot : Spot) →
    p ≡ part.Deeper s change field → context ≡ changed change spot.context → spot.room ≡ room + 1 →
    Reads text s (record { at = spot.at; context = context; room = room }) q → o ≡ after draft field q → ReadsPart text p spot draft o
deeper_read {text} {p} {s} {change} {field} {context} {draft} {q} {o} {room} spot is inside has_room reads made =
    subst (λ p. ReadsPart text p spot draft o) (sym is)
    (subst (λ o. ReadsPart text (part.Deeper s change field) spot draft o) (sym made)
    (deeper has_room (subst (λ c. Reads text s (record { at = spot.at; context = c; room = room }) q) inside reads)))

-- of what is known of each Ok
pub at_ok : {A E : Type 0} (P : A → Type 0) (r : Result A E) (x : A) → r ≡ Ok x → IfOk r P → P x
at_ok P r x is h = subst (λ r. IfOk r P) is h

-- heads
pub headless_unless : (r : Rule) → ((head : Symbol) (more : KeptTurns) → r ≡ rule.Behind head more → ⊥) → head_of (seen r) ≡ None
headless_unless (rule.Choice rows) h = refl
headless_unless (rule.More more) h = refl
headless_unless (rule.Commas rows) h = refl
headless_unless (rule.Behind head more) h = absurd (h head more refl)

has_head : (form : Form) (head : Symbol) → Some head ≡ head_of form → (turns : Turns) × (form ≡ Behind head turns)
has_head (Choice rows) head is = absurd (cc)
has_head (More turns) head is = absurd (cc)
has_head (Commas rows) head is = absurd (cc)
has_head (Behind first turns) head is = (turns, cc)

-- a symbol by its rule, with a head
pub read_behind : {text middle : List ℕ} {symbol : Symbol} {spot : Spot} {first o : Outcome} (head : Symbol) → Some head ≡ head_of (rule_of symbol) →
    middle ≡ text → Reads text head spot first → ReadsBehind middle symbol spot first o → Reads text symbol spot o
read_behind {text} {middle} {symbol} {spot} {first} {o} head is same reads goes_on =
    let known = has_head (rule_of symbol) head is in
    subst (λ t. Reads t symbol spot o) same (goes_on head known.0 known.1 (subst (λ t. Reads t head spot first) (sym same) reads))

pub behind_turns : {text : List ℕ} {symbol first : Symbol} {spot : Spot} {draft : Draft} {end : ℕ} {o : Outcome} {r : Rule} {q : Reached} (more : KeptTurns) →
    r ≡ rule.Behind first more → seen r ≡ rule_of symbol → q ≡ At end → ReadsTurns text (turns true more) (moved spot end) draft o →
    ReadsBehind text symbol spot (outcome_of q draft) o
behind_turns {text} {symbol} {first} {spot} {draft} {end} {o} {r} {q} more is has comes reads = λ head its rule_is head_reads.
    let form_is : Behind head its ≡ Behind first (turns true more) = sym rule_is ∙ (sym has ∙ ap seen is) in
    let same_turns : turns true more ≡ its = (cc) in
    behind rule_is (subst (λ q. Reads text head spot (outcome_of q draft)) comes head_reads)
    (subst (λ ts. ReadsTurns text ts (moved spot end) draft o) same_turns reads)

pub behind_none : {text : List ℕ} {symbol : Symbol} {spot : Spot} {first o : Outcome} (r : Rule) → seen r ≡ rule_of symbol →
    ((head : Symbol) (more : KeptTurns) → r ≡ rule.Behind head more → ⊥) → ReadsBehind text symbol spot first o
behind_none {text} {symbol} {spot} {first} {o} r has never = λ head its rule_is head_reads.
    let none : head_of (Behind head its) ≡ None = ap head_of (sym rule_is) ∙ (ap head_of (sym has) ∙ headless_unless r never) in
    absurd (cc)

pub behind_stopped : {text : List ℕ} {symbol : Symbol} {spot : Spot} (draft : Draft) (q : Reached) → ((end : ℕ) → q ≡ At end → ⊥) →
    ReadsBehind text symbol spot (outcome_of q draft) (outcome_of q draft)
behind_stopped {text} {symbol} {spot} draft q stops = λ head its rule_is head_reads. headless rule_is head_reads (stops_unless_at q draft stops)

pub head_below : (rank : ℕ) (head : Symbol) (r : Rule) (more : KeptTurns) → r ≡ rule.Behind head more → IsTrue (form_below rank (seen r)) → rank_of head < rank
head_below rank head r more is below =
    ltb-true (rank_of head) rank
    (and_left (nat_lt (rank_of head) rank) (rows_below rank (map row more.rows.now)) (subst (λ r. IsTrue (form_below rank (seen r))) is below))

-- what the rule of a symbol says of its rows
pub rows_ranked : (rank : ℕ) (r : Rule) (rows : Bor (List Alternative)) → r ≡ rule.Choice rows → IsTrue (form_below rank (seen r)) → IsTrue (rows_below rank (map row rows.now))
rows_ranked rank r rows is below = subst (λ r. IsTrue (form_below rank (seen r))) is below

pub list_ranked : (rank : ℕ) (r : Rule) (rows : Bor (List Alternative)) → r ≡ rule.Commas rows → IsTrue (form_below rank (seen r)) → IsTrue (rows_below rank (map row rows.now))
list_ranked rank r rows is below = subst (λ r. IsTrue (form_below rank (seen r))) is below

pub turns_ranked : (rank : ℕ) (r : Rule) (more : KeptTurns) → r ≡ rule.More more → IsTrue (form_below rank (seen r)) → IsTrue (rows_below rank (map row more.rows.now))
turns_ranked rank r more is below = subst (λ r. IsTrue (form_below rank (seen r))) is below

pub behind_ranked : (rank : ℕ) (head : Symbol) (r : Rule) (more : KeptTurns) → r ≡ rule.Behind head more → IsTrue (form_below rank (seen r)) → IsTrue (rows_below rank (map row more.rows.now))
behind_ranked rank head r more is below =
    and_right (nat_lt (rank_of head) rank) (rows_below rank (map row more.rows.now)) (subst (λ r. IsTrue (form_below rank (seen r))) is below)

-- a part that reads no symbol
pub plain_read : (text : List ℕ) (spot : Spot) (p : Part) (before draft : Draft) (o q : Outcome) → before ≡ draft → plainly text spot p before ≡ Some q → o ≡ q →
    ReadsPart text p spot draft o
plain_read text spot p before draft o q same gives is =
    subst (λ d. ReadsPart text p spot d o) same (subst (λ o. ReadsPart text p spot before o) (sym is) (plain gives))

pub behind_rows : {r : Rule} {first : Symbol} {form : Form} (more : KeptTurns) → r ≡ rule.Behind first more → seen r ≡ form → turn_rows form ≡ map row more.rows.now
behind_rows {r} {first} {form} more is has = ap turn_rows (sym has) ∙ ap (λ r. turn_rows (seen r)) is

pub more_rows : {r : Rule} {form : Form} (more : KeptTurns) → r ≡ rule.More more → seen r ≡ form → turn_rows form ≡ map row more.rows.now
more_rows {r} {form} more is has = ap turn_rows (sym has) ∙ ap (λ r. turn_rows (seen r)) is

pub list_rows : {r : Rule} {form : Form} (rows : Bor (List Alternative)) → r ≡ rule.Commas rows → seen r ≡ form → turn_rows form ≡ map row rows.now
list_rows {r} {form} rows is has = ap turn_rows (sym has) ∙ ap (λ r. turn_rows (seen r)) is

pub no_head : {r : Rule} {first : Symbol} {form : Form} (more : KeptTurns) → r ≡ rule.Behind first more → seen r ≡ form → head_of form ≡ None → ⊥
no_head {r} {first} {form} more is has none =
    let head : Some first ≡ None = ap (λ r. head_of (seen r)) (sym is) ∙ (ap head_of has ∙ none) in
    absurd (cc)

-- a symbol by its rule, without a head
pub by_rows : {text : List ℕ} {symbol : Symbol} {spot : Spot} {r : Rule} (makes : Product) (q o : Outcome) (rows : Bor (List Alternative)) →
    r ≡ rule.Choice rows → seen r ≡ rule_of symbol → Gives text (map row rows.now) spot makes q → o ≡ finish makes empty q → Reads text symbol spot o
by_rows {text} {symbol} {spot} {r} makes q o rows is has gives made =
    by_choice (sym has ∙ ap seen is) (subst (λ o. ReadsChoice text (map row rows.now) spot empty o) (sym made) (gives empty))

pub by_more : {text : List ℕ} {symbol : Symbol} {spot : Spot} {before : Draft} {r : Rule} {o : Outcome} (more : KeptTurns) →
    r ≡ rule.More more → seen r ≡ rule_of symbol → before ≡ empty → ReadsTurns text (turns false more) spot before o → Reads text symbol spot o
by_more {text} {symbol} {spot} {before} {r} {o} more is has none reads =
    by_turns (sym has ∙ ap seen is) (subst (λ d. ReadsTurns text (turns false more) spot d o) none reads)

pub by_list : {text : List ℕ} {symbol : Symbol} {spot : Spot} {before : Draft} {r : Rule} {o : Outcome} (rows : Bor (List Alternative)) →
    r ≡ rule.Commas rows → seen r ≡ rule_of symbol → before ≡ empty → ReadsCommas text (map row rows.now) spot before o → Reads text symbol spot o
by_list {text} {symbol} {spot} {before} {r} {o} rows is has none reads =
    by_commas (sym has ∙ ap seen is) (subst (λ d. ReadsCommas text (map row rows.now) spot d o) none reads)

-- a symbol that came to nothing
pub refused : {text : List ℕ} {symbol : Symbol} {spot : Spot} (draft : Draft) (q : Reached) → Reads text symbol spot (outcome_of q draft) → q ≡ Nothing → Reads text symbol spot Not
refused {text} {symbol} {spot} draft q reads none = subst (λ q. Reads text symbol spot (outcome_of q draft)) none reads

pub symbol_below : {p : Part} {s : Symbol} {change : Change} {field : Option Field} (rank : ℕ) → p ≡ part.Symbol s change field → IsTrue (is_below rank p) → rank_of s < rank
unfolding is_below
symbol_below {p} {s} {change} {field} rank is below = ltb-true (rank_of s) rank (subst (λ p. IsTrue (is_below rank p)) is below)

-- a part that has a token, and another one is next
pub other_token : (text : List ℕ) (spot : Spot) (draft : Draft) (p : Part) (terminal : Terminal) → Some terminal ≡ terminal_of p →
    terminal_at text spot.context terminal spot.at ≡ None → ReadsPart text p spot draft Not
unfolding plainly
other_token text spot draft (part.Token own) terminal is none =
    let same : terminal ≡ own = (cc) in
    plain (ap (λ found. Some (if_token (λ found. Read (with_token draft found) found.span.end) found)) (subst (λ t. terminal_at text spot.context t spot.at ≡ None) same none))
other_token text spot draft (part.Words own field) terminal is none =
    let same : terminal ≡ own = (cc) in
    plain (ap (λ found. Some (if_token (λ found. Read (with_setting (with_token draft found) (words field (chars (text_of text found)))) found.span.end) found))
    (subst (λ t. terminal_at text spot.context t spot.at ≡ None) same none))
other_token text spot draft (part.Leaf own kind field) terminal is none =
    let same : terminal ≡ own = (cc) in
    plain (ap (λ found. Some (if_token (λ found. Read (with_child (with_token draft found) (leaf_child text kind field found)) found.span.end) found))
    (subst (λ t. terminal_at text spot.context t spot.at ≡ None) same none))
other_token text spot draft (part.Twin own kind field) terminal is none =
    let same : terminal ≡ own = (cc) in
    plain (ap (λ found. Some (if_token (λ found. Read (with_child draft (leaf_child text kind field found)) spot.at) found))
    (subst (λ t. terminal_at text spot.context t spot.at ≡ None) same none))
other_token text spot draft (part.Symbol s change field) terminal is none = absurd (cc)
other_token text spot draft (part.Deeper s change field) terminal is none = absurd (cc)
other_token text spot draft (part.Check condition) terminal is none = absurd (cc)
other_token text spot draft part.Hole terminal is none = absurd (cc)
other_token text spot draft (part.Flag field) terminal is none = absurd (cc)
other_token text spot draft (part.Kind member) terminal is none = absurd (cc)
other_token text spot draft (part.Becomes kind) terminal is none = absurd (cc)
other_token text spot draft part.Directives terminal is none = absurd (cc)

over_or_left : (text : List ℕ) (spot : Spot) (ts : Turns) (draft : Draft) (so : Bool) → all_hold text spot draft ts.conditions ≡ so →
    ReadsChoice text ts.rows spot (taken ts draft) Not → (CanBegin text spot ts.rows → ⊥) → ReadsTurns text ts spot draft (Read draft spot.at)
over_or_left text spot ts draft false holds reads never = left holds
over_or_left text spot ts draft true holds reads never = over holds reads never

-- an option or a repetition of which no row reads
pub turns_over_at_once : {text : List ℕ} {at : ℕ} {draft : Draft} (spot : Spot) (taking : Bool) (more : KeptTurns) →
    IsOver text (map row more.rows.now) (moved spot at) → ReadsTurns text (turns taking more) (moved spot at) draft (Read draft at)
turns_over_at_once {text} {at} {draft} spot taking more none =
    over_or_left text (moved spot at) (turns taking more) draft (all_hold text (moved spot at) draft more.conditions.now) refl
    (none.reads (taken (turns taking more) draft)) none.never

-- a row that gives on what its parts gave
or_none : {A : Type 0} (x : Option A) → option_or x None ≡ x
or_none None = refl
or_none (Some kind) = refl

pub joined_empty : (draft : Draft) → joined empty draft ≡ draft
joined_empty draft = ap (λ kind. record draft { becomes = kind }) (or_none draft.becomes)

parts_only : (q : Reached) (draft : Draft) → outcome_of q draft ≡ finish product.Parts empty (outcome_of q draft)
unfolding finish
parts_only Nothing draft = refl
parts_only TooDeep draft = refl
parts_only (At end) draft = ap (λ d. Read d end) (sym (joined_empty draft))

pub given_on : (makes : Product) (q : Reached) (draft : Draft) → makes ≡ product.Parts → outcome_of q draft ≡ finish makes empty (outcome_of q draft)
given_on makes q draft is = subst (λ m. outcome_of q draft ≡ finish m empty (outcome_of q draft)) (sym is) (parts_only q draft)

-- what a symbol gives, where nothing was read before and no field is given
after_empty : (q : Outcome) → q ≡ after empty None q
unfolding after
after_empty Not = refl
after_empty Deep = refl
after_empty (Read more end) =
    ap (λ draft. Read draft end)
    (sym (joined_empty (record more { children = map (placed None) more.children }) ∙ ap (λ cs. record more { children = cs }) (sym (unplaced more.children))))

pub after_bare : {draft : Draft} {field : Option Field} (q : Outcome) → field ≡ None → draft ≡ empty → q ≡ after draft field q
after_bare {draft} {field} q none bare =
    subst (λ before. q ≡ after before field q) (sym bare) (subst (λ own. q ≡ after empty own q) (sym none) (after_empty q))

-- a head behind which no turn comes
pub behind_quiet : {text : List ℕ} {symbol : Symbol} {spot : Spot} {draft : Draft} {end : ℕ} {q : Reached} → q ≡ At end →
    IsOver text (turn_rows (rule_of symbol)) (moved spot end) → ReadsBehind text symbol spot (outcome_of q draft) (Read draft end)
behind_quiet {text} {symbol} {spot} {draft} {end} {q} comes none = λ head its rule_is head_reads.
    let own : IsOver text its.rows (moved spot end) = subst (λ rows. IsOver text rows (moved spot end)) (ap turn_rows rule_is) none in
    behind rule_is (subst (λ q. Reads text head spot (outcome_of q draft)) comes head_reads)
    (over_or_left text (moved spot end) its draft (all_hold text (moved spot end) draft its.conditions) refl (own.reads (taken its draft)) own.never)
