-- Sketches: what is known of a draft that isn't kept.
use Rattle.std.proofs.Common.{◌≡◌, ◌∙◌, Bor, ap, sym, refl, subst, ℕ, ◌<◌, ◌≤◌, ◌+◌, ◌-◌, Bool, true, false, List, [], ◌∷◌, ◌++◌, length, map, drop, get_or, Option, Some, None, IsTrue, arith}
use Rattle.std.specs.Prelude.{◌&&◌, nat_lt, nat_le, IfSome, option_map, if◌then◌else◌}
use Rattle.std.specs.List.{list_all}
use Rattle.std.specs.Option.{option_map_or}
use Rattle.std.specs.Str.{IsCharBoundary, chars}
use Rattle.std.proofs.lemmas.Bool.{ltb-true, lt-ltb, le-leb}
use Rattle.es_text.specs.declared.token.Token.{Token}
use Rattle.es_tree.specs.declared.shape.Shape.{Shape}
use Rattle.es_tree.specs.Heights.{IsAsHigh, IsOneHigh, StaysWithin}
use Rattle.es_tree.specs.Shapes.{height, height_of}
use Rattle.es_grammar.specs.declared.context.Change.{Change}
use Rattle.es_grammar.specs.declared.context.Context.{Context}
use Rattle.es_grammar.specs.declared.context.Spot.{Spot}
use Rattle.es_grammar.specs.declared.draft.Child.{Child}
use Rattle.es_grammar.specs.declared.draft.Draft.{Draft}
use Rattle.es_grammar.specs.declared.draft.Outcome.{Outcome}
use Rattle.es_grammar.specs.declared.draft.Outcome.TheVariants.{Not, Deep, Read}
use Rattle.es_grammar.specs.declared.part.Alternative.{Alternative}
use Rattle.es_grammar.specs.declared.part.Field.{Field}
use Rattle.es_grammar.specs.declared.part.Part.{Part}
use Rattle.es_grammar.specs.declared.part.Part.TheVariants as part
use Rattle.es_grammar.specs.declared.part.Product.{Product}
use Rattle.es_grammar.specs.declared.part.Product.TheVariants as product
use Rattle.es_grammar.specs.declared.part.Rule.{Rule}
use Rattle.es_grammar.specs.declared.part.Rule.TheVariants as rule
use Rattle.es_grammar.specs.declared.part.TheConstants.{GREATEST_HEIGHT}
use Rattle.es_grammar.specs.declared.part.Turns.{Turns as KeptTurns}
use Rattle.es_grammar.specs.declared.symbol.Symbol.{Symbol}
use Rattle.es_grammar.specs.declared.context.Change.TheVariants.{Same}
use Rattle.es_grammar.specs.declared.part.Condition.{Condition}
use Rattle.es_grammar.specs.declared.part.Condition.TheVariants as condition
use Rattle.es_grammar.specs.declared.part.Field.TheVariants as f
use Rattle.es_grammar.specs.declared.part.MemberKind.{MemberKind}
use Rattle.es_grammar.specs.declared.part.Terminal.{Terminal}
use Rattle.es_grammar.specs.declared.part.Terminal.TheVariants as terminal
use Rattle.es_grammar.specs.declared.symbol.Symbol.TheVariants as s
use Rattle.es_grammar.specs.Conditions.{holds, is_plain_target, last_shape}
use Rattle.es_grammar.specs.Expressions.{expression_rule}
use Rattle.es_grammar.specs.Terminals.{terminal_at, text_of}
use Rattle.es_grammar.specs.Contexts.{changed, moved}
use Rattle.es_grammar.specs.Drafts.{empty, flag, joined, kind_setting, leaf_of, leaf_settings, shape_of, span_of, words}
use Rattle.es_grammar.specs.Firsts.{CanBegin}
use Rattle.es_grammar.specs.Forms.{Row, Choice, More, Commas, Behind}
use Rattle.es_grammar.specs.Grammar.{rule_of}
use Rattle.es_grammar.specs.Parts.{after, finish, if_so, if_token, is_last_turn, is_not, is_read, leaf_child, made, placed, plainly, with_child, with_setting, with_token}
use Rattle.es_grammar.specs.Reading.{Reads, ReadsChoice, ReadsCommas, ReadsPart, ReadsParts, ReadsTurns, by_choice, by_commas, behind, headless, go_on, next_row, no_row, plain, stop, over, stuck, deep_turn, last_turn, done}
use Rattle.es_grammar.specs.Rules.{row, seen, turns}
use Rattle.es_parser.specs.declared.reached.Reached.{Reached}
use Rattle.es_parser.specs.declared.reached.Reached.TheVariants.{Nothing, TooDeep, At}
use Rattle.es_parser.specs.declared.sketches.Sketch.{Sketch}
use Rattle.es_parser.specs.Ends.{EndsFrom, is_of_draft, terminal_of}
use Rattle.es_parser.specs.Sketches.{Comes, IsBelow, IsFaint, MakesLow, ReachesFrom, Sketched, all_lower, reached_by}
use Rattle.es_parser.specs.Turns.{IsOver, outcome_of}
use Rattle.es_parser.proofs.HeightLemmas.{lower_joined, stays_within}
use Rattle.es_parser.proofs.ReadingLemmas.{deeper_read, other_token, stops_unless_at, symbol_read, turns_over_at_once}

and_true : (a b : Bool) → a && b ≡ true → (a ≡ true) × (b ≡ true)
and_true true b h = (refl, h)
and_true false b h = cc

both_true : (a b : Bool) → a ≡ true → b ≡ true → a && b ≡ true
both_true a b h k = rw h k

-- what is lower than a limit is lower than a greater one
pub lower_still : (some limit : ℕ) → some ≤ limit → (children : List Child) → all_lower some children ≡ true → all_lower limit children ≡ true
lower_still some limit order [] h = refl
lower_still some limit order (child ∷ rest) h =
    let parts = and_true (nat_lt (height_of child.shape) some) (all_lower some rest) h in
    let low = ltb-true (height_of child.shape) some parts.0 in
    both_true (nat_lt (height_of child.shape) limit) (all_lower limit rest) (lt-ltb (height_of child.shape) limit (omega (arith, low, order)))
    (lower_still some limit order rest parts.1)

placed_lower : (limit : ℕ) (field : Option Field) (children : List Child) → all_lower limit children ≡ true → all_lower limit (map (placed field) children) ≡ true
placed_lower limit field [] h = refl
placed_lower limit field (child ∷ rest) h =
    let parts = and_true (nat_lt (height_of child.shape) limit) (all_lower limit rest) h in
    both_true (nat_lt (height_of child.shape) limit) (all_lower limit (map (placed field) rest)) parts.0 (placed_lower limit field rest parts.1)

-- the last node stays the last one
last_placed : (field : Option Field) (children : List Child) → last_shape (map (placed field) children) ≡ last_shape children
last_placed field [] = refl
last_placed field (only ∷ []) = refl
last_placed field (first ∷ next ∷ rest) = last_placed field (next ∷ rest)

some_kept : (o : Option Shape) (so : Bool) → option_map is_plain_target o ≡ Some so → o ≡ None → ⊥
some_kept None so h e = cc
some_kept (Some shape) so h e = cc

last_behind : (first : Child) (rest : List Child) (o : Option Shape) → last_shape rest ≡ o → (o ≡ None → ⊥) → last_shape (first ∷ rest) ≡ o
last_behind first [] o h some = absurd (some (sym h))
last_behind first (next ∷ rest) o h some = h

last_joined : (before more : List Child) (o : Option Shape) → last_shape more ≡ o → (o ≡ None → ⊥) → last_shape (before ++ more) ≡ o
last_joined [] more o h some = h
last_joined (first ∷ rest) more o h some = last_behind first (rest ++ more) o (last_joined rest more o h some) some

last_after : (field : Option Field) (before more : List Child) (so : Bool) → option_map is_plain_target (last_shape more) ≡ Some so →
    option_map is_plain_target (last_shape (before ++ map (placed field) more)) ≡ Some so
last_after field before more so h =
    ap (option_map is_plain_target) (last_joined before (map (placed field) more) (last_shape more) (last_placed field more) (some_kept (last_shape more) so h)) ∙ h

target_after : (told : Option Bool) (field : Option Field) (before more : List Child) →
    IfSome told (λ so. option_map is_plain_target (last_shape more) ≡ Some so) →
    IfSome told (λ so. option_map is_plain_target (last_shape (before ++ map (placed field) more)) ≡ Some so)
target_after None field before more h = tt
target_after (Some so) field before more h = last_after field before more so h

-- what stands behind what was read before
abbrev pub put : Option Field → Draft → Draft → Draft
put field before more = joined before (record more { children = map (placed field) more.children })

pub after_put : (field : Option Field) (before more : Draft) (r : Reached) → outcome_of r (put field before more) ≡ after before field (outcome_of r more)
unfolding after
after_put field before more Nothing = refl
after_put field before more TooDeep = refl
after_put field before more (At end) = refl

pub faint_put : (limit : ℕ) (told own : Option Bool) (field : Option Field) (before more : Draft) → IsFaint limit told before → IsFaint limit own more →
    IsFaint limit own (put field before more)
faint_put limit told own field before more one other = record {
  low = lower_joined limit before.children (map (placed field) more.children) one.low (placed_lower limit field more.children other.low);
  target = target_after own field before.children more.children other.target;
}

pub faint_empty : (limit : ℕ) → IsFaint limit None empty
faint_empty limit = record { low = refl; target = tt }

pub faint_low : (limit : ℕ) (draft : Draft) → all_lower limit draft.children ≡ true → IsFaint limit None draft
faint_low limit draft h = record { low = h; target = tt }

-- a symbol as a part
pub inner_sketched : {text : List ℕ} {p : Part} {s : Symbol} {change : Change} {field : Option Field} {context : Context} {limit : ℕ} {own : Option Bool} (r : Reached) (spot : Spot) →
    p ≡ part.Symbol s change field → context ≡ changed change spot.context → Sketched limit own (Reads text s (record spot { context = context })) r →
    (told : Option Bool) (before : Draft) → IsFaint limit told before → Sketched limit own (ReadsPart text p spot before) r
inner_sketched {text} {p} {s} {change} {field} {context} {limit} {own} r spot is inside sketch told before faint = (
  put field before sketch.0,
  faint_put limit told own field before sketch.0 faint sketch.1,
  symbol_read spot is inside sketch.2 (after_put field before sketch.0 r),
)

pub deeper_sketched : {text : List ℕ} {p : Part} {s : Symbol} {change : Change} {field : Option Field} {context : Context} {limit room : ℕ} {own : Option Bool} (r : Reached) (spot : Spot) →
    p ≡ part.Deeper s change field → context ≡ changed change spot.context → spot.room ≡ room + 1 →
    Sketched limit own (Reads text s (record { at = spot.at; context = context; room = room })) r →
    (told : Option Bool) (before : Draft) → IsFaint limit told before → Sketched limit own (ReadsPart text p spot before) r
deeper_sketched {text} {p} {s} {change} {field} {context} {limit} {room} {own} r spot is inside has_room sketch told before faint = (
  put field before sketch.0,
  faint_put limit told own field before sketch.0 faint sketch.1,
  deeper_read spot is inside has_room sketch.2 (after_put field before sketch.0 r),
)

-- what a sketch tells, of something else and of another text
pub sketched_as : {limit : ℕ} {told : Option Bool} (r : Reached) (P Q : Outcome → Type 0) → ((o : Outcome) → P o → Q o) → Sketched limit told P r → Sketched limit told Q r
sketched_as {limit} {told} r P Q f sketch = (sketch.0, sketch.1, f _ sketch.2)

-- the end of what is told doesn't ask the draft
pub reaches : (text : List ℕ) (at : ℕ) (r : Reached) (draft : Draft) → EndsFrom text at (outcome_of r draft) → ReachesFrom text at r
reaches text at Nothing draft h = tt
reaches text at TooDeep draft h = tt
reaches text at (At end) draft h = h

pub ends_so : (text : List ℕ) (at : ℕ) (r : Reached) (draft : Draft) → ReachesFrom text at r → EndsFrom text at (outcome_of r draft)
ends_so text at Nothing draft h = tt
ends_so text at TooDeep draft h = tt
ends_so text at (At end) draft h = h

pub stopped_so : (r : Reached) (P : Outcome → Type 0) (one other : Draft) → ((end : ℕ) → r ≡ At end → ⊥) → P (outcome_of r one) → P (outcome_of r other)
stopped_so Nothing P one other h p = p
stopped_so TooDeep P one other h p = p
stopped_so (At end) P one other h p = absurd (h end refl)

-- what rows make
made_low : IsOneHigh → IsAsHigh → StaysWithin → (kind inner limit : ℕ) (draft : Draft) (becomes : Option ℕ) (end : ℕ) → inner + 1 ≡ limit → 2 ≤ inner → limit ≤ GREATEST_HEIGHT →
    all_lower inner draft.children ≡ true →
    (further : Draft) × (all_lower limit further.children ≡ true) × (made kind draft becomes end ≡ Read further end)
unfolding made shape_of
made_low one same law kind inner limit draft becomes end next some high low =
    let shape = shape_of kind (span_of draft.tokens) draft.children draft.settings in
    let stays : height shape ≤ inner = stays_within one same law kind inner (span_of draft.tokens) draft.children draft.settings (omega (arith, some)) low in
    let further : Draft = record { children = record { field = None; shape = Some shape } ∷ []; settings = []; tokens = draft.tokens; becomes = becomes } in (
      further,
      both_true (nat_lt (height shape) limit) true (lt-ltb (height shape) limit (omega (arith, stays, next))) refl,
      ap (λ (so : Bool). if so then Read further end else Deep) (le-leb (height shape) GREATEST_HEIGHT (omega (arith, stays, next, high))),
    )

pub parts_make : (limit : ℕ) → MakesLow product.Parts limit limit
unfolding finish
parts_make limit = λ seed draft end low_seed low.
    (joined seed draft, lower_joined limit seed.children draft.children (lower_still (limit - 1) limit (omega arith) seed.children low_seed) low, refl)

pub node_makes : IsOneHigh → IsAsHigh → StaysWithin → (kind inner limit : ℕ) → inner + 1 ≡ limit → 2 ≤ inner → limit ≤ GREATEST_HEIGHT → MakesLow (product.Node kind) inner limit
unfolding finish
node_makes one same law kind inner limit next some high = λ seed draft end low_seed low.
    let is : limit - 1 ≡ inner = omega (arith, next) in
    made_low one same law kind inner limit (joined seed draft) (joined seed draft).becomes end next some high
    (lower_joined inner seed.children draft.children (subst (λ n. all_lower n seed.children ≡ true) is low_seed) low)

-- a part that has a token
leaf_low : IsOneHigh → IsAsHigh → StaysWithin → (text : List ℕ) (limit kind : ℕ) (found : Token) → 2 ≤ limit → height (leaf_of text kind found) < limit
unfolding shape_of
leaf_low one same law text limit kind found some =
    let stays : height (leaf_of text kind found) ≤ 1 = stays_within one same law kind 1 found.span [] (leaf_settings kind found.kind (chars (text_of text found))) (omega arith) refl in
    omega (arith, stays, some)

with_leaf : IsOneHigh → IsAsHigh → StaysWithin → (text : List ℕ) (limit kind : ℕ) (field : Option Field) (found : Token) (children : List Child) → 2 ≤ limit →
    all_lower limit children ≡ true → all_lower limit (children ++ leaf_child text kind field found ∷ []) ≡ true
with_leaf one same law text limit kind field found children some low =
    lower_joined limit children (leaf_child text kind field found ∷ []) low
    (both_true (nat_lt (height (leaf_of text kind found)) limit) true (lt-ltb (height (leaf_of text kind found)) limit (leaf_low one same law text limit kind found some)) refl)

pub with_none : (limit : ℕ) (children : List Child) → all_lower limit children ≡ true → all_lower limit (children ++ []) ≡ true
with_none limit children low = lower_joined limit children [] low refl

pub token_sketched : IsOneHigh → IsAsHigh → StaysWithin → (text : List ℕ) (spot : Spot) (p : Part) (terminal : Terminal) (found : Token) (limit : ℕ) (told : Option Bool) → 2 ≤ limit →
    Some terminal ≡ terminal_of p → terminal_at text spot.context terminal spot.at ≡ Some found → (before : Draft) → IsFaint limit told before →
    Sketched limit None (ReadsPart text p spot before) (reached_by p spot.at found)
unfolding plainly
token_sketched one same law text spot (part.Token own) terminal found limit told some is read before faint =
    let own_is : terminal ≡ own = (cc) in (
      with_token before found,
      faint_low limit _ (with_none limit before.children faint.low),
      plain (ap (λ o. Some (if_token (λ found. Read (with_token before found) found.span.end) o)) (subst (λ t. terminal_at text spot.context t spot.at ≡ Some found) own_is read)),
    )
token_sketched one same law text spot (part.Words own field) terminal found limit told some is read before faint =
    let own_is : terminal ≡ own = (cc) in (
      with_setting (with_token before found) (words field (chars (text_of text found))),
      faint_low limit _ (with_none limit (before.children ++ []) (with_none limit before.children faint.low)),
      plain (ap (λ o. Some (if_token (λ found. Read (with_setting (with_token before found) (words field (chars (text_of text found)))) found.span.end) o))
          (subst (λ t. terminal_at text spot.context t spot.at ≡ Some found) own_is read)),
    )
token_sketched one same law text spot (part.Leaf own kind field) terminal found limit told some is read before faint =
    let own_is : terminal ≡ own = (cc) in (
      with_child (with_token before found) (leaf_child text kind field found),
      faint_low limit _ (with_leaf one same law text limit kind field found (before.children ++ []) some (with_none limit before.children faint.low)),
      plain (ap (λ o. Some (if_token (λ found. Read (with_child (with_token before found) (leaf_child text kind field found)) found.span.end) o))
          (subst (λ t. terminal_at text spot.context t spot.at ≡ Some found) own_is read)),
    )
token_sketched one same law text spot (part.Twin own kind field) terminal found limit told some is read before faint =
    let own_is : terminal ≡ own = (cc) in (
      with_child before (leaf_child text kind field found),
      faint_low limit _ (with_leaf one same law text limit kind field found before.children some faint.low),
      plain (ap (λ o. Some (if_token (λ found. Read (with_child before (leaf_child text kind field found)) spot.at) o))
          (subst (λ t. terminal_at text spot.context t spot.at ≡ Some found) own_is read)),
    )
token_sketched one same law text spot (part.Symbol s change field) terminal found limit told some is read before faint = absurd (cc)
token_sketched one same law text spot (part.Deeper s change field) terminal found limit told some is read before faint = absurd (cc)
token_sketched one same law text spot (part.Check condition) terminal found limit told some is read before faint = absurd (cc)
token_sketched one same law text spot part.Hole terminal found limit told some is read before faint = absurd (cc)
token_sketched one same law text spot (part.Flag field) terminal found limit told some is read before faint = absurd (cc)
token_sketched one same law text spot (part.Kind member) terminal found limit told some is read before faint = absurd (cc)
token_sketched one same law text spot (part.Becomes kind) terminal found limit told some is read before faint = absurd (cc)
token_sketched one same law text spot part.Directives terminal found limit told some is read before faint = absurd (cc)

pub no_token : (text : List ℕ) (spot : Spot) (p : Part) (terminal : Terminal) (limit : ℕ) → Some terminal ≡ terminal_of p →
    terminal_at text spot.context terminal spot.at ≡ None → (before : Draft) → Sketched limit None (ReadsPart text p spot before) Nothing
no_token text spot p terminal limit is none before = (empty, faint_empty limit, other_token text spot before p terminal is none)

pub reached_ends : (text : List ℕ) (at : ℕ) (p : Part) (found : Token) → IsCharBoundary text at → (at ≤ found.span.end) × IsCharBoundary text found.span.end →
    ReachesFrom text at (reached_by p at found)
reached_ends text at (part.Token own) found here ends = ends
reached_ends text at (part.Words own field) found here ends = ends
reached_ends text at (part.Leaf own kind field) found here ends = ends
reached_ends text at (part.Twin own kind field) found here ends = (omega arith, here)
reached_ends text at (part.Symbol s change field) found here ends = ends
reached_ends text at (part.Deeper s change field) found here ends = ends
reached_ends text at (part.Check condition) found here ends = ends
reached_ends text at part.Hole found here ends = ends
reached_ends text at (part.Flag field) found here ends = ends
reached_ends text at (part.Kind member) found here ends = ends
reached_ends text at (part.Becomes kind) found here ends = ends
reached_ends text at part.Directives found here ends = ends

-- parts that note something, and conditions
pub hole_sketched : (text : List ℕ) (spot : Spot) (limit : ℕ) (told : Option Bool) (p : Part) → p ≡ part.Hole → 2 ≤ limit → (before : Draft) → IsFaint limit told before →
    Sketched limit None (ReadsPart text p spot before) (At spot.at)
unfolding plainly
hole_sketched text spot limit told p is some before faint = (
  with_child before (record { field = None; shape = None }),
  faint_low limit _ (lower_joined limit before.children (record { field = None; shape = None } ∷ []) faint.low
      (both_true (nat_lt 0 limit) true (lt-ltb 0 limit (omega (arith, some))) refl)),
  subst (λ p. ReadsPart text p spot before (Read (with_child before (record { field = None; shape = None })) spot.at)) (sym is) (plain refl),
)

pub flag_sketched : (text : List ℕ) (spot : Spot) (limit : ℕ) (told : Option Bool) (field : Field) (p : Part) → p ≡ part.Flag field → (before : Draft) → IsFaint limit told before →
    Sketched limit None (ReadsPart text p spot before) (At spot.at)
unfolding plainly
flag_sketched text spot limit told field p is before faint = (
  with_setting before (flag field true),
  faint_low limit _ (with_none limit before.children faint.low),
  subst (λ p. ReadsPart text p spot before (Read (with_setting before (flag field true)) spot.at)) (sym is) (plain refl),
)

pub kind_sketched : (text : List ℕ) (spot : Spot) (limit : ℕ) (told : Option Bool) (member : MemberKind) (p : Part) → p ≡ part.Kind member → (before : Draft) → IsFaint limit told before →
    Sketched limit None (ReadsPart text p spot before) (At spot.at)
unfolding plainly
kind_sketched text spot limit told member p is before faint = (
  with_setting before (kind_setting member),
  faint_low limit _ (with_none limit before.children faint.low),
  subst (λ p. ReadsPart text p spot before (Read (with_setting before (kind_setting member)) spot.at)) (sym is) (plain refl),
)

checked : (text : List ℕ) (spot : Spot) (before : Draft) (condition : Condition) (so : Bool) → holds text spot before condition ≡ so →
    ReadsPart text (part.Check condition) spot before (if_so so before spot.at)
unfolding plainly
checked text spot before condition so h = plain (ap (λ so. Some (if_so so before spot.at)) h)

pub check_held : (text : List ℕ) (spot : Spot) (limit : ℕ) (told : Option Bool) (condition : Condition) (p : Part) → p ≡ part.Check condition → (before : Draft) → IsFaint limit told before →
    holds text spot before condition ≡ true → Sketched limit None (ReadsPart text p spot before) (At spot.at)
check_held text spot limit told condition p is before faint so =
    (before, faint_low limit before faint.low, subst (λ p. ReadsPart text p spot before (Read before spot.at)) (sym is) (checked text spot before condition true so))

pub check_failed : (text : List ℕ) (spot : Spot) (limit : ℕ) (condition : Condition) (p : Part) → p ≡ part.Check condition → (before : Draft) →
    holds text spot before condition ≡ false → Sketched limit None (ReadsPart text p spot before) Nothing
check_failed text spot limit condition p is before so =
    (empty, faint_empty limit, subst (λ p. ReadsPart text p spot before Not) (sym is) (checked text spot before condition false so))

target_so : (o : Option Shape) (so : Bool) → option_map is_plain_target o ≡ Some so → option_map_or is_plain_target o false ≡ so
target_so None so h = cc
target_so (Some shape) so h = cc

pub target_told : (text : List ℕ) (spot : Spot) (limit : ℕ) (so : Bool) (before : Draft) → IsFaint limit (Some so) before → holds text spot before condition.PlainTarget ≡ so
unfolding holds
target_told text spot limit so before faint = target_so (last_shape before.children) so faint.target

pub other_condition : (text : List ℕ) (spot : Spot) (c : Condition) (one other : Draft) → is_of_draft c ≡ false → holds text spot one c ≡ holds text spot other c
unfolding holds
other_condition text spot condition.SameLine one other h = refl
other_condition text spot condition.BracketNext one other h = refl
other_condition text spot condition.NoBracketNext one other h = refl
other_condition text spot condition.NoBraceNext one other h = refl
other_condition text spot condition.CommaNext one other h = refl
other_condition text spot condition.NoCommaNext one other h = refl
other_condition text spot condition.InNext one other h = refl
other_condition text spot condition.MemberNext one other h = refl
other_condition text spot condition.MemberOrCallNext one other h = refl
other_condition text spot condition.NoImportExpressionNext one other h = refl
other_condition text spot condition.ExpressionNext one other h = refl
other_condition text spot condition.SemicolonLeftOut one other h = refl
other_condition text spot condition.AwaitIsOperator one other h = refl
other_condition text spot condition.YieldIsOperator one other h = refl
other_condition text spot condition.InIsOperator one other h = refl
other_condition text spot condition.PlainTarget one other h = absurd (cc)
other_condition text spot condition.PatternHasValue one other h = absurd (cc)
other_condition text spot condition.NoLogicalOperator one other h = absurd (cc)
other_condition text spot condition.NoUnaryOperator one other h = absurd (cc)
other_condition text spot condition.ConstructorKey one other h = absurd (cc)

-- a pattern without `=` behind it begins no assignment
no_equals : {text : List ℕ} {spot : Spot} {draft : Draft} {end : ℕ} (so : Bool) → holds text spot empty condition.BracketNext ≡ so →
    Reads text s.AssignmentPattern spot (Read draft end) → terminal_at text spot.context (terminal.Spelled 40) end ≡ None →
    ReadsParts text (part.Check condition.BracketNext ∷ part.Symbol s.AssignmentPattern Same (Some f.Left) ∷ part.Words (terminal.Spelled 40) f.Operator
    ∷ part.Deeper s.AssignmentExpression Same (Some f.Right) ∷ []) spot empty Not
no_equals {text} {spot} {draft} {end} false h reads none = stop (checked text spot empty condition.BracketNext false h) refl
no_equals {text} {spot} {draft} {end} true h reads none =
    go_on (checked text spot empty condition.BracketNext true h)
    (go_on (symbol_read {p = part.Symbol s.AssignmentPattern Same (Some f.Left)} {context = spot.context} {q = Read draft end} spot refl refl reads (after_put (Some f.Left) empty draft (At end)))
    (stop (other_token text (moved spot end) (put (Some f.Left) empty draft) (part.Words (terminal.Spelled 40) f.Operator) (terminal.Spelled 40) refl none) refl))

pub no_assignment : {text : List ℕ} {spot : Spot} {symbol : Symbol} {end : ℕ} → symbol ≡ s.AssignmentPattern → terminal_at text spot.context (terminal.Spelled 40) end ≡ None →
    Comes text symbol spot (At end) → Reads text s.DestructuringAssignment spot Not
unfolding rule_of expression_rule
no_assignment {text} {spot} {symbol} {end} is none comes =
    by_choice refl (next_row (no_equals (holds text spot empty condition.BracketNext) refl (subst (λ s. Reads text s spot (Read comes.0 end)) is comes.1) none) no_row)

-- a sketch that came to nothing, or that stopped
pub nothing_of : {limit : ℕ} {told : Option Bool} (r : Reached) (P : Outcome → Type 0) → Sketched limit told P r → r ≡ Nothing → P Not
nothing_of {limit} {told} r P sketch none = subst (λ r. P (outcome_of r sketch.0)) none sketch.2

pub stop_ends : (text : List ℕ) (at : ℕ) (r : Reached) → ((end : ℕ) → r ≡ At end → ⊥) → ReachesFrom text at r
stop_ends text at Nothing h = tt
stop_ends text at TooDeep h = tt
stop_ends text at (At end) h = absurd (h end refl)

-- a sketch that tells nothing of the last node
pub told_nothing : {limit : ℕ} (s : Sketch) (r : Reached) (P : Outcome → Type 0) → s.reached ≡ r → s.target ≡ None → Sketched limit None P r → Sketched limit s.target P s.reached
told_nothing {limit} s r P same none sketch = subst (λ told. Sketched limit told P s.reached) (sym none) (subst (λ r. Sketched limit None P r) (sym same) sketch)

-- what a row makes of what was sketched
pub row_sketched : (makes : Product) (inner limit : ℕ) → MakesLow makes inner limit → (r : Reached) (draft seed : Draft) → all_lower (limit - 1) seed.children ≡ true →
    all_lower inner draft.children ≡ true → (further : Draft) × IsFaint limit None further × (finish makes seed (outcome_of r draft) ≡ outcome_of r further)
unfolding finish
row_sketched makes inner limit low Nothing draft seed hs hd = (empty, faint_empty limit, refl)
row_sketched makes inner limit low TooDeep draft seed hs hd = (empty, faint_empty limit, refl)
row_sketched makes inner limit low (At end) draft seed hs hd =
    let known = low seed draft end hs hd in
    (known.0, faint_low limit known.0 known.1, known.2)

-- options
none_of : (test : Condition → Bool) (conditions : List Condition) → length conditions ≤ 0 → list_all test conditions ≡ true
none_of test [] h = refl
none_of test (first ∷ rest) h = absurd (omega (arith, h))

pub option_over : {text : List ℕ} (spot : Spot) (more : KeptTurns) (limit : ℕ) → IsOver text (map row more.rows.now) spot → (before : Draft) →
    all_lower (limit - 1) before.children ≡ true → Sketched limit None (ReadsTurns text (turns true more) spot before) (At spot.at)
option_over {text} spot more limit none before low =
    (before, faint_low limit before (lower_still (limit - 1) limit (omega arith) before.children low), turns_over_at_once {at = spot.at} spot true more none)

pub option_ends : {text : List ℕ} (spot : Spot) (more : KeptTurns) (limit : ℕ) → length more.conditions.now ≤ 0 → (before : Draft) →
    all_lower (limit - 1) before.children ≡ true → ReadsChoice text (map row more.rows.now) spot before Not → (CanBegin text spot (map row more.rows.now) → ⊥) →
    Sketched limit None (ReadsTurns text (turns true more) spot before) (At spot.at)
option_ends {text} spot more limit bare before low none never =
    (before, faint_low limit before (lower_still (limit - 1) limit (omega arith) before.children low), over (none_of _ more.conditions.now bare) none never)

pub option_stuck : {text : List ℕ} (spot : Spot) (more : KeptTurns) (limit : ℕ) → length more.conditions.now ≤ 0 → (before : Draft) →
    ReadsChoice text (map row more.rows.now) spot before Not → CanBegin text spot (map row more.rows.now) →
    Sketched limit None (ReadsTurns text (turns true more) spot before) Nothing
option_stuck {text} spot more limit bare before none can = (empty, faint_empty limit, stuck (none_of _ more.conditions.now bare) none can)

pub option_reads : {text : List ℕ} (spot : Spot) (more : KeptTurns) (limit : ℕ) (r : Reached) → length more.conditions.now ≤ 0 → more.many ≡ false → (r ≡ Nothing → ⊥) → (before : Draft) →
    Sketched limit None (ReadsChoice text (map row more.rows.now) spot before) r → Sketched limit None (ReadsTurns text (turns true more) spot before) r
option_reads {text} spot more limit Nothing bare once some before sketch = absurd (some refl)
option_reads {text} spot more limit TooDeep bare once some before sketch = (empty, faint_empty limit, deep_turn (none_of _ more.conditions.now bare) sketch.2)
option_reads {text} spot more limit (At end) bare once some before sketch =
    (sketch.0, sketch.1, last_turn (none_of _ more.conditions.now bare) sketch.2 (ap (λ many. is_last_turn many spot.at end) once))

-- a symbol by its rule
pub choice_sketched : {text : List ℕ} {symbol : Symbol} {spot : Spot} {r : Rule} {limit : ℕ} (q : Reached) (rows : Bor (List Alternative)) → r ≡ rule.Choice rows → seen r ≡ rule_of symbol →
    Sketched limit None (ReadsChoice text (map row rows.now) spot empty) q → Sketched limit None (Reads text symbol spot) q
choice_sketched {text} {symbol} {spot} {r} {limit} q rows is has sketch = (sketch.0, sketch.1, by_choice (sym has ∙ ap seen is) sketch.2)

pub list_sketched : {text : List ℕ} {symbol : Symbol} {spot : Spot} {r : Rule} {limit : ℕ} (q : Reached) (rows : Bor (List Alternative)) → r ≡ rule.Commas rows → seen r ≡ rule_of symbol →
    Sketched limit None (ReadsCommas text (map row rows.now) spot empty) q → Sketched limit None (Reads text symbol spot) q
list_sketched {text} {symbol} {spot} {r} {limit} q rows is has sketch = (sketch.0, sketch.1, by_commas (sym has ∙ ap seen is) sketch.2)

pub behind_sketched : {middle text : List ℕ} {symbol head : Symbol} {spot : Spot} {r : Rule} {limit inner : ℕ} {end : ℕ} (first q : Reached) (more : KeptTurns) → middle ≡ text → r ≡ rule.Behind head more → seen r ≡ rule_of symbol →
    IsBelow limit inner → first ≡ At end → Sketched inner None (Reads text head spot) first →
    ((before : Draft) → all_lower (limit - 1) before.children ≡ true → Sketched limit None (ReadsTurns middle (turns true more) (moved spot end) before) q) →
    Sketched limit None (Reads text symbol spot) q
behind_sketched {middle} {text} {symbol} {head} {spot} {r} {limit} {inner} {end} first q more same is has below comes sketch further =
    let lower_is : inner ≡ limit - 1 = omega (arith, below.below) in
    let option = further sketch.0 (subst (λ n. all_lower n sketch.0.children ≡ true) lower_is sketch.1.low) in
    (option.0, option.1, behind (sym has ∙ ap seen is) (subst (λ q. Reads text head spot (outcome_of q sketch.0)) comes sketch.2) (subst (λ t. ReadsTurns t (turns true more) (moved spot end) sketch.0 (outcome_of q option.0)) same option.2))

pub head_stops : {text : List ℕ} {symbol head : Symbol} {spot : Spot} {r : Rule} {limit inner : ℕ} (q : Reached) (more : KeptTurns) → r ≡ rule.Behind head more → seen r ≡ rule_of symbol →
    ((end : ℕ) → q ≡ At end → ⊥) → Sketched inner None (Reads text head spot) q → Sketched limit None (Reads text symbol spot) q
head_stops {text} {symbol} {head} {spot} {r} {limit} {inner} q more is has stops sketch =
    (empty, faint_empty limit, stopped_so q (Reads text symbol spot) sketch.0 empty stops (headless (sym has ∙ ap seen is) sketch.2 (stops_unless_at q sketch.0 stops)))
