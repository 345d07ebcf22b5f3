-- What is found out of a symbol without its draft.
use Rattle.std.specs.Prelude.{◌≡◌, ◌≤◌, ◌+◌, ◌-◌, ℕ, List, Bool, true, nat_lt, Option, Some, IfSome}
use Rattle.std.specs.List.{list_all}
use Rattle.std.specs.Option.{option_map}
use Rattle.es_tree.specs.Shapes.{height_of}
use Rattle.es_grammar.specs.declared.context.Spot.{Spot}
use Rattle.es_grammar.specs.declared.draft.Child.{Child}
use Rattle.es_grammar.specs.declared.draft.Draft.{Draft}
use Rattle.es_grammar.specs.declared.draft.Outcome.{Outcome}
use Rattle.es_grammar.specs.declared.draft.Outcome.TheVariants.{Read}
use Rattle.es_grammar.specs.declared.part.Product.{Product}
use Rattle.es_grammar.specs.declared.symbol.Symbol.{Symbol}
use Rattle.es_grammar.specs.Conditions.{is_plain_target, last_shape}
use Rattle.es_grammar.specs.Drafts.{empty}
use Rattle.es_grammar.specs.Parts.{finish, greatest_height}
use Rattle.es_grammar.specs.Reading.{Reads}
use Rattle.es_grammar.specs.declared.part.Part.{Part}
use Rattle.es_grammar.specs.declared.part.Part.TheVariants as part
use Rattle.es_text.specs.declared.token.Token.{Token}
use Rattle.es_parser.specs.declared.reached.Reached.{Reached}
use Rattle.es_parser.specs.declared.reached.Reached.TheVariants.{At}
use Rattle.es_parser.specs.Ends.{EndsFrom}
use Rattle.es_parser.specs.Turns.{outcome_of}

-- the children are lower than the limit
abbrev pub all_lower : ℕ → List Child → Bool
all_lower limit children = list_all (λ child. nat_lt (height_of child.shape) limit) children

-- a draft of which this is known: its children are lower than the limit, and its last node is a plain target
-- or not, where that is told
pub record IsFaint (limit : ℕ) (told : Option Bool) (draft : Draft) : Type 0 where
  pub low : all_lower limit draft.children ≡ true
  pub target : IfSome told (λ so. option_map is_plain_target (last_shape draft.children) ≡ Some so)

-- what is given came so far, with a draft of which no more is known
abbrev pub Sketched : ℕ → Option Bool → (Outcome → Type 0) → Reached → Type 0
Sketched limit told Gives reached = (draft : Draft) × IsFaint limit told draft × Gives (outcome_of reached draft)

-- and it ends behind this offset, at a character of the text
abbrev pub ReachesFrom : List ℕ → ℕ → Reached → Type 0
ReachesFrom text at reached = EndsFrom text at (outcome_of reached empty)

-- the symbol came so far
abbrev pub Comes : List ℕ → Symbol → Spot → Reached → Type 0
Comes text symbol spot reached = (draft : Draft) × Reads text symbol spot (outcome_of reached draft)

-- a limit of heights, and the next lower one
pub record IsBelow (limit inner : ℕ) : Type 0 where
  pub below : inner + 1 ≡ limit
  pub some : 2 ≤ inner
  pub high : limit ≤ greatest_height

-- what is made of children that are lower than the inner limit is lower than the limit, behind what is lower
-- than both
abbrev pub MakesLow : Product → ℕ → ℕ → Type 0
MakesLow makes inner limit = (seed draft : Draft) (end : ℕ) → all_lower (limit - 1) seed.children ≡ true →
    all_lower inner draft.children ≡ true →
    (made : Draft) × (all_lower limit made.children ≡ true) × (finish makes seed (Read draft end) ≡ Read made end)

-- how far a part goes whose token this is
abbrev pub reached_by : Part → ℕ → Token → Reached
reached_by (part.Twin terminal kind field) at found = At at
reached_by other at found = At found.span.end
