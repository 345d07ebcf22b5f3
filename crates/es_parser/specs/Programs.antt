-- The items of a program, as they are read one behind the other.
use Rattle.std.specs.Prelude.{true, ◌≡◌, ◌<◌, ◌≤◌, ℕ, Bool, List, [], ◌∷◌, ◌++◌}
use Rattle.std.specs.Str.{IsCharBoundary}
use Rattle.es_text.specs.declared.token.SourceType.{SourceType}
use Rattle.es_text.specs.Tokens.{first_offset}
use Rattle.es_tree.specs.declared.shape.Shape.{out-Shape}
use Rattle.es_tree.specs.Shapes.{height}
use Rattle.es_grammar.specs.declared.draft.Child.{Child}
use Rattle.es_grammar.specs.declared.draft.Draft.{Draft}
use Rattle.es_grammar.specs.Drafts.{empty, joined}
use Rattle.es_grammar.specs.Forms.{kind_called}
use Rattle.es_grammar.specs.Parts.{greatest_height}
use Rattle.es_grammar.specs.Trees.{ReadsItems, is_low, program_of}
use Rattle.es_grammar.specs.Trees as trees
use Rattle.es_parser.specs.declared.items.Item.{Item}
use Rattle.es_parser.specs.declared.items.Item.TheVariants.{End, Unread, TooDeep, Read}
use Rattle.es_parser.specs.declared.program.Answer.{Answer}
use Rattle.es_parser.specs.declared.program.Answer.TheVariants as answer

-- the program around them counts in the height
abbrev pub are_low : List Child → Bool
are_low items = is_low (record empty { children = items })

-- this is what there is at this byte of a program: each reading of the items from here on is told by it
abbrev pub IsItem : List ℕ → SourceType → ℕ → Item → Type 0
IsItem text source at (End found) = (draft : Draft) →
    ReadsItems text source at draft (trees.Whole (program_of text source draft.children) (draft.tokens ++ found ∷ []))
IsItem text source at Unread = (draft : Draft) → ReadsItems text source at draft (trees.Unread (first_offset text at))
IsItem text source at TooDeep = (draft : Draft) → ReadsItems text source at draft (trees.TooDeep (first_offset text at))
IsItem text source at (Read item end) =
    ((draft : Draft) (answer : trees.Answer) → ReadsItems text source end (joined draft item) answer → ReadsItems text source at draft answer)
    × (at < end) × IsCharBoundary text end × (is_low item ≡ true)

-- the answer as the definition has it
abbrev pub answer_of : Answer → trees.Answer
answer_of (answer.Whole tree tokens) = trees.Whole tree tokens
answer_of (answer.Unread at) = trees.Unread at
answer_of (answer.TooDeep at) = trees.TooDeep at

-- a program that was read can be numbered
abbrev pub IsFinished : Answer → Type 0
IsFinished (answer.Whole tree tokens) = ((out-Shape tree).kind ≡ kind_called "Program") × (height tree ≤ greatest_height)
IsFinished (answer.Unread at) = Unit {0}
IsFinished (answer.TooDeep at) = Unit {0}
