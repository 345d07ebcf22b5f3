-- Sets of terminals as numbers: the bit of a terminal's code is set where the set has it.
use Rattle.std.specs.Prelude.{◌≡◌, ℕ, ◌+◌}
use Rattle.std.specs.Int.{bit_at}
use Rattle.es_grammar.specs.declared.part.Terminal.{Terminal}
use Rattle.es_grammar.specs.declared.part.Terminal.TheVariants as t

-- each terminal has a code of its own
unfoldable pub code_of : Terminal → ℕ
code_of t.Word = 0
code_of t.Name = 1
code_of t.Private = 2
code_of t.Number = 3
code_of t.Text = 4
code_of t.RegExp = 5
code_of t.Full = 6
code_of t.Head = 7
code_of t.Middle = 8
code_of t.Tail = 9
code_of t.AccessorWord = 10
code_of t.DeclarationWord = 11
code_of t.AssignmentOperator = 12
code_of t.EqualityOperator = 13
code_of t.RelationalOperator = 14
code_of t.ShiftOperator = 15
code_of t.AdditiveOperator = 16
code_of t.MultiplicativeOperator = 17
code_of t.UnaryOperator = 18
code_of t.UpdateOperator = 19
code_of (t.Spelled code) = 20 + code

-- no two terminals have the same code
abbrev pub OneCode : Type 0
OneCode = (terminal other : Terminal) → code_of terminal ≡ code_of other → terminal ≡ other

abbrev pub HasTerminal : ℕ → Terminal → Type 0
HasTerminal set terminal = bit_at set (code_of terminal) ≡ 1
