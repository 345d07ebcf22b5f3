-- No turn comes behind a symbol's head, where none of the tokens is next with which one begins.
use Rattle.std.proofs.Common.{◌≡◌, ℕ, List, [], ◌∷◌, Bool, true, false, Option, Some, None, refl, ◌∙◌, ap, subst, eqb-true, eq-eqb, ◌⊎◌, inl, inr}
use Rattle.std.specs.Prelude.{IsSome, not, ◌==◌, ◌&&◌}
use Rattle.std.specs.Int.{bit_at}
use Rattle.std.specs.Int.RustNames.{bit_and, bit_or}
use Rattle.std.specs.List.{list_all}
use Rattle.std.specs.Option.{option_map_or, unwrap_or}
use Rattle.es_text.specs.declared.token.Token.{Token}
use Rattle.es_grammar.specs.declared.context.Spot.{Spot}
use Rattle.es_grammar.specs.declared.part.Part.{Part}
use Rattle.es_grammar.specs.declared.part.Part.TheVariants as part
use Rattle.es_grammar.specs.declared.part.Terminal.{Terminal}
use Rattle.es_grammar.specs.declared.part.Terminal.TheVariants as t
use Rattle.es_grammar.specs.declared.symbol.Symbol.{Symbol}
use Rattle.es_grammar.specs.declared.symbol.Symbol.TheVariants as s
use Rattle.es_grammar.specs.Expressions.{expression_rule}
use Rattle.es_grammar.specs.Firsts.{Begins, BeginsOne, BeginsPart, BeginsParts, CanBegin, Empty, EmptyOne, EmptyPart, EmptyParts, at_once, begins_by, behind_empty, deeper_begins, empty_by, empty_deeper, empty_parts, empty_symbol, later_begins, later_empty, leaf_begins, next_begins, no_parts, reads_none, reads_nothing, symbol_begins, this_begins, this_empty, token_begins, turn_rows, ways, ways_of, words_begin}
use Rattle.es_grammar.specs.Forms.{Row, Form, Choice, More, Commas, Behind}
use Rattle.es_grammar.specs.Functions.{function_rule}
use Rattle.es_grammar.specs.Grammar.{rule_of}
use Rattle.es_grammar.specs.Modules.{module_rule}
use Rattle.es_grammar.specs.Statements.{statement_rule}
use Rattle.es_grammar.specs.TerminalSets.{code_of}
use Rattle.es_grammar.specs.Terminals.{terminal_at}
use Rattle.es_parser.specs.Fronts.{at_first, lacks_turns, turn_front}
use Rattle.es_parser.specs.Kept.{HasTerminals, goes_on}
use Rattle.es_parser.specs.Turns.{IsOver}
use Rattle.es_parser.proofs.BeginningsLemmas.{is_part}
use Rattle.es_parser.proofs.FrontsLemmas.{Never, apart, both, has_more, has_terminal, never_in, turns_never}
use Rattle.es_parser.proofs.FixedLemmas.{first_of_both, second_of_both}

-- the set has each terminal that can begin the part; None where the part reads nothing
token_in : ℕ → Terminal → Bool
token_in front terminal = bit_at front (code_of terminal) == 1

part_in : (Symbol → Bool) → ℕ → Part → Option Bool
part_in inner front (part.Token terminal) = Some (token_in front terminal)
part_in inner front (part.Words terminal field) = Some (token_in front terminal)
part_in inner front (part.Leaf terminal kind field) = Some (token_in front terminal)
part_in inner front (part.Symbol symbol change field) = Some (inner symbol)
part_in inner front (part.Deeper symbol change field) = Some false
part_in inner front other = None

rows_in : (Symbol → Bool) → ℕ → List Row → Bool
rows_in inner front rows = list_all (λ row. at_first (part_in inner front) row.parts) rows

no_symbol : Symbol → Bool
no_symbol symbol = false

-- a choice of rows that begin by tokens
form_in : ℕ → Form → Bool
form_in front (Choice rows) = rows_in no_symbol front rows
form_in front other = false

symbol_in : ℕ → Symbol → Bool
symbol_in front symbol = form_in front (rule_of symbol)

turns_in : Symbol → Bool
turns_in one = option_map_or (λ front. bit_and front 0x300 == 0 && rows_in (symbol_in front) front (turn_rows (rule_of one))) (turn_front one) true

all_turns_in : (one : Symbol) → turns_in one ≡ true
unfolding code_of expression_rule form_in function_rule module_rule no_symbol part_in rows_in rule_of statement_rule symbol_in token_in turn_front turns_in
all_turns_in s.BindingIdentifier = refl
all_turns_in s.OptionalName = refl
all_turns_in s.PrimaryExpression = refl
all_turns_in s.ElementList = refl
all_turns_in s.PropertyDefinitionList = refl
all_turns_in s.PropertyValue = refl
all_turns_in s.PropertyName = refl
all_turns_in s.Initializer = refl
all_turns_in s.TemplateLiteral = refl
all_turns_in s.TemplateMiddleList = refl
all_turns_in s.LeftHandSideExpression = refl
all_turns_in s.CallChain = refl
all_turns_in s.MemberName = refl
all_turns_in s.CallChainStart = refl
all_turns_in s.NewExpression = refl
all_turns_in s.OptionalArguments = refl
all_turns_in s.NewCallee = refl
all_turns_in s.NewCalleeStart = refl
all_turns_in s.Arguments = refl
all_turns_in s.ArgumentList = refl
all_turns_in s.UnaryExpression = refl
all_turns_in s.UpdateExpression = refl
all_turns_in s.ExponentiationExpression = refl
all_turns_in s.MultiplicativeExpression = refl
all_turns_in s.AdditiveExpression = refl
all_turns_in s.ShiftExpression = refl
all_turns_in s.RelationalExpression = refl
all_turns_in s.RelationalOperand = refl
all_turns_in s.EqualityExpression = refl
all_turns_in s.BitwiseANDExpression = refl
all_turns_in s.BitwiseXORExpression = refl
all_turns_in s.BitwiseORExpression = refl
all_turns_in s.LogicalANDExpression = refl
all_turns_in s.LogicalORExpression = refl
all_turns_in s.ShortCircuitExpression = refl
all_turns_in s.ConditionalExpression = refl
all_turns_in s.AssignmentExpression = refl
all_turns_in s.DestructuringAssignment = refl
all_turns_in s.SimpleAssignment = refl
all_turns_in s.AssignmentPattern = refl
all_turns_in s.AssignmentElementList = refl
all_turns_in s.AssignmentPropertyList = refl
all_turns_in s.AssignmentElement = refl
all_turns_in s.AssignmentTarget = refl
all_turns_in s.Expression = refl
all_turns_in s.FurtherExpressions = refl
all_turns_in s.Statement = refl
all_turns_in s.Semicolon = refl
all_turns_in s.Block = refl
all_turns_in s.StatementList = refl
all_turns_in s.StatementListItem = refl
all_turns_in s.LexicalDeclaration = refl
all_turns_in s.VariableStatement = refl
all_turns_in s.DeclaratorList = refl
all_turns_in s.Declarator = refl
all_turns_in s.BindingTarget = refl
all_turns_in s.BindingElementList = refl
all_turns_in s.BindingPropertyList = refl
all_turns_in s.BindingElement = refl
all_turns_in s.SingleNameBinding = refl
all_turns_in s.ExpressionStatement = refl
all_turns_in s.IfStatement = refl
all_turns_in s.ElseClause = refl
all_turns_in s.DoWhileStatement = refl
all_turns_in s.OptionalSemicolon = refl
all_turns_in s.WhileStatement = refl
all_turns_in s.ForStatement = refl
all_turns_in s.ForAwaitHead = refl
all_turns_in s.ForHead = refl
all_turns_in s.ForInOfHead = refl
all_turns_in s.ForInOfObject = refl
all_turns_in s.ForDeclaration = refl
all_turns_in s.ForBinding = refl
all_turns_in s.ForInitializer = refl
all_turns_in s.OptionalExpression = refl
all_turns_in s.ContinueStatement = refl
all_turns_in s.BreakStatement = refl
all_turns_in s.OptionalLabel = refl
all_turns_in s.ReturnStatement = refl
all_turns_in s.OptionalResult = refl
all_turns_in s.WithStatement = refl
all_turns_in s.SwitchStatement = refl
all_turns_in s.CaseClauses = refl
all_turns_in s.CaseClause = refl
all_turns_in s.LabelledStatement = refl
all_turns_in s.ThrowStatement = refl
all_turns_in s.TryStatement = refl
all_turns_in s.TryClauses = refl
all_turns_in s.CatchClause = refl
all_turns_in s.CatchParameter = refl
all_turns_in s.Finally = refl
all_turns_in s.OptionalFinally = refl
all_turns_in s.DebuggerStatement = refl
all_turns_in s.FormalParameters = refl
all_turns_in s.FunctionRest = refl
all_turns_in s.FunctionBody = refl
all_turns_in s.FunctionDeclaration = refl
all_turns_in s.DefaultFunction = refl
all_turns_in s.FunctionExpression = refl
all_turns_in s.ArrowFunction = refl
all_turns_in s.ArrowParameters = refl
all_turns_in s.ConciseBody = refl
all_turns_in s.Method = refl
all_turns_in s.AsyncMethod = refl
all_turns_in s.GeneratorMethod = refl
all_turns_in s.AsyncGeneratorMethod = refl
all_turns_in s.YieldExpression = refl
all_turns_in s.YieldOperand = refl
all_turns_in s.ClassDeclaration = refl
all_turns_in s.DefaultClass = refl
all_turns_in s.ClassExpression = refl
all_turns_in s.ClassHeritage = refl
all_turns_in s.ClassBody = refl
all_turns_in s.ClassElementList = refl
all_turns_in s.ClassElement = refl
all_turns_in s.ClassElementValue = refl
all_turns_in s.ConstructorName = refl
all_turns_in s.PrefixedMethod = refl
all_turns_in s.ClassElementName = refl
all_turns_in s.ModuleItem = refl
all_turns_in s.ModuleExportName = refl
all_turns_in s.ImportDeclaration = refl
all_turns_in s.ImportClause = refl
all_turns_in s.FurtherImports = refl
all_turns_in s.ImportedDefaultBinding = refl
all_turns_in s.NameSpaceImport = refl
all_turns_in s.NamedImports = refl
all_turns_in s.ImportsList = refl
all_turns_in s.ExportDeclaration = refl
all_turns_in s.ExportedName = refl
all_turns_in s.FromClause = refl
all_turns_in s.ExportsList = refl

nothing_in : (inner : Symbol → Bool) (front : ℕ) (p : Part) → reads_nothing p ≡ true → part_in inner front p ≡ None
unfolding part_in reads_nothing
nothing_in inner front (part.Token terminal) h = absurd (cc)
nothing_in inner front (part.Words terminal field) h = absurd (cc)
nothing_in inner front (part.Leaf terminal kind field) h = absurd (cc)
nothing_in inner front (part.Symbol symbol change field) h = absurd (cc)
nothing_in inner front (part.Deeper symbol change field) h = absurd (cc)
nothing_in inner front (part.Twin terminal kind field) h = refl
nothing_in inner front (part.Check condition) h = refl
nothing_in inner front part.Hole h = refl
nothing_in inner front (part.Flag field) h = refl
nothing_in inner front (part.Kind member) h = refl
nothing_in inner front (part.Becomes kind) h = refl
nothing_in inner front part.Directives h = refl

-- what begins a row stands in the set
module _ (inner : Symbol → Bool) (front : ℕ)
    (never : (symbol : Symbol) → inner symbol ≡ true → Empty symbol → ⊥)
    (has : (terminal : Terminal) (symbol : Symbol) → inner symbol ≡ true → Begins terminal symbol → bit_at front (code_of terminal) ≡ 1) where
  IsIn : Part → Type 0
  IsIn p = part_in inner front p ≡ Some true

  first_in : (p : Part) (ps : List Part) (told : Option Bool) → part_in inner front p ≡ told → (told ≡ None → ⊥) →
      unwrap_or told (at_first (part_in inner front) ps) ≡ true → IsIn p
  unfolding IsIn
  first_in p ps None is some h = absurd (some refl)
  first_in p ps (Some true) is some h = is
  first_in p ps (Some false) is some h = absurd (cc)

  begin_in : (terminal : Terminal) (p : Part) → BeginsPart terminal p → (part_in inner front p ≡ None → ⊥)
  unfolding part_in
  begin_in terminal _ token_begins e = cc
  begin_in terminal _ words_begin e = cc
  begin_in terminal _ leaf_begins e = cc
  begin_in terminal _ (symbol_begins h) e = cc
  begin_in terminal _ (deeper_begins h) e = cc

  some_true : (b : Bool) → Some b ≡ Some true → b ≡ true
  some_true b e = cc

  part_has : (terminal : Terminal) (p : Part) → BeginsPart terminal p → IsIn p → bit_at front (code_of terminal) ≡ 1
  unfolding IsIn part_in token_in
  part_has terminal _ token_begins h = eqb-true (bit_at front (code_of terminal)) 1 (some_true _ h)
  part_has terminal _ words_begin h = eqb-true (bit_at front (code_of terminal)) 1 (some_true _ h)
  part_has terminal _ leaf_begins h = eqb-true (bit_at front (code_of terminal)) 1 (some_true _ h)
  part_has terminal _ (symbol_begins {s = s} begins) h = has terminal s (some_true _ h) begins
  part_has terminal _ (deeper_begins begins) h = absurd (cc)

  empty_none : (p : Part) → EmptyPart p → (told : Option Bool) → part_in inner front p ≡ told → (told ≡ Some true → ⊥)
  unfolding part_in
  empty_none _ (empty_symbol {s = s} h) told is e = never s (some_true _ (is ∙ e)) h
  empty_none _ (empty_deeper h) told is e = cc
  empty_none _ (reads_none {p = p} h) told is e = let none = nothing_in inner front p h in cc

  rest_in : (p : Part) (ps : List Part) (told : Option Bool) → (told ≡ Some true → ⊥) →
      unwrap_or told (at_first (part_in inner front) ps) ≡ true → at_first (part_in inner front) ps ≡ true
  rest_in p ps None not_so h = h
  rest_in p ps (Some true) not_so h = absurd (not_so refl)
  rest_in p ps (Some false) not_so h = absurd (cc)

  parts_has : (terminal : Terminal) (ps : List Part) → BeginsParts terminal ps → at_first (part_in inner front) ps ≡ true → bit_at front (code_of terminal) ≡ 1
  parts_has terminal _ (at_once {p = p} {parts = ps} begins) h =
      part_has terminal p begins (first_in p ps (part_in inner front p) refl (begin_in terminal p begins) h)
  parts_has terminal _ (behind_empty {p = p} {parts = ps} none begins) h =
      parts_has terminal ps begins (rest_in p ps (part_in inner front p) (empty_none p none (part_in inner front p) refl) h)

  rows_has : (terminal : Terminal) (rows : List Row) → BeginsOne terminal (ways_of rows) → rows_in inner front rows ≡ true → bit_at front (code_of terminal) ≡ 1
  unfolding rows_in
  rows_has terminal [] begins h = elim begins [ ]
  rows_has terminal (row ∷ rows) (this_begins begins) h =
      parts_has terminal row.parts begins (first_of_both (at_first (part_in inner front) row.parts) (rows_in inner front rows) h)
  rows_has terminal (row ∷ rows) (later_begins begins) h =
      rows_has terminal rows begins (second_of_both (at_first (part_in inner front) row.parts) (rows_in inner front rows) h)

  parts_never : (ps : List Part) → EmptyParts ps → at_first (part_in inner front) ps ≡ true → ⊥
  parts_never [] no_parts h = cc
  parts_never _ (empty_parts {p = p} {parts = ps} none more) h =
      parts_never ps more (rest_in p ps (part_in inner front p) (empty_none p none (part_in inner front p) refl) h)

  rows_never : (rows : List Row) → EmptyOne (ways_of rows) → rows_in inner front rows ≡ true → ⊥
  unfolding rows_in
  rows_never [] none h = elim none [ ]
  rows_never (row ∷ rows) (this_empty none) h =
      parts_never row.parts none (first_of_both (at_first (part_in inner front) row.parts) (rows_in inner front rows) h)
  rows_never (row ∷ rows) (later_empty none) h =
      rows_never rows none (second_of_both (at_first (part_in inner front) row.parts) (rows_in inner front rows) h)

nothing_never : (symbol : Symbol) → no_symbol symbol ≡ true → Empty symbol → ⊥
unfolding no_symbol
nothing_never symbol h none = cc

nothing_has : (front : ℕ) (terminal : Terminal) (symbol : Symbol) → no_symbol symbol ≡ true → Begins terminal symbol → bit_at front (code_of terminal) ≡ 1
unfolding no_symbol
nothing_has front terminal symbol h begins = absurd (cc)

form_never : (front : ℕ) (form : Form) → form_in front form ≡ true → EmptyOne (ways form) → ⊥
unfolding form_in
form_never front (Choice rows) h none = rows_never no_symbol front nothing_never (nothing_has front) rows none h
form_never front (More turns) h none = cc
form_never front (Commas rows) h none = cc
form_never front (Behind head turns) h none = cc

form_has : (front : ℕ) (terminal : Terminal) (form : Form) → form_in front form ≡ true → BeginsOne terminal (ways form) → bit_at front (code_of terminal) ≡ 1
unfolding form_in
form_has front terminal (Choice rows) h begins = rows_has no_symbol front nothing_never (nothing_has front) terminal rows begins h
form_has front terminal (More turns) h begins = absurd (cc)
form_has front terminal (Commas rows) h begins = absurd (cc)
form_has front terminal (Behind head turns) h begins = absurd (cc)

symbol_never : (front : ℕ) (symbol : Symbol) → symbol_in front symbol ≡ true → Empty symbol → ⊥
unfolding symbol_in
symbol_never front symbol h (empty_by none) = form_never front (rule_of symbol) h none

symbol_has : (front : ℕ) (terminal : Terminal) (symbol : Symbol) → symbol_in front symbol ≡ true → Begins terminal symbol → bit_at front (code_of terminal) ≡ 1
unfolding symbol_in
symbol_has front terminal symbol h (begins_by begins) = form_has front terminal (rule_of symbol) h begins

front_told : (one : Symbol) (front : ℕ) → turn_front one ≡ Some front → (bit_and front 0x300 == 0 && rows_in (symbol_in front) front (turn_rows (rule_of one))) ≡ true
unfolding turns_in
front_told one front is =
    subst (λ (o : Option ℕ). option_map_or (λ front. bit_and front 0x300 == 0 && rows_in (symbol_in front) front (turn_rows (rule_of one))) o true ≡ true) is (all_turns_in one)

-- what begins a turn behind a symbol's head stands in its set
turn_has : (one : Symbol) (front : ℕ) (terminal : Terminal) → turn_front one ≡ Some front → BeginsOne terminal (ways_of (turn_rows (rule_of one))) →
    bit_at front (code_of terminal) ≡ 1
turn_has one front terminal is begins =
    rows_has (symbol_in front) front (symbol_never front) (symbol_has front) terminal (turn_rows (rule_of one)) begins
    (second_of_both (bit_and front 0x300 == 0) (rows_in (symbol_in front) front (turn_rows (rule_of one))) (front_told one front is))

no_later : (front : ℕ) (terminal : Terminal) → (bit_and front 0x300 == 0) ≡ true → bit_at front (code_of terminal) ≡ 1 → (terminal ≡ t.Middle) ⊎ (terminal ≡ t.Tail) → ⊥
unfolding code_of
no_later front terminal e h (inl is) = let so = apart front 0x300 8 e (subst (λ (one : Terminal). bit_at front (code_of one) ≡ 1) is h) in cc
no_later front terminal e h (inr is) = let so = apart front 0x300 9 e (subst (λ (one : Terminal). bit_at front (code_of one) ≡ 1) is h) in cc

plain_in : (front : ℕ) (terminal : Terminal) (b : Bool) → goes_on terminal ≡ b → (bit_and front 0x300 == 0) ≡ true → bit_at front (code_of terminal) ≡ 1 → has_terminal front terminal ≡ true
unfolding has_terminal
plain_in front terminal true is e h = absurd (no_later front terminal e h (is_part terminal is))
plain_in front terminal false is e h =
    both (not (goes_on terminal)) (bit_at front (code_of terminal) == 1) (ap not is) (eq-eqb (bit_at front (code_of terminal)) 1 h)

none_some : (o : Option Token) → o ≡ None → IsSome o → ⊥
none_some None e h = cc
none_some (Some found) e h = cc

module _ (text : List ℕ) (spot : Spot) where
  begins_none : (one : Symbol) (front : ℕ) → turn_front one ≡ Some front → Never text spot front → CanBegin text spot (turn_rows (rule_of one)) → ⊥
  unfolding Never
  begins_none one front is never (next_begins terminal begins some) =
      none_some (terminal_at text spot.context terminal spot.at)
      (never terminal
      (plain_in front terminal (goes_on terminal) refl
      (first_of_both (bit_and front 0x300 == 0) (rows_in (symbol_in front) front (turn_rows (rule_of one))) (front_told one front is))
      (turn_has one front terminal is begins))) some

  turns_over : (one : Symbol) (front : ℕ) → turn_front one ≡ Some front → Never text spot front → IsOver text (turn_rows (rule_of one)) spot
  turns_over one front is never = record { reads = turns_never text spot one front is never; never = begins_none one front is never }

  -- a set that has all of the symbol's set, and none of whose terminals reads the next token
  pub over_among : (one : Symbol) (own front : ℕ) → turn_front one ≡ Some own → (bit_or own front == front) ≡ true → Never text spot front →
      IsOver text (turn_rows (rule_of one)) spot
  unfolding Never
  over_among one own front is less never = turns_over one own is (λ terminal has. never terminal (has_more own front terminal less has))

  module _ (set : ℕ) (exact : HasTerminals text spot.context spot.at set) where
    over_by : (one : Symbol) (own : Option ℕ) → turn_front one ≡ own → option_map_or (λ front. bit_and front set == 0) own false ≡ true →
        IsOver text (turn_rows (rule_of one)) spot
    over_by one None is h = absurd (cc)
    over_by one (Some front) is h = turns_over one front is (never_in text spot set exact front h)

    -- no turn comes behind a symbol's head
    pub lacks_turns_over : (one : Symbol) → lacks_turns set one ≡ true → IsOver text (turn_rows (rule_of one)) spot
    lacks_turns_over one h = over_by one (turn_front one) refl h
