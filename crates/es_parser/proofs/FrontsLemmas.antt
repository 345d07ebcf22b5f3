-- Where no token is next that can begin a symbol, the symbol isn't there.
use Rattle.std.proofs.Common.{◌≡◌, ◌<◌, ◌≤◌, ◌+◌, ℕ, zero, suc, List, [], ◌∷◌, length, map, get_or, drop, Bool, true, false, Option, Some, None, refl, sym, ap, subst, arith, ltb-true, eqb-true, eq-eqb}
use Rattle.std.specs.Prelude.{not, ◌==◌, ◌&&◌, nat_lt}
use Rattle.std.specs.Bool.{OnTrue}
use Rattle.std.specs.Int.{bit_at}
use Rattle.std.specs.Int.RustNames.{bit_and, bit_or}
use Rattle.std.specs.List.{list_all}
use Rattle.std.specs.Option.{option_map_or, unwrap_or}
use Rattle.std.proofs.lemmas.List.{drop_all}
use Rattle.std.proofs.lemmas.Nat.Bits.{bit_at_and, bit_at_or, bit_at-lt, bit_at-zero}
use Rattle.es_text.specs.declared.token.Token.{Token}
use Rattle.es_grammar.specs.declared.context.Change.{Change}
use Rattle.es_grammar.specs.declared.context.Change.TheVariants as changes
use Rattle.es_grammar.specs.declared.context.Spot.{Spot}
use Rattle.es_grammar.specs.declared.draft.Draft.{Draft}
use Rattle.es_grammar.specs.declared.draft.Outcome.TheVariants.{Not, Read}
use Rattle.es_grammar.specs.declared.part.Alternative.{Alternative}
use Rattle.es_grammar.specs.declared.part.Condition.{Condition}
use Rattle.es_grammar.specs.declared.part.Field.{Field}
use Rattle.es_grammar.specs.declared.part.Part.{Part}
use Rattle.es_grammar.specs.declared.part.Part.TheVariants as part
use Rattle.es_grammar.specs.declared.part.Terminal.{Terminal}
use Rattle.es_grammar.specs.declared.symbol.Symbol.{Symbol}
use Rattle.es_grammar.specs.declared.symbol.Symbol.TheVariants as s
use Rattle.es_grammar.specs.Conditions.{holds}
use Rattle.es_grammar.specs.Drafts.{empty}
use Rattle.es_grammar.specs.Expressions.{expression_rule}
use Rattle.es_grammar.specs.FirstSets.{first_of}
use Rattle.es_grammar.specs.Firsts.{reads_nothing, turn_rows}
use Rattle.es_grammar.specs.Forms.{Row, Form, Choice, More, Commas, Behind}
use Rattle.es_grammar.specs.Functions.{function_rule}
use Rattle.es_grammar.specs.Grammar.{rule_of}
use Rattle.es_grammar.specs.Modules.{module_rule}
use Rattle.es_grammar.specs.Parts.{after, if_so, if_token, leaf_child, plainly, with_child}
use Rattle.es_grammar.specs.Ranks.{rank_of}
use Rattle.es_grammar.specs.Reading.{Reads, ReadsChoice, ReadsParts, ReadsPart, plain, symbol, stop, go_on, no_row, next_row, by_choice, headless}
use Rattle.es_grammar.specs.Rules.{row}
use Rattle.es_grammar.specs.Statements.{statement_rule}
use Rattle.es_grammar.specs.TerminalSets.{code_of}
use Rattle.es_grammar.specs.Terminals.{terminal_at}
use Rattle.es_parser.specs.Fronts.{at_first, front_of, has_front, is_same, lacks_part, lacks_row, lacks_symbol, lacks_terminal, turn_front}
use Rattle.es_parser.specs.Ends.{terminal_of}
use Rattle.es_parser.specs.Kept.{HasTerminals, goes_on}
use Rattle.es_parser.proofs.FixedLemmas.{first_of_both, second_of_both}
use Rattle.es_parser.proofs.ReadingLemmas.{drop_at, other_token}
use Rattle.es_parser.proofs.SetsLemmas.{not_there}

-- the set has each terminal that begins the part, which is below the rank
in_front : ℕ → ℕ → Symbol → Bool
in_front rank front inner = nat_lt (rank_of inner) rank && option_map_or (λ own. bit_or own front == front) (front_of inner) false

unfoldable pub has_terminal : ℕ → Terminal → Bool
has_terminal front terminal = not (goes_on terminal) && bit_at front (code_of terminal) == 1

has_part : ℕ → ℕ → Part → Option Bool
has_part rank front (part.Token terminal) = Some (has_terminal front terminal)
has_part rank front (part.Words terminal field) = Some (has_terminal front terminal)
has_part rank front (part.Leaf terminal kind field) = Some (has_terminal front terminal)
has_part rank front (part.Symbol inner change field) = Some (is_same change && in_front rank front inner)
has_part rank front (part.Deeper inner change field) = Some false
has_part rank front other = None

has_rule : ℕ → ℕ → Form → Bool
has_rule rank front (Choice rows) = list_all (λ row. at_first (has_part rank front) row.parts) rows
has_rule rank front (Behind head turns) = in_front rank front head
has_rule rank front other = false

is_fronted : Symbol → Bool
is_fronted one = option_map_or (λ front. has_rule (rank_of one) front (rule_of one)) (front_of one) true

all_fronted : (one : Symbol) → is_fronted one ≡ true
unfolding code_of expression_rule first_of function_rule has_front has_part has_rule has_terminal in_front is_fronted module_rule rank_of rule_of statement_rule
all_fronted s.BindingIdentifier = refl
all_fronted s.OptionalName = refl
all_fronted s.PrimaryExpression = refl
all_fronted s.ElementList = refl
all_fronted s.PropertyDefinitionList = refl
all_fronted s.PropertyValue = refl
all_fronted s.PropertyName = refl
all_fronted s.Initializer = refl
all_fronted s.TemplateLiteral = refl
all_fronted s.TemplateMiddleList = refl
all_fronted s.LeftHandSideExpression = refl
all_fronted s.CallChain = refl
all_fronted s.MemberName = refl
all_fronted s.CallChainStart = refl
all_fronted s.NewExpression = refl
all_fronted s.OptionalArguments = refl
all_fronted s.NewCallee = refl
all_fronted s.NewCalleeStart = refl
all_fronted s.Arguments = refl
all_fronted s.ArgumentList = refl
all_fronted s.UnaryExpression = refl
all_fronted s.UpdateExpression = refl
all_fronted s.ExponentiationExpression = refl
all_fronted s.MultiplicativeExpression = refl
all_fronted s.AdditiveExpression = refl
all_fronted s.ShiftExpression = refl
all_fronted s.RelationalExpression = refl
all_fronted s.RelationalOperand = refl
all_fronted s.EqualityExpression = refl
all_fronted s.BitwiseANDExpression = refl
all_fronted s.BitwiseXORExpression = refl
all_fronted s.BitwiseORExpression = refl
all_fronted s.LogicalANDExpression = refl
all_fronted s.LogicalORExpression = refl
all_fronted s.ShortCircuitExpression = refl
all_fronted s.ConditionalExpression = refl
all_fronted s.AssignmentExpression = refl
all_fronted s.DestructuringAssignment = refl
all_fronted s.SimpleAssignment = refl
all_fronted s.AssignmentPattern = refl
all_fronted s.AssignmentElementList = refl
all_fronted s.AssignmentPropertyList = refl
all_fronted s.AssignmentElement = refl
all_fronted s.AssignmentTarget = refl
all_fronted s.Expression = refl
all_fronted s.FurtherExpressions = refl
all_fronted s.Statement = refl
all_fronted s.Semicolon = refl
all_fronted s.Block = refl
all_fronted s.StatementList = refl
all_fronted s.StatementListItem = refl
all_fronted s.LexicalDeclaration = refl
all_fronted s.VariableStatement = refl
all_fronted s.DeclaratorList = refl
all_fronted s.Declarator = refl
all_fronted s.BindingTarget = refl
all_fronted s.BindingElementList = refl
all_fronted s.BindingPropertyList = refl
all_fronted s.BindingElement = refl
all_fronted s.SingleNameBinding = refl
all_fronted s.ExpressionStatement = refl
all_fronted s.IfStatement = refl
all_fronted s.ElseClause = refl
all_fronted s.DoWhileStatement = refl
all_fronted s.OptionalSemicolon = refl
all_fronted s.WhileStatement = refl
all_fronted s.ForStatement = refl
all_fronted s.ForAwaitHead = refl
all_fronted s.ForHead = refl
all_fronted s.ForInOfHead = refl
all_fronted s.ForInOfObject = refl
all_fronted s.ForDeclaration = refl
all_fronted s.ForBinding = refl
all_fronted s.ForInitializer = refl
all_fronted s.OptionalExpression = refl
all_fronted s.ContinueStatement = refl
all_fronted s.BreakStatement = refl
all_fronted s.OptionalLabel = refl
all_fronted s.ReturnStatement = refl
all_fronted s.OptionalResult = refl
all_fronted s.WithStatement = refl
all_fronted s.SwitchStatement = refl
all_fronted s.CaseClauses = refl
all_fronted s.CaseClause = refl
all_fronted s.LabelledStatement = refl
all_fronted s.ThrowStatement = refl
all_fronted s.TryStatement = refl
all_fronted s.TryClauses = refl
all_fronted s.CatchClause = refl
all_fronted s.CatchParameter = refl
all_fronted s.Finally = refl
all_fronted s.OptionalFinally = refl
all_fronted s.DebuggerStatement = refl
all_fronted s.FormalParameters = refl
all_fronted s.FunctionRest = refl
all_fronted s.FunctionBody = refl
all_fronted s.FunctionDeclaration = refl
all_fronted s.DefaultFunction = refl
all_fronted s.FunctionExpression = refl
all_fronted s.ArrowFunction = refl
all_fronted s.ArrowParameters = refl
all_fronted s.ConciseBody = refl
all_fronted s.Method = refl
all_fronted s.AsyncMethod = refl
all_fronted s.GeneratorMethod = refl
all_fronted s.AsyncGeneratorMethod = refl
all_fronted s.YieldExpression = refl
all_fronted s.YieldOperand = refl
all_fronted s.ClassDeclaration = refl
all_fronted s.DefaultClass = refl
all_fronted s.ClassExpression = refl
all_fronted s.ClassHeritage = refl
all_fronted s.ClassBody = refl
all_fronted s.ClassElementList = refl
all_fronted s.ClassElement = refl
all_fronted s.ClassElementValue = refl
all_fronted s.ConstructorName = refl
all_fronted s.PrefixedMethod = refl
all_fronted s.ClassElementName = refl
all_fronted s.ModuleItem = refl
all_fronted s.ModuleExportName = refl
all_fronted s.ImportDeclaration = refl
all_fronted s.ImportClause = refl
all_fronted s.FurtherImports = refl
all_fronted s.ImportedDefaultBinding = refl
all_fronted s.NameSpaceImport = refl
all_fronted s.NamedImports = refl
all_fronted s.ImportsList = refl
all_fronted s.ExportDeclaration = refl
all_fronted s.ExportedName = refl
all_fronted s.FromClause = refl
all_fronted s.ExportsList = refl

-- the rows behind a symbol's head
has_turns : Symbol → Bool
has_turns one = option_map_or (λ front. list_all (λ row. at_first (has_part (rank_of one) front) row.parts) (turn_rows (rule_of one))) (turn_front one) true

all_turns : (one : Symbol) → has_turns one ≡ true
unfolding code_of expression_rule first_of function_rule has_front has_part has_terminal has_turns in_front module_rule rank_of rule_of statement_rule turn_front
all_turns s.BindingIdentifier = refl
all_turns s.OptionalName = refl
all_turns s.PrimaryExpression = refl
all_turns s.ElementList = refl
all_turns s.PropertyDefinitionList = refl
all_turns s.PropertyValue = refl
all_turns s.PropertyName = refl
all_turns s.Initializer = refl
all_turns s.TemplateLiteral = refl
all_turns s.TemplateMiddleList = refl
all_turns s.LeftHandSideExpression = refl
all_turns s.CallChain = refl
all_turns s.MemberName = refl
all_turns s.CallChainStart = refl
all_turns s.NewExpression = refl
all_turns s.OptionalArguments = refl
all_turns s.NewCallee = refl
all_turns s.NewCalleeStart = refl
all_turns s.Arguments = refl
all_turns s.ArgumentList = refl
all_turns s.UnaryExpression = refl
all_turns s.UpdateExpression = refl
all_turns s.ExponentiationExpression = refl
all_turns s.MultiplicativeExpression = refl
all_turns s.AdditiveExpression = refl
all_turns s.ShiftExpression = refl
all_turns s.RelationalExpression = refl
all_turns s.RelationalOperand = refl
all_turns s.EqualityExpression = refl
all_turns s.BitwiseANDExpression = refl
all_turns s.BitwiseXORExpression = refl
all_turns s.BitwiseORExpression = refl
all_turns s.LogicalANDExpression = refl
all_turns s.LogicalORExpression = refl
all_turns s.ShortCircuitExpression = refl
all_turns s.ConditionalExpression = refl
all_turns s.AssignmentExpression = refl
all_turns s.DestructuringAssignment = refl
all_turns s.SimpleAssignment = refl
all_turns s.AssignmentPattern = refl
all_turns s.AssignmentElementList = refl
all_turns s.AssignmentPropertyList = refl
all_turns s.AssignmentElement = refl
all_turns s.AssignmentTarget = refl
all_turns s.Expression = refl
all_turns s.FurtherExpressions = refl
all_turns s.Statement = refl
all_turns s.Semicolon = refl
all_turns s.Block = refl
all_turns s.StatementList = refl
all_turns s.StatementListItem = refl
all_turns s.LexicalDeclaration = refl
all_turns s.VariableStatement = refl
all_turns s.DeclaratorList = refl
all_turns s.Declarator = refl
all_turns s.BindingTarget = refl
all_turns s.BindingElementList = refl
all_turns s.BindingPropertyList = refl
all_turns s.BindingElement = refl
all_turns s.SingleNameBinding = refl
all_turns s.ExpressionStatement = refl
all_turns s.IfStatement = refl
all_turns s.ElseClause = refl
all_turns s.DoWhileStatement = refl
all_turns s.OptionalSemicolon = refl
all_turns s.WhileStatement = refl
all_turns s.ForStatement = refl
all_turns s.ForAwaitHead = refl
all_turns s.ForHead = refl
all_turns s.ForInOfHead = refl
all_turns s.ForInOfObject = refl
all_turns s.ForDeclaration = refl
all_turns s.ForBinding = refl
all_turns s.ForInitializer = refl
all_turns s.OptionalExpression = refl
all_turns s.ContinueStatement = refl
all_turns s.BreakStatement = refl
all_turns s.OptionalLabel = refl
all_turns s.ReturnStatement = refl
all_turns s.OptionalResult = refl
all_turns s.WithStatement = refl
all_turns s.SwitchStatement = refl
all_turns s.CaseClauses = refl
all_turns s.CaseClause = refl
all_turns s.LabelledStatement = refl
all_turns s.ThrowStatement = refl
all_turns s.TryStatement = refl
all_turns s.TryClauses = refl
all_turns s.CatchClause = refl
all_turns s.CatchParameter = refl
all_turns s.Finally = refl
all_turns s.OptionalFinally = refl
all_turns s.DebuggerStatement = refl
all_turns s.FormalParameters = refl
all_turns s.FunctionRest = refl
all_turns s.FunctionBody = refl
all_turns s.FunctionDeclaration = refl
all_turns s.DefaultFunction = refl
all_turns s.FunctionExpression = refl
all_turns s.ArrowFunction = refl
all_turns s.ArrowParameters = refl
all_turns s.ConciseBody = refl
all_turns s.Method = refl
all_turns s.AsyncMethod = refl
all_turns s.GeneratorMethod = refl
all_turns s.AsyncGeneratorMethod = refl
all_turns s.YieldExpression = refl
all_turns s.YieldOperand = refl
all_turns s.ClassDeclaration = refl
all_turns s.DefaultClass = refl
all_turns s.ClassExpression = refl
all_turns s.ClassHeritage = refl
all_turns s.ClassBody = refl
all_turns s.ClassElementList = refl
all_turns s.ClassElement = refl
all_turns s.ClassElementValue = refl
all_turns s.ConstructorName = refl
all_turns s.PrefixedMethod = refl
all_turns s.ClassElementName = refl
all_turns s.ModuleItem = refl
all_turns s.ModuleExportName = refl
all_turns s.ImportDeclaration = refl
all_turns s.ImportClause = refl
all_turns s.FurtherImports = refl
all_turns s.ImportedDefaultBinding = refl
all_turns s.NameSpaceImport = refl
all_turns s.NamedImports = refl
all_turns s.ImportsList = refl
all_turns s.ExportDeclaration = refl
all_turns s.ExportedName = refl
all_turns s.FromClause = refl
all_turns s.ExportsList = refl

-- truth
not_true : (b : Bool) → not b ≡ true → b ≡ false
not_true true h = cc
not_true false h = refl

same_change : (change : Change) → is_same change ≡ true → change ≡ changes.Same
same_change changes.Same h = refl
same_change changes.Brackets h = cc
same_change changes.WithoutIn h = cc
same_change changes.Plain h = cc
same_change changes.Async h = cc
same_change changes.Generator h = cc
same_change changes.AsyncGenerator h = cc

-- sets
subset : (own front i : ℕ) → (bit_or own front == front) ≡ true → bit_at own i ≡ 1 → bit_at front i ≡ 1
subset own front i e h =
    subst (λ n. bit_at n i ≡ 1) (eqb-true (bit_or own front) front e) (omega (arith, bit_at_or own front i, bit_at-lt front i, h))

no_bit : {A : Type 0} (n i : ℕ) → n ≡ 0 → bit_at n i ≡ 1 → A
no_bit n i e h = let none : bit_at 0 i ≡ 1 = subst (λ m. bit_at m i ≡ 1) e h in absurd (omega (arith, bit_at-zero i, none))

pub apart : (front set i : ℕ) → (bit_and front set == 0) ≡ true → bit_at front i ≡ 1 → (bit_at set i == 1) ≡ false
apart front set i e h = split (bit_at set i == 1) refl
  where
    split : (b : Bool) → (bit_at set i == 1) ≡ b → (bit_at set i == 1) ≡ false
    split true k = no_bit (bit_and front set) i (eqb-true (bit_and front set) 0 e) (omega (arith, bit_at_and front set i, h, eqb-true (bit_at set i) 1 k))
    split false k = k

pub both : (a b : Bool) → a ≡ true → b ≡ true → (a && b) ≡ true
both true b h k = k
both false b h k = h

pub has_more : (own front : ℕ) (terminal : Terminal) → (bit_or own front == front) ≡ true → has_terminal own terminal ≡ true → has_terminal front terminal ≡ true
unfolding has_terminal
has_more own front terminal e h =
    let plain = first_of_both (not (goes_on terminal)) (bit_at own (code_of terminal) == 1) h in
    let one = subset own front (code_of terminal) e (eqb-true (bit_at own (code_of terminal)) 1 (second_of_both (not (goes_on terminal)) (bit_at own (code_of terminal) == 1) h)) in
    both (not (goes_on terminal)) (bit_at front (code_of terminal) == 1) plain (eq-eqb (bit_at front (code_of terminal)) 1 one)

has_none : (rank front : ℕ) (p : Part) → has_part rank front p ≡ None → reads_nothing p ≡ true
unfolding has_part reads_nothing
has_none rank front (part.Token terminal) h = absurd (cc)
has_none rank front (part.Words terminal field) h = absurd (cc)
has_none rank front (part.Leaf terminal kind field) h = absurd (cc)
has_none rank front (part.Twin terminal kind field) h = refl
has_none rank front (part.Symbol inner change field) h = absurd (cc)
has_none rank front (part.Deeper inner change field) h = absurd (cc)
has_none rank front (part.Check condition) h = refl
has_none rank front part.Hole h = refl
has_none rank front (part.Flag field) h = refl
has_none rank front (part.Kind member) h = refl
has_none rank front (part.Becomes kind) h = refl
has_none rank front part.Directives h = refl

lacks_none : (set : ℕ) (p : Part) → lacks_part set p ≡ None → reads_nothing p ≡ true
unfolding lacks_part reads_nothing
lacks_none set (part.Token terminal) h = absurd (cc)
lacks_none set (part.Words terminal field) h = absurd (cc)
lacks_none set (part.Leaf terminal kind field) h = absurd (cc)
lacks_none set (part.Twin terminal kind field) h = refl
lacks_none set (part.Symbol inner change field) h = absurd (cc)
lacks_none set (part.Deeper inner change field) h = absurd (cc)
lacks_none set (part.Check condition) h = refl
lacks_none set part.Hole h = refl
lacks_none set (part.Flag field) h = refl
lacks_none set (part.Kind member) h = refl
lacks_none set (part.Becomes kind) h = refl
lacks_none set part.Directives h = refl

fronted : (one : Symbol) (front : ℕ) → front_of one ≡ Some front → has_rule (rank_of one) front (rule_of one) ≡ true
unfolding is_fronted
fronted one front is =
    subst (λ (o : Option ℕ). option_map_or (λ front. has_rule (rank_of one) front (rule_of one)) o true ≡ true) is (all_fronted one)

turns_told : (one : Symbol) (front : ℕ) → turn_front one ≡ Some front →
    list_all (λ row. at_first (has_part (rank_of one) front) row.parts) (turn_rows (rule_of one)) ≡ true
unfolding has_turns
turns_told one front is =
    subst (λ (o : Option ℕ). option_map_or (λ front. list_all (λ row. at_first (has_part (rank_of one) front) row.parts) (turn_rows (rule_of one))) o true ≡ true) is (all_turns one)

module _ (text : List ℕ) (spot : Spot) where
  -- parts that aren't there, whatever was read before
  Missing : List Part → Type 0
  Missing ps = (draft : Draft) → ReadsParts text ps spot draft Not

  twin_missing : (terminal : Terminal) (kind : ℕ) (field : Option Field) (ps : List Part) (draft : Draft) (found : Option Token) →
      terminal_at text spot.context terminal spot.at ≡ found → Missing ps → ReadsParts text (part.Twin terminal kind field ∷ ps) spot draft Not
  unfolding plainly Missing
  twin_missing terminal kind field ps draft None is rest =
      stop (plain (ap (λ found. Some (if_token (λ found. Read (with_child draft (leaf_child text kind field found)) spot.at) found)) is)) refl
  twin_missing terminal kind field ps draft (Some found) is rest =
      go_on (plain (ap (λ found. Some (if_token (λ found. Read (with_child draft (leaf_child text kind field found)) spot.at) found)) is)) (rest _)

  check_missing : (condition : Condition) (ps : List Part) (draft : Draft) (so : Bool) →
      holds text spot draft condition ≡ so → Missing ps → ReadsParts text (part.Check condition ∷ ps) spot draft Not
  unfolding plainly Missing
  check_missing condition ps draft false is rest = stop (plain (ap (λ so. Some (if_so so draft spot.at)) is)) refl
  check_missing condition ps draft true is rest = go_on (plain (ap (λ so. Some (if_so so draft spot.at)) is)) (rest draft)

  -- a part that reads nothing goes on, or isn't there
  note_missing : (p : Part) (ps : List Part) (draft : Draft) → reads_nothing p ≡ true → Missing ps → ReadsParts text (p ∷ ps) spot draft Not
  unfolding plainly reads_nothing Missing
  note_missing (part.Token terminal) ps draft h rest = absurd (cc)
  note_missing (part.Words terminal field) ps draft h rest = absurd (cc)
  note_missing (part.Leaf terminal kind field) ps draft h rest = absurd (cc)
  note_missing (part.Symbol inner change field) ps draft h rest = absurd (cc)
  note_missing (part.Deeper inner change field) ps draft h rest = absurd (cc)
  note_missing (part.Twin terminal kind field) ps draft h rest =
      twin_missing terminal kind field ps draft (terminal_at text spot.context terminal spot.at) refl rest
  note_missing (part.Check condition) ps draft h rest = check_missing condition ps draft (holds text spot draft condition) refl rest
  note_missing part.Hole ps draft h rest = go_on (plain refl) (rest _)
  note_missing (part.Flag field) ps draft h rest = go_on (plain refl) (rest _)
  note_missing (part.Kind member) ps draft h rest = go_on (plain refl) (rest _)
  note_missing (part.Becomes kind) ps draft h rest = go_on (plain refl) (rest _)
  note_missing part.Directives ps draft h rest = go_on (plain refl) (rest _)

  -- a test that tells of the first part that reads something that it isn't there
  module _ (test : Part → Option Bool) (gone : (p : Part) → test p ≡ Some true → (draft : Draft) → ReadsPart text p spot draft Not)
      (none : (p : Part) → test p ≡ None → reads_nothing p ≡ true) where
    first_missing : (p : Part) (ps : List Part) (told : Option Bool) → test p ≡ told → unwrap_or told (at_first test ps) ≡ true →
        (at_first test ps ≡ true → Missing ps) → (draft : Draft) → ReadsParts text (p ∷ ps) spot draft Not
    first_missing p ps None is h rest draft = note_missing p ps draft (none p is) (rest h)
    first_missing p ps (Some true) is h rest draft = stop (gone p is draft) refl
    first_missing p ps (Some false) is h rest draft = absurd (cc)

    parts_missing : (ps : List Part) → at_first test ps ≡ true → (draft : Draft) → ReadsParts text ps spot draft Not
    unfolding Missing
    parts_missing [] h draft = absurd (cc)
    parts_missing (p ∷ ps) h draft = first_missing p ps (test p) refl h (parts_missing ps) draft

    rows_missing : (rows : List Row) → list_all (λ row. at_first test row.parts) rows ≡ true → (seed : Draft) → ReadsChoice text rows spot seed Not
    rows_missing [] h seed = no_row
    rows_missing (row ∷ rows) h seed =
        next_row (parts_missing row.parts (first_of_both (at_first test row.parts) (list_all (λ row. at_first test row.parts) rows) h) empty)
        (rows_missing rows (second_of_both (at_first test row.parts) (list_all (λ row. at_first test row.parts) rows) h) seed)

  -- none of the terminals of a set reads the next token
  unfoldable pub Never : ℕ → Type 0
  Never front = (terminal : Terminal) → has_terminal front terminal ≡ true → terminal_at text spot.context terminal spot.at ≡ None

  AreGone : ℕ → Type 0
  AreGone rank = (one : Symbol) (own : ℕ) → rank_of one < rank → front_of one ≡ Some own → Never own → Reads text one spot Not

  one_gone : (rank front : ℕ) (one : Symbol) (own : Option ℕ) → front_of one ≡ own →
      (nat_lt (rank_of one) rank && option_map_or (λ own. bit_or own front == front) own false) ≡ true → AreGone rank → Never front → Reads text one spot Not
  unfolding AreGone Never
  one_gone rank front one None is h lower never = let no : false ≡ true = second_of_both (nat_lt (rank_of one) rank) false h in absurd (cc)
  one_gone rank front one (Some own) is h lower never =
      lower one own (ltb-true (rank_of one) rank (first_of_both (nat_lt (rank_of one) rank) (bit_or own front == front) h)) is
      (λ terminal has. never terminal (has_more own front terminal (second_of_both (nat_lt (rank_of one) rank) (bit_or own front == front) h) has))

  symbol_part : (inner : Symbol) (change : Change) (field : Option Field) (draft : Draft) → is_same change ≡ true → Reads text inner spot Not →
      ReadsPart text (part.Symbol inner change field) spot draft Not
  unfolding after
  symbol_part inner change field draft same gone =
      subst (λ change. ReadsPart text (part.Symbol inner change field) spot draft Not) (sym (same_change change same)) (symbol {change = changes.Same} {field = field} {draft = draft} gone)

  token_gone : (p : Part) (terminal : Terminal) (draft : Draft) → Some terminal ≡ terminal_of p → terminal_at text spot.context terminal spot.at ≡ None →
      ReadsPart text p spot draft Not
  token_gone p terminal draft is none = other_token text spot draft p terminal is none

  has_gone : (rank front : ℕ) → AreGone rank → Never front → (p : Part) → has_part rank front p ≡ Some true → (draft : Draft) → ReadsPart text p spot draft Not
  unfolding has_part in_front Never
  has_gone rank front lower never (part.Token terminal) h draft = token_gone _ terminal draft refl (never terminal (cc))
  has_gone rank front lower never (part.Words terminal field) h draft = token_gone _ terminal draft refl (never terminal (cc))
  has_gone rank front lower never (part.Leaf terminal kind field) h draft = token_gone _ terminal draft refl (never terminal (cc))
  has_gone rank front lower never (part.Symbol inner change field) h draft =
      let so : (is_same change && in_front rank front inner) ≡ true = (cc) in
      symbol_part inner change field draft (first_of_both (is_same change) (in_front rank front inner) so)
      (one_gone rank front inner (front_of inner) refl (second_of_both (is_same change) (in_front rank front inner) so) lower never)
  has_gone rank front lower never (part.Deeper inner change field) h draft = absurd (cc)
  has_gone rank front lower never (part.Twin terminal kind field) h draft = absurd (cc)
  has_gone rank front lower never (part.Check condition) h draft = absurd (cc)
  has_gone rank front lower never part.Hole h draft = absurd (cc)
  has_gone rank front lower never (part.Flag field) h draft = absurd (cc)
  has_gone rank front lower never (part.Kind member) h draft = absurd (cc)
  has_gone rank front lower never (part.Becomes kind) h draft = absurd (cc)
  has_gone rank front lower never part.Directives h draft = absurd (cc)

  rule_gone : (rank front : ℕ) → AreGone rank → Never front → (one : Symbol) (form : Form) → rule_of one ≡ form → has_rule rank front form ≡ true → Reads text one spot Not
  unfolding has_rule in_front
  rule_gone rank front lower never one (Choice rows) is h =
      by_choice is (rows_missing (has_part rank front) (has_gone rank front lower never) (has_none rank front) rows h empty)
  rule_gone rank front lower never one (Behind head turns) is h = headless is (one_gone rank front head (front_of head) refl h lower never) refl
  rule_gone rank front lower never one (More turns) is h = absurd (cc)
  rule_gone rank front lower never one (Commas rows) is h = absurd (cc)

  symbols_gone : (rank : ℕ) → AreGone rank
  unfolding AreGone
  symbols_gone zero one own below is never = absurd (omega (arith, below))
  symbols_gone (suc rank) one own below is never =
      rule_gone (rank_of one) own
      (λ other its lower other_is other_never. symbols_gone rank other its (omega (arith, below, lower)) other_is other_never)
      never one (rule_of one) refl (fronted one own is)

  -- nor what begins a turn behind a symbol's head
  pub turns_never : (one : Symbol) (front : ℕ) → turn_front one ≡ Some front → Never front → (seed : Draft) →
      ReadsChoice text (turn_rows (rule_of one)) spot seed Not
  turns_never one front is never =
      rows_missing (has_part (rank_of one) front) (has_gone (rank_of one) front (symbols_gone (rank_of one)) never) (has_none (rank_of one) front)
      (turn_rows (rule_of one)) (turns_told one front is)

  module _ (set : ℕ) (exact : HasTerminals text spot.context spot.at set) where
    pub never_in : (front : ℕ) → (bit_and front set == 0) ≡ true → Never front
    unfolding Never has_terminal
    never_in front e terminal has =
        not_there text spot.context terminal spot.at set
        (not_true (goes_on terminal) (first_of_both (not (goes_on terminal)) (bit_at front (code_of terminal) == 1) has)) exact
        (apart front set (code_of terminal) e (eqb-true (bit_at front (code_of terminal)) 1 (second_of_both (not (goes_on terminal)) (bit_at front (code_of terminal) == 1) has)))

    lacks_one : (one : Symbol) (own : Option ℕ) → front_of one ≡ own → option_map_or (λ front. bit_and front set == 0) own false ≡ true → Reads text one spot Not
    unfolding AreGone
    lacks_one one None is h = absurd (cc)
    lacks_one one (Some front) is h = symbols_gone (rank_of one + 1) one front (omega arith) is (never_in front h)

    terminal_gone : (terminal : Terminal) → lacks_terminal set terminal ≡ true → terminal_at text spot.context terminal spot.at ≡ None
    terminal_gone terminal h =
        not_there text spot.context terminal spot.at set
        (not_true (goes_on terminal) (first_of_both (not (goes_on terminal)) (not (bit_at set (code_of terminal) == 1)) h)) exact
        (not_true (bit_at set (code_of terminal) == 1) (second_of_both (not (goes_on terminal)) (not (bit_at set (code_of terminal) == 1)) h))

    lacks_gone : (p : Part) → lacks_part set p ≡ Some true → (draft : Draft) → ReadsPart text p spot draft Not
    unfolding lacks_part
    lacks_gone (part.Token terminal) h draft = token_gone _ terminal draft refl (terminal_gone terminal (cc))
    lacks_gone (part.Words terminal field) h draft = token_gone _ terminal draft refl (terminal_gone terminal (cc))
    lacks_gone (part.Leaf terminal kind field) h draft = token_gone _ terminal draft refl (terminal_gone terminal (cc))
    lacks_gone (part.Symbol inner change field) h draft =
        let so : (is_same change && lacks_symbol set inner) ≡ true = (cc) in
        symbol_part inner change field draft (first_of_both (is_same change) (lacks_symbol set inner) so)
        (lacks_one inner (front_of inner) refl (second_of_both (is_same change) (lacks_symbol set inner) so))
    lacks_gone (part.Deeper inner change field) h draft = absurd (cc)
    lacks_gone (part.Twin terminal kind field) h draft = absurd (cc)
    lacks_gone (part.Check condition) h draft = absurd (cc)
    lacks_gone part.Hole h draft = absurd (cc)
    lacks_gone (part.Flag field) h draft = absurd (cc)
    lacks_gone (part.Kind member) h draft = absurd (cc)
    lacks_gone (part.Becomes kind) h draft = absurd (cc)
    lacks_gone part.Directives h draft = absurd (cc)

    pub lacks_parts : (ps : List Part) → at_first (lacks_part set) ps ≡ true → (draft : Draft) → ReadsParts text ps spot draft Not
    lacks_parts ps h draft = parts_missing (lacks_part set) lacks_gone (lacks_none set) ps h draft

    pub lacks_rows : (rows : List Row) → list_all (lacks_row set) rows ≡ true → (seed : Draft) → ReadsChoice text rows spot seed Not
    lacks_rows rows h seed = rows_missing (lacks_part set) lacks_gone (lacks_none set) rows h seed

-- lists that are gone over
pub first_step : (test : Part → Option Bool) (d : Part) (ps : List Part) (i : ℕ) → i < length ps →
    at_first test (drop i ps) ≡ unwrap_or (test (get_or ps i d)) (at_first test (drop (i + 1) ps))
first_step test d ps i h = ap (at_first test) (drop_at d ps i h)

pub first_end : (test : Part → Option Bool) (ps : List Part) (i : ℕ) → length ps ≤ i → at_first test (drop i ps) ≡ false
first_end test ps i h = ap (at_first test) (drop_all i ps h)

pub rows_step : (set : ℕ) (d : Alternative) (rows : List Alternative) (i : ℕ) → i < length rows →
    list_all (lacks_row set) (map row (drop i rows)) ≡ (at_first (lacks_part set) (get_or rows i d).parts.now && list_all (lacks_row set) (map row (drop (i + 1) rows)))
rows_step set d rows i h = ap (λ rs. list_all (lacks_row set) (map row rs)) (drop_at d rows i h)

pub rows_end : (set : ℕ) (rows : List Alternative) (i : ℕ) → length rows ≤ i → list_all (lacks_row set) (map row (drop i rows)) ≡ true
rows_end set rows i h = ap (λ rs. list_all (lacks_row set) (map row rs)) (drop_all i rows h)

pub told : {P : Type 0} (b : Bool) → (b ≡ true → P) → OnTrue b P
told true f = f refl
told false f = tt

pub on_true : {P : Type 0} (b : Bool) → OnTrue b P → b ≡ true → P
on_true true h e = h
on_true false h e = absurd (cc)
