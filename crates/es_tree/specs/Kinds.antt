-- Kinds of nodes that are spoken of together.
use Rattle.std.specs.Prelude.{ℕ, List, [], ◌∷◌}
use Rattle.es_tree.specs.declared.kind.TheConstants.{ARROW_FUNCTION_EXPRESSION, CLASS_DECLARATION, CLASS_EXPRESSION, DO_WHILE_STATEMENT, FOR_IN_STATEMENT, FOR_OF_STATEMENT, FOR_STATEMENT, FUNCTION_DECLARATION, FUNCTION_EXPRESSION, METHOD_DEFINITION, PROPERTY_DEFINITION, STATIC_BLOCK, SWITCH_STATEMENT, WHILE_STATEMENT}

abbrev pub functions : List ℕ
functions = FUNCTION_DECLARATION ∷ FUNCTION_EXPRESSION ∷ ARROW_FUNCTION_EXPRESSION ∷ []

-- what jumps and labels don't cross, and `return` looks for
abbrev pub functions_and_static_blocks : List ℕ
functions_and_static_blocks = FUNCTION_DECLARATION ∷ FUNCTION_EXPRESSION ∷ ARROW_FUNCTION_EXPRESSION ∷ STATIC_BLOCK ∷ []

-- IterationStatement (14.7)
abbrev pub loops : List ℕ
loops = DO_WHILE_STATEMENT ∷ WHILE_STATEMENT ∷ FOR_STATEMENT ∷ FOR_IN_STATEMENT ∷ FOR_OF_STATEMENT ∷ []

-- BreakableStatement (14)
abbrev pub loops_and_switches : List ℕ
loops_and_switches = DO_WHILE_STATEMENT ∷ WHILE_STATEMENT ∷ FOR_STATEMENT ∷ FOR_IN_STATEMENT ∷ FOR_OF_STATEMENT ∷ SWITCH_STATEMENT ∷ []

abbrev pub classes : List ℕ
classes = CLASS_DECLARATION ∷ CLASS_EXPRESSION ∷ []

-- the members of a class that have a key
abbrev pub members : List ℕ
members = METHOD_DEFINITION ∷ PROPERTY_DEFINITION ∷ []
