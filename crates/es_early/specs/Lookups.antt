-- What is looked up of a whole tree, and how its first error is found, as the code does it.
use denote.Ref.{Bor}
use Rattle.std.specs.Prelude.{◌≡◌, ℕ, ◌≤◌, Bool, ◌&&◌, nat_eq, length, List, [], ◌∷◌, Option, Some, None, if◌then◌else◌}
use Rattle.std.specs.HashMap.{HashMap, get}
use Rattle.std.specs.Option as std
use Rattle.es_text.specs.declared.token.SourceType.{SourceType}
use Rattle.es_tree.specs.declared.kind.TheConstants.{ARRAY_PATTERN, ARROW_FUNCTION_EXPRESSION, ASSIGNMENT_PATTERN, CATCH_CLAUSE, CLASS_DECLARATION, FUNCTION_DECLARATION, FUNCTION_EXPRESSION, IMPORT_DEFAULT_SPECIFIER, IMPORT_NAMESPACE_SPECIFIER, IMPORT_SPECIFIER, OBJECT_PATTERN, PROPERTY, REST_ELEMENT, VARIABLE_DECLARATOR}
use Rattle.es_tree.specs.Rows.{Row}
use Rattle.es_tree.specs.Around.{is_some, is_text, name_of, parent}
use Rattle.es_early.specs.declared.code.Early.{Early}
use Rattle.es_early.specs.declared.firsts.Firsts.{Firsts}
use Rattle.es_early.specs.Declarations.{declares, is_lexical}
use Rattle.es_early.specs.Defaults.{is_default}
use Rattle.es_early.specs.Errors.{IsError, is_before}
use Rattle.es_early.specs.Notes.{HasFirsts, first_of, noted_at}
use Rattle.es_early.specs.PrivateNames.{declares_private}

-- the kinds of nodes that can declare the names that stand right in them
abbrev pub binders : List ℕ
binders =
    VARIABLE_DECLARATOR ∷ PROPERTY ∷ ASSIGNMENT_PATTERN ∷ ARRAY_PATTERN ∷ OBJECT_PATTERN ∷ REST_ELEMENT ∷ FUNCTION_DECLARATION ∷ FUNCTION_EXPRESSION ∷ ARROW_FUNCTION_EXPRESSION ∷ CATCH_CLAUSE ∷ CLASS_DECLARATION ∷ IMPORT_SPECIFIER ∷ IMPORT_DEFAULT_SPECIFIER ∷ IMPORT_NAMESPACE_SPECIFIER ∷ []

-- the node is a DefaultClause of this switch
abbrev pub is_default_of : List Row → ℕ → ℕ → Bool
is_default_of rows switch node = is_default rows node && is_some (parent rows node) switch

-- for each switch its first DefaultClause is noted, among so many nodes
abbrev pub HasDefaults : {S : Type 0} → List Row → ℕ → HashMap ℕ ℕ S → Type 0
HasDefaults rows count notes = (switch : ℕ) → get nat_eq notes switch ≡ first_of (is_default_of rows switch) count

-- the private name is the key of a member of this class body, and this name
abbrev pub declares_named : List Row → ℕ → List ℕ → ℕ → Bool
declares_named rows body name node = declares_private rows body node && is_text (name_of rows node) name

-- the node declares this name in this scope
abbrev pub declares_name : List Row → ℕ → List ℕ → ℕ → Bool
declares_name rows scope name node = declares rows scope node && is_text (name_of rows node) name

-- the node declares this name in this scope by `let`, `const`, `class` or `import`
abbrev pub declares_lexically : List Row → ℕ → List ℕ → ℕ → Bool
declares_lexically rows scope name node = is_lexical rows node && declares_name rows scope name node

-- the node declares this name in this scope, at which one is noted that does so lexically
abbrev pub declares_beside : {S : Type 0} → List Row → HashMap (ℕ × Bor (List ℕ)) ℕ S → ℕ → List ℕ → ℕ → Bool
declares_beside rows lexical scope name node = std.is_some (noted_at lexical scope name) && declares_name rows scope name node

-- the least code of the errors that the node is, or none where it is no error
abbrev pub IsLeastCode : List Row → SourceType → ℕ → Option ℕ → Type 0
IsLeastCode rows source_type node None = (code : ℕ) → IsError rows source_type code node → ⊥
IsLeastCode rows source_type node (Some code) =
    IsError rows source_type code node × ((other : ℕ) → IsError rows source_type other node → code ≤ other)

-- the earlier of both, of which the first may be missing
abbrev pub earlier_of : Option Early → Early → Early
earlier_of None other = other
earlier_of (Some first) other = if is_before first other then first else other

-- what is looked up is that of this tree
pub record AreFirsts (rows : List Row) (firsts : Firsts) : Type 0 where
  pub lexical : HasFirsts (declares_lexically rows) (length rows) firsts.lexical
  pub declared : HasFirsts (declares_beside rows firsts.lexical) (length rows) firsts.declared
  pub private_names : HasFirsts (declares_named rows) (length rows) firsts.private_names
  pub defaults : HasDefaults rows (length rows) firsts.defaults
