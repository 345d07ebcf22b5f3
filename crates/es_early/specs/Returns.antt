-- A `return` outside of a function (ECMA-262, 14.10: the parameter Return, which only function bodies
-- set).
use Rattle.std.specs.Prelude.{ℕ, Bool, true, false, not, ◌&&◌, List, [], ◌∷◌, Option, Some, None, find}
use Rattle.es_text.specs.declared.token.SourceType.{SourceType}
use Rattle.es_text.specs.declared.token.SourceType.TheVariants.{Module, Commonjs, Script}
use Rattle.es_tree.specs.declared.kind.TheConstants.{RETURN_STATEMENT}
use Rattle.es_tree.specs.Rows.{Row}
use Rattle.es_tree.specs.Around.{ancestors, is_one_of}
use Rattle.es_tree.specs.Kinds.{functions, functions_and_static_blocks}

-- the innermost function or static block around the node. A statement stands in the value of a field of
-- a class only inside of one of these
abbrev pub function_around : List Row → ℕ → Option ℕ
function_around rows node = find (is_one_of functions_and_static_blocks rows) (ancestors rows node)

-- the code of a CommonJS module's Program is the body of a function
abbrev pub is_function_body : SourceType → Bool
is_function_body Module = false
is_function_body Commonjs = true
is_function_body Script = false

-- what is around lets a `return` stand
abbrev pub lets_return : List Row → SourceType → Option ℕ → Bool
lets_return rows source_type None = is_function_body source_type
lets_return rows source_type (Some around) = is_one_of functions rows around

abbrev pub is_stray_return : List Row → SourceType → ℕ → Bool
is_stray_return rows source_type node =
    is_one_of (RETURN_STATEMENT ∷ []) rows node && not (lets_return rows source_type (function_around rows node))
