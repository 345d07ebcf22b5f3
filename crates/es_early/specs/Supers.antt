-- `super` where nothing gives it a meaning (ECMA-262, 13.3.7, 15.4.2 HasDirectSuper, 15.4.1, 15.7.1 and
-- 16.1.1). Arrow functions are looked through (15.3.2 Contains), and so are computed keys (8.5.2
-- ComputedPropertyContains) and heritages.
use Rattle.std.specs.Prelude.{ℕ, Bool, false, not, ◌&&◌, ◌||◌, List, [], ◌∷◌, Option, Some, None, find, codes, if◌then◌else◌}
use Rattle.std.specs.Option.{is_some}
use Rattle.es_tree.specs.declared.kind.TheConstants.{CALL_EXPRESSION, FUNCTION_DECLARATION, FUNCTION_EXPRESSION, METHOD_DEFINITION, PROPERTY, PROPERTY_DEFINITION, STATIC_BLOCK, SUPER}
use Rattle.es_tree.specs.Rows.{Row}
use Rattle.es_tree.specs.Around.{ancestors, child, is_one_of, is_set, is_text, parent, stands_as, words_of}
use Rattle.es_tree.specs.declared.field.TheConstants.{CALLEE, MEMBER_KIND, METHOD, SUPER_CLASS, VALUE}

abbrev pub plain_functions : List ℕ
plain_functions = FUNCTION_DECLARATION ∷ FUNCTION_EXPRESSION ∷ []

-- the node gives `super` inside of it a meaning, or takes it away: a function that isn't an arrow
-- function, a static block, or the value of a field of a class
abbrev pub binds_super : List Row → ℕ → Bool
binds_super rows node =
    is_one_of (FUNCTION_DECLARATION ∷ FUNCTION_EXPRESSION ∷ STATIC_BLOCK ∷ []) rows node
    || stands_as (PROPERTY_DEFINITION ∷ []) VALUE rows node

-- the innermost node around a node that binds `super`
abbrev pub super_around : List Row → ℕ → Option ℕ
super_around rows node = find (binds_super rows) (ancestors rows node)

-- the property is a method, a getter or a setter
abbrev pub is_method_property : List Row → ℕ → Bool
is_method_property rows property =
    is_set rows property METHOD
    || (is_text (words_of rows property MEMBER_KIND) (codes "get") || is_text (words_of rows property MEMBER_KIND) (codes "set"))

-- a node that may be missing has this
abbrev pub if_some : (ℕ → Bool) → Option ℕ → Bool
if_some test None = false
if_some test (Some node) = test node

-- the function is the value of a method (15.4 MethodDefinition)
abbrev pub is_method : List Row → ℕ → Bool
is_method rows function =
    stands_as (METHOD_DEFINITION ∷ []) VALUE rows function
    || (stands_as (PROPERTY ∷ []) VALUE rows function && if_some (is_method_property rows) (parent rows function))

-- the node lets a SuperProperty inside of it stand
abbrev pub lets_super_property : List Row → ℕ → Bool
lets_super_property rows node = not (is_one_of plain_functions rows node) || is_method rows node

-- the class has a heritage
abbrev pub has_heritage : List Row → ℕ → Bool
has_heritage rows class = is_some (child rows class SUPER_CLASS)

-- the method is its class's constructor, and the class has a heritage: the method's parent is the body
-- of the class
abbrev pub is_derived_constructor : List Row → ℕ → Bool
is_derived_constructor rows method =
    is_text (words_of rows method MEMBER_KIND) (codes "constructor")
    && if_some (λ body. if_some (has_heritage rows) (parent rows body)) (parent rows method)

-- the node lets a SuperCall inside of it stand: it is the function of the constructor of a class with a
-- heritage
abbrev pub lets_super_call : List Row → ℕ → Bool
lets_super_call rows node =
    stands_as (METHOD_DEFINITION ∷ []) VALUE rows node
    && (is_one_of plain_functions rows node && if_some (is_derived_constructor rows) (parent rows node))

-- the `super` is the callee of a SuperCall
abbrev pub is_super_call : List Row → ℕ → Bool
is_super_call rows node = stands_as (CALL_EXPRESSION ∷ []) CALLEE rows node

abbrev pub lets_super : List Row → ℕ → Bool
lets_super rows node =
    if is_super_call rows node then if_some (lets_super_call rows) (super_around rows node)
    else if_some (lets_super_property rows) (super_around rows node)

abbrev pub is_stray_super : List Row → ℕ → Bool
is_stray_super rows node = is_one_of (SUPER ∷ []) rows node && not (lets_super rows node)
