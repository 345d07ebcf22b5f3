-- Variables and references speak of nodes, scopes and variables that are there.
use Rattle.std.proofs.Common.{◌≡◌, ◌∙◌, ℕ, zero, suc, ◌+◌, ◌<◌, List, [], ◌∷◌, ◌++◌, length, Bool, true, false, Option, Some, None, refl, ap, arith}
use Rattle.std.specs.Prelude.{◌==◌, All, IfSome, filter, option_map, if◌then◌else◌}
use Rattle.std.specs.List.{flat_map, range_with_len}
use Rattle.std.proofs.lemmas.List.Elements.{All-append, All-cons, All-filter, All-head, All-nil, All-same, All-tail}
use Rattle.es_tree.specs.Around.{is_one_of, name_of, parent}
use Rattle.es_tree.specs.Rows.{Row}
use Rattle.es_tree.specs.declared.kind.TheConstants.{IDENTIFIER}
use Rattle.es_scopes.specs.declared.binding.DeclarationKind.{DeclarationKind}
use Rattle.es_scopes.specs.declared.binding.DeclarationKind.TheVariants.{Arguments, Own}
use Rattle.es_scopes.specs.declared.declarations.Declaration.{Declaration}
use Rattle.es_scopes.specs.declared.scope.Scope.{Scope}
use Rattle.es_scopes.specs.declared.uses.Use.{Use}
use Rattle.es_scopes.specs.Analysis.{IsReferenceIn, IsVariableIn}
use Rattle.es_scopes.specs.Bindings.{kind_declared, plain_functions}
use Rattle.es_scopes.specs.Chains.{outward}
use Rattle.es_scopes.specs.Declarations.{declarations, declared_arguments, declared_at, declared_in, declared_inside, declared_outside, in_scope, is_named, name_declared, names_inside, out_to, some_list, with_some}
use Rattle.es_scopes.specs.Places.{first_some, inside, or_else, own_scope, scopes, scope_of, stands}
use Rattle.es_scopes.specs.Uses.{reference_at, references, referring, use_of, variable_of}
use Rattle.es_scopes.specs.Variables.{Named, found_in, gathered, is_of, is_other, nodes_named, resolves, variables, variables_in}
use Rattle.es_scopes.proofs.ListLemmas.{flat_map-more}
use Rattle.es_scopes.proofs.VariablesLemmas.{found-within}

all_range : {A : Type 0} (P : A → Type 0) (f : ℕ → List A) (count : ℕ) → ((n : ℕ) → n < count → All P (f n))
    → All P (flat_map f (range_with_len 0 count))
all_range P f zero each = All-nil P
all_range P f (suc count) each =
    let e : suc count ≡ count + 1 = omega arith in
    let last : count < suc count = omega arith in
    All-same P (flat_map f (range_with_len 0 (suc count))) (flat_map f (range_with_len 0 count) ++ f count)
    (ap (λ (n : ℕ). flat_map f (range_with_len 0 n)) e ∙ flat_map-more f count)
    (All-append P (flat_map f (range_with_len 0 count)) (f count) (all_range P f count (λ n less. each n (omega (arith, less)))) (each count last))

some_where : (found : Option ℕ) (count : ℕ) → ((i : ℕ) → found ≡ Some i → i < count) → IfSome found (λ i. i < count)
some_where None count each = tt
some_where (Some i) count each = each i refl

first_step : (found rest : Option ℕ) (P : ℕ → Type 0) → IfSome found P → IfSome rest P → IfSome (or_else found rest) P
first_step None rest P here there = there
first_step (Some i) rest P here there = here

first_where : (found : ℕ → Option ℕ) (P : ℕ → Type 0) → ((n : ℕ) → IfSome (found n) P) → (xs : List ℕ) → IfSome (first_some found xs) P
first_where found P each [] = tt
first_where found P each (x ∷ xs) = first_step (found x) (first_some found xs) P (each x) (first_where found P each xs)

-- what a name resolves to is one of the variables
pub resolves-within : (chain : List Scope) (vs : List Named) (scope : ℕ) (name : List ℕ) → IfSome (resolves chain vs scope name) (λ v. v < length vs)
resolves-within chain vs scope name =
    first_where (found_in vs name) (λ v. v < length vs)
    (λ s. some_where (found_in vs name s) (length vs) (λ i is. found-within (is_of s name) vs i is)) (outward chain scope)

variable_within : (rows : List Row) (node : ℕ) (name : Option (List ℕ)) → IfSome (variable_of rows node name) (λ v. v < length (variables rows))
variable_within rows node None = tt
variable_within rows node (Some name) = resolves-within (scopes rows) (variables rows) (scope_of rows node) name

reference_inside : (rows : List Row) (node count : ℕ) (found : Option Use) → node < count
    → All (IsReferenceIn (length (variables rows)) count) (referring rows node found)
reference_inside rows node count None less = All-nil (IsReferenceIn (length (variables rows)) count)
reference_inside rows node count (Some found) less =
    All-cons (IsReferenceIn (length (variables rows)) count)
    (record { node = node; read = found.read; write = found.write; variable = variable_of rows node (name_of rows node) }) []
    (less, variable_within rows node (name_of rows node)) (All-nil (IsReferenceIn (length (variables rows)) count))

pub references-inside : (rows : List Row) → All (IsReferenceIn (length (variables rows)) (length rows)) (references rows)
references-inside rows =
    all_range (IsReferenceIn (length (variables rows)) (length rows)) (reference_at rows) (length rows)
    (λ node less. reference_inside rows node (length rows) (use_of rows node) less)

-- the Identifier of the declaration is among so many nodes
abbrev HasNode : ℕ → Declaration → Type 0
HasNode count d = IfSome d.node (λ node. node < count)

listed_node : (count : ℕ) (kind : DeclarationKind) (node scope : Option ℕ) → IfSome node (λ n. n < count)
    → All (HasNode count) (some_list (in_scope kind node scope))
listed_node count kind at None less = All-nil (HasNode count)
listed_node count kind at (Some scope) less =
    All-cons (HasNode count) (record { scope = scope; kind = kind; node = at }) [] less (All-nil (HasNode count))

outside_node : (rows : List Row) (count node : ℕ) (kind : Option DeclarationKind) → node < count
    → All (HasNode count) (some_list (with_some kind (λ k. in_scope k (Some node) (with_some (stands rows node) (out_to (scopes rows) k)))))
outside_node rows count node None less = All-nil (HasNode count)
outside_node rows count node (Some kind) less =
    listed_node count kind (Some node) (with_some (stands rows node) (out_to (scopes rows) kind)) less

if_node : (count : ℕ) (kind : DeclarationKind) (node scope : Option ℕ) (is : Bool) → IfSome node (λ n. n < count)
    → All (HasNode count) (some_list (if is then in_scope kind node scope else None))
if_node count kind at scope true less = listed_node count kind at scope less
if_node count kind at scope false less = All-nil (HasNode count)

identifier_node : (rows : List Row) (count node : ℕ) (is : Bool) → node < count
    → All (HasNode count) (if is then some_list (declared_outside rows node) ++ some_list (declared_inside rows node) else [])
identifier_node rows count node true less =
    All-append (HasNode count) (some_list (declared_outside rows node)) (some_list (declared_inside rows node))
    (outside_node rows count node (kind_declared rows node) less)
    (if_node count Own (Some node) (option_map (own_scope rows) (parent rows node)) (names_inside rows node) less)
identifier_node rows count node false less = All-nil (HasNode count)

declared_nodes : (rows : List Row) (count node : ℕ) → node < count → All (HasNode count) (declared_at rows node)
declared_nodes rows count node less =
    All-append (HasNode count) (some_list (declared_arguments rows node))
    (if is_one_of (IDENTIFIER ∷ []) rows node then some_list (declared_outside rows node) ++ some_list (declared_inside rows node) else [])
    (if_node count Arguments None (inside rows node) (is_one_of plain_functions rows node) tt)
    (identifier_node rows count node (is_one_of (IDENTIFIER ∷ []) rows node) less)

some_nodes : (count : ℕ) (node : Option ℕ) → IfSome node (λ n. n < count) → All (λ n. n < count) (some_list node)
some_nodes count None less = All-nil (λ n. n < count)
some_nodes count (Some node) less = All-cons (λ n. n < count) node [] less (All-nil (λ n. n < count))

all_nodes : (count : ℕ) (ds : List Declaration) → All (HasNode count) ds → All (λ n. n < count) (flat_map (λ d. some_list d.node) ds)
all_nodes count [] each = All-nil (λ n. n < count)
all_nodes count (d ∷ ds) each =
    All-append (λ n. n < count) (some_list d.node) (flat_map (λ (e : Declaration). some_list e.node) ds)
    (some_nodes count d.node (All-head (HasNode count) d ds each))
    (all_nodes count ds (All-tail (HasNode count) d ds each))

gathered_inside : (rows : List Row) (scope count : ℕ) → scope < length (scopes rows) → (ds : List Declaration) → All (HasNode count) ds
    → All (IsVariableIn (length (scopes rows)) count) (gathered rows scope ds)
gathered_inside rows scope count less [] each = All-nil (IsVariableIn (length (scopes rows)) count)
gathered_inside rows scope count less (d ∷ ds) each =
    let name = name_declared rows d.node in
    All-cons (IsVariableIn (length (scopes rows)) count)
    (record { name = name; scope = scope; kind = d.kind; nodes = nodes_named rows name (d ∷ ds) })
    (filter (is_other name) (gathered rows scope ds))
    (less, all_nodes count (filter (is_named rows name) (d ∷ ds)) (All-filter (is_named rows name) (HasNode count) (d ∷ ds) each))
    (All-filter (is_other name) (IsVariableIn (length (scopes rows)) count) (gathered rows scope ds)
    (gathered_inside rows scope count less ds (All-tail (HasNode count) d ds each)))

pub variables-inside : (rows : List Row) → All (IsVariableIn (length (scopes rows)) (length rows)) (variables rows)
variables-inside rows =
    all_range (IsVariableIn (length (scopes rows)) (length rows)) (variables_in rows) (length (scopes rows))
    (λ scope less. gathered_inside rows scope (length rows) less (declared_in (declarations rows) scope)
    (All-filter (λ d. d.scope == scope) (HasNode (length rows)) (declarations rows)
    (all_range (HasNode (length rows)) (declared_at rows) (length rows) (λ node within. declared_nodes rows (length rows) node within))))
