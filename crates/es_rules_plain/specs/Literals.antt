-- What sort of value a Literal has. ECMA-262, 13.2.3 and 12.9.
use Rattle.std.specs.Prelude.{ℕ, Bool, false, true, ◌&&◌, ◌||◌, ◌==◌, List, [], ◌∷◌, Option, None, Some, codes, if◌then◌else◌, slice_get}
use Rattle.std.specs.Option.{is_some, option_and_then, option_map_or}
use Rattle.es_text.specs.Characters.{apostrophe, quotation_mark}
use Rattle.es_tree.specs.declared.kind.TheConstants.{LITERAL}
use Rattle.es_tree.specs.Around.{is_one_of, is_text, words_of}
use Rattle.es_tree.specs.Rows.{Row}
use Rattle.es_rules_plain.specs.declared.literals.Sort.{Sort}
use Rattle.es_rules_plain.specs.declared.literals.Sort.TheVariants as sort
use Rattle.es_rules_plain.specs.declared.literals.TheConstants.{BIGINT, RAW, REGEX}

-- what is spelled so begins with a quote
abbrev pub is_quoted : Option (List ℕ) → Bool
is_quoted spelling = option_map_or (λ bytes. option_map_or (λ byte. byte == quotation_mark || byte == apostrophe) (slice_get bytes 0) false) spelling false

abbrev pub sort_by_spelling : Option (List ℕ) → Sort
sort_by_spelling spelling =
    if is_text spelling (codes "null") then sort.Null
    else if is_text spelling (codes "true") || is_text spelling (codes "false") then sort.Boolean
    else if is_quoted spelling then sort.Text
    else sort.Number

-- regular expressions and bigints have attributes of their own
abbrev pub sort_by_attributes : List Row → ℕ → Sort
sort_by_attributes rows node =
    if is_some (words_of rows node REGEX) then sort.RegExp
    else if is_some (words_of rows node BIGINT) then sort.BigInt
    else sort_by_spelling (words_of rows node RAW)

-- the sort of a Literal, which no other node has
abbrev pub sort_of : List Row → ℕ → Option Sort
sort_of rows node = if is_one_of (LITERAL ∷ []) rows node then Some (sort_by_attributes rows node) else None

-- the node is a Text
abbrev pub is_text_literal : List Row → ℕ → Bool
is_text_literal rows node = is_one_of (LITERAL ∷ []) rows node && is_quoted (words_of rows node RAW)

-- the sort of a literal, if there is one
abbrev pub some_sort : List Row → Option ℕ → Option Sort
some_sort rows node = option_and_then (sort_of rows) node

abbrev pub is_sort : Sort → Sort → Bool
is_sort sort.Null sort.Null = true
is_sort sort.Boolean sort.Boolean = true
is_sort sort.Number sort.Number = true
is_sort sort.BigInt sort.BigInt = true
is_sort sort.Text sort.Text = true
is_sort sort.RegExp sort.RegExp = true
is_sort a b = false

-- there are two sorts, and they are the same
abbrev pub is_same_sort : Option Sort → Option Sort → Bool
is_same_sort a b = option_map_or (λ sort. option_map_or (is_sort sort) b false) a false
