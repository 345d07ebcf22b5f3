-- no-duplicate-case: a clause of a switch whose test has the tokens of an earlier clause's test. A token is told by its
-- text, which no token of another kind has.
use Rattle.std.specs.Prelude.{ℕ, Bool, false, List, [], ◌∷◌, Option, None, Vec, codes, if◌then◌else◌, map, option_and_then, option_map, slice_range}
use Rattle.std.specs.List.{flat_map, list_any, range_with_len}
use Rattle.std.specs.Option.{option_map_or}
use Rattle.std.specs.Cmp.Lexicographic.{pointwise}
use Rattle.std.specs.HashSet.{HashSet, contains}
use Rattle.std.specs.Str.{bytes_eq}
use Rattle.std.specs.declared.alloc.Global.{Global}
use denote.Ref.{Bor}
use Rattle.es_text.specs.declared.finding.Finding.{Finding}
use Rattle.es_text.specs.declared.span.Span.{Span}
use Rattle.es_text.specs.declared.token.Token.{Token}
use Rattle.es_text.specs.Texts.{text_bytes}
use Rattle.es_tree.specs.declared.field.TheConstants.{TEST}
use Rattle.es_tree.specs.declared.kind.TheConstants.{SWITCH_STATEMENT}
use Rattle.es_tree.specs.Around.{child, joined}
use Rattle.es_tree.specs.Rows.{field_child_of}
use Rattle.es_host.specs.Files.{File, rows_in}
use Rattle.es_host.specs.Nodes.{SimpleNodeMeaning, count_places, found, span_at}
use Rattle.es_host.specs.TokensAround.{tokens_in}
use Rattle.es_rules_plain.specs.declared.no_duplicate_case.TheConstants.{CASES}

unfoldable pub duplicate : List ℕ
duplicate = codes "Duplicate case label."

abbrev pub text_of : File → Token → List ℕ
text_of file token = slice_range (text_bytes file.text) token.span.start token.span.end

-- the texts of the tokens in a span
abbrev pub texts_in : File → Span → List (List ℕ)
texts_in file span = map (text_of file) (tokens_in file span)

-- those of a clause's test; a `default` has none
abbrev pub test_texts : File → ℕ → Option (List (List ℕ))
test_texts file clause = option_map (λ test. texts_in file (span_at (rows_in file) test)) (child (rows_in file) clause TEST)

-- the clause at this index of a switch, and the texts of its test
abbrev pub clause_at : File → ℕ → ℕ → Option ℕ
clause_at file switch index = joined (field_child_of (rows_in file) switch CASES index)

abbrev pub texts_at : File → ℕ → ℕ → Option (List (List ℕ))
texts_at file switch index = option_and_then (test_texts file) (clause_at file switch index)

-- these are the same texts, one by one
abbrev pub same_texts : List (List ℕ) → List (List ℕ) → Bool
same_texts = pointwise bytes_eq

abbrev pub are_texts : List (List ℕ) → Option (List (List ℕ)) → Bool
are_texts texts given = option_map_or (λ others. same_texts others texts) given false

-- the clause at this index has a test of these texts
abbrev pub has_texts : List (List ℕ) → File → ℕ → ℕ → Bool
has_texts texts file switch index = are_texts texts (texts_at file switch index)

-- a test of these texts stands in a clause before the one at this index
abbrev pub stands_before : File → ℕ → ℕ → List (List ℕ) → Bool
stands_before file switch index texts = list_any (has_texts texts file switch) (range_with_len 0 index)

abbrev pub is_repeated : File → ℕ → ℕ → ℕ → Bool
is_repeated file switch index clause = option_map_or (stands_before file switch index) (test_texts file clause) false

abbrev pub said_of : File → ℕ → ℕ → ℕ → List Finding
said_of file switch index clause = if is_repeated file switch index clause then found (span_at (rows_in file) clause) duplicate None ∷ [] else []

abbrev pub said_at : File → ℕ → ℕ → List Finding
said_at file switch index = option_map_or (said_of file switch index) (clause_at file switch index) []

abbrev pub no_duplicate_case : SimpleNodeMeaning
no_duplicate_case = record {
  id = codes "no-duplicate-case";
  kinds = SWITCH_STATEMENT ∷ [];
  finds = λ file node. flat_map (said_at file node) (range_with_len 0 (count_places (rows_in file) node CASES));
}

-- ---- texts that were seen

-- a list of parts of a text, and these as texts
abbrev pub Texts : Type 0
Texts = Vec (Bor (List ℕ)) Global

abbrev pub texts_of : Texts → List (List ℕ)
texts_of texts = map (λ text. text.now) texts.items

abbrev pub same : Texts → Texts → Bool
same one other = same_texts (texts_of one) (texts_of other)

abbrev pub has : {S : Type 0} → HashSet Texts S → Texts → Bool
has seen texts = contains same seen texts
