-- The positions of the attributes that are true or false.
use Rattle.std.specs.Prelude.{ℕ, List, filter, map, position}
use Rattle.std.specs.List.{list_any}
use Rattle.std.specs.Option.{unwrap_or}
use Rattle.std.specs.Str.{bytes_eq}
use Rattle.es_tables.specs.Nodes.{NodeRow, names_of}
use Rattle.es_grammar.specs.Drafts.{flag_words}

-- among the fields of a kind
abbrev pub flags_in : NodeRow → List ℕ
flags_in row =
    map (λ name. unwrap_or (position (bytes_eq name) (names_of row)) 0)
    (filter (λ name. list_any (bytes_eq name) flag_words) row.attributes)
