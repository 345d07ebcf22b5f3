-- What rules of nodes and rules of files say.
use Rattle.std.specs.Prelude.{ℕ, Bool, false, nat_lt, List, [], ◌∷◌, Option, None, Some, map, unwrap_or}
use Rattle.std.specs.List.{flat_map, list_all}
use Rattle.es_text.specs.declared.finding.Finding.{Finding}
use Rattle.es_text.specs.declared.finding.Fix.{Fix}
use Rattle.es_text.specs.declared.span.Span.{Span}
use Rattle.es_tree.specs.Rows.{Row, kind_of, length_of, parent_of, span_of}
use Rattle.es_tree.specs.Around.{joined}
use Rattle.es_selectors.specs.declared.selector.Atom.{roll-Atom}
use Rattle.es_selectors.specs.declared.selector.Atom.TheOpen.{Atom-F}
use Rattle.es_selectors.specs.declared.selector.Spelling.{Spelling}
use Rattle.es_settings.specs.declared.verdict.Verdict.{Verdict}
use Rattle.es_settings.specs.declared.verdict.Verdict.TheVariants.{BadOption, Fine}
use Rattle.es_settings.specs.Settings.{Options}
use Rattle.es_host.specs.declared.nodes.Asked.{Asked}
use Rattle.es_host.specs.Files.{File, rows_in}
use Rattle.es_host.specs.Lawful.{told}
use Rattle.es_host.specs.Meanings.{Event, Meaning}
use Rattle.es_host.specs.Order.{ordered}
use Rattle.es_host.specs.Walk.{walk}

-- what a rule means that looks at one node at a time
pub record NodeMeaning : Type 0 where
  pub id : List ℕ
  pub verdict : Options → Verdict
  pub interest : Options → List Spelling
  -- what it finds at a node that the selector at this index of its interest matches
  pub finds : File → Options → (node which : ℕ) → List Finding

-- what a rule means that looks at a file as a whole
pub record FileMeaning : Type 0 where
  pub id : List ℕ
  pub verdict : Options → Verdict
  pub finds : File → Options → List Finding

-- what a rule means that takes no options and looks at one node at a time
pub record SimpleNodeMeaning : Type 0 where
  pub id : List ℕ
  -- the kinds of the nodes that it asks for
  pub kinds : List ℕ
  -- what it finds at a node of one of them
  pub finds : File → (node : ℕ) → List Finding

-- what a rule means that takes no options and looks at a file as a whole
pub record SimpleFileMeaning : Type 0 where
  pub id : List ℕ
  pub finds : File → List Finding

-- a node that was told, with the index of the selector
abbrev pub asked_of : Event → Asked
asked_of event = record { node = event.node; which = event.which }

-- the nodes that selectors match, in the order of the walk, and at a node in the order of the selectors
abbrev pub asked_in : List Row → List Spelling → List Asked
asked_in rows interest = map asked_of (told rows interest (walk rows))

abbrev pub finds_at : NodeMeaning → File → Options → Asked → List Finding
finds_at meaning file options asked = meaning.finds file options asked.node asked.which

-- it says what it finds at the nodes that its interest matches, in the order of findings
abbrev pub of_nodes : NodeMeaning → Meaning
of_nodes meaning = record {
  id = meaning.id;
  verdict = meaning.verdict;
  interest = meaning.interest;
  says = λ file options. ordered (flat_map (finds_at meaning file options) (asked_in (rows_in file) (meaning.interest options)));
}

-- it asks for no node, and says what it finds, in the order of findings
abbrev pub of_files : FileMeaning → Meaning
of_files meaning = record {
  id = meaning.id;
  verdict = meaning.verdict;
  interest = λ options. [];
  says = λ file options. ordered (meaning.finds file options);
}

-- ---- rules without options

-- no options at all are taken
abbrev pub takes_none : Options → Verdict
takes_none [] = Fine
takes_none (option ∷ options) = BadOption

-- the selector of the nodes of this kind
abbrev pub of_kind : ℕ → Spelling
of_kind kind = record { chains = record { first = roll-Atom (Atom-F.Kind (Some kind)) ∷ []; links = [] } ∷ []; exit = false }

abbrev pub simple_nodes : SimpleNodeMeaning → NodeMeaning
simple_nodes meaning = record {
  id = meaning.id;
  verdict = takes_none;
  interest = λ options. map of_kind meaning.kinds;
  finds = λ file options node which. meaning.finds file node;
}

abbrev pub simple_file : SimpleFileMeaning → FileMeaning
simple_file meaning = record { id = meaning.id; verdict = takes_none; finds = λ file options. meaning.finds file }

-- ---- words for rules

-- the bytes are ASCII, so that they are the characters, too
abbrev pub is_plain : List ℕ → Bool
is_plain bytes = list_all (λ byte. nat_lt byte 128) bytes

-- the span of a node
abbrev pub span_at : List Row → ℕ → Span
span_at rows node = unwrap_or (span_of rows node) (record { start = 0; end = 0 })

-- how many children and holes stand in the list field of a node
abbrev pub count_places : List Row → ℕ → ℕ → ℕ
count_places rows node field = unwrap_or (joined (length_of rows node field)) 0

-- the kind of a node's parent; the Program has none
abbrev pub kind_above : List Row → Option (Option ℕ) → Option ℕ
kind_above rows (Some (Some parent)) = kind_of rows parent
kind_above rows (Some None) = None
kind_above rows None = None

abbrev pub parent_kind : List Row → ℕ → Option ℕ
parent_kind rows node = kind_above rows (parent_of rows node)

-- what is said of a span
abbrev pub found : Span → List ℕ → Option Fix → Finding
found span text fix = record { span = span; text = text; fix = fix }
