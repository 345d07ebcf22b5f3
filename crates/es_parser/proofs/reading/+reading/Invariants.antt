use Rattle.std.proofs.Common.{◌≡◌, ◌≤◌, ℕ, ◌+◌, ◌-◌, ◌*◌, length, map, drop}
use Rattle.std.specs.Prelude.{true, min}
use Rattle.std.specs.Str.{IsCharBoundary}
use Rattle.es_grammar.specs.declared.draft.Draft.{Draft}
use Rattle.es_grammar.specs.declared.draft.Outcome.{Outcome}
use Rattle.es_grammar.specs.Contexts.{moved}
use Rattle.es_grammar.specs.Ranks.{rank_of}
use Rattle.es_grammar.specs.Rules.{row, turns}
use Rattle.es_grammar.specs.Reading.{ReadsChoice, ReadsCommas, ReadsParts, ReadsTurns}
use Rattle.es_grammar.specs.Drafts.{empty}
use Rattle.es_parser.specs.Sketches.{IsFaint, all_lower}
use Rattle.es_parser.proofs.reading.+reading.Given as goal

-- room first, then the rank; a rank is below 64
abbrev measure : ℕ → ℕ → ℕ → ℕ
measure room rank level = 2048 * room + 16 * min rank 100 + level

abbrev pub decreases-part : goal.decreases-part
decreases-part g l = measure l.spot.room (rank_of l.symbol) 0

abbrev pub decreases-parts : goal.decreases-parts
decreases-parts g l = measure l.spot.room (rank_of l.symbol) 1

abbrev pub decreases-choice : goal.decreases-choice
decreases-choice g l = measure l.spot.room (rank_of l.symbol) 2

abbrev pub decreases-turns : goal.decreases-turns
decreases-turns g l = measure l.spot.room (rank_of l.symbol) 3

abbrev pub decreases-commas : goal.decreases-commas
decreases-commas g l = measure l.spot.room (rank_of l.symbol) 3

abbrev pub decreases-turns_behind : goal.decreases-turns_behind
decreases-turns_behind g l = measure l.spot.room (rank_of l.symbol) 4

abbrev pub decreases-read_headless : goal.decreases-read_headless
decreases-read_headless g l = measure l.spot.room (rank_of l.symbol) 4

abbrev pub decreases-read_into : goal.decreases-read_into
decreases-read_into g l = measure l.spot.room (rank_of l.symbol) 7

abbrev pub decreases-symbol_behind : goal.decreases-symbol_behind
decreases-symbol_behind g l = measure l.spot.room (rank_of l.symbol) 8

abbrev pub decreases-inner_symbol : goal.decreases-inner_symbol
decreases-inner_symbol g l = measure l.spot.room (rank_of l.symbol) 9

-- whatever is read from here on is read from the beginning
abbrev pub invariant-parts-loop-each : goal.invariant-parts-loop-each
invariant-parts-loop-each g l = record {
  same : l.reader ≡ l.fn.reader;
  order : l.spot.at ≤ l.at;
  ends : IsCharBoundary l.fn.reader l.at;
  reads : (o : Outcome) → ReadsParts l.fn.reader (drop l.each-index l.parts) (moved l.spot l.at) l.draft o →
      ReadsParts l.fn.reader l.parts l.spot l.fn.draft o;
}

abbrev pub invariant-choice-loop-each : goal.invariant-choice-loop-each
invariant-choice-loop-each g l = record {
  same : l.reader ≡ l.fn.reader;
  reads : (seed : Draft) (o : Outcome) → ReadsChoice l.fn.reader (map row (drop l.each-index l.rows)) l.spot seed o → ReadsChoice l.fn.reader (map row l.rows) l.spot seed o;
}

abbrev pub invariant-turns-loop-alloc : goal.invariant-turns-loop-alloc
invariant-turns-loop-alloc g l = record {
  same : l.reader ≡ l.fn.reader;
  order : l.spot.at ≤ l.at;
  ends : IsCharBoundary l.fn.reader l.at;
  reads : (o : Outcome) → ReadsTurns l.fn.reader (turns l.taking l.more) (moved l.spot l.at) l.draft o →
      ReadsTurns l.fn.reader (turns l.taking l.more) l.spot l.fn.draft o;
}

abbrev pub decreases-turns-loop-alloc : goal.decreases-turns-loop-alloc
decreases-turns-loop-alloc g l = length l.fn.reader - l.at

abbrev pub invariant-commas-loop-item : goal.invariant-commas-loop-item
invariant-commas-loop-item g l = record {
  same : l.reader ≡ l.fn.reader;
  order : l.spot.at ≤ l.at;
  ends : IsCharBoundary l.fn.reader l.at;
  reads : (o : Outcome) → ReadsCommas l.fn.reader (map row l.rows) (moved l.spot l.at) l.draft o →
      ReadsCommas l.fn.reader (map row l.rows) l.spot l.fn.draft o;
}

abbrev pub decreases-commas-loop-item : goal.decreases-commas-loop-item
decreases-commas-loop-item g l = length l.fn.reader - l.at

abbrev pub decreases-sketch_part : goal.decreases-sketch_part
decreases-sketch_part g l = measure l.spot.room (rank_of l.symbol) 0

abbrev pub decreases-sketch_parts : goal.decreases-sketch_parts
decreases-sketch_parts g l = measure l.spot.room (rank_of l.symbol) 1

abbrev pub decreases-sketch_rows : goal.decreases-sketch_rows
decreases-sketch_rows g l = measure l.spot.room (rank_of l.symbol) 2

abbrev pub decreases-sketch_option : goal.decreases-sketch_option
decreases-sketch_option g l = measure l.spot.room (rank_of l.symbol) 3

abbrev pub decreases-sketch_list : goal.decreases-sketch_list
decreases-sketch_list g l = measure l.spot.room (rank_of l.symbol) 3

abbrev pub decreases-sketch_anew : goal.decreases-sketch_anew
decreases-sketch_anew g l = measure l.spot.room (rank_of l.symbol) 4

abbrev pub decreases-sketch : goal.decreases-sketch
decreases-sketch g l = measure l.spot.room (rank_of l.symbol) 5

abbrev pub decreases-tried : goal.decreases-tried
decreases-tried g l = measure l.spot.room (rank_of l.symbol) 6

abbrev pub decreases-sketch_inner : goal.decreases-sketch_inner
decreases-sketch_inner g l = measure l.spot.room (rank_of l.symbol) 10

abbrev pub invariant-sketch_parts-loop-each : goal.invariant-sketch_parts-loop-each
invariant-sketch_parts-loop-each g l = record {
  same : l.reader ≡ l.fn.reader;
  order : l.spot.at ≤ l.at;
  ends : IsCharBoundary l.fn.reader l.at;
  known : (draft : Draft) × IsFaint l.limit l.target draft × ((o : Outcome) → ReadsParts l.fn.reader (drop l.each-index l.parts) (moved l.spot l.at) draft o →
      ReadsParts l.fn.reader l.parts l.spot empty o);
}

abbrev pub invariant-sketch_rows-loop-each : goal.invariant-sketch_rows-loop-each
invariant-sketch_rows-loop-each g l = record {
  same : l.reader ≡ l.fn.reader;
  reads : (seed : Draft) (o : Outcome) → ReadsChoice l.fn.reader (map row (drop l.each-index l.rows)) l.spot seed o → ReadsChoice l.fn.reader (map row l.rows) l.spot seed o;
}

abbrev pub invariant-sketch_list-loop-reader : goal.invariant-sketch_list-loop-reader
invariant-sketch_list-loop-reader g l = record {
  same : l.reader ≡ l.fn.reader;
  order : l.spot.at ≤ l.at;
  ends : IsCharBoundary l.fn.reader l.at;
  known : (draft : Draft) × (all_lower l.limit draft.children ≡ true) × ((o : Outcome) → ReadsCommas l.fn.reader (map row l.rows) (moved l.spot l.at) draft o →
      ReadsCommas l.fn.reader (map row l.rows) l.spot empty o);
}

abbrev pub decreases-sketch_list-loop-reader : goal.decreases-sketch_list-loop-reader
decreases-sketch_list-loop-reader g l = length l.fn.reader - l.at
