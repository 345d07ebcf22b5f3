-- What is read lies in its text.
use Rattle.std.proofs.Common.{◌≡◌, ℕ, zero, suc, ◌<◌, List, [], ◌∷◌, ◌++◌, length, Bool, true, false, Some, subst, arith, IsUtf8, if◌then◌else◌}
use Rattle.std.specs.Prelude.{slice_index_or}
use Rattle.std.specs.Str.{IsCharBoundary}
use Rattle.std.proofs.lemmas.Str.{IsCharBoundary-end, IsCharBoundary-start}
use Rattle.es_text.specs.declared.token.LexMode.TheVariants.{Division}
use Rattle.es_text.specs.declared.token.SourceType.{SourceType}
use Rattle.es_text.specs.declared.token.Token.{Token}
use Rattle.es_text.specs.Within.{IsWithin}
use Rattle.es_grammar.specs.declared.part.Field.TheVariants as f
use Rattle.es_grammar.specs.declared.part.Part.{Part}
use Rattle.es_grammar.specs.declared.symbol.Symbol.{Symbol}
use Rattle.es_grammar.specs.Contexts.{Spot, moved}
use Rattle.es_grammar.specs.Drafts.{Draft, empty, joined, words}
use Rattle.es_grammar.specs.Forms.{Row, Turns, kind_called}
use Rattle.es_grammar.specs.Parts.{Outcome, with_directives}
use Rattle.es_grammar.specs.Reading.{Reads, by_choice, by_turns, by_commas, behind, headless, ReadsTurns, left, over, stuck, deep_turn, last_turn, next_turn, ReadsCommas, no_more, broken, deep_item, last_item, next_item, ReadsChoice, no_row, this_row, next_row, ReadsParts, done, stop, go_on, ReadsPart, plain, symbol, deeper, too_deep, comma_at}
use Rattle.es_grammar.specs.Terminals.{spelled}
use Rattle.es_grammar.specs.Trees.{Answer, Whole, ReadsItems, at_end, unread, too_deep as too_deep_item, nothing_read, too_high, next, program_of, source_words}
use Rattle.es_grammar.specs.Within.{AnswerLies, AreBetween, LiesBetween}
use Rattle.es_grammar.proofs.DraftsLemmas.{Laws, between-append, lies-empty, lies-joined, part-told, shape_of-fits, with_directives-fits}
use Rattle.es_grammar.proofs.PartsLemmas.{Lies, LiesPlainly, TokenLies, lies-after, lies-finish, lies-plainly, lies-with_token, terminal-lies}

pub ends-lie : (text : List ℕ) (from : ℕ) (tokens : List Token) (to : ℕ) → AreBetween text from tokens to → (k : ℕ) (d : Token) → k < length tokens
    → IsCharBoundary text (slice_index_or tokens k d).span.end
ends-lie text from [] to between k d within = absurd (omega (arith, within))
ends-lie text from (first ∷ rest) to between zero d within = between.0.end
ends-lie text from (first ∷ rest) to between (suc k) d within = ends-lie text first.span.end rest to between.1 k d (omega (arith, within))

module _ (text : List ℕ) (utf8 : IsUtf8 text) (laws : Laws) where
  -- a turn takes what was read before into what it makes, or begins anew
  lies-taken : (taking : Bool) (from at : ℕ) (draft : Draft) → LiesBetween text from draft at
      → LiesBetween text (if taking then from else at) (if taking then draft else empty) at
  lies-taken true from at draft before = before
  lies-taken false from at draft before = lies-empty text utf8 laws at before.end

  lies-grown : (taking : Bool) (from at : ℕ) (draft turn : Draft) (end : ℕ) → LiesBetween text from draft at
      → LiesBetween text (if taking then from else at) turn end → LiesBetween text from (if taking then turn else joined draft turn) end
  lies-grown true from at draft turn end before own = own
  lies-grown false from at draft turn end before own = lies-joined text utf8 laws from at end draft turn before own

  comma-within : (spot : Spot) (end : ℕ) (comma : Token) → IsCharBoundary text end → comma_at text (moved spot end) ≡ Some comma → IsWithin text end comma
  comma-within spot end comma boundary is =
      subst (TokenLies text end) is (terminal-lies text utf8 laws spot.context (spelled ",") end boundary)

  mutual
    pub lies-reads : {s : Symbol} {spot : Spot} {o : Outcome} → IsCharBoundary text spot.at → Reads text s spot o → Lies text spot.at o
    lies-reads {s} {spot} {o} boundary (by_choice e reads) = lies-choice spot.at (lies-empty text utf8 laws spot.at boundary) reads
    lies-reads {s} {spot} {o} boundary (by_turns e reads) = lies-turns spot.at (lies-empty text utf8 laws spot.at boundary) reads
    lies-reads {s} {spot} {o} boundary (by_commas e reads) = lies-commas spot.at (lies-empty text utf8 laws spot.at boundary) reads
    lies-reads {s} {spot} {o} boundary (behind e head reads) = lies-turns spot.at (lies-reads boundary head) reads
    lies-reads {s} {spot} {o} boundary (headless e head none) = lies-reads boundary head

    lies-turns : {turns : Turns} {spot : Spot} {draft : Draft} {o : Outcome} (from : ℕ) → LiesBetween text from draft spot.at
        → ReadsTurns text turns spot draft o → Lies text from o
    lies-turns {turns} {spot} {draft} {o} from before (left h) = before
    lies-turns {turns} {spot} {draft} {o} from before (over h reads k) = before
    lies-turns {turns} {spot} {draft} {o} from before (stuck h reads k) = tt
    lies-turns {turns} {spot} {draft} {o} from before (deep_turn h reads) = tt
    lies-turns {turns} {spot} {draft} {o} from before (last_turn {turn = turn} {end = end} h reads l) =
        lies-grown turns.taking from spot.at draft turn end before
        (lies-choice (if turns.taking then from else spot.at) (lies-taken turns.taking from spot.at draft before) reads)
    lies-turns {turns} {spot} {draft} {o} from before (next_turn {turn = turn} {end = end} h reads l more) =
        lies-turns from
        (lies-grown turns.taking from spot.at draft turn end before
        (lies-choice (if turns.taking then from else spot.at) (lies-taken turns.taking from spot.at draft before) reads)) more

    lies-commas : {rows : List Row} {spot : Spot} {draft : Draft} {o : Outcome} (from : ℕ) → LiesBetween text from draft spot.at
        → ReadsCommas text rows spot draft o → Lies text from o
    lies-commas {rows} {spot} {draft} {o} from before (no_more reads k) = before
    lies-commas {rows} {spot} {draft} {o} from before (broken reads k) = tt
    lies-commas {rows} {spot} {draft} {o} from before (deep_item reads) = tt
    lies-commas {rows} {spot} {draft} {o} from before (last_item {item = item} {end = end} reads none) =
        lies-joined text utf8 laws from spot.at end draft item before (lies-choice spot.at (lies-empty text utf8 laws spot.at before.end) reads)
    lies-commas {rows} {spot} {draft} {o} from before (next_item {item = item} {end = end} {comma = comma} reads is more) =
        let own : LiesBetween text spot.at item end = lies-choice spot.at (lies-empty text utf8 laws spot.at before.end) reads in
        lies-commas from
        (lies-with_token text utf8 laws from end (joined draft item) comma (lies-joined text utf8 laws from spot.at end draft item before own)
        (comma-within spot end comma own.end is)) more

    lies-choice : {rows : List Row} {spot : Spot} {seed : Draft} {o : Outcome} (from : ℕ) → LiesBetween text from seed spot.at
        → ReadsChoice text rows spot seed o → Lies text from o
    lies-choice {rows} {spot} {seed} {o} from before no_row = tt
    lies-choice {rows} {spot} {seed} {o} from before (this_row {row = row} {o = given} reads some) =
        lies-finish text utf8 laws from spot.at row.makes seed given before (lies-parts spot.at (lies-empty text utf8 laws spot.at before.end) reads)
    lies-choice {rows} {spot} {seed} {o} from before (next_row reads more) = lies-choice from before more

    lies-parts : {ps : List Part} {spot : Spot} {draft : Draft} {o : Outcome} (from : ℕ) → LiesBetween text from draft spot.at
        → ReadsParts text ps spot draft o → Lies text from o
    lies-parts {ps} {spot} {draft} {o} from before done = before
    lies-parts {ps} {spot} {draft} {o} from before (stop reads none) = lies-part from before reads
    lies-parts {ps} {spot} {draft} {o} from before (go_on reads more) = lies-parts from (lies-part from before reads) more

    lies-part : {p : Part} {spot : Spot} {draft : Draft} {o : Outcome} (from : ℕ) → LiesBetween text from draft spot.at
        → ReadsPart text p spot draft o → Lies text from o
    lies-part {p} {spot} {draft} {o} from before (plain is) = subst (LiesPlainly text from) is (lies-plainly text utf8 laws from spot p draft before)
    lies-part {p} {spot} {draft} {o} from before (symbol {field = field} {o = given} reads) =
        lies-after text utf8 laws from spot.at draft field given before (lies-reads before.end reads)
    lies-part {p} {spot} {draft} {o} from before (deeper {field = field} {o = given} room reads) =
        lies-after text utf8 laws from spot.at draft field given before (lies-reads before.end reads)
    lies-part {p} {spot} {draft} {o} from before (too_deep none) = tt

  program-fits : (source : SourceType) (at : ℕ) (draft : Draft) (end : Token) → LiesBetween text 0 draft at → IsWithin text at end
      → AnswerLies text (Whole (program_of text source draft.children) (draft.tokens ++ end ∷ []))
  program-fits source at draft end before within = (
    shape_of-fits text utf8 laws (kind_called "Program") (record { start = 0; end = length text }) (with_directives draft.children)
        (words f.SourceType (source_words source) ∷ [])
        (part-told text utf8 laws (record { start = 0; end = length text }) (record {
          order = omega arith;
          start = IsCharBoundary-start text utf8;
          end = IsCharBoundary-end text;
        }))
        (with_directives-fits text utf8 laws draft.children before.children),
    between-append text utf8 laws 0 at (length text) draft.tokens (end ∷ []) before.tokens (within, within.end.0),
  )

  pub lies-items : {source : SourceType} {at : ℕ} {draft : Draft} {answer : Answer} → LiesBetween text 0 draft at
      → ReadsItems text source at draft answer → AnswerLies text answer
  lies-items {source} {at} {draft} {answer} before (at_end {end = end} is ends) =
      program-fits source at draft end before (laws.tokens text at Division end utf8 before.end is)
  lies-items {source} {at} {draft} {answer} before (unread h reads) = (laws.offsets text at utf8 before.end).1
  lies-items {source} {at} {draft} {answer} before (too_deep_item h reads) = (laws.offsets text at utf8 before.end).1
  lies-items {source} {at} {draft} {answer} before (nothing_read h reads none) = (laws.offsets text at utf8 before.end).1
  lies-items {source} {at} {draft} {answer} before (too_high h reads some high) = (laws.offsets text at utf8 before.end).1
  lies-items {source} {at} {draft} {answer} before (next {end = end} {item = item} h reads some low more) =
      lies-items (lies-joined text utf8 laws 0 at end draft item before (lies-reads before.end reads)) more
