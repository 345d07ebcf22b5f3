-- Each token of a program is read from where the one before it ends.
use Rattle.std.proofs.Common.{◌≡◌, ℕ, List, [], ◌∷◌, ◌++◌, Bool, true, false, Option, Some, None, refl, sym, subst, if◌then◌else◌}
use Rattle.std.specs.Prelude.{nat_le}
use Rattle.std.specs.Option.{option_map_or}
use Rattle.es_text.specs.declared.token.LexMode.{LexMode}
use Rattle.es_text.specs.declared.token.LexMode.TheVariants.{Division}
use Rattle.es_text.specs.declared.token.SourceType.{SourceType}
use Rattle.es_text.specs.declared.token.Token.{Token}
use Rattle.es_text.specs.Tokens.{token}
use Rattle.es_tree.specs.declared.shape.Shape.{Shape}
use Rattle.es_tree.specs.Shapes.{height}
use Rattle.es_grammar.specs.declared.context.Context.{Context}
use Rattle.es_grammar.specs.declared.part.Field.{Field}
use Rattle.es_grammar.specs.declared.part.Part.{Part}
use Rattle.es_grammar.specs.declared.part.Part.TheVariants as part
use Rattle.es_grammar.specs.declared.part.Product.{Product}
use Rattle.es_grammar.specs.declared.part.Product.TheVariants as product
use Rattle.es_grammar.specs.declared.part.Terminal.{Terminal}
use Rattle.es_grammar.specs.declared.symbol.Symbol.{Symbol}
use Rattle.es_grammar.specs.Conditions.{holds}
use Rattle.es_grammar.specs.declared.context.Spot.{Spot}
use Rattle.es_grammar.specs.declared.draft.Draft.{Draft}
use Rattle.es_grammar.specs.declared.draft.Outcome.{Outcome}
use Rattle.es_grammar.specs.declared.draft.Outcome.TheVariants.{Not, Deep, Read}
use Rattle.es_grammar.specs.Contexts.{moved}
use Rattle.es_grammar.specs.Drafts.{empty, joined, shape_of, span_of}
use Rattle.es_grammar.specs.Forms.{Row, Turns}
use Rattle.es_grammar.specs.Parts.{after, finish, greatest_height, if_so, if_token, made, plainly}
use Rattle.es_grammar.specs.Reading.{Reads, by_choice, by_turns, by_commas, behind, headless, ReadsTurns, left, over, stuck, deep_turn, last_turn, next_turn, ReadsCommas, no_more, broken, deep_item, last_item, next_item, ReadsChoice, no_row, this_row, next_row, ReadsParts, done, stop, go_on, ReadsPart, plain, symbol, deeper, too_deep, comma_at}
use Rattle.es_grammar.specs.Terminals.{mode_of, read_by, reads_kind, spelled, terminal_at, text_of}
use Rattle.es_grammar.specs.Trees.{Answer, Whole, ReadsItems, at_end, unread, too_deep as too_deep_item, nothing_read, too_high, next}

module _ (text : List ℕ) where
  abbrev pub IsRead : ℕ → Token → Type 0
  IsRead from found = (mode : LexMode) × (token text from mode ≡ Some found)

  -- tokens from one offset of the text up to another
  abbrev pub AreRead : ℕ → List Token → ℕ → Type 0
  AreRead from [] to = from ≡ to
  AreRead from (found ∷ rest) to = IsRead from found × AreRead found.span.end rest to

  read-append : (from mid to : ℕ) (found more : List Token) → AreRead from found mid → AreRead mid more to → AreRead from (found ++ more) to
  read-append from mid to [] more one other = subst (λ at. AreRead at more to) (sym one) other
  read-append from mid to (first ∷ rest) more one other = (one.0, read-append first.span.end mid to rest more one.1 other)

  -- those of a draft, and of an outcome that has one
  abbrev Behind : ℕ → Draft → ℕ → Type 0
  Behind from draft to = AreRead from draft.tokens to

  abbrev Gives : ℕ → Outcome → Type 0
  Gives from Not = Unit {0}
  Gives from Deep = Unit {0}
  Gives from (Read draft end) = Behind from draft end

  abbrev GivesPlainly : ℕ → Option Outcome → Type 0
  GivesPlainly from None = Unit {0}
  GivesPlainly from (Some o) = Gives from o

  abbrev TokenRead : ℕ → Option Token → Type 0
  TokenRead at None = Unit {0}
  TokenRead at (Some found) = IsRead at found

  token-if : (at : ℕ) (b : Bool) (found : Token) → IsRead at found → TokenRead at (if b then Some found else None)
  token-if at true found read = read
  token-if at false found read = tt

  token-by : (at : ℕ) (context : Context) (terminal : Terminal) (o : Option Token) → ((found : Token) → o ≡ Some found → IsRead at found)
      → TokenRead at (read_by text context terminal o)
  token-by at context terminal None read = tt
  token-by at context terminal (Some found) read = token-if at (reads_kind context terminal found.kind (text_of text found)) found (read found refl)

  terminal-read : (context : Context) (terminal : Terminal) (at : ℕ) → TokenRead at (terminal_at text context terminal at)
  unfolding terminal_at
  terminal-read context terminal at = token-by at context terminal (token text at (mode_of terminal)) (λ found is. (mode_of terminal, is))

  comma-read : (spot : Spot) (end : ℕ) (comma : Token) → comma_at text (moved spot end) ≡ Some comma → IsRead end comma
  comma-read spot end comma is = subst (TokenRead end) is (terminal-read spot.context (spelled ",") end)

  -- one more token, or what isn't one
  behind-token : (from at : ℕ) (tokens : List Token) (found : Token) → AreRead from tokens at → IsRead at found → AreRead from (tokens ++ found ∷ []) found.span.end
  behind-token from at tokens found before read = read-append from at found.span.end tokens (found ∷ []) before (read, refl)

  behind-none : (from at : ℕ) (tokens : List Token) → AreRead from tokens at → AreRead from (tokens ++ []) at
  behind-none from at tokens before = read-append from at at tokens [] before refl

  gives-if_token : (from at : ℕ) (f : Token → Outcome) (o : Option Token) → TokenRead at o → ((found : Token) → IsRead at found → Gives from (f found))
      → Gives from (if_token f o)
  gives-if_token from at f None read gives = tt
  gives-if_token from at f (Some found) read gives = gives found read

  gives-if_so : (from at : ℕ) (b : Bool) (draft : Draft) → Behind from draft at → Gives from (if_so b draft at)
  gives-if_so from at true draft before = before
  gives-if_so from at false draft before = tt

  gives-plainly : (from : ℕ) (spot : Spot) (p : Part) (draft : Draft) → Behind from draft spot.at → GivesPlainly from (plainly text spot p draft)
  unfolding plainly
  gives-plainly from spot (part.Token terminal) draft before =
      gives-if_token from spot.at _ (terminal_at text spot.context terminal spot.at) (terminal-read spot.context terminal spot.at)
      (λ found read. behind-token from spot.at draft.tokens found before read)
  gives-plainly from spot (part.Words terminal field) draft before =
      gives-if_token from spot.at _ (terminal_at text spot.context terminal spot.at) (terminal-read spot.context terminal spot.at)
      (λ found read. behind-none from found.span.end (draft.tokens ++ found ∷ []) (behind-token from spot.at draft.tokens found before read))
  gives-plainly from spot (part.Leaf terminal kind field) draft before =
      gives-if_token from spot.at _ (terminal_at text spot.context terminal spot.at) (terminal-read spot.context terminal spot.at)
      (λ found read. behind-none from found.span.end (draft.tokens ++ found ∷ []) (behind-token from spot.at draft.tokens found before read))
  gives-plainly from spot (part.Twin terminal kind field) draft before =
      gives-if_token from spot.at _ (terminal_at text spot.context terminal spot.at) (terminal-read spot.context terminal spot.at)
      (λ found read. behind-none from spot.at draft.tokens before)
  gives-plainly from spot (part.Symbol name change field) draft before = tt
  gives-plainly from spot (part.Deeper name change field) draft before = tt
  gives-plainly from spot (part.Check condition) draft before = gives-if_so from spot.at (holds text spot draft condition) draft before
  gives-plainly from spot part.Hole draft before = behind-none from spot.at draft.tokens before
  gives-plainly from spot (part.Flag field) draft before = behind-none from spot.at draft.tokens before
  gives-plainly from spot (part.Kind member) draft before = behind-none from spot.at draft.tokens before
  gives-plainly from spot (part.Becomes kind) draft before = before
  gives-plainly from spot part.Directives draft before = before

  -- a symbol, behind what was read before it
  gives-after : (from mid : ℕ) (draft : Draft) (field : Option Field) (o : Outcome) → Behind from draft mid → Gives mid o → Gives from (after draft field o)
  unfolding after
  gives-after from mid draft field Not before own = tt
  gives-after from mid draft field Deep before own = tt
  gives-after from mid draft field (Read more end) before own = read-append from mid end draft.tokens more.tokens before own

  -- what a row makes
  gives-low : (from : ℕ) (b : Bool) (draft : Draft) (end : ℕ) → Behind from draft end → Gives from (if b then Read draft end else Deep)
  gives-low from true draft end own = own
  gives-low from false draft end own = tt

  gives-made : (from kind : ℕ) (draft : Draft) (becomes : Option ℕ) (end : ℕ) → Behind from draft end → Gives from (made kind draft becomes end)
  unfolding made
  gives-made from kind draft becomes end own =
      let shape : Shape = shape_of kind (span_of draft.tokens) draft.children draft.settings in
      gives-low from (nat_le (height shape) greatest_height)
      (record { children = record { field = None; shape = Some shape } ∷ []; settings = []; tokens = draft.tokens; becomes = becomes }) end own

  gives-becoming : (from : ℕ) (kind : Option ℕ) (draft : Draft) (end : ℕ) → Behind from draft end
      → Gives from (option_map_or (λ kind. made kind draft None end) kind (Read draft end))
  gives-becoming from None draft end own = own
  gives-becoming from (Some kind) draft end own = gives-made from kind draft None end own

  gives-finish : (from mid : ℕ) (makes : Product) (seed : Draft) (o : Outcome) → Behind from seed mid → Gives mid o → Gives from (finish makes seed o)
  unfolding finish
  gives-finish from mid makes seed Not before own = tt
  gives-finish from mid makes seed Deep before own = tt
  gives-finish from mid product.Parts seed (Read draft end) before own = read-append from mid end seed.tokens draft.tokens before own
  gives-finish from mid (product.Node kind) seed (Read draft end) before own =
      gives-made from kind (joined seed draft) (joined seed draft).becomes end (read-append from mid end seed.tokens draft.tokens before own)
  gives-finish from mid product.Becoming seed (Read draft end) before own =
      gives-becoming from (joined seed draft).becomes (joined seed draft) end (read-append from mid end seed.tokens draft.tokens before own)

  -- a turn takes what was read before into what it makes, or begins anew
  gives-taken : (taking : Bool) (from at : ℕ) (draft : Draft) → Behind from draft at → Behind (if taking then from else at) (if taking then draft else empty) at
  gives-taken true from at draft before = before
  gives-taken false from at draft before = refl

  gives-grown : (taking : Bool) (from at : ℕ) (draft turn : Draft) (end : ℕ) → Behind from draft at → Behind (if taking then from else at) turn end
      → Behind from (if taking then turn else joined draft turn) end
  gives-grown true from at draft turn end before own = own
  gives-grown false from at draft turn end before own = read-append from at end draft.tokens turn.tokens before own

  mutual
    gives-reads : {s : Symbol} {spot : Spot} {o : Outcome} → Reads text s spot o → Gives spot.at o
    gives-reads {s} {spot} {o} (by_choice e reads) = gives-choice spot.at refl reads
    gives-reads {s} {spot} {o} (by_turns e reads) = gives-turns spot.at refl reads
    gives-reads {s} {spot} {o} (by_commas e reads) = gives-commas spot.at refl reads
    gives-reads {s} {spot} {o} (behind e head reads) = gives-turns spot.at (gives-reads head) reads
    gives-reads {s} {spot} {o} (headless e head none) = gives-reads head

    gives-turns : {turns : Turns} {spot : Spot} {draft : Draft} {o : Outcome} (from : ℕ) → Behind from draft spot.at → ReadsTurns text turns spot draft o → Gives from o
    gives-turns {turns} {spot} {draft} {o} from before (left h) = before
    gives-turns {turns} {spot} {draft} {o} from before (over h reads k) = before
    gives-turns {turns} {spot} {draft} {o} from before (stuck h reads k) = tt
    gives-turns {turns} {spot} {draft} {o} from before (deep_turn h reads) = tt
    gives-turns {turns} {spot} {draft} {o} from before (last_turn {turn = turn} {end = end} h reads l) =
        gives-grown turns.taking from spot.at draft turn end before
        (gives-choice (if turns.taking then from else spot.at) (gives-taken turns.taking from spot.at draft before) reads)
    gives-turns {turns} {spot} {draft} {o} from before (next_turn {turn = turn} {end = end} h reads l more) =
        gives-turns from
        (gives-grown turns.taking from spot.at draft turn end before
        (gives-choice (if turns.taking then from else spot.at) (gives-taken turns.taking from spot.at draft before) reads)) more

    gives-commas : {rows : List Row} {spot : Spot} {draft : Draft} {o : Outcome} (from : ℕ) → Behind from draft spot.at → ReadsCommas text rows spot draft o → Gives from o
    gives-commas {rows} {spot} {draft} {o} from before (no_more reads k) = before
    gives-commas {rows} {spot} {draft} {o} from before (broken reads k) = tt
    gives-commas {rows} {spot} {draft} {o} from before (deep_item reads) = tt
    gives-commas {rows} {spot} {draft} {o} from before (last_item {item = item} {end = end} reads none) =
        read-append from spot.at end draft.tokens item.tokens before (gives-choice spot.at refl reads)
    gives-commas {rows} {spot} {draft} {o} from before (next_item {item = item} {end = end} {comma = comma} reads is more) =
        gives-commas from
        (behind-token from end (joined draft item).tokens comma
        (read-append from spot.at end draft.tokens item.tokens before (gives-choice spot.at refl reads)) (comma-read spot end comma is)) more

    gives-choice : {rows : List Row} {spot : Spot} {seed : Draft} {o : Outcome} (from : ℕ) → Behind from seed spot.at → ReadsChoice text rows spot seed o → Gives from o
    gives-choice {rows} {spot} {seed} {o} from before no_row = tt
    gives-choice {rows} {spot} {seed} {o} from before (this_row {row = row} {o = given} reads some) =
        gives-finish from spot.at row.makes seed given before (gives-parts spot.at refl reads)
    gives-choice {rows} {spot} {seed} {o} from before (next_row reads more) = gives-choice from before more

    gives-parts : {ps : List Part} {spot : Spot} {draft : Draft} {o : Outcome} (from : ℕ) → Behind from draft spot.at → ReadsParts text ps spot draft o → Gives from o
    gives-parts {ps} {spot} {draft} {o} from before done = before
    gives-parts {ps} {spot} {draft} {o} from before (stop reads none) = gives-part from before reads
    gives-parts {ps} {spot} {draft} {o} from before (go_on reads more) = gives-parts from (gives-part from before reads) more

    gives-part : {p : Part} {spot : Spot} {draft : Draft} {o : Outcome} (from : ℕ) → Behind from draft spot.at → ReadsPart text p spot draft o → Gives from o
    gives-part {p} {spot} {draft} {o} from before (plain is) = subst (GivesPlainly from) is (gives-plainly from spot p draft before)
    gives-part {p} {spot} {draft} {o} from before (symbol {field = field} {o = given} reads) = gives-after from spot.at draft field given before (gives-reads reads)
    gives-part {p} {spot} {draft} {o} from before (deeper {field = field} {o = given} room reads) = gives-after from spot.at draft field given before (gives-reads reads)
    gives-part {p} {spot} {draft} {o} from before (too_deep none) = tt

  -- the tokens of a program
  abbrev pub AnswerRead : Answer → Type 0
  AnswerRead (Whole tree tokens) = (end : ℕ) × AreRead 0 tokens end
  AnswerRead other = Unit {0}

  pub items-read : {source : SourceType} {at : ℕ} {draft : Draft} {answer : Answer} → Behind 0 draft at → ReadsItems text source at draft answer → AnswerRead answer
  items-read {source} {at} {draft} {answer} before (at_end {end = end} is ends) = (end.span.end, behind-token 0 at draft.tokens end before (Division, is))
  items-read {source} {at} {draft} {answer} before (unread h reads) = tt
  items-read {source} {at} {draft} {answer} before (too_deep_item h reads) = tt
  items-read {source} {at} {draft} {answer} before (nothing_read h reads none) = tt
  items-read {source} {at} {draft} {answer} before (too_high h reads some high) = tt
  items-read {source} {at} {draft} {answer} before (next {end = end} {item = item} h reads some low more) =
      items-read (read-append 0 at end draft.tokens item.tokens before (gives-reads reads)) more
