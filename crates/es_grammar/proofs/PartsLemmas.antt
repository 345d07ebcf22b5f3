-- What parts give, and what a row makes of it, lies in the text.
use Rattle.std.proofs.Common.{◌≡◌, ℕ, List, [], ◌∷◌, map, Bool, true, false, Option, Some, None, refl, arith, IsUtf8, if◌then◌else◌}
use Rattle.std.specs.Prelude.{nat_le}
use Rattle.std.specs.Option.{option_map_or}
use Rattle.std.specs.Str.{IsCharBoundary, chars}
use Rattle.std.proofs.lemmas.Bool.{and_from}
use Rattle.es_text.specs.declared.token.Token.{Token}
use Rattle.es_text.specs.Spans.{is_part}
use Rattle.es_text.specs.Tokens.{token}
use Rattle.es_text.specs.Within.{IsWithin}
use Rattle.es_tree.specs.Shapes.{height}
use Rattle.es_tree.specs.Spans.{child_passes}
use Rattle.es_grammar.specs.declared.context.Context.{Context}
use Rattle.es_grammar.specs.declared.part.Field.{Field}
use Rattle.es_grammar.specs.declared.part.Part.{Part}
use Rattle.es_grammar.specs.declared.part.Part.TheVariants as part
use Rattle.es_grammar.specs.declared.part.Product.{Product}
use Rattle.es_grammar.specs.declared.part.Product.TheVariants as product
use Rattle.es_grammar.specs.declared.part.Terminal.{Terminal}
use Rattle.es_grammar.specs.Conditions.{holds}
use Rattle.es_grammar.specs.Contexts.{Spot}
use Rattle.es_grammar.specs.Drafts.{Child, Draft, Setting, empty, flag, joined, kind_setting, leaf_settings, shape_of, span_of, words}
use Rattle.es_grammar.specs.Parts.{Outcome, Not, Deep, Read, after, finish, greatest_height, if_so, if_token, leaf_child, made, placed, plainly, with_child, with_setting, with_token}
use Rattle.es_grammar.specs.Terminals.{mode_of, read_by, reads_kind, terminal_at, text_of}
use Rattle.es_grammar.specs.Within.{LiesBetween}
use Rattle.es_grammar.proofs.DraftsLemmas.{Laws, children-placed, lies-joined, part-told, shape_of-fits, span_of-part, with_directives-fits}

-- what was read, if anything was, lies in the text from this offset on
abbrev pub Lies : List ℕ → ℕ → Outcome → Type 0
Lies text from Not = Unit {0}
Lies text from Deep = Unit {0}
Lies text from (Read draft end) = LiesBetween text from draft end

-- so does what a part gives that reads no symbol
abbrev pub LiesPlainly : List ℕ → ℕ → Option Outcome → Type 0
LiesPlainly text from None = Unit {0}
LiesPlainly text from (Some o) = Lies text from o

-- and the token that a terminal reads, if there is one
abbrev pub TokenLies : List ℕ → ℕ → Option Token → Type 0
TokenLies text at None = Unit {0}
TokenLies text at (Some found) = IsWithin text at found

module _ (text : List ℕ) (utf8 : IsUtf8 text) (laws : Laws) where
  token-if : (at : ℕ) (b : Bool) (found : Token) → IsWithin text at found → TokenLies text at (if b then Some found else None)
  token-if at true found within = within
  token-if at false found within = tt

  token-read_by : (at : ℕ) (context : Context) (terminal : Terminal) (o : Option Token) → ((found : Token) → o ≡ Some found → IsWithin text at found)
      → TokenLies text at (read_by text context terminal o)
  token-read_by at context terminal None within = tt
  token-read_by at context terminal (Some found) within =
      token-if at (reads_kind context terminal found.kind (text_of text found)) found (within found refl)

  pub terminal-lies : (context : Context) (terminal : Terminal) (at : ℕ) → IsCharBoundary text at → TokenLies text at (terminal_at text context terminal at)
  unfolding terminal_at
  terminal-lies context terminal at boundary =
      token-read_by at context terminal (token text at (mode_of terminal))
      (λ found is. laws.tokens text at (mode_of terminal) found utf8 boundary is)

  -- behind what was read, a token, a child or a setting
  pub lies-with_token : (from at : ℕ) (draft : Draft) (found : Token) → LiesBetween text from draft at → IsWithin text at found
      → LiesBetween text from (with_token draft found) found.span.end
  lies-with_token from at draft found before within =
      let one : LiesBetween text at (record empty { tokens = found ∷ [] }) found.span.end =
      record { order = omega (arith, within.behind, within.order); end = within.end; tokens = (within, omega arith); children = refl } in
      lies-joined text utf8 laws from at found.span.end draft (record empty { tokens = found ∷ [] }) before one

  lies-with_child : (from at : ℕ) (draft : Draft) (child : Child) → LiesBetween text from draft at → child_passes (is_part text) child.shape ≡ true
      → LiesBetween text from (with_child draft child) at
  lies-with_child from at draft child before own =
      let one : LiesBetween text at (record empty { children = child ∷ [] }) at =
      record { order = omega arith; end = before.end; tokens = omega arith; children = and_from (child_passes (is_part text) child.shape) true own refl } in
      lies-joined text utf8 laws from at at draft (record empty { children = child ∷ [] }) before one

  lies-with_setting : (from at : ℕ) (draft : Draft) (setting : Setting) → LiesBetween text from draft at → LiesBetween text from (with_setting draft setting) at
  lies-with_setting from at draft setting before =
      let one : LiesBetween text at (record empty { settings = setting ∷ [] }) at =
      record { order = omega arith; end = before.end; tokens = omega arith; children = refl } in
      lies-joined text utf8 laws from at at draft (record empty { settings = setting ∷ [] }) before one

  leaf-fits : (at kind : ℕ) (field : Option Field) (found : Token) → IsWithin text at found → child_passes (is_part text) (leaf_child text kind field found).shape ≡ true
  leaf-fits at kind field found within =
      shape_of-fits text utf8 laws kind found.span [] (leaf_settings kind found.kind (chars (text_of text found)))
      (part-told text utf8 laws found.span (record { order = within.order; start = within.start; end = within.end })) refl

  -- what is made of a token
  lies-if_token : (from at : ℕ) (f : Token → Outcome) (o : Option Token) → TokenLies text at o → ((found : Token) → IsWithin text at found → Lies text from (f found))
      → Lies text from (if_token f o)
  lies-if_token from at f None within lies = tt
  lies-if_token from at f (Some found) within lies = lies found within

  lies-if_so : (from at : ℕ) (b : Bool) (draft : Draft) → LiesBetween text from draft at → Lies text from (if_so b draft at)
  lies-if_so from at true draft before = before
  lies-if_so from at false draft before = tt

  pub lies-plainly : (from : ℕ) (spot : Spot) (p : Part) (draft : Draft) → LiesBetween text from draft spot.at → LiesPlainly text from (plainly text spot p draft)
  unfolding plainly
  lies-plainly from spot (part.Token terminal) draft before =
      lies-if_token from spot.at (λ found. Read (with_token draft found) found.span.end) (terminal_at text spot.context terminal spot.at)
      (terminal-lies spot.context terminal spot.at before.end)
      (λ found within. lies-with_token from spot.at draft found before within)
  lies-plainly from spot (part.Words terminal field) draft before =
      lies-if_token from spot.at
      (λ found. Read (with_setting (with_token draft found) (words field (chars (text_of text found)))) found.span.end)
      (terminal_at text spot.context terminal spot.at)
      (terminal-lies spot.context terminal spot.at before.end)
      (λ found within.
      lies-with_setting from found.span.end (with_token draft found) (words field (chars (text_of text found)))
      (lies-with_token from spot.at draft found before within))
  lies-plainly from spot (part.Leaf terminal kind field) draft before =
      lies-if_token from spot.at (λ found. Read (with_child (with_token draft found) (leaf_child text kind field found)) found.span.end)
      (terminal_at text spot.context terminal spot.at)
      (terminal-lies spot.context terminal spot.at before.end)
      (λ found within.
      lies-with_child from found.span.end (with_token draft found) (leaf_child text kind field found)
      (lies-with_token from spot.at draft found before within) (leaf-fits spot.at kind field found within))
  lies-plainly from spot (part.Twin terminal kind field) draft before =
      lies-if_token from spot.at (λ found. Read (with_child draft (leaf_child text kind field found)) spot.at)
      (terminal_at text spot.context terminal spot.at)
      (terminal-lies spot.context terminal spot.at before.end)
      (λ found within.
      lies-with_child from spot.at draft (leaf_child text kind field found) before (leaf-fits spot.at kind field found within))
  lies-plainly from spot (part.Symbol symbol change field) draft before = tt
  lies-plainly from spot (part.Deeper symbol change field) draft before = tt
  lies-plainly from spot (part.Check condition) draft before = lies-if_so from spot.at (holds text spot draft condition) draft before
  lies-plainly from spot part.Hole draft before =
      lies-with_child from spot.at draft (record { field = None; shape = None }) before refl
  lies-plainly from spot (part.Flag field) draft before = lies-with_setting from spot.at draft (flag field true) before
  lies-plainly from spot (part.Kind member) draft before = lies-with_setting from spot.at draft (kind_setting member) before
  lies-plainly from spot (part.Becomes kind) draft before =
      record { order = before.order; end = before.end; tokens = before.tokens; children = before.children }
  lies-plainly from spot part.Directives draft before =
      record { order = before.order; end = before.end; tokens = before.tokens; children = with_directives-fits text utf8 laws draft.children before.children }

  -- a symbol, behind what was read before it
  pub lies-after : (from mid : ℕ) (draft : Draft) (field : Option Field) (o : Outcome) → LiesBetween text from draft mid → Lies text mid o → Lies text from (after draft field o)
  unfolding after
  lies-after from mid draft field Not before own = tt
  lies-after from mid draft field Deep before own = tt
  lies-after from mid draft field (Read more end) before own =
      let placed_lies : LiesBetween text mid (record more { children = map (placed field) more.children }) end =
      record { order = own.order; end = own.end; tokens = own.tokens; children = children-placed text utf8 laws field more.children own.children } in
      lies-joined text utf8 laws from mid end draft (record more { children = map (placed field) more.children }) before placed_lies

  lies-low : (from : ℕ) (b : Bool) (draft : Draft) (end : ℕ) → LiesBetween text from draft end → Lies text from (if b then Read draft end else Deep)
  lies-low from true draft end own = own
  lies-low from false draft end own = tt

  -- what is made
  lies-made : (from kind : ℕ) (draft : Draft) (becomes : Option ℕ) (end : ℕ) → LiesBetween text from draft end → Lies text from (made kind draft becomes end)
  unfolding made
  lies-made from kind draft becomes end own =
      let shape = shape_of kind (span_of draft.tokens) draft.children draft.settings in
      let fits = shape_of-fits text utf8 laws kind (span_of draft.tokens) draft.children draft.settings (span_of-part text utf8 laws from end draft.tokens own.tokens) own.children in
      lies-low from (nat_le (height shape) greatest_height)
      (record {
        children = record { field = None; shape = Some shape } ∷ [];
        settings = [];
        tokens = draft.tokens;
        becomes = becomes;
      })
      end
      (record { order = own.order; end = own.end; tokens = own.tokens; children = and_from (child_passes (is_part text) (Some shape)) true fits refl })

  lies-becoming : (from : ℕ) (kind : Option ℕ) (draft : Draft) (end : ℕ) → LiesBetween text from draft end
      → Lies text from (option_map_or (λ kind. made kind draft None end) kind (Read draft end))
  lies-becoming from None draft end own = own
  lies-becoming from (Some kind) draft end own = lies-made from kind draft None end own

  pub lies-finish : (from mid : ℕ) (makes : Product) (seed : Draft) (o : Outcome) → LiesBetween text from seed mid → Lies text mid o → Lies text from (finish makes seed o)
  unfolding finish
  lies-finish from mid makes seed Not before own = tt
  lies-finish from mid makes seed Deep before own = tt
  lies-finish from mid product.Parts seed (Read draft end) before own = lies-joined text utf8 laws from mid end seed draft before own
  lies-finish from mid (product.Node kind) seed (Read draft end) before own =
      lies-made from kind (joined seed draft) (joined seed draft).becomes end (lies-joined text utf8 laws from mid end seed draft before own)
  lies-finish from mid product.Becoming seed (Read draft end) before own =
      lies-becoming from (joined seed draft).becomes (joined seed draft) end (lies-joined text utf8 laws from mid end seed draft before own)
