-- What linting a text gives, and that it gives nothing else.
use Rattle.std.proofs.Common.{◌≡◌, ℕ, List, refl, sym, ap, subst, ◌∙◌}
use Rattle.std.specs.Prelude.{Some, None}
use Rattle.es_text.specs.declared.finding.Report.{Report}
use Rattle.es_text.specs.declared.token.Token.{Token}
use Rattle.es_text.specs.Texts.{Text, text_bytes}
use Rattle.es_tree.specs.declared.parsed.Parsed.{Parsed}
use Rattle.es_tree.specs.declared.shape.Shape.{Shape}
use Rattle.es_tree.specs.Numbering.{rows_of}
use Rattle.es_parser.specs.declared.parser.ParseFault.{ParseFault}
use Rattle.es_parser.specs.declared.parser.ParseFault.TheVariants as fault
use Rattle.es_parser.specs.Parsing.{Deep, IsFault, IsParsed, Parses, ParsesOnce, Parsing, Unread, Whole, Wrong}
use Rattle.es_settings.specs.Settings.{Settings}
use Rattle.es_host.specs.Files.{File}
use Rattle.es_host.specs.Meanings.{Meaning}
use Rattle.es_lint.specs.Fatal.{fatal_of}
use Rattle.es_lint.specs.Lintings.{IsTheLinting, Linting, Lints, fatal_linting, file_of, file_with, linting_on, not_parsed, parsed}
use Rattle.es_lint.specs.Results.{AtMost}
use Rattle.es_lint.specs.Stages.{AtMostOnce, IsUnparsed}
use Rattle.es_lint.proofs.CountsLemmas.{from_once}

-- a tree has no fatal report
no_fatal : (tree : Shape) (tokens : List Token) (fatal : Report) → fatal_of (Whole tree tokens) ≡ Some fatal → ⊥
unfolding fatal_of
no_fatal tree tokens fatal h = absurd (cc)

same_tree : {tree other : Shape} {tokens others : List Token} → Whole tree tokens ≡ Whole other others → tree ≡ other
same_tree h = cc

same_tokens : {tree other : Shape} {tokens others : List Token} → Whole tree tokens ≡ Whole other others → tokens ≡ others
same_tokens h = cc

no_report : {fatal : Report} → None ≡ Some fatal → ⊥
no_report h = absurd (cc)

same_report : {one other : Report} → Some one ≡ Some other → one ≡ other
same_report h = cc

module _ (meanings : List Meaning) (settings : Settings) (text : Text) (once : ParsesOnce) where
  abbrev file : Shape → List Token → File
  file tree tokens = file_of settings text tree tokens

  -- a text that is parsed
  parsed_only : (tree : Shape) (tokens : List Token) → Parses (text_bytes text) settings.source_type (Whole tree tokens) →
      (other : Linting) → Lints meanings settings text other → other ≡ linting_on meanings (file tree tokens)
  parsed_only tree tokens parses other (not_parsed parsing fatal parses' told is) =
      let same : parsing ≡ Whole tree tokens = once (text_bytes text) settings.source_type parsing (Whole tree tokens) parses' parses in
      absurd (no_fatal tree tokens fatal (subst (λ p. fatal_of p ≡ Some fatal) same told))
  parsed_only tree tokens parses other (parsed tree' tokens' parses' is) =
      let whole : Whole tree' tokens' ≡ Whole tree tokens =
      once (text_bytes text) settings.source_type (Whole tree' tokens') (Whole tree tokens) parses' parses in
      is ∙ ap (λ t. linting_on meanings (file t tokens')) (same_tree whole) ∙ ap (λ ts. linting_on meanings (file tree ts)) (same_tokens whole)

  pub parsed_linted : (read : Parsed) (linting : Linting) → IsParsed (text_bytes text) settings.source_type read →
      linting ≡ linting_on meanings (file_with text read settings) → IsTheLinting meanings settings text linting
  parsed_linted read linting whole is =
      let tree : Shape = whole.tree in
      let tokens : List Token = read.tokens in
      let same : file_with text read settings ≡ file tree tokens =
      ap (λ rows. file_with text (record { tree = rows; tokens = tokens; comments = read.comments }) settings) whole.rows
      ∙ ap (λ comments. file_with text (record { tree = rows_of tree; tokens = tokens; comments = comments }) settings) whole.comments in
      let gives : linting ≡ linting_on meanings (file tree tokens) = is ∙ ap (linting_on meanings) same in
      record {
        gives = parsed tree tokens whole.parses gives;
        only = λ other lints. parsed_only tree tokens whole.parses other lints ∙ sym gives;
      }

  -- its rules listen once at most
  pub parsed_often : (read : Parsed) → IsParsed (text_bytes text) settings.source_type read → (before now : ℕ) → AtMostOnce before now →
      (linting : Linting) → Lints meanings settings text linting → AtMost linting.heard before now
  parsed_often read whole before now once linting lints =
      let same : linting ≡ linting_on meanings (file_with text read settings) =
      (parsed_linted read (linting_on meanings (file_with text read settings)) whole refl).only linting lints in
      let heard : linting.heard ≡ 1 = ap (λ (l : Linting). l.heard) same in
      subst (λ n. AtMost n before now) (sym heard) (from_once before now once)

  -- a text that isn't
  fatal_only : (parsing : Parsing) (fatal : Report) → Parses (text_bytes text) settings.source_type parsing → fatal_of parsing ≡ Some fatal →
      (other : Linting) → Lints meanings settings text other → other ≡ fatal_linting fatal
  fatal_only parsing fatal parses told other (not_parsed parsing' fatal' parses' told' is) =
      let same : parsing' ≡ parsing = once (text_bytes text) settings.source_type parsing' parsing parses' parses in
      is ∙ ap fatal_linting (same_report (sym told' ∙ ap fatal_of same ∙ told))
  fatal_only parsing fatal parses told other (parsed tree tokens parses' is) =
      let same : parsing ≡ Whole tree tokens = once (text_bytes text) settings.source_type parsing (Whole tree tokens) parses parses' in
      absurd (no_fatal tree tokens fatal (subst (λ p. fatal_of p ≡ Some fatal) same told))

  fatal_linted : (parsing : Parsing) (fatal : Report) (linting : Linting) → Parses (text_bytes text) settings.source_type parsing →
      fatal_of parsing ≡ Some fatal → linting ≡ fatal_linting fatal → IsTheLinting meanings settings text linting
  fatal_linted parsing fatal linting parses told is = record {
    gives = not_parsed parsing fatal parses told is;
    only = λ other lints. fatal_only parsing fatal parses told other lints ∙ sym is;
  }

  pub fault_linted : (given : ParseFault) (linting : Linting) → IsFault (text_bytes text) settings.source_type given →
      IsUnparsed given linting → IsTheLinting meanings settings text linting
  fault_linted (fault.Unread at) linting parses unparsed = fatal_linted (Unread at) unparsed.fatal linting parses unparsed.told unparsed.one
  fault_linted (fault.Deep at) linting parses unparsed = fatal_linted (Deep at) unparsed.fatal linting parses unparsed.told unparsed.one
  fault_linted (fault.Early code span) linting parses unparsed =
      fatal_linted (Wrong (record { code = code; span = span })) unparsed.fatal linting parses unparsed.told unparsed.one
  fault_linted fault.NoMemory linting parses unparsed = absurd (no_report unparsed.told)
