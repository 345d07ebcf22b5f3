-- A text is parsed in one way at most.
use Rattle.std.proofs.Common.{◌≡◌, ◌∙◌, ap, sym, ℕ, zero, suc, [], ◌∷◌, Some, Bool, true, false, List, length, refl, subst, IsUtf8}
use Rattle.std.specs.Prelude.{◌&&◌, All, Result, Ok, Err, IfOk, IfErr}
use Rattle.es_text.specs.declared.span.Span.{Span}
use Rattle.es_text.specs.Spans.{PartsLie, is_part}
use Rattle.std.specs.Str.{IsCharBoundary}
use Rattle.es_text.specs.declared.token.Token.{Token}
use Rattle.es_tree.specs.declared.shape.Shape.{Shape}
use Rattle.es_tree.specs.Numbering.{rows_of}
use Rattle.es_tree.specs.Rows.{Row, span_of}
use Rattle.es_tree.specs.Spans.{RowsPass}
use Rattle.std.specs.List.{list_all}
use Rattle.es_early.specs.declared.code.Early.{Early}
use Rattle.es_early.specs.Errors.{FirstOnce, HasNone, IsCase, IsFirst}
use Rattle.es_grammar.specs.Within.{AnswerLies, AnswersLie, EndsLie}
use Rattle.es_grammar.specs.Trees as reading
use Rattle.es_text.specs.declared.token.SourceType.{SourceType}
use Rattle.es_grammar.specs.Trees.{Answer, ReadsProgram}
use Rattle.es_parser.specs.Parsing.{AreInText, IsFault, IsFirstFault, IsInText, IsParsed, Parsing, Parses, Whole, whole, wrong, unread, deep}
use Rattle.es_parser.specs.declared.parser.ParseFault.{ParseFault}
use Rattle.es_parser.specs.declared.parser.ParseFault.TheVariants as fault
use Rattle.es_tree.specs.declared.parsed.Parsed.{Parsed}
use Rattle.es_text.specs.Tokens.{comments_between}

pub parses_once : {text : List ℕ} {source : SourceType} {one other : Parsing} →
    ((a b : Answer) → ReadsProgram text source a → ReadsProgram text source b → a ≡ b) → FirstOnce →
    Parses text source one → Parses text source other → one ≡ other
parses_once {text} {source} {one} {other} same first (whole t1 k1 r1 n1 e1) (whole t2 k2 r2 n2 e2) = let w = same _ _ r1 r2 in cc
parses_once {text} {source} {one} {other} same first (whole t1 k1 r1 n1 e1) (wrong t2 k2 x2 r2 i2 e2) = let w = same _ _ r1 r2 in let t : t2 ≡ t1 = cc in absurd (n1 x2 (subst (λ (tree : Shape). IsCase (rows_of tree) source x2) t i2.itself))
parses_once {text} {source} {one} {other} same first (whole t1 k1 r1 n1 e1) (unread p2 r2 e2) = let w = same _ _ r1 r2 in cc
parses_once {text} {source} {one} {other} same first (whole t1 k1 r1 n1 e1) (deep p2 r2 e2) = let w = same _ _ r1 r2 in cc
parses_once {text} {source} {one} {other} same first (wrong t1 k1 x1 r1 i1 e1) (whole t2 k2 r2 n2 e2) = let w = same _ _ r1 r2 in let t : t1 ≡ t2 = cc in absurd (n2 x1 (subst (λ (tree : Shape). IsCase (rows_of tree) source x1) t i1.itself))
parses_once {text} {source} {one} {other} same first (wrong t1 k1 x1 r1 i1 e1) (wrong t2 k2 x2 r2 i2 e2) = let w = same _ _ r1 r2 in let t : t2 ≡ t1 = cc in let x : x1 ≡ x2 = first (rows_of t1) source x1 x2 i1 (subst (λ (tree : Shape). IsFirst (rows_of tree) source x2) t i2) in cc
parses_once {text} {source} {one} {other} same first (wrong t1 k1 x1 r1 i1 e1) (unread p2 r2 e2) = let w = same _ _ r1 r2 in cc
parses_once {text} {source} {one} {other} same first (wrong t1 k1 x1 r1 i1 e1) (deep p2 r2 e2) = let w = same _ _ r1 r2 in cc
parses_once {text} {source} {one} {other} same first (unread p1 r1 e1) (whole t2 k2 r2 n2 e2) = let w = same _ _ r1 r2 in cc
parses_once {text} {source} {one} {other} same first (unread p1 r1 e1) (wrong t2 k2 x2 r2 i2 e2) = let w = same _ _ r1 r2 in cc
parses_once {text} {source} {one} {other} same first (unread p1 r1 e1) (unread p2 r2 e2) = let w = same _ _ r1 r2 in cc
parses_once {text} {source} {one} {other} same first (unread p1 r1 e1) (deep p2 r2 e2) = let w = same _ _ r1 r2 in cc
parses_once {text} {source} {one} {other} same first (deep p1 r1 e1) (whole t2 k2 r2 n2 e2) = let w = same _ _ r1 r2 in cc
parses_once {text} {source} {one} {other} same first (deep p1 r1 e1) (wrong t2 k2 x2 r2 i2 e2) = let w = same _ _ r1 r2 in cc
parses_once {text} {source} {one} {other} same first (deep p1 r1 e1) (unread p2 r2 e2) = let w = same _ _ r1 r2 in cc
parses_once {text} {source} {one} {other} same first (deep p1 r1 e1) (deep p2 r2 e2) = let w = same _ _ r1 r2 in cc

-- the tokens of a program end on boundaries of characters
pub ends_lie : AnswersLie → EndsLie → (text : List ℕ) (source : SourceType) (tree : Shape) (tokens : List Token) {bytes : List ℕ} →
    IsUtf8 bytes → bytes ≡ text → ReadsProgram text source (reading.Whole tree tokens) →
    All (λ one. IsCharBoundary text one.span.end) tokens
ends_lie answers ends text source tree tokens {bytes} utf8 same reads =
    ends text 0 tokens (length text)
    (answers text source (reading.Whole tree tokens) (subst (λ (x : List ℕ). IsUtf8 x) same utf8) reads).1

and_left : (a b : Bool) → a && b ≡ true → a ≡ true
and_left true b h = refl
and_left false b h = cc

and_right : (a b : Bool) → a && b ≡ true → b ≡ true
and_right true b h = h
and_right false b h = cc

-- the spans of a program's nodes lie in the text
pub spans_lie : AnswersLie → RowsPass → (text : List ℕ) (source : SourceType) (tree : Shape) (tokens : List Token) {bytes : List ℕ} {rows : List Row} →
    IsUtf8 bytes → bytes ≡ text → ReadsProgram text source (reading.Whole tree tokens) → rows ≡ rows_of tree → AreInText text rows
spans_lie answers law text source tree tokens {bytes} {rows} utf8 same reads is =
    let lies = answers text source (reading.Whole tree tokens) (subst (λ (x : List ℕ). IsUtf8 x) same utf8) reads in
    ap (λ (all : List Row). list_all (λ row. is_part text row.span) all) is ∙ law (is_part text) tree lies.0

pub place_lies : AnswersLie → (text : List ℕ) (source : SourceType) (answer : Answer) {bytes : List ℕ} →
    IsUtf8 bytes → bytes ≡ text → ReadsProgram text source answer → AnswerLies text answer
place_lies answers text source answer {bytes} utf8 same reads = answers text source answer (subst (λ (x : List ℕ). IsUtf8 x) same utf8) reads

-- a row's span passes where all do
row_passes : (test : Span → Bool) (rows : List Row) (node : ℕ) (span : Span) → list_all (λ row. test row.span) rows ≡ true →
    span_of rows node ≡ Some span → test span ≡ true
row_passes test [] node span all is = cc
row_passes test (row ∷ rows) zero span all is =
    let same : row.span ≡ span = cc in
    subst (λ (s : Span). test s ≡ true) same (and_left (test row.span) (list_all (λ row. test row.span) rows) all)
row_passes test (row ∷ rows) (suc node) span all is =
    row_passes test rows node span (and_right (test row.span) (list_all (λ row. test row.span) rows) all) is

-- the first early error of a tree in the text lies in it
pub early_lies : (text : List ℕ) (source : SourceType) (rows : List Row) (early : Early) → AreInText text rows → IsFirst rows source early →
    is_part text early.span ≡ true
early_lies text source rows early all first = row_passes (is_part text) rows first.itself.node early.span all first.itself.span

-- what is told of a tree by its early errors
pub judged_parsed : (text : List ℕ) (source : SourceType) (tree : Shape) (tokens : List Token) (parsed : Parsed) (r : Result Parsed ParseFault) →
    ReadsProgram text source (reading.Whole tree tokens) → parsed.tree ≡ rows_of tree → parsed.tokens ≡ tokens →
    parsed.comments ≡ comments_between text 0 tokens → IfOk r (λ kept. kept ≡ parsed) → IfOk r (λ kept. HasNone parsed.tree source) →
    IfOk r (IsParsed text source)
judged_parsed text source tree tokens parsed (Ok kept) reads rows same comments is none =
    subst (λ (p : Parsed). IsParsed text source p) (sym is)
    (record {
      tree = tree;
      parses = whole tree tokens reads (subst (λ (all : List Row). HasNone all source) rows none) (ap (Whole tree) same);
      rows = rows;
      comments = comments ∙ ap (comments_between text 0) (sym same);
    })
judged_parsed text source tree tokens parsed (Err fault) reads rows same comments is none = tt

pub judged_fault : (text : List ℕ) (source : SourceType) (tree : Shape) (tokens : List Token) (rows : List Row) (r : Result Parsed ParseFault) →
    ReadsProgram text source (reading.Whole tree tokens) → rows ≡ rows_of tree → IfErr r (IsFirstFault rows source) → IfErr r (IsFault text source)
judged_fault text source tree tokens rows (Ok kept) reads is first = tt
judged_fault text source tree tokens rows (Err (fault.Unread at)) reads is first = absurd first
judged_fault text source tree tokens rows (Err (fault.Deep at)) reads is first = absurd first
judged_fault text source tree tokens rows (Err (fault.Early code span)) reads is first =
    wrong tree tokens (record { code = code; span = span }) reads (subst (λ (all : List Row). IsFirst all source (record { code = code; span = span })) is first) refl
judged_fault text source tree tokens rows (Err fault.NoMemory) reads is first = tt

pub judged_spans : (text : List ℕ) (parsed : Parsed) (r : Result Parsed ParseFault) → AreInText text parsed.tree → IfOk r (λ kept. kept ≡ parsed) →
    IfOk r (λ kept. AreInText text kept.tree)
judged_spans text parsed (Ok kept) all is = subst (λ (p : Parsed). AreInText text p.tree) (sym is) all
judged_spans text parsed (Err fault) all is = tt

pub judged_place : PartsLie → (text : List ℕ) (source : SourceType) (rows : List Row) (r : Result Parsed ParseFault) → AreInText text rows →
    IfErr r (IsFirstFault rows source) → IfErr r (IsInText text)
judged_place law text source rows (Ok kept) all first = tt
judged_place law text source rows (Err (fault.Unread at)) all first = absurd first
judged_place law text source rows (Err (fault.Deep at)) all first = absurd first
judged_place law text source rows (Err (fault.Early code span)) all first =
    (law text span).0 (early_lies text source rows (record { code = code; span = span }) all first)
judged_place law text source rows (Err fault.NoMemory) all first = tt
