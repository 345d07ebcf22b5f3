-- Reports that stand or are suppressed lie in their text, and so do their fixes.
use Rattle.std.proofs.Common.{◌≡◌, ◌∙◌, ℕ, Bool, true, false, not, ◌&&◌, List, [], ◌∷◌, ◌++◌, map, ap, refl}
use Rattle.std.specs.Prelude.{Option, Some, None, option_map}
use Rattle.std.specs.List.{filter, list_all}
use Rattle.std.specs.Option.{option_to_list}
use Rattle.std.specs.Ordering.{is_lt}
use Rattle.std.proofs.lemmas.Bool.{and_parts}
use Rattle.std.proofs.lemmas.List.Elements.{All-filter}
use Rattle.std.proofs.lemmas.List.Folds.{list_all-append}
use Rattle.std.proofs.lemmas.List.Sums.{AllPass-from_list_all, list_all-from_AllPass}
use Rattle.es_text.specs.declared.finding.Report.{Report}
use Rattle.es_text.specs.declared.finding.Severity.{Severity}
use Rattle.es_text.specs.declared.finding.Severity.TheVariants.{Error}
use Rattle.es_text.specs.declared.span.Span.{Span}
use Rattle.es_text.specs.declared.token.Comment.{Comment}
use Rattle.es_text.specs.Spans.{is_part}
use Rattle.es_text.specs.Texts.{Text, text_bytes}
use Rattle.es_host.specs.Spans.{fix_fits}
use Rattle.es_settings.proofs.SortingLemmas.{passes_in_order}
use Rattle.es_messages.specs.declared.comment.Directive.{Directive}
use Rattle.es_messages.specs.declared.comment.Directive.TheVariants.{Disabling, DisablingLine, DisablingNextLine, Enabling, Setting, Globals}
use Rattle.es_messages.specs.declared.directive.Mark.{Mark}
use Rattle.es_messages.specs.declared.directive.MarkKind.{MarkKind}
use Rattle.es_messages.specs.Directives.{behind_word, comments_fit, directive_of, directives, first_word, mark_kind, mark_of, said, said_in, text_of}
use Rattle.es_messages.specs.Stretches.{Characters, listed}
use Rattle.es_messages.specs.Suppression.{is_suppressed, is_used, lists, suppressed, unused_at, unused_in, unused_of, unused_report, unused_text, uses_of}
use Rattle.es_lint.specs.Bad.{bad_in, bad_of, bad_report, bad_text, misshapen_in, quoted, unknown_in}
use Rattle.es_lint.specs.Order.{ordered, report_cmp}

both : (a b : Bool) → a ≡ true → b ≡ true → (a && b) ≡ true
both true b h k = k
both false b h k = h

module _ {X : Type 0} (q : X → Bool) where
  pub all-append : (xs ys : List X) → list_all q xs ≡ true → list_all q ys ≡ true → list_all q (xs ++ ys) ≡ true
  all-append xs ys h k = list_all-append q xs ys ∙ both (list_all q xs) (list_all q ys) h k

  pub all-filter : (p : X → Bool) (xs : List X) → list_all q xs ≡ true → list_all q (filter p xs) ≡ true
  all-filter p xs h = list_all-from_AllPass q (filter p xs) (All-filter p (λ x. q x ≡ true) xs (AllPass-from_list_all q xs h))

  all-map : {A : Type 0} (make : A → X) (xs : List A) → ((x : A) → q (make x) ≡ true) → list_all q (map make xs) ≡ true
  all-map make [] h = refl
  all-map make (x ∷ xs) h = both (q (make x)) (list_all q (map make xs)) (h x) (all-map make xs h)

-- ---- marks stand where their comments do

abbrev marks_fit : List ℕ → List Mark → Bool
marks_fit bytes marks = list_all (λ mark. is_part bytes mark.span) marks

module _ (bytes : List ℕ) where
  mark_fits : (span : Span) (rules : List (List ℕ)) (kind : Option MarkKind) → is_part bytes span ≡ true →
      marks_fit bytes (option_to_list (option_map (λ kind. let mark : Mark = record { kind = kind; rules = rules; span = span } in mark) kind)) ≡ true
  mark_fits span rules None h = refl
  mark_fits span rules (Some kind) h = ap (λ b. b && true) h

  mark_of_fits : (characters : List ℕ) (span : Span) (rest : Characters) (directive : Directive) → is_part bytes span ≡ true →
      marks_fit bytes (option_to_list (mark_of characters span rest directive)) ≡ true
  mark_of_fits characters span rest directive h =
      mark_fits span (map (λ one. one.list) (listed rest)) (mark_kind characters span directive) h

  said_in_fits : (characters : List ℕ) (span : Span) (part : Characters) (found : Option Directive) → is_part bytes span ≡ true →
      marks_fit bytes (said_in characters span part found).marks ≡ true
  said_in_fits characters span part None h = refl
  said_in_fits characters span part (Some Setting) h = refl
  said_in_fits characters span part (Some Globals) h = refl
  said_in_fits characters span part (Some Disabling) h = mark_of_fits characters span (behind_word part) Disabling h
  said_in_fits characters span part (Some Enabling) h = mark_of_fits characters span (behind_word part) Enabling h
  said_in_fits characters span part (Some DisablingLine) h = mark_of_fits characters span (behind_word part) DisablingLine h
  said_in_fits characters span part (Some DisablingNextLine) h = mark_of_fits characters span (behind_word part) DisablingNextLine h

  said_fits : (text : Text) (comment : Comment) → is_part bytes comment.span ≡ true → marks_fit bytes (said text comment).marks ≡ true
  said_fits text comment h =
      let part = text_of (text_bytes text) comment in
      said_in_fits text.characters comment.span part (directive_of comment.block (first_word part)) h

  marks_within : (text : Text) (comments : List Comment) → comments_fit bytes comments ≡ true → marks_fit bytes (directives text comments).marks ≡ true
  marks_within text [] h = refl
  marks_within text (comment ∷ comments) h =
      let parts = and_parts (is_part bytes comment.span) (comments_fit bytes comments) h in
      all-append (λ (mark : Mark). is_part bytes mark.span) (said text comment).marks (directives text comments).marks
      (said_fits text comment parts.0) (marks_within text comments parts.1)

-- ---- reports that comments make

-- a test that each report without a fix passes whose span lies in the text
abbrev Plain : List ℕ → (Report → Bool) → Type 0
Plain bytes q = (span : Span) (severity : Severity) (text : List ℕ) → is_part bytes span ≡ true →
    q (record { rule = None; order = 0; severity = severity; text = text; span = span; fix = None; fatal = false }) ≡ true

module _ (bytes : List ℕ) (q : Report → Bool) (plain : Plain bytes q) where
  unused_passes : (characters : List ℕ) (reports : List Report) (severity : Severity) (marks : List Mark) → marks_fit bytes marks ≡ true →
      list_all q (unused_in characters reports severity marks) ≡ true
  unused_passes characters reports severity [] h = refl
  unused_passes characters reports severity (mark ∷ later) h =
      let parts = and_parts (is_part bytes mark.span) (marks_fit bytes later) h in
      all-append q (unused_of characters reports severity mark later) (unused_in characters reports severity later)
      (all-map q (unused_report severity mark) (filter (λ rule. not (is_used characters mark later reports rule)) (uses_of mark)) (λ rule. plain mark.span severity (unused_text rule) parts.0))
      (unused_passes characters reports severity later parts.1)

  unused_at_passes : (characters : List ℕ) (reports : List Report) (marks : List Mark) (severity : Option Severity) → marks_fit bytes marks ≡ true →
      list_all q (unused_at characters reports marks severity) ≡ true
  unused_at_passes characters reports marks None h = refl
  unused_at_passes characters reports marks (Some severity) h = unused_passes characters reports severity marks h

  bad_passes : (ids : List (List ℕ)) (text : Text) (comments : List Comment) → comments_fit bytes comments ≡ true →
      list_all q (bad_in ids text comments) ≡ true
  bad_passes ids text [] h = refl
  bad_passes ids text (comment ∷ comments) h =
      let parts = and_parts (is_part bytes comment.span) (comments_fit bytes comments) h in
      all-append q (bad_of ids text comment) (bad_in ids text comments)
      (all-append q (misshapen_in comment.span (directives text (comment ∷ [])).bad) (unknown_in ids (text_bytes text) comment.span (directives text (comment ∷ [])).entries)
      (all-map q (λ bad. bad_report comment.span bad.text) (directives text (comment ∷ [])).bad (λ bad. plain comment.span Error (bad_text bad.text) parts.0))
      (all-map q (λ entry. bad_report comment.span (quoted (text_bytes text) entry.span)) (filter (λ entry. not (lists ids entry.rule)) (directives text (comment ∷ [])).entries)
      (λ entry. plain comment.span Error (bad_text (quoted (text_bytes text) entry.span)) parts.0)))
      (bad_passes ids text comments parts.1)

  -- what stands of the reports, and what doesn't, where all pass
  module _ (ids : List (List ℕ)) (text : Text) (comments : List Comment) (reports : List Report) (severity : Option Severity)
      (inside : comments_fit bytes comments ≡ true) (pass : list_all q reports ≡ true) where
    pub stand_passes :
        list_all q (ordered
        ((suppressed text.characters reports (directives text comments).marks severity).kept
        ++ ((suppressed text.characters reports (directives text comments).marks severity).unused ++ bad_in ids text comments))) ≡ true
    stand_passes =
        let all = suppressed text.characters reports (directives text comments).marks severity in
        passes_in_order (λ x y. is_lt (report_cmp x y)) q (all.kept ++ (all.unused ++ bad_in ids text comments))
        ∙ all-append q all.kept (all.unused ++ bad_in ids text comments) (all-filter q (λ report. not (is_suppressed text.characters (directives text comments).marks report)) reports pass)
        (all-append q all.unused (bad_in ids text comments)
        (unused_at_passes text.characters reports (directives text comments).marks severity (marks_within bytes text comments inside))
        (bad_passes ids text comments inside))

    pub dropped_passes : list_all q (ordered (suppressed text.characters reports (directives text comments).marks severity).dropped) ≡ true
    dropped_passes =
        passes_in_order (λ x y. is_lt (report_cmp x y)) q (suppressed text.characters reports (directives text comments).marks severity).dropped
        ∙ all-filter q (is_suppressed text.characters (directives text comments).marks) reports pass

pub span_plain : (bytes : List ℕ) → Plain bytes (λ report. is_part bytes report.span)
span_plain bytes span severity text h = h

pub fix_plain : (bytes : List ℕ) → Plain bytes (λ report. fix_fits bytes report.fix)
fix_plain bytes span severity text h = refl
