-- The reports of parts of comments that set nothing: those of another form, and those for an unknown rule.
use Rattle.std.specs.Prelude.{ℕ, ◌++◌, false, not, List, [], ◌∷◌, None, codes, filter, map, slice_range, if◌then◌else◌}
use Rattle.std.specs.List.{flat_map}
use Rattle.std.specs.Str.{chars}
use Rattle.es_text.specs.declared.finding.Report.{Report}
use Rattle.es_text.specs.declared.finding.Severity.TheVariants.{Error}
use Rattle.es_text.specs.declared.span.Span.{Span}
use Rattle.es_text.specs.declared.token.Comment.{Comment}
use Rattle.es_text.specs.Spans.{is_part}
use Rattle.es_text.specs.Texts.{Text, text_bytes}
use Rattle.es_messages.specs.declared.directive.BadEntry.{BadEntry}
use Rattle.es_messages.specs.declared.directive.Entry.{Entry}
use Rattle.es_messages.specs.Directives.{directives}
use Rattle.es_messages.specs.Suppression.{lists}

abbrev pub bad_text : List ℕ → List ℕ
bad_text part = codes "Bad inline entry '" ++ (part ++ codes "'.")

-- the report of this part of the comment at this span
abbrev pub bad_report : Span → List ℕ → Report
bad_report span part = record {
  rule = None;
  order = 0;
  severity = Error;
  text = bad_text part;
  span = span;
  fix = None;
  fatal = false;
}

-- the characters of a part of the text
abbrev pub quoted : List ℕ → Span → List ℕ
quoted bytes span = if is_part bytes span then chars (slice_range bytes span.start span.end) else codes ""

-- those of an entry for a rule that isn't one of these
abbrev pub unknown_in : List (List ℕ) → List ℕ → Span → List Entry → List Report
unknown_in ids bytes span entries =
    map (λ entry. bad_report span (quoted bytes entry.span)) (filter (λ entry. not (lists ids entry.rule)) entries)

abbrev pub misshapen_in : Span → List BadEntry → List Report
misshapen_in span parts = map (λ bad. bad_report span bad.text) parts

-- what is told of the parts of a comment, where the rules have these ids
abbrev pub bad_of : List (List ℕ) → Text → Comment → List Report
bad_of ids text comment =
    misshapen_in comment.span (directives text (comment ∷ [])).bad
    ++ unknown_in ids (text_bytes text) comment.span (directives text (comment ∷ [])).entries

abbrev pub bad_in : List (List ℕ) → Text → List Comment → List Report
bad_in ids text comments = flat_map (bad_of ids text) comments
