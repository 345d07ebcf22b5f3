-- Which reports the marks of a text suppress, and which marks do nothing. ESLint's guide, "Disable rules" and
-- "Report unused eslint-disable comments".
use Rattle.std.specs.Prelude.{◌≡◌, ℕ, ◌==◌, ◌&&◌, ◌||◌, Bool, true, false, not, List, [], ◌∷◌, ◌++◌, length, Option, None, Some, codes, filter, map, nat_le, if◌then◌else◌}
use Rattle.std.specs.List.{list_all, list_any}
use Rattle.std.specs.Option.{option_map_or}
use Rattle.std.specs.Str.{bytes_eq}
use Rattle.es_text.specs.declared.finding.Report.{Report}
use Rattle.es_text.specs.declared.finding.Severity.{Severity}
use Rattle.es_text.specs.Spans.{is_part}
use Rattle.es_text.specs.Texts.{place_at}
use Rattle.es_messages.specs.declared.directive.Mark.{Mark}
use Rattle.es_messages.specs.declared.directive.MarkKind.{MarkKind}
use Rattle.es_messages.specs.declared.directive.MarkKind.TheVariants.{Disable, Enable, Line}
use Rattle.es_messages.specs.declared.suppression.Suppressed.{Suppressed}

-- one of the ids is this one
abbrev pub lists : List (List ℕ) → List ℕ → Bool
lists ids id = list_any (λ other. bytes_eq other id) ids

-- the rule is one of these, or there are none. A report without a rule isn't named
abbrev pub names : List (List ℕ) → Option (List ℕ) → Bool
names ids None = false
names ids (Some rule) = length ids == 0 || lists ids rule

-- the line where the report starts
abbrev pub line_of : List ℕ → Report → ℕ
line_of characters report = (place_at characters report.span.start).line

-- a mark for a line reaches what starts on it, another one what doesn't start before it
abbrev pub is_reached : ℕ → MarkKind → ℕ → ℕ → Bool
is_reached line (Line of) start from = line == of
is_reached line Disable start from = nat_le start from
is_reached line Enable start from = nat_le start from

abbrev pub covers_on : ℕ → Mark → Report → Bool
covers_on line mark report =
    names mark.rules report.rule && is_reached line mark.kind mark.span.start report.span.start

-- the mark by itself covers the report
abbrev pub covers : List ℕ → Mark → Report → Bool
covers characters mark report = covers_on (line_of characters report) mark report

abbrev pub is_for_line : MarkKind → Bool
is_for_line (Line of) = true
is_for_line Disable = false
is_for_line Enable = false

abbrev pub is_disable : MarkKind → Bool
is_disable Disable = true
is_disable Enable = false
is_disable (Line of) = false

abbrev pub is_enable : MarkKind → Bool
is_enable Enable = true
is_enable Disable = false
is_enable (Line of) = false

-- a mark of the two other kinds covers the report by itself
abbrev pub governs : ℕ → Report → Mark → Bool
governs line report mark = not (is_for_line mark.kind) && covers_on line mark report

-- Among all marks this one covers the report, where these stand behind it: it is for its line, or it is the
-- last of the others that does so by itself and is Disable
abbrev pub stops : ℕ → Report → Mark → List Mark → Bool
stops line report mark later =
    covers_on line mark report
    && (is_for_line mark.kind || (is_disable mark.kind && not (list_any (governs line report) later)))

-- some mark covers the report
abbrev pub some_stops : ℕ → Report → List Mark → Bool
some_stops line report [] = false
some_stops line report (mark ∷ later) = stops line report mark later || some_stops line report later

abbrev pub is_suppressed : List ℕ → List Mark → Report → Bool
is_suppressed characters marks report = some_stops (line_of characters report) report marks

-- the report is of this rule; without one, it is any
abbrev pub is_of : Option (List ℕ) → Report → Bool
is_of None report = true
is_of (Some rule) report = option_map_or (λ other. bytes_eq other rule) report.rule false

-- a report of this rule that the mark covers
abbrev pub is_use : List ℕ → Mark → List Mark → Option (List ℕ) → Report → Bool
is_use characters mark later rule report =
    stops (line_of characters report) report mark later && is_of rule report

abbrev pub is_used : List ℕ → Mark → List Mark → List Report → Option (List ℕ) → Bool
is_used characters mark later reports rule = list_any (is_use characters mark later rule) reports

-- of these ids those that don't stand among the earlier ones, each once
abbrev pub once_behind : List (List ℕ) → List (List ℕ) → List (List ℕ)
once_behind earlier [] = []
once_behind earlier (id ∷ later) =
    if lists earlier id then once_behind (earlier ++ id ∷ []) later
    else id ∷ once_behind (earlier ++ id ∷ []) later

abbrev pub once : List (List ℕ) → List (List ℕ)
once ids = once_behind [] ids

-- what a mark may be used for: each of its rules, or any rule where it has none. It is of no matter whether
-- an Enable mark is used
abbrev pub rules_of : List (List ℕ) → List (Option (List ℕ))
rules_of ids = if length ids == 0 then None ∷ [] else map Some (once ids)

abbrev pub uses_of : Mark → List (Option (List ℕ))
uses_of mark = if is_enable mark.kind then [] else rules_of mark.rules

abbrev pub unused_text : Option (List ℕ) → List ℕ
unused_text None = codes "Unused eslint-disable directive (no problems were reported)."
unused_text (Some rule) =
    codes "Unused eslint-disable directive (no problems were reported from '" ++ (rule ++ codes "').")

-- what is told of a mark that is of no use for this rule
abbrev pub unused_report : Severity → Mark → Option (List ℕ) → Report
unused_report severity mark rule = record {
  rule = None;
  order = 0;
  severity = severity;
  text = unused_text rule;
  span = mark.span;
  fix = None;
  fatal = false;
}

-- of one mark, where these stand behind it
abbrev pub unused_of : List ℕ → List Report → Severity → Mark → List Mark → List Report
unused_of characters reports severity mark later =
    map (unused_report severity mark)
    (filter (λ rule. not (is_used characters mark later reports rule)) (uses_of mark))

-- of all marks, in their order
abbrev pub unused_in : List ℕ → List Report → Severity → List Mark → List Report
unused_in characters reports severity [] = []
unused_in characters reports severity (mark ∷ later) =
    unused_of characters reports severity mark later ++ unused_in characters reports severity later

abbrev pub unused_at : List ℕ → List Report → List Mark → Option Severity → List Report
unused_at characters reports marks None = []
unused_at characters reports marks (Some severity) = unused_in characters reports severity marks

-- what becomes of the reports: those that stand, those that marks suppress, and those of marks of no use
abbrev pub suppressed : List ℕ → List Report → List Mark → Option Severity → Suppressed
suppressed characters reports marks severity = record {
  kept = filter (λ report. not (is_suppressed characters marks report)) reports;
  dropped = filter (is_suppressed characters marks) reports;
  unused = unused_at characters reports marks severity;
}

-- the span of each report lies in the text, which is given in UTF-8
abbrev pub reports_fit : List ℕ → List Report → Bool
reports_fit bytes reports = list_all (λ report. is_part bytes report.span) reports
