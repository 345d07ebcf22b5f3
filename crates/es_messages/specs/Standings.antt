-- How the code goes over marks and reports.
use Rattle.std.specs.Prelude.{◌≡◌, ℕ, ◌+◌, ◌<◌, ◌≤◌, ◌==◌, ◌&&◌, ◌||◌, Bool, true, false, not, List, [], ◌∷◌, ◌++◌, length, drop, Option, Some, filter, map, slice_index_or, if◌then◌else◌}
use Rattle.std.specs.List.{list_any}
use Rattle.es_text.specs.declared.finding.Report.{Report}
use Rattle.es_text.specs.declared.finding.Severity.{Severity}
use Rattle.es_messages.specs.declared.directive.Mark.{Mark}
use Rattle.es_messages.specs.declared.unused.Standing.{Standing}
use Rattle.es_messages.specs.Suppression.{covers_on, governs, is_disable, is_for_line, is_of, line_of, lists, unused_report, uses_of}

-- `stops`, where this says whether a mark behind it governs the report
abbrev pub stops_behind : Bool → ℕ → Report → Mark → Bool
stops_behind governed line report mark =
    covers_on line mark report && (is_for_line mark.kind || (is_disable mark.kind && not governed))

-- the first list without those that pass, and those that do
abbrev pub Splits : (Report → Bool) → List Report → List Report → List Report → Type 0
Splits passes all kept dropped =
    (kept ≡ filter (λ report. not (passes report)) all) × (dropped ≡ filter passes all)

-- so many of the marks stand up to the last one that governs a report
pub record IsLast (line : ℕ) (report : Report) (marks : List Mark) (last : ℕ) : Type 0 where
  pub within : last ≤ length marks
  pub none_behind : list_any (governs line report) (drop last marks) ≡ false
  pub here : (index : ℕ) (mark : Mark) → index + 1 ≡ last
      → governs line report (slice_index_or marks index mark) ≡ true

abbrev pub report_of : Standing → Report
report_of standing = standing.report.now

-- where the report starts, and which of the marks governs it
pub record Stands (characters : List ℕ) (marks : List Mark) (standing : Standing) : Type 0 where
  pub line : standing.line ≡ line_of characters (report_of standing)
  pub last : IsLast standing.line (report_of standing) marks standing.last

-- `is_use` of a mark up to which there are so many
abbrev pub is_use_at : ℕ → Mark → Option (List ℕ) → Standing → Bool
is_use_at place mark rule standing =
    (covers_on standing.line mark (report_of standing)
    && (is_for_line mark.kind || (is_disable mark.kind && standing.last == place)))
    && is_of rule (report_of standing)

abbrev pub is_used_at : List Standing → ℕ → Mark → Option (List ℕ) → Bool
is_used_at standings place mark rule = list_any (is_use_at place mark rule) standings

-- what is told of a mark for this rule
abbrev pub told_at : List Standing → ℕ → Severity → Mark → Option (List ℕ) → List Report
told_at standings place severity mark rule =
    if is_used_at standings place mark rule then [] else unused_report severity mark rule ∷ []

-- what is told of a mark
abbrev pub told_of : List Standing → ℕ → Severity → Mark → List Report
told_of standings place severity mark =
    map (unused_report severity mark) (filter (λ rule. not (is_used_at standings place mark rule)) (uses_of mark))

-- what is told of a mark for those of the rules that don't stand among the earlier ones
abbrev pub told_each : List Standing → ℕ → Severity → Mark → List (List ℕ) → List (List ℕ) → List Report
told_each standings place severity mark earlier [] = []
told_each standings place severity mark earlier (rule ∷ later) =
    (if lists earlier rule then [] else told_at standings place severity mark (Some rule))
    ++ told_each standings place severity mark (earlier ++ rule ∷ []) later
