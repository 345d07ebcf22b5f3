-- What linting a file gives, put together from its stages.
use Rattle.std.proofs.Common.{◌≡◌, ◌∙◌, ℕ, true, ◌&&◌, List, [], ◌∷◌, ◌++◌, ap}
use Rattle.std.specs.Prelude.{IfOk, IsTrue, Option, Result, Ok, Err}
use Rattle.es_text.specs.declared.finding.Report.{Report}
use Rattle.es_text.specs.declared.finding.Severity.{Severity}
use Rattle.es_text.specs.declared.token.Comment.{Comment}
use Rattle.es_text.specs.Spans.{is_part}
use Rattle.es_text.specs.Texts.{Text}
use Rattle.es_host.specs.Files.{File}
use Rattle.es_host.specs.Meanings.{Meaning}
use Rattle.es_host.specs.Reports.{kit_says}
use Rattle.es_host.specs.Spans.{fix_fits, fixes_fit, reports_fit}
use Rattle.es_messages.specs.declared.directive.DirectiveList.{DirectiveList}
use Rattle.es_messages.specs.declared.suppression.Suppressed.{Suppressed}
use Rattle.es_messages.specs.Directives.{comments_fit, directives}
use Rattle.es_messages.specs.Suppression.{suppressed}
use Rattle.es_lint.specs.declared.linting.Found.{Found}
use Rattle.es_lint.specs.Bad.{bad_in}
use Rattle.es_lint.specs.Lintings.{Linting, comments_in, file_under, ids_of, linting_on, said_in, sorted_out}
use Rattle.es_lint.specs.Order.{ordered}
use Rattle.es_lint.specs.Stages.{LiesWithin, linting_of, times}
use Rattle.es_lint.proofs.WithinLemmas.{dropped_passes, fix_plain, span_plain, stand_passes}

-- one report that lies in the text, and nothing suppressed
pub one_within : (bytes : List ℕ) (found : Found) (fatal : Report) → found.stand.items ≡ fatal ∷ [] → found.suppressed.items ≡ [] →
    is_part bytes fatal.span ≡ true → fix_fits bytes fatal.fix ≡ true → LiesWithin bytes found
one_within bytes found fatal stand suppressed span fix = record {
  stand = ap (reports_fit bytes) stand ∙ ap (λ b. b && true) span;
  stand_fixes = ap (fixes_fit bytes) stand ∙ ap (λ b. b && true) fix;
  suppressed = ap (reports_fit bytes) suppressed;
  suppressed_fixes = ap (fixes_fit bytes) suppressed;
}

abbrev stand_of : Suppressed → List (List ℕ) → Text → List Comment → List Report
stand_of all ids text comments = ordered (all.kept ++ (all.unused ++ bad_in ids text comments))

module _ (ids : List (List ℕ)) (text : Text) (comments : List Comment) (list : DirectiveList) (reports : List Report)
    (severity : Option Severity) (all : Suppressed) (list-is : list ≡ directives text comments)
    (all-is : all ≡ suppressed text.characters reports list.marks severity) where
  all-here : all ≡ suppressed text.characters reports (directives text comments).marks severity
  all-here = all-is ∙ ap (λ (l : DirectiveList). suppressed text.characters reports l.marks severity) list-is

  pub file_within : {E : Type 0} (bytes : List ℕ) → comments_fit bytes comments ≡ true → reports_fit bytes reports ≡ true → fixes_fit bytes reports ≡ true →
      (result : Result Found E) → IfOk result (λ found. found.stand.items ≡ stand_of all ids text comments) →
      IfOk result (λ found. found.suppressed.items ≡ ordered all.dropped) → IfOk result (LiesWithin bytes)
  file_within bytes inside spans fixes (Err error) stand dropped = tt
  file_within bytes inside spans fixes (Ok found) stand dropped =
      let stands = stand ∙ ap (λ a. stand_of a ids text comments) all-here in
      let drops = dropped ∙ ap (λ (a : Suppressed). ordered a.dropped) all-here in
      record {
        stand = ap (reports_fit bytes) stands ∙ stand_passes bytes (λ report. is_part bytes report.span) (span_plain bytes) ids text comments reports severity inside spans;
        stand_fixes = ap (fixes_fit bytes) stands ∙ stand_passes bytes (λ report. fix_fits bytes report.fix) (fix_plain bytes) ids text comments reports severity inside fixes;
        suppressed = ap (reports_fit bytes) drops ∙ dropped_passes bytes (λ report. is_part bytes report.span) (span_plain bytes) ids text comments reports severity inside spans;
        suppressed_fixes = ap (fixes_fit bytes) drops ∙ dropped_passes bytes (λ report. fix_fits bytes report.fix) (fix_plain bytes) ids text comments reports severity inside fixes;
      }

module _ (meanings : List Meaning) (file : File) (ids : List (List ℕ)) (comments : List Comment) (list : DirectiveList)
    (reports : List Report) (all : Suppressed) (ids-is : ids ≡ ids_of meanings) (comments-are : comments ≡ comments_in file)
    (list-is : list ≡ directives file.text comments) (reports-are : reports ≡ kit_says meanings (file_under list ids file))
    (all-is : all ≡ suppressed file.text.characters reports list.marks file.settings.unused) where
  said : list ≡ said_in file
  said = list-is ∙ ap (directives file.text) comments-are

  heard : reports ≡ kit_says meanings (file_under (said_in file) (ids_of meanings) file)
  heard =
      reports-are
      ∙ ap (λ l. kit_says meanings (file_under l ids file)) said
      ∙ ap (λ i. kit_says meanings (file_under (said_in file) i file)) ids-is

  sorted : all ≡ sorted_out meanings file
  sorted =
      all-is
      ∙ ap (λ r. suppressed file.text.characters r list.marks file.settings.unused) heard
      ∙ ap (λ (l : DirectiveList). suppressed file.text.characters (kit_says meanings (file_under (said_in file) (ids_of meanings) file)) l.marks file.settings.unused) said

  abbrev made : List Report → List Report → ℕ → Linting
  made stand dropped count = record { stand = stand; suppressed = dropped; heard = count }

  pub file_linting : {E : Type 0} (result : Result Found E) → IfOk result (λ found. found.stand.items ≡ stand_of all ids file.text comments) →
      IfOk result (λ found. found.suppressed.items ≡ ordered all.dropped) → IfOk result (λ found. IsTrue found.heard) →
      IfOk result (λ found. linting_of found ≡ linting_on meanings file)
  file_linting (Err error) stand dropped once = tt
  file_linting (Ok found) stand dropped once =
      let stands : found.stand.items ≡ (linting_on meanings file).stand =
      stand ∙ ap (λ a. stand_of a ids file.text comments) sorted ∙ ap (λ i. stand_of (sorted_out meanings file) i file.text comments) ids-is
      ∙ ap (λ cs. stand_of (sorted_out meanings file) (ids_of meanings) file.text cs) comments-are in
      let drops : found.suppressed.items ≡ (linting_on meanings file).suppressed = dropped ∙ ap (λ (a : Suppressed). ordered a.dropped) sorted in
      ap (λ s. made s found.suppressed.items (times found.heard)) stands
      ∙ ap (λ d. made (linting_on meanings file).stand d (times found.heard)) drops
      ∙ ap (λ b. made (linting_on meanings file).stand (linting_on meanings file).suppressed (times b)) once
