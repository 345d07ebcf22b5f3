-- How long a generated text is, and what is made of it.
use Rattle.std.proofs.Common.{◌≡◌, ◌==◌, ◌∙◌, ℕ, zero, suc, ◌*◌, ◌≤◌, List, [], ◌++◌, Result, Ok, Err, ap, arith, codes, decimal, length, length-append, map, string_bytes, subst}
use Rattle.std.specs.Prelude.{IfOk}
use Rattle.std.proofs.lemmas.Fmt.{length-decimal-le}
use Rattle.es_text.specs.SourceFaults.{most_bytes}
use Rattle.es_settings.specs.declared.mode.Mode.TheVariants.{Report}
use Rattle.es_host.specs.Meanings.{Meaning}
use Rattle.es_messages.specs.declared.message.FileResult.{FileResult}
use Rattle.es_run.specs.declared.reporting.Made.{Made}
use Rattle.es_run.specs.Gathering.{Part}
use Rattle.es_run.specs.Generated.{IsReportOnText, counts_line, generated_text, numbered_line, set_text}
use Rattle.es_run.specs.Stages.{IsLintedAs, done_status, write_in}

line_short : (i : ℕ) → i ≤ 10000 → length (numbered_line i) ≤ 80
line_short i few =
    let digits = length-decimal-le 5 i (omega arith) (omega (arith, few)) (omega (arith, few)) in
    let last = length-append (decimal i) (codes ") { return a; } a++; } debugger; }\n") in
    let first = length-append (decimal i) (codes "(a) { for (;;) { if (a > " ++ (decimal i ++ codes ") { return a; } a++; } debugger; }\n")) in
    omega (arith, digits, last, first)

by_lines : (count : ℕ) → count ≤ 10000 → length (generated_text count) ≤ 80 * count
by_lines zero few = omega arith
by_lines (suc count) few =
    let before = by_lines count (omega (arith, few)) in
    let line = line_short (suc count) few in
    let both = length-append (generated_text count) (numbered_line (suc count)) in
    omega (arith, before, line, both)

pub text_short : (count : ℕ) → count ≤ 10000 → length (generated_text count) ≤ most_bytes
text_short count few =
    let lines = by_lines count few in
    omega (arith, lines, few)

module _ (meanings : List Meaning) (count before now : ℕ) (part : Part) (told : FileResult) where
  -- what is made of what linting the text gives
  pub report_made : {E : Type 0} (result : Result Made E) (bytes problems : ℕ) → part ≡ set_text (length meanings) (generated_text count) →
      bytes ≡ length (generated_text count) → problems ≡ length told.messages → IsLintedAs meanings Report part before told now →
      IfOk result (λ made. string_bytes made.text ≡ counts_line count bytes problems) →
      IfOk result (λ made. made.clean ≡ (problems == 0)) → IfOk result (λ made. string_bytes made.line ≡ []) →
      IfOk result (λ made. made.writes.items ≡ []) → IfOk result (IsReportOnText meanings count before now)
  report_made (Err fault) bytes problems same long many linted text clean line writes = tt
  report_made (Ok made) bytes problems same long many linted text clean line writes = record {
    told = told;
    linted = subst (λ (p : Part). IsLintedAs meanings Report p before told now) same linted;
    text = text ∙ ap (λ n. counts_line count n problems) long ∙ ap (counts_line count (length (generated_text count))) many;
    clean = ap done_status (clean ∙ ap (λ n. n == 0) many);
    line = line;
    writes = ap (map write_in) writes;
  }
