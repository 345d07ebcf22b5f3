-- The texts of fatal reports, and where they stand.
use Rattle.std.proofs.Common.{◌≡◌, ℕ, ◌<◌, ◌^◌, List, [], ◌∷◌, ◌++◌, true, refl, sym, ap, subst, arith, ◌∙◌}
use Rattle.std.proofs.lemmas.Bool.{and_parts}
use Rattle.std.proofs.lemmas.Bool.Decides.{nat_tests}
use Rattle.std.proofs.lemmas.Fmt.{IsAscii-decimal}
use Rattle.std.proofs.lemmas.Str.{IsAscii-append, chars-IsAscii}
use Rattle.std.proofs.lemmas.Str.Ascii.{IsAscii-cons, IsAscii-nil}
use Rattle.std.specs.List.{list_all}
use Rattle.std.specs.Prelude.{Some, None, Result, Ok, Err, IfOk, codes, nat_lt}
use Rattle.std.specs.Fmt.{decimal}
use Rattle.std.specs.Str.{IsAscii, chars}
use Rattle.es_text.specs.declared.finding.Report.{Report}
use Rattle.es_text.specs.Spans.{LiesIn, PartsLie, is_part}
use Rattle.es_parser.specs.declared.parser.ParseFault.{ParseFault}
use Rattle.es_parser.specs.declared.parser.ParseFault.TheVariants as fault
use Rattle.es_parser.specs.Parsing.{IsInText}
use Rattle.es_host.specs.Spans.{fix_fits}
use Rattle.es_lint.specs.Fatal.{early_text, empty_at, fatal_of, fatal_report, fault_fatal}

-- bytes that are ASCII, as a test tells that computes
ascii_from : (bytes : List ℕ) → list_all (λ byte. nat_lt byte 128) bytes ≡ true → IsAscii bytes
ascii_from [] plain = IsAscii-nil
ascii_from (byte ∷ bytes) plain =
    let parts = and_parts (nat_lt byte 128) (list_all (λ b. nat_lt b 128) bytes) plain in
    IsAscii-cons byte bytes (grind (arith, nat_tests)) (ascii_from bytes parts.1)

unread_text : chars (codes "Parsing error: unreadable item.") ≡ codes "Parsing error: unreadable item."
unread_text = chars-IsAscii _ (ascii_from (codes "Parsing error: unreadable item.") refl)

deep_text : chars (codes "Parsing error: nested too deeply.") ≡ codes "Parsing error: nested too deeply."
deep_text = chars-IsAscii _ (ascii_from (codes "Parsing error: nested too deeply.") refl)

pub early_chars : (code : ℕ) → code < 2 ^ 64 → chars (early_text code) ≡ early_text code
early_chars code small =
    chars-IsAscii (early_text code)
    (IsAscii-append (codes "Parsing error: early error E") (decimal code ++ codes ".")
    (ascii_from (codes "Parsing error: early error E") refl)
    (IsAscii-append (decimal code) (codes ".") (IsAscii-decimal code small) (ascii_from (codes ".") refl)))

under_ok : {T E : Type 0} (result : Result T E) (P Q : T → Type 0) → ((value : T) → P value → Q value) → IfOk result P → IfOk result Q
under_ok (Ok value) P Q step holds = step value holds
under_ok (Err error) P Q step holds = tt

abbrev is_at : ℕ → List ℕ → Report → Type 0
is_at at text fatal = fatal ≡ fatal_report (empty_at at) text

pub unread_told : {E : Type 0} (result : Result Report E) (given : ParseFault) (at : ℕ) → given ≡ fault.Unread at →
    IfOk result (is_at at (chars (codes "Parsing error: unreadable item."))) → IfOk result (λ fatal. fault_fatal given ≡ Some fatal)
unfolding fatal_of
unread_told result given at is holds =
    under_ok result (is_at at (chars (codes "Parsing error: unreadable item."))) (λ fatal. fault_fatal given ≡ Some fatal)
    (λ fatal same. ap fault_fatal is ∙ sym (ap (λ (f : Report). Some f) (same ∙ ap (fatal_report (empty_at at)) unread_text))) holds

pub deep_told : {E : Type 0} (result : Result Report E) (given : ParseFault) (at : ℕ) → given ≡ fault.Deep at →
    IfOk result (is_at at (chars (codes "Parsing error: nested too deeply."))) → IfOk result (λ fatal. fault_fatal given ≡ Some fatal)
unfolding fatal_of
deep_told result given at is holds =
    under_ok result (is_at at (chars (codes "Parsing error: nested too deeply."))) (λ fatal. fault_fatal given ≡ Some fatal)
    (λ fatal same. ap fault_fatal is ∙ sym (ap (λ (f : Report). Some f) (same ∙ ap (fatal_report (empty_at at)) deep_text))) holds

-- ---- where a fault is told

no_report : {fatal : Report} → None ≡ Some fatal → ⊥
no_report h = absurd (cc)

fatal_is : {one other : Report} → Some one ≡ Some other → one ≡ other
fatal_is h = cc

-- its span lies in the text
pub fatal_within : (text : List ℕ) (given : ParseFault) (fatal : Report) → PartsLie → IsInText text given → fault_fatal given ≡ Some fatal →
    is_part text fatal.span ≡ true
unfolding fatal_of
fatal_within text (fault.Unread at) fatal parts inside told =
    let lies : LiesIn text (empty_at at) = record { order = omega arith; start = inside; end = inside } in
    subst (λ (f : Report). is_part text f.span ≡ true) (fatal_is told) ((parts text (empty_at at)).1 lies)
fatal_within text (fault.Deep at) fatal parts inside told =
    let lies : LiesIn text (empty_at at) = record { order = omega arith; start = inside; end = inside } in
    subst (λ (f : Report). is_part text f.span ≡ true) (fatal_is told) ((parts text (empty_at at)).1 lies)
fatal_within text (fault.Early code span) fatal parts inside told =
    subst (λ (f : Report). is_part text f.span ≡ true) (fatal_is told) ((parts text span).1 inside)
fatal_within text fault.NoMemory fatal parts inside told = absurd (no_report told)

-- and it has no fix
pub fatal_plain : (text : List ℕ) (given : ParseFault) (fatal : Report) → fault_fatal given ≡ Some fatal → fix_fits text fatal.fix ≡ true
unfolding fatal_of
fatal_plain text (fault.Unread at) fatal told = subst (λ (f : Report). fix_fits text f.fix ≡ true) (fatal_is told) refl
fatal_plain text (fault.Deep at) fatal told = subst (λ (f : Report). fix_fits text f.fix ≡ true) (fatal_is told) refl
fatal_plain text (fault.Early code span) fatal told = subst (λ (f : Report). fix_fits text f.fix ≡ true) (fatal_is told) refl
fatal_plain text fault.NoMemory fatal told = absurd (no_report told)
