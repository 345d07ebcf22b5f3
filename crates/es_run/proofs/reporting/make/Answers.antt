use Rattle.std.proofs.Common.{rules, ◌≡◌, ◌∙◌, ◌&&◌, None, false, ap, if◌then◌else◌, map, not, string_bytes}
use Rattle.es_format.specs.Stylish.{all_messages}
use Rattle.es_run.specs.Reporting.{are_too_many, has_error, limit_line, report_of, shown, writes_of}
use Rattle.es_run.specs.Stages.{write_in}
use Rattle.es_run.proofs.ReportingLemmas.{made_line, made_status, shown_writes}
use Rattle.es_run.proofs.reporting.make.Goals as goal
use Rattle.es_run.proofs.reporting.make.Goals.{else-not-failing, else-not-failing-2, else-over, then-not-failing, then-not-failing-2, then-over}

pub returns-clause-made : goal.returns-clause-made
returns-clause-made c =
    let failing = has_error (all_messages c.args.results.items) in
    let many = are_too_many c.args.manner.limit (all_messages c.args.results.items) in
    let over : c.if-not-failing.over ≡ (not failing && many) =
    elim c.if-not-failing.branch [ then-not-failing w ↦ search rules | else-not-failing w ↦ search rules ] in
    let clean : c.if-not-failing-2.result ≡ (not failing && not c.if-not-failing.over) =
    elim c.if-not-failing-2.branch [ then-not-failing-2 w ↦ search rules | else-not-failing-2 w ↦ search rules ] in
    let line : string_bytes c.in_ok-line.line ≡ limit_line (if c.if-not-failing.over then c.args.manner.limit else None) =
    elim c.if-over.branch [ then-over w ↦ search rules | else-over w ↦ search rules ] in
    let told : c.in_ok-told.told.items ≡ shown c.args.manner.quiet c.args.results.items = search rules in
    let writes : map write_in c.in_ok-writes.writes.items ≡ writes_of c.in_ok-told.told.items = search rules in
    let text : string_bytes c.in_ok-text.text ≡ report_of c.args.manner.json false c.in_ok-told.told.items = search rules in
    record {
      text = text ∙ ap (report_of c.args.manner.json false) told;
      status = made_status c.args.manner.limit (string_bytes c.in_ok-line.line) _ _ failing many over clean;
      writes = writes ∙ ap writes_of told ∙ shown_writes c.args.manner.quiet c.args.results.items;
      line = made_line c.args.manner.limit (string_bytes c.in_ok-line.line) _ c.if-not-failing-2.result failing many over line;
    }
