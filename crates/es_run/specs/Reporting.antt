-- What a run prints, writes, tells and answers, by what it has to tell of each file.
use Rattle.std.specs.Prelude.{ℕ, Bool, false, List, [], ◌∷◌, map, Option, None, Some, encode_utf8_all, nat_lt, if◌then◌else◌}
use Rattle.std.specs.List.{filter, flat_map, list_any}
use Rattle.es_messages.specs.declared.message.FileResult.{FileResult}
use Rattle.es_messages.specs.declared.message.Message.{Message}
use Rattle.es_format.specs.Json.{json_of}
use Rattle.es_format.specs.Stylish.{Named, error, number_of, stylish_of, warning}
use Rattle.es_run.specs.declared.status.Status.{Status}
use Rattle.es_run.specs.declared.status.Status.TheVariants.{Clean, Problems}
use Rattle.es_run.specs.Statuses.{warnings_line}

-- ---- what is printed

-- its errors alone
abbrev pub errors_alone : FileResult → FileResult
errors_alone result =
    record result { messages = filter error result.messages; suppressed = filter error result.suppressed }

abbrev pub quiet_named : Named → Named
quiet_named named = (named.0, errors_alone named.1)

-- what is told of these, with warnings or without
abbrev pub shown : Bool → List Named → List Named
shown quiet results = if quiet then map quiet_named results else results

-- the bytes of the report
abbrev pub report_of : Bool → Bool → List Named → List ℕ
report_of json quiet results =
    if json then json_of (shown quiet results) else encode_utf8_all (stylish_of (shown quiet results))

-- ---- what is written

-- a file that is written: its name and its bytes
pub record Writing : Type 0 where
  pub name : List ℕ
  pub bytes : List ℕ

abbrev pub writing_of : List ℕ → Option (List ℕ) → List Writing
writing_of name None = []
writing_of name (Some text) = record { name = encode_utf8_all name; bytes = encode_utf8_all text } ∷ []

-- each file whose text fixes changed, in order
abbrev pub writes_of : List Named → List Writing
writes_of results = flat_map (λ (named : Named). writing_of named.0 named.1.output) results

-- ---- the status, by all messages: those that aren't shown count

-- there are more warnings than the limit
abbrev pub are_too_many : Option ℕ → List Message → Bool
are_too_many None messages = false
are_too_many (Some limit) messages = nat_lt limit (number_of warning messages)

abbrev pub has_error : List Message → Bool
has_error messages = list_any error messages

abbrev pub status_of : Option ℕ → List Message → Status
status_of limit messages =
    if has_error messages then Problems else if are_too_many limit messages then Problems else Clean

-- the line of the limit, if there is one
abbrev pub limit_line : Option ℕ → List ℕ
limit_line None = []
limit_line (Some limit) = warnings_line limit

-- the line that is told after the report: that of the limit, where that alone makes problems
abbrev pub line_of : Option ℕ → List Message → List ℕ
line_of limit messages =
    if has_error messages then [] else if are_too_many limit messages then limit_line limit else []
