-- The stylish report of what linting gave, file by file. Its parts are lists of characters, and so are widths counted.
use Rattle.std.specs.Prelude.{ℕ, ◌-◌, Bool, true, false, not, ◌&&◌, Option, Some, None, is_some, List, [], ◌∷◌, ◌++◌, length, map, max, replicate, codes, ◌==◌, if◌then◌else◌}
use Rattle.std.specs.Fmt.{decimal}
use Rattle.std.specs.List.{filter, flat_map}
use Rattle.es_text.specs.declared.finding.Severity.{Severity}
use Rattle.es_text.specs.declared.finding.Severity.TheVariants.{Error, Warn}
use Rattle.es_messages.specs.declared.message.FileResult.{FileResult}
use Rattle.es_messages.specs.declared.message.Message.{Message}

-- a file's name, and what linting it gave
abbrev pub Named : Type 0
Named = List ℕ × FileResult

-- ---- parts of a line

-- LF
abbrev pub line_end : List ℕ
line_end = 10 ∷ []

-- `LINE:COLUMN` where the message starts
abbrev pub place_text : Message → List ℕ
place_text message = decimal message.line ++ (codes ":" ++ decimal message.column)

unfoldable pub severity_text : Severity → List ℕ
severity_text Error = codes "error"
severity_text Warn = codes "warning"

-- the length of the longest text
abbrev pub widest : List (List ℕ) → ℕ
widest [] = 0
widest (text ∷ texts) = max (length text) (widest texts)

-- a space
abbrev pub space : ℕ
space = 32

-- the text, with spaces at its right up to the width
abbrev pub padded : ℕ → List ℕ → List ℕ
padded width text = text ++ replicate (width - length text) space

-- the message at this width and the rule's id, or the message alone where no rule made it
unfoldable pub told : ℕ → List ℕ → Option (List ℕ) → List ℕ
told width text None = text
told width text (Some rule) = padded width text ++ (codes "  " ++ rule)

-- ---- the lines of a file

-- the widths of a file's columns
abbrev pub widest_place : List Message → ℕ
widest_place messages = widest (map place_text messages)

abbrev pub widest_severity : List Message → ℕ
widest_severity messages = widest (map (λ (message : Message). severity_text message.severity) messages)

abbrev pub widest_text : List Message → ℕ
widest_text messages = widest (map (λ (message : Message). message.text) messages)

-- the line of a message, where the columns have these widths
abbrev pub message_line : ℕ → ℕ → ℕ → Message → List ℕ
message_line place severity text message =
    codes "  " ++ (padded place (place_text message)
    ++ (codes "  " ++ (padded severity (severity_text message.severity)
    ++ (codes "  " ++ (told text message.text message.rule ++ line_end)))))

abbrev pub message_lines : List Message → List ℕ
message_lines messages =
    flat_map (message_line (widest_place messages) (widest_severity messages) (widest_text messages)) messages

-- nothing where the file has no message; else LF, its name, LF and a line for each message
abbrev pub file_text : List ℕ → List Message → List ℕ
file_text name [] = []
file_text name (message ∷ messages) =
    line_end ++ (name ++ (line_end ++ message_lines (message ∷ messages)))

abbrev pub files_text : List Named → List ℕ
files_text results = flat_map (λ (named : Named). file_text named.0 named.1.messages) results

-- ---- the lines at the end

abbrev pub all_messages : List Named → List Message
all_messages results = flat_map (λ (named : Named). named.1.messages) results

abbrev pub is_error : Severity → Bool
is_error Error = true
is_error Warn = false

abbrev pub error : Message → Bool
error message = is_error message.severity

abbrev pub warning : Message → Bool
warning message = not (is_error message.severity)

abbrev pub fixable_error : Message → Bool
fixable_error message = is_error message.severity && is_some message.fix

abbrev pub fixable_warning : Message → Bool
fixable_warning message = not (is_error message.severity) && is_some message.fix

-- how many of the messages are so
abbrev pub number_of : (Message → Bool) → List Message → ℕ
number_of counts messages = length (filter counts messages)

-- a noun is singular where its number is 1, and else ends in an s
abbrev pub ending_of : ℕ → List ℕ
ending_of number = if number == 1 then [] else codes "s"

-- a number and its noun
abbrev pub counted : ℕ → List ℕ → List ℕ
counted number noun = decimal number ++ (codes " " ++ (noun ++ ending_of number))

-- ✖
abbrev pub heavy_cross : ℕ
heavy_cross = 0x2716

-- `✖ N problems (E errors, W warnings)` and LF
abbrev pub summary : ℕ → ℕ → ℕ → List ℕ
summary problems errors warnings =
    heavy_cross ∷ codes " " ++ (counted problems (codes "problem")
    ++ (codes " (" ++ (counted errors (codes "error")
    ++ (codes ", " ++ (counted warnings (codes "warning") ++ (codes ")" ++ line_end))))))

-- what follows the numbers of problems that have a fix
unfoldable pub fixable_end : List ℕ
fixable_end = codes " potentially fixable with the `--fix` option."

-- `  E errors and W warnings`, that and LF
abbrev pub fixable_text : ℕ → ℕ → List ℕ
fixable_text errors warnings =
    codes "  " ++ (counted errors (codes "error")
    ++ (codes " and " ++ (counted warnings (codes "warning") ++ (fixable_end ++ line_end))))

-- the line of the problems that have a fix, where there are any
unfoldable pub fixable_line : ℕ → ℕ → List ℕ
fixable_line errors warnings = if (errors == 0) && (warnings == 0) then [] else fixable_text errors warnings

-- the numbers of these messages, and of those that have a fix
abbrev pub numbers_text : List Message → List ℕ
numbers_text messages =
    summary (length messages) (number_of error messages) (number_of warning messages)
    ++ fixable_line (number_of fixable_error messages) (number_of fixable_warning messages)

abbrev pub end_text : List Message → List ℕ
end_text [] = []
end_text (message ∷ messages) = line_end ++ numbers_text (message ∷ messages)

-- the report of these files, which is empty without any message
abbrev pub stylish_of : List Named → List ℕ
stylish_of results = files_text results ++ end_text (all_messages results)
