-- Exit statuses, and the lines on standard error.
use Rattle.std.specs.Prelude.{ℕ, List, ◌++◌, codes, decimal, encode_utf8_all}
use Rattle.es_config.specs.declared.fault.FaultKind.{FaultKind}
use Rattle.es_config.specs.declared.fault.FaultKind.TheVariants as kind
use Rattle.es_run.specs.declared.status.Status.{Status}
use Rattle.es_run.specs.declared.status.Status.TheVariants.{Clean, Problems, Stopped, NoMemory}
use Rattle.es_run.specs.declared.status.StopCause.{StopCause}
use Rattle.es_run.specs.declared.status.StopCause.TheVariants.{BadWords, TooMany, ConfigMissing, BadConfig, NoFile, TooLong, CannotRead, TooMuch, CannotWrite, CannotPrint}
use Rattle.es_format.specs.Stylish.{line_end}

abbrev pub status_code_of : Status → ℕ
status_code_of Clean = 0
status_code_of Problems = 1
status_code_of (Stopped cause) = 2
status_code_of NoMemory = 3

-- what is wrong with a configuration, as it is told
unfoldable pub kind_text : FaultKind → List ℕ
kind_text kind.NotJson = codes "NotJson"
kind_text kind.WrongShape = codes "WrongShape"
kind_text kind.UnknownKey = codes "UnknownKey"
kind_text kind.UnknownRule = codes "UnknownRule"
kind_text kind.BadSeverity = codes "BadSeverity"
kind_text kind.BadOption = codes "BadOption"
kind_text kind.BadGlob = codes "BadGlob"
kind_text kind.BadSelector = codes "BadSelector"

-- a line that names a file
abbrev pub line_about : List ℕ → List ℕ → List ℕ
line_about what name = what ++ (encode_utf8_all name ++ line_end)

-- the line of a configuration of this name in which something is wrong
abbrev pub bad_line : List ℕ → FaultKind → List ℕ → List ℕ
bad_line name kind pointer =
    codes "esl: " ++ (encode_utf8_all name ++ (codes ": " ++ (kind_text kind
    ++ (codes " at " ++ (encode_utf8_all pointer ++ line_end)))))

-- the line on standard error for each cause, where the configuration has this name
abbrev pub fault_line : List ℕ → StopCause → List ℕ
fault_line config BadWords = codes "esl: bad arguments" ++ line_end
fault_line config (TooMany names) = codes "esl: too many names" ++ line_end
fault_line config ConfigMissing = line_about (codes "esl: no configuration: ") config
fault_line config (BadConfig kind pointer) = bad_line config kind pointer
fault_line config (NoFile name) = line_about (codes "esl: no such file: ") name
fault_line config (TooLong name) = line_about (codes "esl: too long: ") name
fault_line config (CannotRead name) = line_about (codes "esl: cannot read: ") name
fault_line config (TooMuch bytes) = codes "esl: too much text" ++ line_end
fault_line config (CannotWrite name) = line_about (codes "esl: cannot write: ") name
fault_line config CannotPrint = codes "esl: cannot print" ++ line_end

-- the line of a run without an error in which there are more warnings than this
abbrev pub warnings_line : ℕ → List ℕ
warnings_line limit = codes "esl: too many warnings (maximum: " ++ (decimal limit ++ (codes ")" ++ line_end))
