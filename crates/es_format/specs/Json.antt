-- The JSON report of what linting gave, file by file: an array of objects, with their keys in the order of their bytes.
use Rattle.std.specs.Prelude.{ℕ, Bool, Option, Some, None, List, ◌++◌, map, codes}
use Rattle.serde_json.specs.Data.{Data, array, object, Members, no_members, member}
use Rattle.serde_json.specs.View.{items_of}
use Rattle.serde_json.specs.Written.{compact_text}
use Rattle.es_format.specs.MessageData.{message_data, number_data, text_data}
use Rattle.es_messages.specs.declared.message.FileResult.{FileResult}
use Rattle.es_messages.specs.declared.message.Message.{Message}
use Rattle.es_format.specs.Stylish.{Named, error, fixable_error, fixable_warning, line_end, number_of, warning}

abbrev pub fatal : Message → Bool
fatal message = message.fatal

-- how many of the messages are so
abbrev pub count_of : (Message → Bool) → List Message → Data
count_of counts messages = number_data (number_of counts messages)

abbrev pub messages_data : List Message → Data
messages_data messages = array (items_of (map message_data messages))

-- `output` is there only where a fix was made
abbrev pub with_output : Option (List ℕ) → Members → Members
with_output None members = members
with_output (Some output) members = member (codes "output") (text_data output) members

abbrev pub result_members : List ℕ → FileResult → Option (List ℕ) → Members
result_members name result output =
    let messages = result.messages in
    member (codes "errorCount") (count_of error messages)
    (member (codes "fatalErrorCount") (count_of fatal messages)
    (member (codes "filePath") (text_data name)
    (member (codes "fixableErrorCount") (count_of fixable_error messages)
    (member (codes "fixableWarningCount") (count_of fixable_warning messages)
    (member (codes "messages") (messages_data messages)
    (with_output output
    (member (codes "suppressedMessages") (messages_data result.suppressed)
    (member (codes "warningCount") (count_of warning messages) no_members))))))))

abbrev pub result_data : Named → Data
result_data named = object (result_members named.0 named.1 named.1.output)

abbrev pub results_data : List Named → Data
results_data results = array (items_of (map result_data results))

-- the bytes of the report: the array without any space, and LF
abbrev pub json_of : List Named → List ℕ
json_of results = compact_text (results_data results) ++ line_end
