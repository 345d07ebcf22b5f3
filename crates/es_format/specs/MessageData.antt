-- A message as ESLint's JSON format has it: an object with its keys in the order of their bytes.
use Rattle.std.specs.Prelude.{ℕ, Bool, true, false, List, Option, None, Some, codes, encode_utf8_all}
use Rattle.serde_json.specs.Data.{Data, null, boolean, number, unsigned, string, array, object, no_items, item, Members, no_members, member}
use Rattle.es_text.specs.declared.finding.Severity.{Severity}
use Rattle.es_text.specs.declared.finding.Severity.TheVariants.{Error, Warn}
use Rattle.es_messages.specs.declared.message.Message.{Message}
use Rattle.es_messages.specs.declared.message.UnitFix.{UnitFix}

abbrev pub number_data : ℕ → Data
number_data number_of = number (unsigned number_of)

abbrev pub text_data : List ℕ → Data
text_data characters = string (encode_utf8_all characters)

-- a level of severity, as ESLint numbers it
abbrev pub level_of : Severity → ℕ
level_of Warn = 1
level_of Error = 2

-- the rule's id, or null where no rule made the message
abbrev pub rule_data : Option (List ℕ) → Data
rule_data None = null
rule_data (Some rule) = text_data rule

-- the two ends of what is replaced, and the text that comes in its place
abbrev pub fix_data : UnitFix → Data
fix_data fix =
    object (member (codes "range") (array (item (number_data fix.start) (item (number_data fix.end) no_items)))
    (member (codes "text") (text_data fix.text) no_members))

-- `fatal` is there only where it is true
abbrev pub with_fatal : Bool → Members → Members
with_fatal false members = members
with_fatal true members = member (codes "fatal") (boolean true) members

-- `fix` is there only where the message has one
abbrev pub with_fix : Option UnitFix → Members → Members
with_fix None members = members
with_fix (Some fix) members = member (codes "fix") (fix_data fix) members

abbrev pub message_members : Message → Bool → Option UnitFix → Members
message_members message fatal fix =
    member (codes "column") (number_data message.column)
    (member (codes "endColumn") (number_data message.end_column)
    (member (codes "endLine") (number_data message.end_line)
    (with_fatal fatal (with_fix fix
    (member (codes "line") (number_data message.line)
    (member (codes "message") (text_data message.text)
    (member (codes "ruleId") (rule_data message.rule)
    (member (codes "severity") (number_data (level_of message.severity)) no_members))))))))

abbrev pub message_data : Message → Data
message_data message = object (message_members message message.fatal message.fix)
