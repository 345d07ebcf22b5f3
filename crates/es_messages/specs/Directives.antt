-- What the comments of a text say. ESLint's guide, "Configuration comments" and "Disable rules".
use Rattle.std.specs.Prelude.{◌≡◌, ℕ, ◌+◌, ◌-◌, ◌==◌, ◌&&◌, ◌||◌, Bool, true, false, not, List, [], ◌∷◌, ◌++◌, length, Option, None, Some, codes, drop, filter, map, nat_le, nat_lt, option_and_then, option_map, reverse, slice_index, slice_range, take, if◌then◌else◌}
use Rattle.std.specs.List.{after_first, before_first, filter_map, flat_map, list_all, list_any, position_or_len, prefix_len, slice_split}
use Rattle.std.specs.Option.{is_none, option_map_or, option_to_list}
use Rattle.std.specs.Str.{bytes_eq, chars}
use Rattle.es_text.specs.Characters.{apostrophe, quotation_mark}
use Rattle.es_text.specs.Rest.{begins}
use Rattle.es_text.specs.Spans.{is_part}
use Rattle.es_text.specs.Texts.{Text, place_at, text_bytes}
use Rattle.es_text.specs.declared.finding.Severity.{Severity}
use Rattle.es_text.specs.declared.finding.Severity.TheVariants.{Error, Warn}
use Rattle.es_text.specs.declared.span.Span.{Span}
use Rattle.es_text.specs.declared.token.Comment.{Comment}
use Rattle.es_settings.specs.declared.global_use.GlobalUse.{GlobalUse}
use Rattle.es_settings.specs.declared.global_use.GlobalUse.TheVariants.{Off, On}
use Rattle.es_messages.specs.declared.comment.Directive.{Directive}
use Rattle.es_messages.specs.declared.comment.Directive.TheVariants.{Disabling, DisablingLine, DisablingNextLine, Enabling, Setting, Globals}
use Rattle.es_messages.specs.declared.directive.BadEntry.{BadEntry}
use Rattle.es_messages.specs.declared.directive.DirectiveList.{DirectiveList}
use Rattle.es_messages.specs.declared.directive.Entry.{Entry}
use Rattle.es_messages.specs.declared.directive.Mark.{Mark}
use Rattle.es_messages.specs.declared.directive.MarkKind.{MarkKind}
use Rattle.es_messages.specs.declared.directive.MarkKind.TheVariants.{Disable, Enable, Line}
use Rattle.es_messages.specs.Classes.{is_blank, is_colon, is_hyphen, is_separator}
use Rattle.es_messages.specs.Stretches.{Characters, behind, front, holds, listed, trimmed, width}

-- `*/` takes two characters, as the mark does that begins a comment
abbrev pub mark_len : ℕ
mark_len = 2

-- what stands between the marks of a comment
abbrev pub contents_in : Bool → Characters → Characters
contents_in block whole =
    behind mark_len (if block then front (length whole.list - mark_len) whole else whole)

-- white space, at least two hyphens and white space: what follows is a remark
abbrev pub begins_remark : List ℕ → Bool
begins_remark [] = false
begins_remark (c ∷ cs) =
    is_blank c && (nat_le 2 (prefix_len is_hyphen cs) && begins is_blank (drop (prefix_len is_hyphen cs) cs))

-- how many characters stand in front of the remark
abbrev pub remark_at : List ℕ → ℕ
remark_at [] = 0
remark_at (c ∷ cs) = if begins_remark (c ∷ cs) then 0 else 1 + remark_at cs

abbrev pub without_remark : Characters → Characters
without_remark part = front (remark_at part.list) part

-- the text of a comment: without its marks, white space at its ends and a remark
abbrev pub text_in : Bool → Characters → Characters
text_in block whole = trimmed (without_remark (trimmed (contents_in block whole)))

abbrev pub whole_of : List ℕ → Span → Characters
whole_of bytes span = record { at = span.start; list = chars (slice_range bytes span.start span.end) }

abbrev pub text_of : List ℕ → Comment → Characters
text_of bytes comment = text_in comment.block (whole_of bytes comment.span)

-- its first word, and what follows that
abbrev pub first_word : Characters → List ℕ
first_word text = before_first is_blank text.list

abbrev pub behind_word : Characters → Characters
behind_word text = behind (position_or_len is_blank text.list) text

-- the directive with this first word, in a block comment or in another one
abbrev pub block_directive_of : List ℕ → Option Directive
block_directive_of word =
    if bytes_eq word (codes "eslint-disable") then Some Disabling
    else if bytes_eq word (codes "eslint-enable") then Some Enabling
    else if bytes_eq word (codes "eslint") then Some Setting
    else if bytes_eq word (codes "global") || bytes_eq word (codes "globals") then Some Globals
    else None

abbrev pub directive_of : Bool → List ℕ → Option Directive
directive_of block word =
    if bytes_eq word (codes "eslint-disable-line") then Some DisablingLine
    else if bytes_eq word (codes "eslint-disable-next-line") then Some DisablingNextLine
    else if block then block_directive_of word
    else None

-- the line of an offset
abbrev pub line_at : List ℕ → ℕ → ℕ
line_at characters at = (place_at characters at).line

-- the line of a comment that stands on one
abbrev pub one_line : List ℕ → Span → Option ℕ
one_line characters span =
    if line_at characters span.start == line_at characters span.end
    then Some (line_at characters span.start) else None

-- `eslint-disable-line` is a directive only on one line
abbrev pub mark_kind : List ℕ → Span → Directive → Option MarkKind
mark_kind characters span Disabling = Some Disable
mark_kind characters span Enabling = Some Enable
mark_kind characters span DisablingLine = option_map Line (one_line characters span)
mark_kind characters span DisablingNextLine = Some (Line (line_at characters span.end + 1))
mark_kind characters span Setting = None
mark_kind characters span Globals = None

abbrev pub mark_of : List ℕ → Span → Characters → Directive → Option Mark
mark_of characters span rest directive =
    option_map (λ kind. record { kind = kind; rules = map (λ one. one.list) (listed rest); span = span })
    (mark_kind characters span directive)

-- without one pair of equal quotes around it
abbrev pub is_quote : ℕ → Bool
is_quote c = c == quotation_mark || c == apostrophe

abbrev pub ends_in : ℕ → List ℕ → Bool
ends_in c cs = nat_lt 0 (length cs) && slice_index cs (length cs - 1) == c

abbrev pub unquoted : List ℕ → List ℕ
unquoted [] = []
unquoted (c ∷ cs) = if is_quote c && ends_in c cs then take (length cs - 1) cs else c ∷ cs

-- a severity, as a configuration has it; `off` and `0` are `Some None`
abbrev pub severity_of : List ℕ → Option (Option Severity)
severity_of word =
    if bytes_eq word (codes "off") || bytes_eq word (codes "0") then Some None
    else if bytes_eq word (codes "warn") || bytes_eq word (codes "1") then Some (Some Warn)
    else if bytes_eq word (codes "error") || bytes_eq word (codes "2") then Some (Some Error)
    else None

-- `rule: severity`, where each may stand in quotes
abbrev pub span_of : Characters → Span
span_of part = record { start = part.at; end = part.at + width part.list }

abbrev pub stripped : List ℕ → List ℕ
stripped cs = (trimmed (record { at = 0; list = cs })).list

abbrev pub entry_of : Characters → Option Entry
entry_of part =
    if list_any is_colon part.list
    then option_map
    (λ severity. record { rule = unquoted (stripped (before_first is_colon part.list)); severity = severity; span = span_of part })
    (severity_of (unquoted (stripped (after_first is_colon part.list))))
    else None

-- without the white space behind each colon
abbrev pub behind_colons : Bool → List ℕ → List ℕ
behind_colons after [] = []
behind_colons after (c ∷ cs) =
    if after && is_blank c then behind_colons after cs else c ∷ behind_colons (is_colon c) cs

-- without the white space on either side of each colon
abbrev pub around_colons : List ℕ → List ℕ
around_colons cs = reverse (behind_colons false (reverse (behind_colons false cs)))

-- the parts between commas and white space
abbrev pub words : List ℕ → List (List ℕ)
words cs = filter holds (slice_split is_separator cs)

-- how a name is used, as a configuration has it
abbrev pub use_of : List ℕ → Option GlobalUse
use_of word =
    if bytes_eq word (codes "off") then Some Off
    else if bytes_eq word (codes "readonly") || bytes_eq word (codes "readable") then Some On
    else if bytes_eq word (codes "writable") || bytes_eq word (codes "writeable") then Some On
    else if bytes_eq word (codes "true") || bytes_eq word (codes "false") then Some On
    else None

-- `name` or `name:value`, where the name isn't empty
abbrev pub named : List ℕ → Option GlobalUse → Option (List ℕ × GlobalUse)
named name how = if holds name then option_map (λ known. (name, known)) how else None

abbrev pub global_of : List ℕ → Option (List ℕ × GlobalUse)
global_of part =
    if list_any is_colon part
    then named (before_first is_colon part) (use_of (after_first is_colon part))
    else named part (Some On)

abbrev pub bad_of : Span → List ℕ → BadEntry
bad_of span part = record { text = part; span = span }

-- what a directive says, where this follows its word
abbrev pub empty_list : DirectiveList
empty_list = record { marks = []; entries = []; bad = []; globals = [] }

abbrev pub marks_of : Option Mark → DirectiveList
marks_of mark = record empty_list { marks = option_to_list mark }

abbrev pub settings_of : Span → List Characters → DirectiveList
settings_of span parts = record empty_list {
  entries = filter_map entry_of parts;
  bad = map (λ part. bad_of span part.list) (filter (λ part. is_none (entry_of part)) parts);
}

abbrev pub globals_of : Span → List (List ℕ) → DirectiveList
globals_of span parts = record empty_list {
  globals = filter_map global_of parts;
  bad = map (bad_of span) (filter (λ part. is_none (global_of part)) parts);
}

abbrev pub says : List ℕ → Span → Characters → Directive → DirectiveList
says characters span rest Setting = settings_of span (listed rest)
says characters span rest Globals = globals_of span (words (around_colons rest.list))
says characters span rest Disabling = marks_of (mark_of characters span rest Disabling)
says characters span rest Enabling = marks_of (mark_of characters span rest Enabling)
says characters span rest DisablingLine = marks_of (mark_of characters span rest DisablingLine)
says characters span rest DisablingNextLine = marks_of (mark_of characters span rest DisablingNextLine)

-- what a comment says
abbrev pub said_in : List ℕ → Span → Characters → Option Directive → DirectiveList
said_in characters span text None = empty_list
said_in characters span text (Some directive) = says characters span (behind_word text) directive

abbrev pub said : Text → Comment → DirectiveList
said text comment =
    let part = text_of (text_bytes text) comment in
    said_in text.characters comment.span part (directive_of comment.block (first_word part))

-- what the comments say, each list in their order
abbrev pub directives : Text → List Comment → DirectiveList
directives text comments = record {
  marks = flat_map (λ comment. (said text comment).marks) comments;
  entries = flat_map (λ comment. (said text comment).entries) comments;
  bad = flat_map (λ comment. (said text comment).bad) comments;
  globals = flat_map (λ comment. (said text comment).globals) comments;
}

-- the span of each comment lies in the text, which is given in UTF-8
abbrev pub comments_fit : List ℕ → List Comment → Bool
comments_fit bytes comments = list_all (λ comment. is_part bytes comment.span) comments
