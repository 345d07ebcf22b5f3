-- eol-last: a text that isn't empty and whose last character isn't LF, which is so exactly where its last byte
-- of UTF-8 isn't. The span is the empty one at its end, where the fix inserts an LF.
use Rattle.std.specs.Prelude.{ℕ, ◌-◌, ◌==◌, Bool, false, not, List, [], ◌∷◌, Some, codes, if◌then◌else◌, length, slice_get}
use Rattle.std.specs.Option.{option_map_or}
use Rattle.es_text.specs.Characters.{line_feed}
use Rattle.es_text.specs.declared.finding.Fix.{Fix}
use Rattle.es_text.specs.declared.span.Span.{Span}
use Rattle.es_text.specs.Texts.{text_bytes}
use Rattle.es_host.specs.Nodes.{SimpleFileMeaning, found}

unfoldable pub required : List ℕ
required = codes "Newline required at end of file but not found."

-- the text isn't empty, and something else than LF stands at its end
abbrev pub lacks_newline : List ℕ → Bool
lacks_newline bytes = option_map_or (λ byte. not (byte == line_feed)) (slice_get bytes (length bytes - 1)) false

-- the end of the text
abbrev pub end_of : List ℕ → Span
end_of bytes = record { start = length bytes; end = length bytes }

abbrev pub newline_at : Span → Fix
newline_at span = record { span = span; text = line_feed ∷ [] }

abbrev pub eol_last : SimpleFileMeaning
eol_last = record {
  id = codes "eol-last";
  finds = λ file.
      if lacks_newline (text_bytes file.text)
      then found (end_of (text_bytes file.text)) required (Some (newline_at (end_of (text_bytes file.text)))) ∷ []
      else [];
}
