-- no-trailing-spaces: the white space at a line's end, also in comments and where the line has nothing else, but not in a
-- template. The fix removes it.
use Rattle.std.specs.Prelude.{ℕ, Bool, false, true, ◌&&◌, List, [], ◌∷◌, Some, codes, if◌then◌else◌, nat_lt}
use Rattle.std.specs.List.{flat_map}
use Rattle.std.specs.Option.{option_map_or}
use Rattle.es_text.specs.declared.finding.Finding.{Finding}
use Rattle.es_text.specs.declared.span.Span.{Span}
use Rattle.es_text.specs.declared.token.TokenKind.{TokenKind}
use Rattle.es_text.specs.declared.token.TokenKind.TheVariants as kind
use Rattle.es_host.specs.Files.{File}
use Rattle.es_host.specs.Nodes.{SimpleFileMeaning, found}
use Rattle.es_host.specs.TokensAround.{token_before}
use Rattle.es_rules_plain.specs.NoExtraSemi.{removed}
use Rattle.es_rules_plain.specs.TrailingSpaces.{trailing}

unfoldable pub not_allowed : List ℕ
not_allowed = codes "Trailing spaces not allowed."

abbrev pub is_template : TokenKind → Bool
is_template kind.Full = true
is_template kind.Head = true
is_template kind.Middle = true
is_template kind.Tail = true
is_template other = false

-- what stands here is inside of a template, or of a part of one: the last token that begins before it is one, and goes on
abbrev pub is_in_template : File → ℕ → Bool
is_in_template file offset = option_map_or (λ token. is_template token.kind && nat_lt offset token.span.end) (token_before file offset) false

abbrev pub said_of : File → Span → List Finding
said_of file span = if is_in_template file span.start then [] else found span not_allowed (Some (removed span)) ∷ []

abbrev pub no_trailing_spaces : SimpleFileMeaning
no_trailing_spaces = record {
  id = codes "no-trailing-spaces";
  finds = λ file. flat_map (said_of file) (trailing file.text.characters);
}
