-- What the conditions of the grammar ask of tokens and of nodes.
use Rattle.std.proofs.Common.{◌≡◌, IsUtf8, ℕ, ◌+◌, zero, suc, length, arith, slice_index_or, Bool, true, false, List, [], ◌∷◌, Option, Some, None, refl, sym, ap, ◌∙◌}
use Rattle.std.specs.Prelude.{◌==◌, if◌then◌else◌, option_map}
use Rattle.std.specs.List.{find}
use Rattle.std.specs.Prelude.{encode_utf8_all}
use Rattle.std.specs.Str.{IsAscii, bytes_eq, chars}
use Rattle.std.proofs.lemmas.Bool.Decides.{same_from_decides}
use Rattle.std.proofs.lemmas.Slice.Eq.{bytes_eq-Decides}
use Rattle.std.proofs.lemmas.Str.{chars-IsAscii, encodes-chars}
use Rattle.es_text.specs.declared.token.LexMode.{LexMode}
use Rattle.es_text.specs.declared.token.Token.{Token}
use Rattle.es_text.specs.Skipped.{hold_line}
use Rattle.es_text.specs.Tokens.{Form, first_offset, form, behind_skipped, skipped_at, token}
use Rattle.es_text.specs.Rest.{offset_of}
use Rattle.es_tree.specs.declared.shape.AttributeValue.{AttributeValue}
use Rattle.es_tree.specs.declared.shape.SetAttribute.{SetAttribute}
use Rattle.es_grammar.specs.Conditions.{last_shape}
use Rattle.es_grammar.specs.declared.draft.Child.{Child}
use Rattle.es_grammar.specs.Drafts.{value_in}

line_by : (text : List ℕ) (at : ℕ) (o : Option Form) (next : Token) →
    option_map (λ f. record {
      kind = f.kind;
      span = record { start = first_offset text at; end = offset_of text f.behind };
      line_before = hold_line (skipped_at text at);
    }) o ≡ Some next → next.line_before ≡ hold_line (skipped_at text at)
line_by text at None next h = absurd (cc)
line_by text at (Some f) next h = cc

-- whether a line ends before a token
pub token_line : (text : List ℕ) (at : ℕ) (mode : LexMode) (next : Token) → token text at mode ≡ Some next → next.line_before ≡ hold_line (skipped_at text at)
unfolding token
token_line text at mode next h = line_by text at (form mode (behind_skipped text at)) next h

either_way : (b : Bool) (given : SetAttribute) (o : Option SetAttribute) →
    (if b then Some given.value else option_map (λ one. one.value) o) ≡ option_map (λ one. one.value) (if b then Some given else o)
either_way true given o = refl
either_way false given o = refl

-- the value of an attribute is that of the first one with its code
pub value_found : (field : ℕ) (given : List SetAttribute) → value_in field given ≡ option_map (λ one. one.value) (find (λ one. one.field == field) given)
value_found field [] = refl
value_found field (first ∷ rest) =
    ap (λ (o : Option AttributeValue). if first.field == field then Some first.value else o) (value_found field rest)
    ∙ either_way (first.field == field) first (find (λ one. one.field == field) rest)

-- the bytes of a text are an ASCII text exactly where its characters are
pub ascii_same : (bs ds : List ℕ) → IsUtf8 bs → IsUtf8 ds → IsAscii ds → bytes_eq bs ds ≡ bytes_eq ds (chars bs)
ascii_same bs ds utf8 text_utf8 ascii =
    let characters : chars ds ≡ ds = chars-IsAscii ds ascii in
    let bytes : encode_utf8_all ds ≡ ds = ap encode_utf8_all (sym characters) ∙ encodes-chars ds text_utf8 in
    let one = bytes_eq-Decides ds (chars bs) in
    same_from_decides (bytes_eq bs ds) (bytes_eq ds (chars bs)) (bytes_eq-Decides bs ds)
    ((λ so. sym (encodes-chars bs utf8) ∙ ap encode_utf8_all (sym (one.0 so)) ∙ bytes), (λ e. one.1 (sym (ap chars e ∙ characters))))

-- the last node is that of the last child
pub last_child : (children : List Child) (d : Child) (index : ℕ) → index + 1 ≡ length children → last_shape children ≡ (slice_index_or children index d).shape
last_child [] d index h = absurd (omega arith)
last_child (only ∷ []) d zero h = refl
last_child (only ∷ []) d (suc index) h = absurd (omega arith)
last_child (first ∷ next ∷ rest) d zero h = absurd (omega arith)
last_child (first ∷ next ∷ rest) d (suc index) h = last_child (next ∷ rest) d index (omega arith)
