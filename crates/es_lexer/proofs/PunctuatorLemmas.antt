-- The punctuator of the row that the table finds.
use Rattle.std.proofs.Common.{◌≡◌, ℕ, zero, suc, Bool, true, false, not, ◌&&◌, List, [], ◌∷◌, length, drop, nat_eq, refl, sym, ap, subst, ◌∙◌, arith, ⊎_elim, IsUtf8}
use Rattle.std.specs.Prelude.{Option, Some, None, ◌==◌, codes, if◌then◌else◌}
use Rattle.std.specs.Option.{option_map}
use Rattle.std.specs.List.{starts_with}
use Rattle.std.specs.Str.{bytes_eq, chars, IsAscii}
use Rattle.std.proofs.lemmas.Bool.{and_parts, cases_Bool}
use Rattle.std.proofs.lemmas.Bool.Decides.{nat_tests}
use Rattle.std.proofs.lemmas.Slice.Eq.{bytes_eq-Decides}
use Rattle.es_tables.specs.Words.{punctuator_words}
use Rattle.es_text.specs.declared.token.TokenKind.TheVariants as kind
use Rattle.es_text.specs.Rest.{rest, begins}
use Rattle.es_text.specs.Characters.{is_decimal}
use Rattle.es_text.specs.Punctuators.{fits, longest, longest_text, punctuator_code}
use Rattle.es_text.specs.Tokens.{Form, punctuator}
use Rattle.es_lexer.specs.declared.cursor.Cursor.{Cursor}
use Rattle.es_lexer.specs.Cursors.{rest_of, StandsAt}
use Rattle.es_lexer.specs.Longest.{HasNone, IsLongest}
use Rattle.es_lexer.proofs.LongestLemmas.{At, index_is, longest_is, longest_none, once}
use Rattle.es_lexer.proofs.WordLemmas.{ascii_word, is_ascii_word, begins_so, so_begins, bytes_to_chars, chars_to_bytes, past_boundary, same_word}

abbrev are_ascii : List (List ℕ) → Bool
are_ascii [] = true
are_ascii (w ∷ words) = is_ascii_word w && are_ascii words

ascii_in : (words : List (List ℕ)) (k : ℕ) (w : List ℕ) → are_ascii words ≡ true → At words k w → is_ascii_word w ≡ true
ascii_in [] k w all at = cc
ascii_in (v ∷ words) zero w all at = let same : v ≡ w = cc in ap is_ascii_word (sym same) ∙ (and_parts _ _ all).0
ascii_in (v ∷ words) (suc k) w all at = ascii_in words k w (and_parts _ _ all).1 at

pub ascii_at : (k : ℕ) (w : List ℕ) → At punctuator_words k w → IsAscii w
ascii_at k w at = ascii_word w (ascii_in punctuator_words k w refl at)

code_at : (k : ℕ) (w : List ℕ) → At punctuator_words k w → punctuator_code w ≡ k
unfolding punctuator_code
code_at k w at = index_is punctuator_words k w refl at

once_at : (j k : ℕ) (w : List ℕ) → At punctuator_words j w → At punctuator_words k w → j ≡ k
once_at j k w = once punctuator_words j k w refl

abbrev optional_chain : List ℕ
optional_chain = codes "?."

-- a punctuator, and what follows it
abbrev form_with : List ℕ → List ℕ → Form
form_with cs text = record { kind = kind.Punctuator (punctuator_code text); behind = drop (length text) cs }

found_some : (s t : List ℕ) (k : ℕ) → IsUtf8 s → IsLongest s k t → (bytes_eq t optional_chain && begins is_decimal (drop 2 (chars s))) ≡ false
    → punctuator (chars s) ≡ Some (record { kind = kind.Punctuator k; behind = drop (length t) (chars s) })
unfolding punctuator longest
found_some s t k utf8 is alone =
    let cs = chars s in
    let here = bytes_to_chars s t (ascii_at k t is.at) is.begins in
    let fit : fits cs t ≡ true = rw (here, alone) refl in
    let in_bytes : (j : ℕ) (w : List ℕ) → At punctuator_words j w → fits cs w ≡ true → starts_with nat_eq s w ≡ true =
    λ j w at yes. chars_to_bytes s w utf8 (ascii_at j w at) (and_parts _ _ yes).0 in
    ap (option_map (form_with cs))
    (longest_is (fits cs) punctuator_words k t is.at fit
    (λ j w at yes. is.most j w at (in_bytes j w at yes))
    (λ j w at yes same. same_word s w t (in_bytes j w at yes) is.begins same))
    ∙ ap (λ n. Some (record { kind = kind.Punctuator n; behind = drop (length t) cs })) (code_at k t is.at)

found_none : (s : List ℕ) → IsUtf8 s → HasNone s → punctuator (chars s) ≡ None
unfolding punctuator longest
found_none s utf8 none =
    let cs = chars s in
    ap (option_map (form_with cs))
    (longest_none (fits cs) punctuator_words
    (λ j w at. ⊎_elim
    (λ (yes : fits cs w ≡ true). absurd (none j w at (chars_to_bytes s w utf8 (ascii_at j w at) (and_parts _ _ yes).0)))
    (λ (other : fits cs w ≡ false). other)
    (cases_Bool (fits cs w))))

-- before a digit `?.` is none, and `?` is the longest
abbrev question_or_chain : Bool → Option (List ℕ)
question_or_chain digit = longest_text (codes "?" ∷ (if not digit then optional_chain ∷ [] else []))

question_found : (d : ℕ) (ds : List ℕ) → longest (63 ∷ 46 ∷ d ∷ ds) ≡ question_or_chain (is_decimal d)
unfolding longest
question_found d ds = refl

question_mark : (cs es : List ℕ) → cs ≡ 63 ∷ 46 ∷ es → begins is_decimal es ≡ true
    → punctuator cs ≡ Some (record { kind = kind.Punctuator 37; behind = drop 1 cs })
unfolding punctuator
question_mark cs [] is digit = cc
question_mark cs (d ∷ ds) is digit =
    ap (option_map (form_with cs)) (ap longest is ∙ question_found d ds ∙ ap question_or_chain digit)
    ∙ ap (λ n. Some (record { kind = kind.Punctuator n; behind = drop 1 cs })) (code_at 37 (codes "?") refl)

-- what the text is from the cursor on
abbrev Reads : List ℕ → Cursor → Type 0
Reads s cursor = s ≡ drop cursor.offset cursor.text.now

reads_rest : (s : List ℕ) (cursor : Cursor) → Reads s cursor → chars s ≡ rest_of cursor
unfolding rest
reads_rest s cursor reads = ap chars reads

stands_word : (s t : List ℕ) (cursor : Cursor) → Reads s cursor → IsUtf8 s → IsAscii t → starts_with nat_eq s t ≡ true → StandsAt t cursor
stands_word s t cursor reads utf8 ascii begins =
    let begun : starts_with nat_eq (drop cursor.offset cursor.text.now) t ≡ true = ap (λ x. starts_with nat_eq x t) (sym reads) ∙ begins in
    let held : IsUtf8 (drop cursor.offset cursor.text.now) = subst (λ (x : List ℕ). IsUtf8 x) reads utf8 in
    record { ascii = ascii; begins = begun; behind = past_boundary cursor.text.now cursor.offset t held cursor.on_boundary ascii begun }

pub stands : (s t : List ℕ) (k : ℕ) (cursor : Cursor) → Reads s cursor → IsUtf8 s → IsLongest s k t → StandsAt t cursor
stands s t k cursor reads utf8 is = stands_word s t cursor reads utf8 (ascii_at k t is.at) is.begins

pub none_at : (s : List ℕ) (cursor : Cursor) → Reads s cursor → IsUtf8 s → HasNone s → None ≡ punctuator (rest_of cursor)
none_at s cursor reads utf8 none = sym (found_none s utf8 none) ∙ ap punctuator (reads_rest s cursor reads)

some_at : (s t ends : List ℕ) (k : ℕ) (cursor : Cursor) → Reads s cursor → IsUtf8 s → IsLongest s k t → ends ≡ drop (length t) (rest_of cursor)
    → (bytes_eq t optional_chain && begins is_decimal (drop 2 (chars s))) ≡ false
    → Some (record { kind = kind.Punctuator k; behind = ends }) ≡ punctuator (rest_of cursor)
some_at s t ends k cursor reads utf8 is behind alone =
    let same = reads_rest s cursor reads in
    ap (λ cs. Some (record { kind = kind.Punctuator k; behind = cs })) (behind ∙ ap (drop (length t)) (sym same))
    ∙ sym (found_some s t k utf8 is alone)
    ∙ ap punctuator same

-- of a punctuator that isn't `?.` before a digit
pub other_at : (s t ends : List ℕ) (k : ℕ) (cursor : Cursor) → Reads s cursor → IsUtf8 s → IsLongest s k t → ends ≡ drop (length t) (rest_of cursor)
    → ((k == 38) && begins is_decimal ends) ≡ false → Some (record { kind = kind.Punctuator k; behind = ends }) ≡ punctuator (rest_of cursor)
other_at s t ends k cursor reads utf8 is behind alone =
    some_at s t ends k cursor reads utf8 is behind
    (⊎_elim
    (λ (yes : bytes_eq t optional_chain ≡ true).
    let chain : t ≡ optional_chain = (bytes_eq-Decides t optional_chain).0 yes in
    let code : k ≡ 38 = once_at k 38 optional_chain (subst (λ (x : List ℕ). At punctuator_words k x) chain is.at) refl in
    let test : (k == 38) ≡ true = grind (arith, nat_tests) in
    let next : ends ≡ drop 2 (chars s) =
    behind ∙ ap (λ (x : List ℕ). drop (length x) (rest_of cursor)) chain ∙ ap (drop 2) (sym (reads_rest s cursor reads)) in
    let no_digit : begins is_decimal ends ≡ false = grind arith in
    rw yes (ap (begins is_decimal) (sym next) ∙ no_digit))
    (λ (no_chain : bytes_eq t optional_chain ≡ false). rw no_chain refl)
    (cases_Bool (bytes_eq t optional_chain)))

chain_is : (t : List ℕ) (k : ℕ) → At punctuator_words k t → k ≡ 38 → t ≡ optional_chain
chain_is t k at is = let there : At punctuator_words 38 t = subst (λ (n : ℕ). At punctuator_words n t) is at in cc

code_and_digit : (k : ℕ) (b : Bool) → ((k == 38) && b) ≡ true → (k ≡ 38) × (b ≡ true)
code_and_digit k b both = (grind (arith, nat_tests), (and_parts (k == 38) b both).1)

begun_by_mark : (s t : List ℕ) (k : ℕ) → IsLongest s k t → k ≡ 38 → starts_with nat_eq s optional_chain ≡ true
begun_by_mark s t k is chain = ap (starts_with nat_eq s) (sym (chain_is t k is.at chain)) ∙ is.begins

-- `?` stands where `?.` does
pub question_stands : (s t ends : List ℕ) (k : ℕ) (cursor : Cursor) → Reads s cursor → IsUtf8 s → IsLongest s k t
    → ((k == 38) && begins is_decimal ends) ≡ true → StandsAt (codes "?") cursor
question_stands s t ends k cursor reads utf8 is both =
    let code = (code_and_digit k (begins is_decimal ends) both).0 in
    stands_word s (codes "?") cursor reads utf8 (ascii_word (codes "?") refl)
    (so_begins s (codes "?") (46 ∷ drop 2 s) (begins_so s optional_chain (begun_by_mark s t k is code)))

-- of `?.` before a digit
pub question_at : (s t ends marks : List ℕ) (k : ℕ) (cursor : Cursor) → Reads s cursor → IsUtf8 s → IsLongest s k t
    → ends ≡ drop (length t) (rest_of cursor) → marks ≡ drop 1 (rest_of cursor) → ((k == 38) && begins is_decimal ends) ≡ true
    → Some (record { kind = kind.Punctuator 37; behind = marks }) ≡ punctuator (rest_of cursor)
question_at s t ends marks k cursor reads utf8 is behind mark both =
    let cs = chars s in
    let same = reads_rest s cursor reads in
    let parts = code_and_digit k (begins is_decimal ends) both in
    let begun = begun_by_mark s t k is parts.0 in
    let split = begins_so cs optional_chain (bytes_to_chars s optional_chain (ascii_word optional_chain refl) begun) in
    let next : ends ≡ drop 2 cs =
    behind ∙ ap (λ (x : List ℕ). drop (length x) (rest_of cursor)) (chain_is t k is.at parts.0) ∙ ap (drop 2) (sym same) in
    ap (λ x. Some (record { kind = kind.Punctuator 37; behind = x })) (mark ∙ ap (drop 1) (sym same))
    ∙ sym (question_mark cs (drop 2 cs) split (ap (begins is_decimal) (sym next) ∙ parts.1))
    ∙ ap punctuator same
