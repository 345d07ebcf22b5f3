-- What is known of a token that a terminal reads.
use Rattle.std.proofs.Common.{◌≡◌, refl, ℕ, ◌<◌, ◌-◌, List, [], ◌∷◌, length, drop, Bool, true, false, Option, Some, None, arith, length-take}
use Rattle.std.specs.Prelude.{◌||◌, if◌then◌else◌, slice_range}
use Rattle.std.specs.Str.{bytes_eq}
use Rattle.es_text.specs.declared.token.Token.{Token}
use Rattle.es_text.specs.Tokens.{token}
use Rattle.es_grammar.specs.declared.context.Context.{Context}
use Rattle.es_grammar.specs.declared.part.Terminal.{Terminal}
use Rattle.es_grammar.specs.declared.part.Terminal.TheVariants as t
use Rattle.es_grammar.specs.Terminals.{mode_of, read_by, reads_kind, terminal_at, text_of, texts_of}

some_if : (test : Token → Bool) (b : Bool) (here found : Token) → b ≡ test here → (if b then Some here else None) ≡ Some found → test found ≡ true
some_if test true here found e h = cc
some_if test false here found e h = absurd (cc)

by_test : (text : List ℕ) (context : Context) (terminal : Terminal) (here : Option Token) (found : Token) →
    read_by text context terminal here ≡ Some found → reads_kind context terminal found.kind (text_of text found) ≡ true
by_test text context terminal None found h = absurd (cc)
by_test text context terminal (Some here) found h =
    some_if (λ (token : Token). reads_kind context terminal token.kind (text_of text token)) (reads_kind context terminal here.kind (text_of text here)) here found refl h

-- the terminal reads the token that it found
pub is_read : (text : List ℕ) (context : Context) (terminal : Terminal) (at : ℕ) (found : Token) →
    terminal_at text context terminal at ≡ Some found → reads_kind context terminal found.kind (text_of text found) ≡ true
unfolding terminal_at
is_read text context terminal at found h = by_test text context terminal (token text at (mode_of terminal)) found h

-- a text with characters

one_byte : (bs : List ℕ) → (bytes_eq bs (44 ∷ []) || false) ≡ true → 0 < length bs
one_byte [] h = absurd (cc)
one_byte (b ∷ bs) h = omega arith

some_bytes : (bs : List ℕ) (start end : ℕ) → 0 < length (slice_range bs start end) → start < end
some_bytes bs start end h = omega (arith, length-take (end - start) (drop start bs))

comma_text : (context : Context) (found : Token) (bs : List ℕ) → reads_kind context (t.Spelled 9) found.kind bs ≡ true → 0 < length bs
unfolding reads_kind texts_of
comma_text context found bs h = one_byte bs h

-- a comma isn't empty
pub comma_takes : (text : List ℕ) (context : Context) (at : ℕ) (found : Token) →
    terminal_at text context (t.Spelled 9) at ≡ Some found → found.span.start < found.span.end
comma_takes text context at found h =
    some_bytes text found.span.start found.span.end (comma_text context found (text_of text found) (is_read text context (t.Spelled 9) at found h))
