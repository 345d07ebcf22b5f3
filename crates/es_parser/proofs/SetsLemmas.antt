-- What a set of terminals tells of the next token.
use Rattle.std.proofs.Common.{◌≡◌, ℕ, List, Bool, true, false, Option, Some, None, refl, sym, ap, eqb-true, subst}
use Rattle.std.specs.Prelude.{◌==◌, IsSome, if◌then◌else◌}
use Rattle.std.specs.Int.{bit_at}
use Rattle.es_text.specs.declared.token.Token.{Token}
use Rattle.es_text.specs.Tokens.{token}
use Rattle.es_grammar.specs.declared.context.Context.{Context}
use Rattle.es_grammar.specs.declared.part.Terminal.{Terminal}
use Rattle.es_grammar.specs.TerminalSets.{code_of}
use Rattle.es_grammar.specs.Terminals.{mode_of, read_by, reads_kind, terminal_at, text_of}
use Rattle.es_parser.specs.Kept.{HasTerminals, goes_on, plain_at}
use Rattle.es_parser.proofs.BeginningsLemmas.{ne_from}

none_of : (o : Option Token) → (IsSome o → ⊥) → o ≡ None
none_of None never = refl
none_of (Some found) never = absurd (never refl)

plain_is : (text : List ℕ) (context : Context) (terminal : Terminal) (at : ℕ) → goes_on terminal ≡ false →
    plain_at text context terminal at ≡ terminal_at text context terminal at
plain_is text context terminal at plain = ap (λ (so : Bool). if so then None else terminal_at text context terminal at) plain

if_some : (b : Bool) (found : Token) → IsSome (if b then Some found else None) → (if b then Some found else None) ≡ Some found
if_some true found h = refl
if_some false found h = absurd (cc)

by_token : (text : List ℕ) (context : Context) (terminal : Terminal) (o : Option Token) → IsSome (read_by text context terminal o) →
    read_by text context terminal o ≡ o
by_token text context terminal None h = refl
by_token text context terminal (Some found) h = if_some (reads_kind context terminal found.kind (text_of text found)) found h

module _ (text : List ℕ) (context : Context) (terminal : Terminal) (at set : ℕ) (plain : goes_on terminal ≡ false) (exact : HasTerminals text context at set) where
  pub not_there : (bit_at set (code_of terminal) == 1) ≡ false → terminal_at text context terminal at ≡ None
  not_there e =
      let same = plain_is text context terminal at plain in
      none_of (terminal_at text context terminal at)
      (λ h. ne_from (bit_at set (code_of terminal)) 1 e ((exact.each terminal).1 (subst (λ (o : Option Token). IsSome o) (sym same) h)))

  pub is_there : (bit_at set (code_of terminal) == 1) ≡ true → terminal_at text context terminal at ≡ token text at (mode_of terminal)
  unfolding terminal_at
  is_there e =
      let same = plain_is text context terminal at plain in
      by_token text context terminal (token text at (mode_of terminal))
      (subst (λ (o : Option Token). IsSome o) same ((exact.each terminal).0 (eqb-true (bit_at set (code_of terminal)) 1 e)))
