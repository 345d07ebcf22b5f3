-- The fields of children, and the tokens of a list.
use Rattle.std.proofs.Common.{◌≡◌, ◌∙◌, ap, sym, refl, ℕ, zero, suc, ◌+◌, List, [], ◌∷◌, length, map, get_or, arith}
use Rattle.std.specs.Prelude.{Option, Some, None}
use Rattle.std.specs.Option.{option_or}
use Rattle.es_text.specs.declared.token.Token.{Token}
use Rattle.es_grammar.specs.declared.part.Field.{Field}
use Rattle.es_grammar.specs.declared.draft.Child.{Child}
use Rattle.es_grammar.specs.Drafts.{last_end}
use Rattle.es_grammar.specs.Parts.{placed}

or_none : (field : Option Field) → option_or field None ≡ field
or_none None = refl
or_none (Some field) = refl

one_unplaced : (child : Child) → placed None child ≡ child
one_unplaced child = ap (λ field. record child { field = field }) (or_none child.field)

-- no field leaves all children
pub unplaced : (children : List Child) → children ≡ map (placed None) children
unplaced [] = refl
unplaced (child ∷ rest) = sym (ap (λ one. one ∷ map (placed None) rest) (one_unplaced child) ∙ ap (λ all. child ∷ all) (sym (unplaced rest)))

pub last_is : (tokens : List Token) (n : ℕ) (d : Token) → n + 1 ≡ length tokens → (get_or tokens n d).span.end ≡ last_end tokens
last_is [] n d e = absurd (omega arith)
last_is (only ∷ []) zero d e = refl
last_is (only ∷ []) (suc n) d e = absurd (omega arith)
last_is (first ∷ next ∷ rest) zero d e = absurd (omega arith)
last_is (first ∷ next ∷ rest) (suc n) d e = last_is (next ∷ rest) n d (omega arith)
