use Rattle.std.proofs.Common.{◌≡◌, ◌∙◌, ap, sym, ◌∷◌, []}
use Rattle.std.specs.Str.{chars}
use Rattle.es_grammar.specs.declared.draft.Setting.{Setting}
use Rattle.es_grammar.specs.declared.part.Field.TheVariants as f
use Rattle.es_grammar.specs.Drafts.{word_value, words}
use Rattle.es_parser.proofs.CharsLemmas.{false_value, other_value, true_value}
use Rattle.es_parser.proofs.ReadingLemmas.{if_ok}
use Rattle.es_parser.proofs.leaves.word_value.Goals as goal

pub returns-then-eq : goal.returns-then-eq
returns-then-eq c =
    ap (λ (x : Setting). x ∷ []) c.flag.ensures
    ∙ sym (true_value c.args.text.now c.utf8.text (sym c.eq.ensures ∙ c.if-eq.true))

pub returns-then-eq-2 : goal.returns-then-eq-2
returns-then-eq-2 c =
    ap (λ (x : Setting). x ∷ []) c.flag-then-eq-2.ensures
    ∙ sym (false_value c.args.text.now c.utf8.text (sym c.eq.ensures ∙ c.if-eq.false) (sym c.eq-2.ensures ∙ c.if-eq-2.true))

pub returns : goal.returns
returns c =
    if_ok (λ setting. setting ≡ words f.Value (chars c.args.text.now)) (λ setting. setting ∷ [] ≡ word_value (chars c.args.text.now)) c.words.result
    (λ setting e. ap (λ (x : Setting). x ∷ []) e
    ∙ sym (other_value c.args.text.now c.utf8.text (sym c.eq.ensures ∙ c.if-eq.false) (sym c.eq-2.ensures ∙ c.if-eq-2.false)))
    c.words.ensures
