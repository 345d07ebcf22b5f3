use Rattle.std.proofs.Common.{◌≡◌, ◌∙◌, ℕ, Option, Some, ap, sym, subst}
use Rattle.std.specs.Prelude.{IfNone, IfSome, slice_get}
use Rattle.es_grammar.specs.Terminals.{spellings, text_of}
use Rattle.es_parser.proofs.KindSetsLemmas.{kinds_by}
use Rattle.es_parser.proofs.TextSetsLemmas.{no_word, this_word}
use Rattle.es_parser.proofs.sets.with_token.Goals as goal

pub returns-in-Some-clause-found : goal.returns-in-Some-clause-found
returns-in-Some-clause-found g c =
    this_word c.args.reader.now c.args.spot.context c.args.spot.at c.with_found-kinds.result
    (kinds_by c.args.reader.now c.args.spot.context c.args.spot.at c.args.found c.requires.token c.text_code-code.result c.text_of.result.now c.text_of.ensures
    c.text_code-code.ensures.some c.text_code-code.ensures.none c.is_reserved.result c.is_reserved.ensures c.kind_set-own.result c.kind_set-own.ensures
    c.begins_regexp-regexp.result c.begins_regexp-regexp.ensures.regexp c.with_found-kinds.result c.with_found-kinds.ensures.others c.with_found-kinds.ensures.this
    c.with_found-kinds.ensures.none)
    c.args.found c.requires.token c.in-Some.code c.text_set.result
    (subst (λ (o : Option ℕ). IfSome o (λ code. slice_get spellings code ≡ Some c.text_of.result.now)) c.in-Some.is c.text_code-code.ensures.some ∙ ap Some c.text_of.ensures)
    c.text_set.ensures

pub returns-in-None-clause-found : goal.returns-in-None-clause-found
returns-in-None-clause-found g c =
    no_word c.args.reader.now c.args.spot.context c.args.spot.at c.with_found-kinds.result
    (kinds_by c.args.reader.now c.args.spot.context c.args.spot.at c.args.found c.requires.token c.text_code-code.result c.text_of.result.now c.text_of.ensures
    c.text_code-code.ensures.some c.text_code-code.ensures.none c.is_reserved.result c.is_reserved.ensures c.kind_set-own.result c.kind_set-own.ensures
    c.begins_regexp-regexp.result c.begins_regexp-regexp.ensures.regexp c.with_found-kinds.result c.with_found-kinds.ensures.others c.with_found-kinds.ensures.this
    c.with_found-kinds.ensures.none)
    c.args.found c.requires.token
    (λ code h. subst (λ (o : Option ℕ). IfNone o ((code : ℕ) → slice_get spellings code ≡ Some c.text_of.result.now → ⊥)) c.in-None.is c.text_code-code.ensures.none code
    (h ∙ ap Some (sym c.text_of.ensures)))
