use Rattle.std.proofs.Common.{◌≡◌, ◌∙◌, ◌++◌, ◌∷◌, [], Bool, ap, sym, subst, List}
use Rattle.std.specs.Prelude.{All, if◌then◌else◌}
use Rattle.std.proofs.lemmas.List.Elements.{All-push}
use Rattle.es_text.specs.Texts.{text_bytes}
use Rattle.es_parser.specs.declared.reader.KeptToken.{KeptToken}
use Rattle.es_parser.specs.Kept.{IsKept}
use Rattle.es_parser.proofs.reader.Reader.keep_token.Goals as goal

pub invariant_of-self : goal.invariant_of-self
invariant_of-self c =
    let text = text_bytes c.self.inside.source.now in
    let before = c.self.inside.tokens.items in
    let pushed : c.push.new.self.items ≡ before ++ c.args.kept ∷ [] =
    c.push.ensures.items ∙ ap (λ (so : Bool). if so then before ++ c.args.kept ∷ [] else before) (sym c.is_ok.ensures.value ∙ c.if-is_ok.true) in
    let here : IsKept text c.args.kept = subst (λ bytes. IsKept bytes c.args.kept) (sym c.self.view_is) c.requires in (
      subst (λ (tokens : List KeptToken). All (IsKept text) tokens) (sym pushed) (All-push (IsKept text) before c.args.kept c.self.invariant.0 here),
      c.self.invariant.1,
      c.self.invariant.2,
      c.self.invariant.3,
    )
