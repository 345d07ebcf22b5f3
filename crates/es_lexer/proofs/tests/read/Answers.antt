use Rattle.std.proofs.Common.{◌++◌, ◌∷◌, []}
use Rattle.std.specs.Str.{IsCharBoundary}
use Rattle.std.proofs.lemmas.List.Elements.{All-nil, All-push, All-same}
use Rattle.es_text.specs.declared.token.Token.{Token}
use Rattle.es_text.specs.Texts.{Text, text_bytes}
use Rattle.es_lexer.proofs.tests.read.Goals as goal

abbrev Ends : Text → Token → Type 0
Ends text token = IsCharBoundary (text_bytes text) token.span.end

pub loop-turn-init : goal.loop-turn-init
loop-turn-init g c = record {
  place = c.text.ensures.start;
  ends = All-same (Ends c.args.source.now) c.new-tokens.result.items [] c.new-tokens.ensures.items (All-nil (Ends c.args.source.now));
}

pub loop-turn-preserved : goal.loop-turn-preserved
loop-turn-preserved g c = record {
  place = c.in-Ok.ensures.end;
  ends = All-same (Ends c.args.source.now) c.push.new.self.items (c.loop-turn.tokens.items ++ c.in-Ok.token ∷ []) c.in_ok-push-in-Ok.ensures.items
      (All-push (Ends c.args.source.now) c.loop-turn.tokens.items c.in-Ok.token c.loop-turn.invariant.ends c.in-Ok.ensures.end);
}

pub returns-then-eq : goal.returns-then-eq
returns-then-eq g c =
    All-same (Ends c.args.source.now) c.push.new.self.items (c.loop-turn.tokens.items ++ c.in-Ok.token ∷ []) c.in_ok-push-in-Ok.ensures.items
    (All-push (Ends c.args.source.now) c.loop-turn.tokens.items c.in-Ok.token c.loop-turn.invariant.ends c.in-Ok.ensures.end)
