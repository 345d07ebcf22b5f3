use Rattle.std.proofs.Common.{◌≡◌, ◌∙◌, Bool, true, false, refl, sym, ap}
use Rattle.std.specs.Prelude.{is_some}
use Rattle.std.specs.Bool.{OnTrue}
use Rattle.es_parser.proofs.BeginningsLemmas.{only_this}
use Rattle.es_parser.proofs.beginnings.begins_with.Goals as goal

told : {P : Type 0} (b : Bool) → (b ≡ true → P) → OnTrue b P
told true f = f refl
told false f = tt

pub returns-then-can_begin-clause-some : goal.returns-then-can_begin-clause-some
returns-then-can_begin-clause-some g c = told c.is_some.result (λ so.
    let begins = c.can_begin.ensures.some c.if-can_begin.true in (
      only_this c.one_code.ensures c.args.symbol c.args.terminal begins.0 c.code.result c.code.ensures c.requires.code begins.1 begins.2,
      ap is_some (sym c.terminal_at.ensures.token) ∙ sym c.is_some.ensures ∙ so,
    ))
