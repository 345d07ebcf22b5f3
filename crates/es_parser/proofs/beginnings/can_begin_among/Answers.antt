use Rattle.std.proofs.Common.{◌≡◌, Bool, true, false, List, ℕ, subst}
use Rattle.std.specs.Bool.{OnTrue, OnFalse}
use Rattle.es_grammar.specs.declared.part.Terminal.TheVariants as t
use Rattle.es_parser.specs.Begins.{BeginsNext}
use Rattle.es_parser.proofs.BeginningsLemmas.{by_next, by_set, no_beginning}
use Rattle.es_parser.proofs.beginnings.can_begin_among.Goals as goal

on_true : {P : Type 0} (b : Bool) → OnTrue b P → b ≡ true → P
on_true true h e = h
on_true false h e = absurd (cc)

on_false : {P : Type 0} (b : Bool) → OnFalse b P → b ≡ false → P
on_false false h e = h
on_false true h e = absurd (cc)

then_true : {P Q : Type 0} (b : Bool) → OnTrue b P → (P → Q) → OnTrue b Q
then_true true h f = f h
then_true false h f = tt

then_false : {P Q : Type 0} (b : Bool) → OnFalse b P → (P → Q) → OnFalse b Q
then_false false h f = f h
then_false true h f = tt

pub returns-then-can_begin-clause-some : goal.returns-then-can_begin-clause-some
returns-then-can_begin-clause-some g c =
    by_set c.args.reader.now c.args.spot c.args.symbol c.args.terminals c.requires.set (c.can_begin.ensures.some c.if-can_begin.true)

pub returns-then-begins_with-clause-some : goal.returns-then-begins_with-clause-some
returns-then-begins_with-clause-some g c =
    by_next c.args.reader.now c.args.spot t.Middle c.args.symbol (on_true c.begins_with.result c.begins_with.ensures.some c.if-begins_with.true)

pub returns-clause-some : goal.returns-clause-some
returns-clause-some g c =
    then_true c.begins_with-2.result c.begins_with-2.ensures.some (λ next.
    by_next c.args.reader.now c.args.spot t.Tail c.args.symbol
    (subst (λ (text : List ℕ). BeginsNext text c.args.spot t.Tail c.args.symbol) c.begins_with.ensures.same next))

pub returns-clause-none : goal.returns-clause-none
returns-clause-none g c =
    then_false c.begins_with-2.result c.begins_with-2.ensures.none (λ tail.
    no_beginning c.args.reader.now c.args.spot c.args.symbol c.args.terminals c.requires.set c.can_begin.result c.if-can_begin.false c.can_begin.ensures.each
    (on_false c.begins_with.result c.begins_with.ensures.none c.if-begins_with.false)
    (subst (λ (text : List ℕ). BeginsNext text c.args.spot t.Tail c.args.symbol → ⊥) c.begins_with.ensures.same tail))
