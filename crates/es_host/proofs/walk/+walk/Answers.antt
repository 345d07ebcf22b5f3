use Rattle.std.proofs.Common.{rules, arith, ◌≡◌, ℕ, ◌∙◌, ◌++◌, ◌∷◌, [], true, false, ap, sym, subst, append_assoc, map, take, List, Some, None}
use Rattle.std.specs.List.{flat_map}
use Rattle.std.proofs.lemmas.Grind.{common_steps}
use Rattle.es_tree.specs.Rows.{Row, child_of}
use Rattle.es_host.specs.Files.{File, file_in, rows_in}
use Rattle.es_host.specs.Hearing.{EachHeard, events_of}
use Rattle.es_host.specs.Meanings.{Meaning}
use Rattle.es_host.specs.Walk.{Moment, children, moment, walk_from}
use Rattle.es_host.proofs.WalkLemmas.{children-all, children-more, walk-all}
use Rattle.es_host.proofs.walk.+walk.Goals as goal

pub walk_children-loop-child-preserved : goal.walk_children-loop-child-preserved
walk_children-loop-child-preserved g n c =
    let file : File = file_in c.args.file.now in
    let rows : List Row = rows_in file in
    let path : List ℕ = c.args.path.now.items in
    let index : ℕ = c.loop-child.index in
    let child : ℕ = c.in-Some.child in
    let is : child_of rows c.args.node index ≡ Some (Some child) = search rules in (
      c.in_ok-walk_from.ensures.path ∙ c.loop-child.invariant.0,
      c.in_ok-walk_from.ensures.same ∙ c.loop-child.invariant.1,
      λ moments all.
          let first : List Moment = flat_map (walk_from rows path) (take index (children rows c.args.node)) in
          let before : List Moment = moments ++ first in
          let more : before ++ walk_from rows c.loop-child.path.items child
          ≡ moments ++ flat_map (walk_from rows path) (take c.in-Some-checked_add.next (children rows c.args.node)) =
          append_assoc moments first (walk_from rows c.loop-child.path.items child)
          ∙ ap (λ ms. moments ++ ms)
          (ap (λ p. first ++ walk_from rows p child) c.loop-child.invariant.0
          ∙ sym (children-more rows path c.args.node index c.in-Some-checked_add.next child is c.in-Some-checked_add.ensures.1)) in
          subst (λ ms. EachHeard g.R.Rule.heard file (events_of (map g.R.Rule.meaning c.args.rules.now) file ms) c.walk_from.new.rules) more
          (subst
          (λ (ms : List Meaning). EachHeard g.R.Rule.heard file (events_of ms file before) c.loop-child.rules
          → EachHeard g.R.Rule.heard file (events_of ms file (before ++ walk_from rows c.loop-child.path.items child)) c.walk_from.new.rules)
          c.loop-child.invariant.1 (c.in_ok-walk_from.ensures.heard before) (c.loop-child.invariant.2 moments all)),
    )

pub walk_children-returns-clause-heard : goal.walk_children-returns-clause-heard
walk_children-returns-clause-heard g n c = λ moments all.
    let file : File = file_in c.args.file.now in
    let past : child_of (rows_in file) c.args.node c.loop-child.index ≡ Some None = search rules in
    subst (λ ms. EachHeard g.R.Rule.heard file (events_of (map g.R.Rule.meaning c.args.rules.now) file (moments ++ ms)) c.loop-child.rules)
    (children-all (rows_in file) c.args.path.now.items c.args.node c.loop-child.index past) (c.loop-child.invariant.2 moments all)

pub walk_from-returns-clause-heard : goal.walk_from-returns-clause-heard
walk_from-returns-clause-heard g n c = λ moments all.
    let file : File = file_in c.args.file.now in
    let rows : List Row = rows_in file in
    let path : List ℕ = c.args.path.now.items in
    let meanings : List Meaning = map g.R.Rule.meaning c.args.rules.now in
    let first : c.as_slice.result.now ≡ path = search rules in
    let inside : c.push.new.self.items ≡ path ++ c.args.node ∷ [] = search rules in
    let popped : c.pop-node.new.self.items ≡ path = grind (arith, common_steps) in
    let last : c.as_slice-2.result.now ≡ path = c.as_slice-2.ensures.value ∙ popped in
    let enter : List Moment = moments ++ moment false path c.args.node ∷ [] in
    let below : List Moment = enter ++ flat_map (walk_from rows (path ++ c.args.node ∷ [])) (children rows c.args.node) in
    let entered : EachHeard g.R.Rule.heard file (events_of meanings file enter) c.tell_on.new.rules =
    subst (λ p. EachHeard g.R.Rule.heard file (events_of meanings file (moments ++ moment false p c.args.node ∷ [])) c.tell_on.new.rules) first
    (c.in_ok-tell_on.ensures.heard moments all) in
    let walked : EachHeard g.R.Rule.heard file (events_of meanings file below) c.walk_children.new.rules =
    subst (λ p. EachHeard g.R.Rule.heard file (events_of meanings file (enter ++ flat_map (walk_from rows p) (children rows c.args.node))) c.walk_children.new.rules) inside
    (subst
    (λ (ms : List Meaning). EachHeard g.R.Rule.heard file (events_of ms file enter) c.tell_on.new.rules
    → EachHeard g.R.Rule.heard file (events_of ms file (enter ++ flat_map (walk_from rows c.push.new.self.items) (children rows c.args.node))) c.walk_children.new.rules)
    c.in_ok-tell_on.ensures.same (c.in_ok-walk_children.ensures.heard enter) entered) in
    let left : EachHeard g.R.Rule.heard file (events_of meanings file (below ++ moment true path c.args.node ∷ [])) c.tell_on-2.new.rules =
    subst (λ p. EachHeard g.R.Rule.heard file (events_of meanings file (below ++ moment true p c.args.node ∷ [])) c.tell_on-2.new.rules) last
    (subst
    (λ (ms : List Meaning). EachHeard g.R.Rule.heard file (events_of ms file below) c.walk_children.new.rules
    → EachHeard g.R.Rule.heard file (events_of ms file (below ++ moment true c.as_slice-2.result.now c.args.node ∷ [])) c.tell_on-2.new.rules)
    (c.in_ok-walk_children.ensures.same ∙ c.in_ok-tell_on.ensures.same) (c.in_ok-tell_on-2.ensures.heard below) walked) in
    subst (λ ms. EachHeard g.R.Rule.heard file (events_of meanings file ms) c.tell_on-2.new.rules)
    (walk-all rows c.requires.numbered path c.args.node c.requires.node moments) left
