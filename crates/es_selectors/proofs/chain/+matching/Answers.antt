use Rattle.std.proofs.Common.{◌≡◌, ◌-◌, ◌<◌, false, not, length, arith, refl, sym, ap, ◌∙◌}
use Rattle.es_selectors.specs.declared.selector.Atom.TheViews.{rolls-Not, rolls-Is, rolls-Has}
use Rattle.es_selectors.proofs.AtomLemmas.{has_holds, is_holds, not_holds}
use Rattle.std.specs.Prelude.{Some}
use Rattle.std.specs.List.{list_any}
use Rattle.es_selectors.specs.Chains.{any_in, atom_in, compound_in, is_holding, links_in}
use Rattle.es_selectors.specs.Matches.{reaches}
use Rattle.es_selectors.proofs.AboveLemmas.{above_passed, and_false, links_last, nested_itself, never_above, never_earlier, never_nested_above, never_parent, never_previous, previous_nested, sibling_nested}
use Rattle.es_selectors.proofs.RangeLemmas.{passed}
use Rattle.es_selectors.proofs.Weights.{atom_less, atoms_weight, chain_less, chains_weight, links_weight, links_weight-append, atoms_some, weight, not_weight, is_weight, has_weight}
use Rattle.es_selectors.specs.Selects.{above_of, below_of, row_sight, spot_of, stands_below, up}
use Rattle.es_selectors.proofs.chain.+matching.Goals as goal

pub any_holds-links_at-requires : goal.any_holds-links_at-requires
any_holds-links_at-requires t c =
    (omega (arith, chain_less c.args.chains.now c.loop-chain.chain-index c.chain-item.result c.loop-chain-test.true c.chain-item.is, ap (atoms_weight weight) c.as_slice.ensures, ap (links_weight weight) c.as_slice-in-loop-chain.ensures), omega arith)

pub atom_holds-any_holds-requires : goal.atom_holds-any_holds-requires
atom_holds-any_holds-requires t c =
    let whole = ap weight c.in-Not.is ∙ ap weight (sym (rolls-Not c.in-Not.chains)) ∙ not_weight c.in-Not.chains in
    (omega (arith, whole, ap (chains_weight weight) c.as_slice-in-Not.ensures), omega arith)

pub atom_holds-any_holds-requires-in-Is : goal.atom_holds-any_holds-requires-in-Is
atom_holds-any_holds-requires-in-Is t c =
    let whole = ap weight c.in-Is.is ∙ ap weight (sym (rolls-Is c.in-Is.chains)) ∙ is_weight c.in-Is.chains in
    (omega (arith, whole, ap (chains_weight weight) c.as_slice-in-Is.ensures), omega arith)

pub atom_holds-any_below-requires : goal.atom_holds-any_below-requires
atom_holds-any_below-requires t c =
    let whole = ap weight c.in-Has.is ∙ ap weight (sym (rolls-Has c.in-Has.chains)) ∙ has_weight c.in-Has.chains in
    (omega (arith, whole, ap (chains_weight weight) c.as_slice-in-Has.ensures), omega arith)

pub atom_holds-returns-in-Not : goal.atom_holds-returns-in-Not
atom_holds-returns-in-Not t c =
    let sight = row_sight c.args.tree.now in
    sym (ap (λ atom. atom_in c.args.tree.now atom c.args.spot) (c.in-Not.is ∙ sym (rolls-Not c.in-Not.chains))
    ∙ not_holds sight c.in-Not.chains c.args.spot
    ∙ ap (λ chains. not (any_in c.args.tree.now chains c.args.spot)) (sym c.as_slice-in-Not.ensures)
    ∙ ap not (sym c.any_holds.ensures))

pub atom_holds-returns-in-Is : goal.atom_holds-returns-in-Is
atom_holds-returns-in-Is t c =
    let sight = row_sight c.args.tree.now in
    sym (ap (λ atom. atom_in c.args.tree.now atom c.args.spot) (c.in-Is.is ∙ sym (rolls-Is c.in-Is.chains))
    ∙ is_holds sight c.in-Is.chains c.args.spot
    ∙ ap (λ chains. any_in c.args.tree.now chains c.args.spot) (sym c.as_slice-in-Is.ensures)
    ∙ sym c.any_holds-in-Is.ensures)

pub atom_holds-returns-in-Has : goal.atom_holds-returns-in-Has
atom_holds-returns-in-Has t c =
    let sight = row_sight c.args.tree.now in
    sym (ap (λ atom. atom_in c.args.tree.now atom c.args.spot) (c.in-Has.is ∙ sym (rolls-Has c.in-Has.chains))
    ∙ has_holds sight c.in-Has.chains c.args.spot
    ∙ ap (λ chains. list_any (any_in c.args.tree.now chains) (below_of c.args.tree.now c.args.spot.node)) (sym c.as_slice-in-Has.ensures)
    ∙ sym c.any_below.ensures)

pub compound_holds-atom_holds-requires : goal.compound_holds-atom_holds-requires
compound_holds-atom_holds-requires t c =
    (omega (arith, atom_less c.args.atoms.now c.loop-atom.atom-index c.atom-item.result c.loop-atom-test.true c.atom-item.is), omega arith)

pub links_at-compound_holds-requires-2 : goal.links_at-compound_holds-requires-2
links_at-compound_holds-requires-2 t c =
    let links = ap (links_weight weight) c.in-Some.ensures.cases.0 ∙ links_weight-append weight c.in-Some.before.now c.in-Some.last.now in
    (omega (arith, links, ap (atoms_weight weight) c.as_slice.ensures), omega arith)

pub links_at-above_at-requires : goal.links_at-above_at-requires
links_at-above_at-requires t c =
    let links = ap (links_weight weight) c.in-Some.ensures.cases.0 ∙ links_weight-append weight c.in-Some.before.now c.in-Some.last.now in
    (omega (arith, links, atoms_some weight c.in-Some.last.now.compound), omega arith)

pub links_at-links_at-requires : goal.links_at-links_at-requires
links_at-links_at-requires t c =
    let links = ap (links_weight weight) c.in-Some.ensures.cases.0 ∙ links_weight-append weight c.in-Some.before.now c.in-Some.last.now in
    (omega (arith, links), omega (arith, c.in-Some-up.ensures.before))

pub links_at-links_at-requires-in-Some-previous_of :
    goal.links_at-links_at-requires-in-Some-previous_of
links_at-links_at-requires-in-Some-previous_of t c =
    let links = ap (links_weight weight) c.in-Some.ensures.cases.0 ∙ links_weight-append weight c.in-Some.before.now c.in-Some.last.now in
    (omega (arith, links), omega (arith, c.in-Some-previous_of.ensures.within))

pub links_at-earlier_at-requires : goal.links_at-earlier_at-requires
links_at-earlier_at-requires t c =
    let links = ap (links_weight weight) c.in-Some.ensures.cases.0 ∙ links_weight-append weight c.in-Some.before.now c.in-Some.last.now in
    (omega (arith, links, atoms_some weight c.in-Some.last.now.compound), omega arith)

pub above_at-loop-node-preserved : goal.above_at-loop-node-preserved
above_at-loop-node-preserved t c =
    let rows = c.args.tree.now in
    let test = links_in rows c.args.first.now c.args.links.now in
    let here : up rows c.loop-node.at ≡ Some c.in-Some.node = sym c.in-Some.ensures.value in
    let same = c.loop-node.invariant.top in
    let fails : test (spot_of c.loop-node.at.top c.in-Some.node) ≡ false =
    ap (λ top. test (spot_of top c.in-Some.node)) same ∙ sym c.in-Fails.ensures.holds in
    record {
      within = omega (arith, c.in-Some.ensures.before);
      top = refl;
      rest = ap (λ top. list_any test (above_of rows (spot_of top c.in-Some.node))) (sym same)
          ∙ above_passed rows test c.loop-node.at c.in-Some.node here fails ∙ c.loop-node.invariant.rest;
    }

pub above_at-returns-in-Never-clause-holds : goal.above_at-returns-in-Never-clause-holds
above_at-returns-in-Never-clause-holds t c =
    let rows = c.args.tree.now in
    let test = links_in rows c.args.first.now c.args.links.now in
    let here : up rows c.loop-node.at ≡ Some c.in-Some.node = sym c.in-Some.ensures.value in
    let same = c.loop-node.invariant.top in
    let spot = spot_of c.args.spot.top c.in-Some.node in
    let never = c.in-Never.ensures.never refl in
    let fails : test (spot_of c.loop-node.at.top c.in-Some.node) ≡ false =
    ap (λ top. test (spot_of top c.in-Some.node)) same ∙ sym c.in-Never.ensures.holds in
    sym (sym c.loop-node.invariant.rest ∙ sym (above_passed rows test c.loop-node.at c.in-Some.node here fails)
    ∙ ap (λ top. list_any test (above_of rows (spot_of top c.in-Some.node))) same ∙ never_above rows test spot never)

pub earlier_at-returns-in-Never-clause-holds : goal.earlier_at-returns-in-Never-clause-holds
earlier_at-returns-in-Never-clause-holds t c =
    let rows = c.args.tree.now in
    sym (never_earlier rows (links_in rows c.args.first.now c.args.links.now) c.args.spot c.args.spot (nested_itself rows c.args.spot)
    (λ third below. c.in-Never.ensures.never refl third
    (sibling_nested rows c.args.spot c.in-Some.place (c.loop-index.index - 1) c.in-Some-sibling_at.node
    (sym c.in-Some.ensures.value) (sym c.in-Some-sibling_at.ensures.value) third below)))

pub earlier_at-returns-in-Never-clause-never : goal.earlier_at-returns-in-Never-clause-never
earlier_at-returns-in-Never-clause-never t c is other nested =
    let rows = c.args.tree.now in
    never_earlier rows (links_in rows c.args.first.now c.args.links.now) c.args.spot other nested
    (λ third below. c.in-Never.ensures.never refl third
    (sibling_nested rows c.args.spot c.in-Some.place (c.loop-index.index - 1) c.in-Some-sibling_at.node
    (sym c.in-Some.ensures.value) (sym c.in-Some-sibling_at.ensures.value) third below))

pub links_at-returns-in-Descendant-clause-never : goal.links_at-returns-in-Descendant-clause-never
links_at-returns-in-Descendant-clause-never t c is other nested =
    let rows = c.args.tree.now in
    let none = sym c.above_at.ensures.holds ∙ ap is_holding is in
    links_last rows c.args.first.now c.args.links.now c.in-Some.before.now c.in-Some.last.now other c.in-Some.ensures.cases.0
    ∙ and_false (compound_in rows c.in-Some.last.now.compound other) _
    (ap (λ joined. reaches (row_sight rows) joined (links_in rows c.args.first.now c.in-Some.before.now) other) c.in-Descendant.is
    ∙ never_nested_above rows (links_in rows c.args.first.now c.in-Some.before.now) c.args.spot other none nested)

pub links_at-returns-in-Some-up-clause-never : goal.links_at-returns-in-Some-up-clause-never
links_at-returns-in-Some-up-clause-never t c is other nested =
    let rows = c.args.tree.now in
    links_last rows c.args.first.now c.args.links.now c.in-Some.before.now c.in-Some.last.now other c.in-Some.ensures.cases.0
    ∙ and_false (compound_in rows c.in-Some.last.now.compound other) _
    (ap (λ joined. reaches (row_sight rows) joined (links_in rows c.args.first.now c.in-Some.before.now) other) c.in-Child.is
    ∙ never_parent rows (links_in rows c.args.first.now c.in-Some.before.now) c.args.spot other c.in-Some-up.node (sym c.in-Some-up.ensures.value) nested (c.links_at.ensures.never is))

pub links_at-returns-in-Some-previous_of-clause-never :
    goal.links_at-returns-in-Some-previous_of-clause-never
links_at-returns-in-Some-previous_of-clause-never t c is other nested =
    let rows = c.args.tree.now in
    links_last rows c.args.first.now c.args.links.now c.in-Some.before.now c.in-Some.last.now other c.in-Some.ensures.cases.0
    ∙ and_false (compound_in rows c.in-Some.last.now.compound other) _
    (ap (λ joined. reaches (row_sight rows) joined (links_in rows c.args.first.now c.in-Some.before.now) other) c.in-Next.is
    ∙ never_previous rows (links_in rows c.args.first.now c.in-Some.before.now) c.args.spot other nested
    (λ third below. c.links_at-in-Some-previous_of.ensures.never is third
    (previous_nested rows c.args.spot c.in-Some-previous_of.node (sym c.in-Some-previous_of.ensures.value) third below)))

pub any_below-loop-node-preserved : goal.any_below-loop-node-preserved
any_below-loop-node-preserved t c =
    let rows = c.args.tree.now in
    let passes = stands_below rows c.args.top in
    let test = any_in rows c.args.chains.now in
    let within : c.loop-node.node < length rows = omega (arith, c.count-count.ensures.count) in
    sym (passed passes test (spot_of c.args.top) c.loop-node.node (length rows) within (sym c.if-stands_below.ensures) (sym c.if-any_holds.ensures))
    ∙ c.loop-node.invariant
