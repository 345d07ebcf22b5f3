use Rattle.std.proofs.Common.{◌≡◌, [], ◌∷◌, ◌++◌, append_assoc, append-nil, false, true, sym, subst, ap, ◌∙◌, arith}
use Rattle.std.specs.Prelude.{Some, None, codes}
use Rattle.std.proofs.lemmas.Result.{err_from_is_err_and}
use Rattle.es_selectors.specs.declared.selector.Atom.{Atom}
use Rattle.es_selectors.specs.declared.selector.Atom.TheVariants.{rolls-Attribute}
use Rattle.es_selectors.specs.declared.selector.Link.{Link}
use Rattle.es_selectors.specs.Lexical.{after, past_blanks}
use Rattle.es_selectors.specs.Refusals.{RefusesList, not_plain, no_path, no_condition, no_group, no_list, not_closed, no_chain, no_chains, no_first, bad_links, no_compound, no_links, no_atom, no_atoms}
use Rattle.es_selectors.specs.Spelling.{SpellsAtom, SpellsCompound, SpellsLinks, SpellsList, begins_atom, plain, bracket, nests, in_parentheses, one_chain, more_chains, compounds, no_link, more_links, one_atom, more_atoms}
use Rattle.es_selectors.proofs.ToldLemmas.{given_on, passed_on}
use Rattle.es_selectors.proofs.reader.+reading.Goals as goal

pub read_atom-returns-in_err-names-clause-told : goal.read_atom-returns-in_err-names-clause-told
read_atom-returns-in_err-names-clause-told t c =
    let p = err_from_is_err_and c.from_residual.result c.from_residual.ensures.1 in
    rw (p.1, p.2) (passed_on c.in_err-names.field-0.0 c.in_err-names.ensures.told (no_path (sym c.in-Some.ensures.value)))

pub read_atom-returns-in_err-condition-clause-told :
    goal.read_atom-returns-in_err-condition-clause-told
read_atom-returns-in_err-condition-clause-told t c =
    let p = err_from_is_err_and c.from_residual-in_err-condition.result c.from_residual-in_err-condition.ensures.1 in
    rw (p.1, p.2) (passed_on c.in_err-condition.field-0.0 c.in_err-condition.ensures.value (no_condition (sym c.in-Some.ensures.value) c.in_ok-names.ensures.told))

pub read_atom-returns-in-Some-clause-told : goal.read_atom-returns-in-Some-clause-told
read_atom-returns-in-Some-clause-told t c =
    subst (λ atom. SpellsAtom c.args.text.now atom c.in_ok-condition.rest.now) (rolls-Attribute c.in_ok-names.names c.in_ok-condition.condition)
    (bracket (sym c.in-Some.ensures.value) c.in_ok-names.ensures.told c.in_ok-condition.ensures.value)

pub read_atom-returns-in_err-chains-clause-told : goal.read_atom-returns-in_err-chains-clause-told
read_atom-returns-in_err-chains-clause-told t c =
    let p = err_from_is_err_and c.from_residual-in_err-chains.result c.from_residual-in_err-chains.ensures.1 in
    rw (p.1, p.2) (passed_on c.in_err-chains.field-0.0 c.in_err-chains.ensures.told (no_group (sym c.in-Some-nest_at.ensures.value)))

pub read_atom-returns-in-Some-nest_at-clause-told :
    goal.read_atom-returns-in-Some-nest_at-clause-told
read_atom-returns-in-Some-nest_at-clause-told t c =
    subst (λ atom. SpellsAtom c.args.text.now atom c.in_ok-chains.rest.now) (sym c.nested.ensures)
    (nests (sym c.in-Some-nest_at.ensures.value) c.in_ok-chains.ensures.told)

pub read_atom-returns-clause-told : goal.read_atom-returns-clause-told
read_atom-returns-clause-told t c =
    given_on c.plain_atom.result c.plain_atom.ensures.value (λ atom rest is. plain is)
    (not_plain (sym c.in_default.ensures.value) (sym c.in_default-nest_at.ensures.value))

pub read_chain-returns-in_err-first-clause-told : goal.read_chain-returns-in_err-first-clause-told
read_chain-returns-in_err-first-clause-told t c =
    let p = err_from_is_err_and c.from_residual.result c.from_residual.ensures.1 in
    rw (p.1, p.2) (passed_on c.in_err-first.field-0.0 c.in_err-first.ensures.told no_first)

pub read_chain-returns-in_err-links-clause-told : goal.read_chain-returns-in_err-links-clause-told
read_chain-returns-in_err-links-clause-told t c =
    let p = err_from_is_err_and c.from_residual-in_err-links.result c.from_residual-in_err-links.ensures.1 in
    rw (p.1, p.2) (passed_on c.in_err-links.field-0.0 c.in_err-links.ensures.told (bad_links c.in_ok-first.ensures.told))

pub read_chain-returns-clause-told : goal.read_chain-returns-clause-told
read_chain-returns-clause-told t c = compounds c.in_ok-first.ensures.told c.in_ok-links.ensures.told

pub read_compound-returns-in_err-atom-clause-told : goal.read_compound-returns-in_err-atom-clause-told
read_compound-returns-in_err-atom-clause-told t c =
    let p = err_from_is_err_and c.from_residual.result c.from_residual.ensures.1 in
    rw (p.1, p.2) (passed_on c.in_err-atom.field-0.0 c.in_err-atom.ensures.told (λ refused. c.loop-atoms.invariant.refused (no_atom refused)))

pub read_compound-returns-then-not-begins_atom-clause-told :
    goal.read_compound-returns-then-not-begins_atom-clause-told
read_compound-returns-then-not-begins_atom-clause-told t c =
    let over : begins_atom c.in_ok-atom.behind.now ≡ false = sym c.begins_atom.ensures ∙ c.if-not-begins_atom.true in
    subst (λ atoms. SpellsCompound c.args.text.now atoms c.in_ok-atom.behind.now) (sym c.in_ok-push.ensures.ok)
    (c.loop-atoms.invariant.spelled (c.in_ok-atom.atom ∷ []) c.in_ok-atom.behind.now (one_atom c.in_ok-atom.ensures.told over))

pub read_compound-loop-atoms-preserved : goal.read_compound-loop-atoms-preserved
read_compound-loop-atoms-preserved t c =
    let further : begins_atom c.in_ok-atom.behind.now ≡ true = sym c.begins_atom.ensures ∙ c.if-not-begins_atom.false in
    record {
      spelled = λ atoms rest spelled.
          subst (λ all. SpellsCompound c.args.text.now all rest)
          (sym (ap (λ all. all ++ atoms) c.in_ok-push.ensures.ok ∙ append_assoc c.loop-atoms.atoms (c.in_ok-atom.atom ∷ []) atoms))
          (c.loop-atoms.invariant.spelled (c.in_ok-atom.atom ∷ atoms) rest (more_atoms c.in_ok-atom.ensures.told further spelled));
      refused = λ refused. c.loop-atoms.invariant.refused (no_atoms c.in_ok-atom.ensures.told further refused);
      no_longer = omega (arith, c.in_ok-atom.ensures.shorter);
    }

pub read_group-returns-in_err-chains-clause-told : goal.read_group-returns-in_err-chains-clause-told
read_group-returns-in_err-chains-clause-told t c =
    let p = err_from_is_err_and c.from_residual.result c.from_residual.ensures.1 in
    rw (p.1, p.2) (passed_on c.in_err-chains.field-0.0 c.in_err-chains.ensures.told (λ refused. no_list (subst RefusesList c.past_blanks.ensures.value refused)))

pub read_group-returns-in-Some-clause-told : goal.read_group-returns-in-Some-clause-told
read_group-returns-in-Some-clause-told t c =
    in_parentheses
    (subst (λ text. SpellsList text c.in_ok-chains.chains c.in_ok-chains.behind.now) c.past_blanks.ensures.value c.in_ok-chains.ensures.told)
    (ap (after (codes ")")) (sym c.past_blanks-2.ensures.value) ∙ sym c.in-Some.ensures.value)

pub read_group-returns-in-None-clause-told : goal.read_group-returns-in-None-clause-told
read_group-returns-in-None-clause-told t c =
    not_closed
    (subst (λ text. SpellsList text c.in_ok-chains.chains c.in_ok-chains.behind.now) c.past_blanks.ensures.value c.in_ok-chains.ensures.told)
    (ap (after (codes ")")) (sym c.past_blanks-2.ensures.value) ∙ sym c.in-None.ensures.value)

pub read_links-returns-in_err-compound-clause-told :
    goal.read_links-returns-in_err-compound-clause-told
read_links-returns-in_err-compound-clause-told t c =
    let p = err_from_is_err_and c.from_residual.result c.from_residual.ensures.1 in
    rw (p.1, p.2) (passed_on c.in_err-compound.field-0.0 c.in_err-compound.ensures.told (λ refused. c.loop-combinator.invariant.refused (no_compound (sym c.in-Some.ensures.value) refused)))

pub read_links-loop-combinator-preserved : goal.read_links-loop-combinator-preserved
read_links-loop-combinator-preserved t c =
    let here = sym c.in-Some.ensures.value in
    let link : Link Atom = record { combinator = c.in-Some.combinator; compound = c.in_ok-compound.compound } in
    record {
      spelled = λ links rest spelled.
          subst (λ all. SpellsLinks c.args.text.now all rest)
          (sym (ap (λ all. all ++ links) c.in_ok-push.ensures.ok ∙ append_assoc c.loop-combinator.links (link ∷ []) links))
          (c.loop-combinator.invariant.spelled (link ∷ links) rest (more_links here c.in_ok-compound.ensures.told spelled));
      refused = λ refused. c.loop-combinator.invariant.refused (no_links here c.in_ok-compound.ensures.told refused);
      no_longer = omega (arith, c.in_ok-compound.ensures.shorter, c.in-Some.ensures.shorter);
    }

pub read_links-returns-clause-told : goal.read_links-returns-clause-told
read_links-returns-clause-told t c =
    subst (λ all. SpellsLinks c.args.text.now all c.loop-combinator.rest.now) (append-nil c.loop-combinator.links)
    (c.loop-combinator.invariant.spelled [] c.loop-combinator.rest.now (no_link (sym c.in_default.ensures.value)))

pub read_list-returns-in_err-chain-clause-told : goal.read_list-returns-in_err-chain-clause-told
read_list-returns-in_err-chain-clause-told t c =
    let p = err_from_is_err_and c.from_residual.result c.from_residual.ensures.1 in
    rw (p.1, p.2) (passed_on c.in_err-chain.field-0.0 c.in_err-chain.ensures.told (λ refused. c.loop-chains.invariant.refused (no_chain refused)))

pub read_list-loop-chains-preserved : goal.read_list-loop-chains-preserved
read_list-loop-chains-preserved t c =
    let comma : after (codes ",") (past_blanks c.in_ok-chain.behind.now) ≡ Some c.in-Some.next.now =
    ap (after (codes ",")) (sym c.past_blanks.ensures.value) ∙ sym c.in-Some.ensures.value in
    record {
      spelled = λ chains rest spelled.
          subst (λ all. SpellsList c.args.text.now all rest)
          (sym (ap (λ all. all ++ chains) c.in_ok-push.ensures.ok ∙ append_assoc c.loop-chains.chains (c.in_ok-chain.chain ∷ []) chains))
          (c.loop-chains.invariant.spelled (c.in_ok-chain.chain ∷ chains) rest
          (more_chains c.in_ok-chain.ensures.told comma (subst (λ text. SpellsList text chains rest) c.past_blanks-rest.ensures.value spelled)));
      refused = λ refused. c.loop-chains.invariant.refused
          (no_chains c.in_ok-chain.ensures.told comma (subst RefusesList c.past_blanks-rest.ensures.value refused));
      no_longer = omega (arith, c.in_ok-chain.ensures.shorter, c.in-Some.ensures.no_longer, c.past_blanks.ensures.no_longer, c.past_blanks-rest.ensures.no_longer);
    }

pub read_list-returns-in-None-clause-told : goal.read_list-returns-in-None-clause-told
read_list-returns-in-None-clause-told t c =
    let no_comma : after (codes ",") (past_blanks c.in_ok-chain.behind.now) ≡ None =
    ap (after (codes ",")) (sym c.past_blanks.ensures.value) ∙ sym c.in-None.ensures.value in
    subst (λ all. SpellsList c.args.text.now all c.in_ok-chain.behind.now) (sym c.in_ok-push.ensures.ok)
    (c.loop-chains.invariant.spelled (c.in_ok-chain.chain ∷ []) c.in_ok-chain.behind.now (one_chain c.in_ok-chain.ensures.told no_comma))
