use Rattle.std.proofs.Common.{◌≡◌, ℕ, not, sym, ap, ◌∙◌}
use Rattle.std.specs.Prelude.{Option, unwrap_or}
use Rattle.std.specs.List.{list_all}
use Rattle.es_tree.specs.Rows.{kind_of}
use Rattle.es_selectors.specs.declared.selector.Spelling.{Spelling}
use Rattle.es_selectors.specs.KindAtoms.{names_other}
use Rattle.es_selectors.specs.Places.{matches, place_sight}
use Rattle.es_selectors.specs.Selects.{row_sight, selects, spot_of}
use Rattle.es_selectors.proofs.OtherKindLemmas.{all_other, chains_fail, not_false, other_all}
use Rattle.es_selectors.proofs.matching.Selector.by_kind.Goals as goal

pub returns-clause-other : goal.returns-clause-other
returns-clause-other c =
    let chains : c.as_slice.result.now ≡ c.args.self.now.chains = c.as_slice.ensures ∙ ap (λ (s : Spelling). s.chains) c.self.view_is in
    let told : c.all_name_other.result ≡ list_all (names_other c.args.kind) c.args.self.now.chains =
    c.all_name_other.ensures ∙ ap (list_all (names_other c.args.kind)) chains in (
      λ e. all_other c.args.kind c.args.self.now.chains (sym told ∙ not_false c.all_name_other.result e),
      λ all. ap not (told ∙ other_all c.args.kind c.args.self.now.chains all),
    )

pub returns-clause-rows : goal.returns-clause-rows
unfolding selects
returns-clause-rows c e rows node is =
    let chains : c.as_slice.result.now ≡ c.args.self.now.chains = c.as_slice.ensures ∙ ap (λ (s : Spelling). s.chains) c.self.view_is in
    let told : c.all_name_other.result ≡ list_all (names_other c.args.kind) c.args.self.now.chains =
    c.all_name_other.ensures ∙ ap (list_all (names_other c.args.kind)) chains in
    let same : unwrap_or (kind_of rows node) 0 ≡ c.args.kind = ap (λ (o : Option ℕ). unwrap_or o 0) is in
    chains_fail (row_sight rows) c.args.kind (spot_of 0 node) same c.args.self.now.chains (sym told ∙ not_false c.all_name_other.result e)

pub returns-clause-places : goal.returns-clause-places
unfolding matches
returns-clause-places c e place is =
    let chains : c.as_slice.result.now ≡ c.args.self.now.chains = c.as_slice.ensures ∙ ap (λ (s : Spelling). s.chains) c.self.view_is in
    let told : c.all_name_other.result ≡ list_all (names_other c.args.kind) c.args.self.now.chains =
    c.all_name_other.ensures ∙ ap (list_all (names_other c.args.kind)) chains in
    chains_fail place_sight c.args.kind place is c.args.self.now.chains (sym told ∙ not_false c.all_name_other.result e)
