use Rattle.std.proofs.Common.{◌≡◌, ◌++◌, ◌<◌, length, arith, ap, refl}
use Rattle.std.proofs.lemmas.List.{length-map}
use Rattle.es_tree.specs.Entries.{Arrays, arrays_of, row_in}
use Rattle.es_tree.proofs.EntriesLemmas.{rows-children}
use Rattle.es_tree.proofs.rows.Rows.set_children.Goals as goal

pub returns : goal.returns
returns c =
    let old : Arrays = arrays_of c.self.inside in
    let new : Arrays = record old { fields = c.append.new.self; children = c.append-2.new.items.items } in
    let more_children : new.children ≡ old.children ++ c.args.children = rw (← c.into_vec.ensures) c.in_ok-children.ensures.items in
    let within : c.args.node < length c.self.inside.entries.items =
    omega (arith, c.requires, length-map c.self.inside.entries.items (row_in old), ap length c.self.view_is) in
    rows-children old new c.self.inside.entries.items c.args.node c.index_mut-entry.result.now c.in_ok-fields.fields c.in_ok-children.children
    c.args.fields c.args.children c.args.self.now c.self.invariant c.in_ok-fields.ensures.lists more_children refl
    c.in_ok-fields.ensures.start c.in_ok-fields.ensures.end c.in_ok-children.ensures.start c.in_ok-children.ensures.end
    within c.index_mut-entry.ensures.value c.self.view_is
