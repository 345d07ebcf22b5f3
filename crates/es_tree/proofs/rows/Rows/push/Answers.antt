use Rattle.std.proofs.Common.{◌≡◌, ◌++◌, [], sym, refl, append-nil}
use Rattle.es_tree.specs.Entries.{Arrays, arrays_of}
use Rattle.es_tree.specs.declared.part.TheConstants.{NOTHING}
use Rattle.es_tree.specs.declared.rows.Entry.{Entry}
use Rattle.es_tree.proofs.EntriesLemmas.{Grows, rows-push}
use Rattle.es_tree.proofs.rows.Rows.push.Goals as goal

pub returns : goal.returns
returns c =
    let old : Arrays = arrays_of c.self.inside in
    let new : Arrays = record old { attributes = c.append.new.items.items } in
    let entry : Entry = record {
      kind = c.args.kind;
      span = c.args.span;
      parent = c.args.parent;
      fields = NOTHING;
      children = NOTHING;
      attributes = c.in_ok-attributes.attributes;
    } in
    let more : new.attributes ≡ old.attributes ++ c.args.attributes = rw (← c.into_vec.ensures) c.in_ok-attributes.ensures.items in
    let grows : Grows old new = record {
      fields = ([], sym (append-nil old.fields));
      children = ([], sym (append-nil old.children));
      attributes = (c.args.attributes, more);
    } in
    rw c.in_ok-push.ensures.items
    (rows-push old new c.self.inside.entries.items entry c.args.attributes c.args.self.now grows c.self.invariant refl refl more
    c.in_ok-attributes.ensures.start c.in_ok-attributes.ensures.end c.self.view_is)
