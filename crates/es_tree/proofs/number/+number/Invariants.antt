use Rattle.std.proofs.Common.{◌≡◌, ◌+◌, ◌++◌, ◌∷◌, length}
use Rattle.es_tree.specs.Numbering.{numbered, rows_in, numbers_in, rows_of_all, numbers_of_all, filled, all_filled}
use Rattle.es_tree.proofs.number.+number.Given as goal

abbrev pub invariant-number_children-loop-field : goal.invariant-number_children-loop-field
invariant-number_children-loop-field l =
    let next = length l.rows in
    let more = l.field-iterator.rest.items in
    record {
      rows : l.rows ++ rows_of_all numbered l.parent next more
          ≡ l.fn.rows ++ rows_of_all numbered l.parent (length l.fn.rows) l.fn.fields;
      numbers : l.numbers.fields ++ numbers_of_all numbered l.parent next more
          ≡ numbers_of_all numbered l.parent (length l.fn.rows) l.fn.fields;
      children : l.numbers.children ≡ all_filled l.numbers.fields;
    }

abbrev pub invariant-number_children-loop-child : goal.invariant-number_children-loop-child
invariant-number_children-loop-child l =
    let next = length l.rows in
    let left = rows_in numbered l.parent next l.child-iterator.rest.items in
    let more = l.field-iterator.rest.items in
    record {
      rows : (l.rows ++ left) ++ rows_of_all numbered l.parent (next + length left) more
          ≡ l.fn.rows ++ rows_of_all numbered l.parent (length l.fn.rows) l.fn.fields;
      numbers : l.numbers.fields
          ++ (l.places ++ numbers_in numbered l.parent next l.child-iterator.rest.items)
          ∷ numbers_of_all numbered l.parent (next + length left) more
          ≡ numbers_of_all numbered l.parent (length l.fn.rows) l.fn.fields;
      children : l.numbers.children ≡ all_filled l.numbers.fields ++ filled l.places;
    }
