-- A selector may go to another thread.
use denote.Param.Send.{IsSend, enum_send, recorded_send, sendable, struct_send, view_send}
use denote.Enum.Declared.{shape as enum_shape}
use denote.Struct.Declared.{shape}
use Rattle.std.proofs.Crossing as heap
use Rattle.es_text.specs.contracts.items.Items as Items
use Rattle.es_text.proofs.items.Items.TheSendSync as items
use Rattle.es_selectors.specs.contracts.matching.Selector as Selector
use Rattle.es_selectors.specs.contracts.matching.Selector.TheInside as inside
use Rattle.es_selectors.specs.contracts.selector.Atom as Atom
use Rattle.es_selectors.specs.contracts.selector.Chain as Chain
use Rattle.es_selectors.specs.contracts.selector.Combinator as Combinator
use Rattle.es_selectors.specs.contracts.selector.Link as Link
use Rattle.es_selectors.specs.contracts.selector.Spelling as Spelling
use Rattle.es_selectors.proofs.selector.Atom.TheLaws.TheKnot as knot

atom_send : IsSend Atom.the_row
atom_send = search (heap.crosses, knot.crosses, sendable) depth 60 fits 20000

combinator_send : IsSend Combinator.the_field.row
combinator_send = enum_send (enum_shape Combinator.the_type) (tt, (tt, (tt, (tt, tt))))

link_send : IsSend (Link.the_row Atom.the_row)
link_send = recorded_send (Link.the_field Atom.the_row).row _ _ (Link.the_type Atom.the_row).to_one
    (struct_send (shape (Link.the_type Atom.the_row)) (combinator_send, (items.the_send _ atom_send, tt)))

chain_send : IsSend (Chain.the_row Atom.the_row)
chain_send = recorded_send (Chain.the_field Atom.the_row).row _ _ (Chain.the_type Atom.the_row).to_one
    (struct_send (shape (Chain.the_type Atom.the_row)) (items.the_send _ atom_send, (items.the_send _ link_send, tt)))

chains_send : IsSend (Items.the_row (Chain.the_row Atom.the_row))
chains_send = items.the_send _ chain_send

spelling_send : IsSend Spelling.the_field.row
spelling_send = struct_send (shape Spelling.the_type) (chains_send, (search sendable, tt))

pub selector_send : IsSend Selector.the_row
selector_send = view_send inside.the_row _ _ _ _ (recorded_send inside.the_field.row _ _ inside.the_type.to_one
    (struct_send (shape inside.the_type) (spelling_send, tt)))
