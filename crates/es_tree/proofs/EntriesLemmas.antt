-- The rows that flat arrays stand for, where the arrays grow.
use Rattle.std.proofs.Common.{◌≡◌, ◌∙◌, ℕ, zero, suc, ◌<◌, List, [], ◌∷◌, ◌++◌, length, map, All, get_or, arith, refl, ap, sym, append-nil}
use Rattle.std.proofs.Math.ListN.{set}
use Rattle.std.specs.Prelude.{Option}
use Rattle.std.proofs.lemmas.List.{map-append}
use Rattle.std.proofs.lemmas.List.Elements.{All-head, All-tail, All-weaker}
use Rattle.es_tree.specs.declared.part.Part.{Part}
use Rattle.es_tree.specs.declared.part.TheConstants.{NOTHING}
use Rattle.es_tree.specs.declared.rows.Entry.{Entry}
use Rattle.es_tree.specs.declared.shape.SetAttribute.{SetAttribute}
use Rattle.es_tree.specs.Entries.{Arrays, IsEntry, row_in}
use Rattle.es_tree.specs.Parts.{IsPart, part_of}
use Rattle.es_tree.specs.Rows.{Row, childless, with_children}
use Rattle.es_tree.proofs.PartsLemmas.{IsPart-append, part_of-append, part_of-end}

-- the new arrays begin with the old ones
pub record Grows (old new : Arrays) : Type 0 where
  pub fields : (more : List (List (Option ℕ))) × (new.fields ≡ old.fields ++ more)
  pub children : (more : List ℕ) × (new.children ≡ old.children ++ more)
  pub attributes : (more : List SetAttribute) × (new.attributes ≡ old.attributes ++ more)

kept_part : {A : Type 0} (old new more : List A) (part : Part) → new ≡ old ++ more → IsPart (length old) part → part_of new part ≡ part_of old part
kept_part old new more part is within = ap (λ items. part_of items part) is ∙ part_of-append old more part within

still_part : {A : Type 0} (old new more : List A) (part : Part) → new ≡ old ++ more → IsPart (length old) part → IsPart (length new) part
still_part old new more part is within = rw is (IsPart-append old more part within)

pub IsEntry-grows : (old new : Arrays) (entry : Entry) → Grows old new → IsEntry old entry → IsEntry new entry
IsEntry-grows old new entry grows is = record {
  fields = still_part old.fields new.fields grows.fields.0 entry.fields grows.fields.1 is.fields;
  children = still_part old.children new.children grows.children.0 entry.children grows.children.1 is.children;
  attributes = still_part old.attributes new.attributes grows.attributes.0 entry.attributes grows.attributes.1 is.attributes;
}

pub entries-grow : (old new : Arrays) (entries : List Entry) → Grows old new → All (IsEntry old) entries → All (IsEntry new) entries
entries-grow old new entries grows = All-weaker (IsEntry old) (IsEntry new) (λ entry. IsEntry-grows old new entry grows) entries

row_in-grows : (old new : Arrays) (entry : Entry) → Grows old new → IsEntry old entry → row_in new entry ≡ row_in old entry
row_in-grows old new entry grows is =
    rw (
      kept_part old.fields new.fields grows.fields.0 entry.fields grows.fields.1 is.fields,
      kept_part old.children new.children grows.children.0 entry.children grows.children.1 is.children,
      kept_part old.attributes new.attributes grows.attributes.0 entry.attributes grows.attributes.1 is.attributes,
    ) refl

pub rows-grow : (old new : Arrays) (entries : List Entry) → Grows old new → All (IsEntry old) entries → map (row_in new) entries ≡ map (row_in old) entries
rows-grow old new [] grows are = refl
rows-grow old new (entry ∷ rest) grows are =
    rw (row_in-grows old new entry grows (All-head (IsEntry old) entry rest are))
    (ap (λ rows. row_in old entry ∷ rows) (rows-grow old new rest grows (All-tail (IsEntry old) entry rest are)))

-- where the fields and the children alone grow
pub grows-children : (old new : Arrays) (lists : List (List (Option ℕ))) (numbers : List ℕ) → new.fields ≡ old.fields ++ lists → new.children ≡ old.children ++ numbers
    → new.attributes ≡ old.attributes → Grows old new
grows-children old new lists numbers more_fields more_children same = record {
  fields = (lists, more_fields);
  children = (numbers, more_children);
  attributes = ([], same ∙ sym (append-nil old.attributes));
}

-- a row that is put at the end
pub rows-push : (old new : Arrays) (entries : List Entry) (entry : Entry) (attributes : List SetAttribute) (rows : List Row) → Grows old new
    → All (IsEntry old) entries → entry.fields ≡ NOTHING → entry.children ≡ NOTHING → new.attributes ≡ old.attributes ++ attributes
    → entry.attributes.start ≡ length old.attributes → entry.attributes.end ≡ length new.attributes → map (row_in old) entries ≡ rows
    → map (row_in new) (entries ++ entry ∷ []) ≡ rows ++ childless entry.kind entry.span entry.parent attributes ∷ []
rows-push old new entries entry attributes rows grows are no_fields no_children more start end is =
    let given : part_of new.attributes entry.attributes ≡ attributes =
    ap (λ items. part_of items entry.attributes) more ∙ part_of-end old.attributes attributes entry.attributes start (end ∙ ap length more) in
    map-append (row_in new) entries (entry ∷ [])
    ∙ rw (given, no_fields, no_children) (ap (λ rows. rows ++ childless entry.kind entry.span entry.parent attributes ∷ []) (rows-grow old new entries grows are ∙ is))

-- the row that gets its children
rows-set : (arrays : Arrays) (entries : List Entry) (at : ℕ) (found : Entry) (fields children : Part) → at < length entries → found ≡ get_or entries at found
    → map (row_in arrays) (set entries at (record found { fields = fields; children = children }))
    ≡ with_children (map (row_in arrays) entries) at (part_of arrays.fields fields) (part_of arrays.children children)
rows-set arrays [] at found fields children within is = absurd (omega arith)
rows-set arrays (entry ∷ rest) zero found fields children within is =
    ap (λ (e : Entry). row_in arrays (record e { fields = fields; children = children }) ∷ map (row_in arrays) rest) is
rows-set arrays (entry ∷ rest) (suc at) found fields children within is =
    ap (λ rows. row_in arrays entry ∷ rows) (rows-set arrays rest at found fields children (omega (arith, within)) is)

pub rows-children : (old new : Arrays) (entries : List Entry) (at : ℕ) (found : Entry) (fields children : Part) (lists : List (List (Option ℕ))) (numbers : List ℕ) (rows : List Row)
    → All (IsEntry old) entries → new.fields ≡ old.fields ++ lists → new.children ≡ old.children ++ numbers → new.attributes ≡ old.attributes
    → fields.start ≡ length old.fields → fields.end ≡ length new.fields → children.start ≡ length old.children → children.end ≡ length new.children
    → at < length entries → found ≡ get_or entries at found → map (row_in old) entries ≡ rows
    → map (row_in new) (set entries at (record found { fields = fields; children = children })) ≡ with_children rows at lists numbers
rows-children old new entries at found fields children lists numbers rows are more_fields more_children same fields_start fields_end children_start children_end within here is =
    let grows : Grows old new = grows-children old new lists numbers more_fields more_children same in
    let own_fields : part_of new.fields fields ≡ lists =
    ap (λ items. part_of items fields) more_fields ∙ part_of-end old.fields lists fields fields_start (fields_end ∙ ap length more_fields) in
    let own_children : part_of new.children children ≡ numbers =
    ap (λ items. part_of items children) more_children ∙ part_of-end old.children numbers children children_start (children_end ∙ ap length more_children) in
    rows-set new entries at found fields children within here
    ∙ rw (own_fields, own_children) (ap (λ rows. with_children rows at lists numbers) (rows-grow old new entries grows are ∙ is))
