use Rattle.std.proofs.Common.{rules}
use Rattle.std.specs.Ordering.{nat_cmp}
use Rattle.std.specs.Cmp.Lexicographic.{slice_cmp}
use Rattle.std.proofs.lemmas.Fn.{always_returns_same}
use Rattle.es_tables.proofs.SearchesLemmas.{comparisons_rise, equal_texts, none_is_equal}
use Rattle.es_tables.proofs.table.Table.find.Goals as goal

-- the search compares the rows' texts with the one that is looked for
pub returns-in-Ok-clause-text : goal.returns-in-Ok-clause-text
returns-in-Ok-clause-text g c =
    equal_texts _ _ (c.in-Ok.ensures.position (λ row. slice_cmp nat_cmp row.text.now c.args.text.now) (always_returns_same _ _ _ (λ a r f called. search rules)) _)

pub returns-in-Err-clause-missing : goal.returns-in-Err-clause-missing
returns-in-Err-clause-missing g c =
    none_is_equal c.args.self.now.rows.now c.args.text.now _
    (c.in-Err.ensures.position (λ row. slice_cmp nat_cmp row.text.now c.args.text.now) (always_returns_same _ _ _ (λ a r f called. search rules))
    (comparisons_rise _ c.requires _))
