use Rattle.es_lint.proofs.passes.+fix_text.Given as goal

abbrev pub decreases-fix_text : goal.decreases-fix_text
decreases-fix_text g l = l.left
