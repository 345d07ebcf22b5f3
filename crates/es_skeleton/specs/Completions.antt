-- Whether two completions are the same.
use Rattle.std.specs.Prelude.{Bool, true, false, eqb}
use Rattle.es_skeleton.specs.declared.completion.Completion.{Completion}
use Rattle.es_skeleton.specs.declared.completion.Completion.TheVariants.{Normal, Truth, Break, Continue, Return, Throw, Short}

abbrev pub same_truth : Bool → Bool → Bool
same_truth true right = right
same_truth false true = false
same_truth false false = true

abbrev pub same : Completion → Completion → Bool
same Normal Normal = true
same (Truth left) (Truth right) = same_truth left right
same (Break left) (Break right) = eqb left right
same (Continue left) (Continue right) = eqb left right
same Return Return = true
same Throw Throw = true
same Short Short = true
same _ _ = false
