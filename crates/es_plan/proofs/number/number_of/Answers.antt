use Rattle.std.proofs.Common.{Err, rules}
use Rattle.std.proofs.lemmas.Str.Parse.{numerals_by_value, parse_digits, tells_all_ascii_digits}
use Rattle.es_plan.proofs.NumbersLemmas.{is_none}
use Rattle.es_plan.proofs.number.number_of.Goals as goal

pub returns-in_default-2 : goal.returns-in_default-2
returns-in_default-2 c =
    is_none c.args.most c.args.text.now c.ranges.most.fits
    (parse_digits (numerals_by_value _ tells_all_ascii_digits) 32 c.args.text.now (Err c.in_default.field-0) c.in_default.ensures.value.0 (search rules))
