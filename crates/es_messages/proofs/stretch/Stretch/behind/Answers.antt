use Rattle.std.proofs.Common.{◌≡◌, ℕ, ◌+◌, ◌-◌, List, length, take, drop, ap, arith}
use Rattle.std.specs.Char.{len_utf8}
use Rattle.std.proofs.lemmas.List.{take_rest}
use Rattle.std.proofs.lemmas.List.Sums.{sum_by-take-drop}
use Rattle.es_messages.specs.Stretches.{width}
use Rattle.es_messages.proofs.stretch.Stretch.behind.Goals as goal

pub invariant_of-result : goal.invariant_of-result
invariant_of-result c =
    let list : List ℕ = c.args.self.list.now in
    let n : ℕ = c.args.n in
    let whole : width (take n list) + width (drop n list) ≡ width list = sum_by-take-drop len_utf8 list n in
    let part : width (take (length list - n) (drop n list)) ≡ width (drop n list) = ap width (take_rest list n) in
    record { fits = omega (arith, whole, part, c.width.ensures, c.args.self.fits) }
