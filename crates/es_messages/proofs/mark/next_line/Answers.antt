use Rattle.std.proofs.Common.{◌≡◌, ◌≤◌, ◌+◌, length, arith, ap}
use Rattle.es_text.specs.Texts.{text_bytes}
use Rattle.es_messages.proofs.PlacesLemmas.{few_lines}
use Rattle.es_messages.proofs.mark.next_line.Goals as goal

pub overflow_add-result : goal.overflow_add-result
overflow_add-result c =
    omega (arith, few_lines c.args.source.now c.args.span.end, ap (λ place. place.line) c.place.ensures, ap length c.text-text.ensures.bytes, c.text-text.ensures.bound)
