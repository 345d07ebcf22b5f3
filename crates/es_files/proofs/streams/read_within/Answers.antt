use Rattle.std.proofs.Common.{◌++◌, take, arith, length-append}
use Rattle.std.proofs.lemmas.Grind.{common_steps}
use Rattle.std.proofs.KnownBytes.{Consumes-trans}
use Rattle.es_files.proofs.streams.read_within.Goals as goal

-- what was read last is gone too, also where there is no memory to keep it
pub returns-then-is_err-clause-taken : goal.returns-then-is_err-clause-taken
returns-then-is_err-clause-taken g c =
    let last = take c.in-Ok.count c.read.new.buf in (
      c.loop.bytes.items ++ last,
      Consumes-trans _ _ _ _ _ c.loop.invariant.gone c.in-Ok.ensures.bytes.0,
      grind (arith, common_steps, c.len.ensures, c.next_size-size.ensures.within, c.in-Ok.ensures.bound, length-append c.loop.bytes.items last),
    )
