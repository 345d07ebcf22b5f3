-- What a place of a program allows: the parameters [In], [Yield] and [Await] of the standard's grammar
-- (5.1.5), and the goal symbol Module.
use Rattle.std.specs.Prelude.{ℕ, Bool, true, false}
use Rattle.es_grammar.specs.declared.context.Context.{Context}
pub use Rattle.es_grammar.specs.declared.context.Spot.{Spot}
use Rattle.es_grammar.specs.declared.context.Change.{Change}
use Rattle.es_grammar.specs.declared.context.Change.TheVariants.{Same, Brackets, WithoutIn, Plain, Async, Generator, AsyncGenerator}

-- the code of a function, of which two flags say whether it is async and a generator
abbrev pub in_function : Bool → Bool → Context → Context
in_function is_async is_generator context = record context { await_operator = is_async; yield_operator = is_generator }

abbrev pub changed : Change → Context → Context
changed Same context = context
changed Brackets context = record context { in_operator = true }
changed WithoutIn context = record context { in_operator = false }
changed Plain context = in_function false false context
changed Async context = in_function true false context
changed Generator context = in_function false true context
changed AsyncGenerator context = in_function true true context

-- outside of functions `await` is an operator in a module
abbrev pub program_context : Bool → Context
program_context is_module =
    record { await_operator = is_module; yield_operator = false; in_operator = true; in_module = is_module }

-- further on in the text
abbrev pub moved : Spot → ℕ → Spot
moved spot end = record spot { at = end }

abbrev pub in_change : Change → Spot → Spot
in_change change spot = record spot { context = changed change spot.context }
