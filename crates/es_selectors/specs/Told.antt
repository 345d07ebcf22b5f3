-- What the functions of the reader answer: something with what follows it, or that the text isn't read.
use Rattle.std.specs.Prelude.{ℕ, ◌≡◌, List, Result, Ok, Err, Some, None}
use denote.Ref.{Bor}
use Rattle.es_selectors.specs.declared.fault.SelectorFault.{SelectorFault}
use Rattle.es_selectors.specs.declared.fault.SelectorFault.TheVariants.{Unread, NoMemory}
use Rattle.es_selectors.specs.Lexical.{Read}

-- the text is refused, unless memory ran out
abbrev pub Faults : Type 0 → SelectorFault → Type 0
Faults refused Unread = refused
Faults refused NoMemory = Unit {0}

-- what is read is spelled so, and what isn't read is refused, unless memory ran out
abbrev pub Tells : {A : Type 0} → (A → List ℕ → Type 0) → Type 0 → Result (A × Bor (List ℕ)) SelectorFault → Type 0
Tells spells refused (Ok read) = spells read.0 read.1.now
Tells spells refused (Err fault) = Faults refused fault

-- this was read, unless memory ran out
abbrev pub Gives : {A : Type 0} → Read A → Result (A × Bor (List ℕ)) SelectorFault → Type 0
Gives read result = Tells (λ value rest. read ≡ Some (value, rest)) (read ≡ None) result
