-- Answers that are passed on.
use Rattle.std.proofs.Common.{◌≡◌, ℕ, List}
use Rattle.std.specs.Prelude.{Result, Ok, Err, Some, None}
use denote.Ref.{Bor}
use Rattle.es_selectors.specs.declared.fault.SelectorFault.{SelectorFault}
use Rattle.es_selectors.specs.declared.fault.SelectorFault.TheVariants.{Unread, NoMemory}
use Rattle.es_selectors.specs.Lexical.{Read}
use Rattle.es_selectors.specs.Told.{Faults, Gives, Tells}

pub passed_on : {one other : Type 0} (fault : SelectorFault) → Faults one fault → (one → other) → Faults other fault
passed_on Unread refused further = further refused
passed_on NoMemory refused further = tt

pub given_on : {A : Type 0} {read : Read A} {spells : A → List ℕ → Type 0} {refused : Type 0} (result : Result (A × Bor (List ℕ)) SelectorFault) →
    Gives read result → ((value : A) (rest : List ℕ) → read ≡ Some (value, rest) → spells value rest) → (read ≡ None → refused) → Tells spells refused result
given_on (Ok given) is spelled not = spelled given.0 given.1.now is
given_on (Err fault) is spelled not = passed_on fault is not

pub unread_refused : {refused : Type 0} (fault : SelectorFault) → fault ≡ Unread → Faults refused fault → refused
unread_refused Unread is refused = refused
unread_refused NoMemory is refused = cc
