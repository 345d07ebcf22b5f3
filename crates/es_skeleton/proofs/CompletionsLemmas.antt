-- The test of completions says whether they are equal.
use Rattle.std.proofs.Common.{◌≡◌, ◌≢◌, ◌∙◌, ◌⊎◌, inl, inr, Bool, true, false, refl, sym, ap, subst}
use Rattle.std.proofs.lemmas.Bool.{cases_Bool, eqb-true, eq-eqb}
use Rattle.es_skeleton.specs.declared.completion.Completion.{Completion}
use Rattle.es_skeleton.specs.declared.completion.Completion.TheVariants.{Normal, Truth, Break, Continue, Return, Throw, Short}
use Rattle.es_skeleton.specs.Completions.{same, same_truth}

truth-true : (a b : Bool) → same_truth a b ≡ true → a ≡ b
truth-true true b e = sym e
truth-true false false e = refl
truth-true false true e = e

truth-self : (a : Bool) → same_truth a a ≡ true
truth-self true = refl
truth-self false = refl

pub same-true : (c d : Completion) → same c d ≡ true → c ≡ d
same-true Normal Normal e = refl
same-true Normal (Truth b) e = absurd (let z : false ≡ true = e in cc)
same-true Normal (Break b) e = absurd (let z : false ≡ true = e in cc)
same-true Normal (Continue b) e = absurd (let z : false ≡ true = e in cc)
same-true Normal Return e = absurd (let z : false ≡ true = e in cc)
same-true Normal Throw e = absurd (let z : false ≡ true = e in cc)
same-true Normal Short e = absurd (let z : false ≡ true = e in cc)
same-true (Truth a) Normal e = absurd (let z : false ≡ true = e in cc)
same-true (Truth a) (Truth b) e = ap Truth (truth-true a b e)
same-true (Truth a) (Break b) e = absurd (let z : false ≡ true = e in cc)
same-true (Truth a) (Continue b) e = absurd (let z : false ≡ true = e in cc)
same-true (Truth a) Return e = absurd (let z : false ≡ true = e in cc)
same-true (Truth a) Throw e = absurd (let z : false ≡ true = e in cc)
same-true (Truth a) Short e = absurd (let z : false ≡ true = e in cc)
same-true (Break a) Normal e = absurd (let z : false ≡ true = e in cc)
same-true (Break a) (Truth b) e = absurd (let z : false ≡ true = e in cc)
same-true (Break a) (Break b) e = ap Break (eqb-true a b e)
same-true (Break a) (Continue b) e = absurd (let z : false ≡ true = e in cc)
same-true (Break a) Return e = absurd (let z : false ≡ true = e in cc)
same-true (Break a) Throw e = absurd (let z : false ≡ true = e in cc)
same-true (Break a) Short e = absurd (let z : false ≡ true = e in cc)
same-true (Continue a) Normal e = absurd (let z : false ≡ true = e in cc)
same-true (Continue a) (Truth b) e = absurd (let z : false ≡ true = e in cc)
same-true (Continue a) (Break b) e = absurd (let z : false ≡ true = e in cc)
same-true (Continue a) (Continue b) e = ap Continue (eqb-true a b e)
same-true (Continue a) Return e = absurd (let z : false ≡ true = e in cc)
same-true (Continue a) Throw e = absurd (let z : false ≡ true = e in cc)
same-true (Continue a) Short e = absurd (let z : false ≡ true = e in cc)
same-true Return Normal e = absurd (let z : false ≡ true = e in cc)
same-true Return (Truth b) e = absurd (let z : false ≡ true = e in cc)
same-true Return (Break b) e = absurd (let z : false ≡ true = e in cc)
same-true Return (Continue b) e = absurd (let z : false ≡ true = e in cc)
same-true Return Return e = refl
same-true Return Throw e = absurd (let z : false ≡ true = e in cc)
same-true Return Short e = absurd (let z : false ≡ true = e in cc)
same-true Throw Normal e = absurd (let z : false ≡ true = e in cc)
same-true Throw (Truth b) e = absurd (let z : false ≡ true = e in cc)
same-true Throw (Break b) e = absurd (let z : false ≡ true = e in cc)
same-true Throw (Continue b) e = absurd (let z : false ≡ true = e in cc)
same-true Throw Return e = absurd (let z : false ≡ true = e in cc)
same-true Throw Throw e = refl
same-true Throw Short e = absurd (let z : false ≡ true = e in cc)
same-true Short Normal e = absurd (let z : false ≡ true = e in cc)
same-true Short (Truth b) e = absurd (let z : false ≡ true = e in cc)
same-true Short (Break b) e = absurd (let z : false ≡ true = e in cc)
same-true Short (Continue b) e = absurd (let z : false ≡ true = e in cc)
same-true Short Return e = absurd (let z : false ≡ true = e in cc)
same-true Short Throw e = absurd (let z : false ≡ true = e in cc)
same-true Short Short e = refl

pub same-self : (c : Completion) → same c c ≡ true
same-self Normal = refl
same-self (Truth a) = truth-self a
same-self (Break a) = eq-eqb a a refl
same-self (Continue a) = eq-eqb a a refl
same-self Return = refl
same-self Throw = refl
same-self Short = refl

pub same-false : (c d : Completion) → same c d ≡ false → c ≢ d
same-false c d e q = absurd (let z : true ≡ false = sym (subst (λ x. same c x ≡ true) q (same-self c)) ∙ e in cc)

pub cases_same : (c d : Completion) → (c ≡ d) ⊎ (c ≢ d)
cases_same c d = elim (cases_Bool (same c d)) [ inl e ↦ inl (same-true c d e) | inr e ↦ inr (same-false c d e) ]
