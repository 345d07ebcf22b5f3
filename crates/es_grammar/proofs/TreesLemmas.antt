-- A text is one program at most.
use Rattle.std.proofs.Common.{◌≡◌, ℕ, List, [], ◌∷◌, ◌++◌, true, false, Some, refl, sym, ◌∙◌, ap, subst}
use Rattle.std.specs.Prelude.{nat_lt}
use Rattle.std.specs.Option.{option_map_or}
use Rattle.es_text.specs.declared.token.LexMode.TheVariants.{Division}
use Rattle.es_text.specs.declared.token.SourceType.{SourceType}
use Rattle.es_text.specs.declared.token.Token.{Token}
use Rattle.es_text.specs.Tokens.{token}
use Rattle.es_grammar.specs.Conditions.{is_end}
use Rattle.es_grammar.specs.Drafts.{Draft, joined}
use Rattle.es_grammar.specs.Trees.{Answer, Whole, ReadsItems, at_end, unread, too_deep, nothing_read, too_high, next, is_at_end, is_low, program_of}
use Rattle.es_grammar.proofs.ReadingLemmas.{reads_once}

told_end : (text : List ℕ) (at : ℕ) (end : Token) → token text at Division ≡ Some end → is_end end.kind ≡ true → is_at_end text at ≡ true
told_end text at end e h = ap (λ found. option_map_or (λ next. is_end next.kind) found false) e ∙ h

pub answers_once : {text : List ℕ} {source : SourceType} {at : ℕ} {draft : Draft} {o p : Answer} →
    ReadsItems text source at draft o → ReadsItems text source at draft p → o ≡ p
answers_once {text} {source} {at} {draft} {o} {p} (at_end {end = t1} e1 h1) (at_end {end = t2} e2 h2) = let k : t2 ≡ t1 = cc in ap (λ end. Whole (program_of text source draft.children) (draft.tokens ++ end ∷ [])) (sym k)
answers_once {text} {source} {at} {draft} {o} {p} (at_end {end = t1} e1 h1) (unread h2 a2) = let z = told_end text at t1 e1 h1 in cc
answers_once {text} {source} {at} {draft} {o} {p} (at_end {end = t1} e1 h1) (too_deep h2 a2) = let z = told_end text at t1 e1 h1 in cc
answers_once {text} {source} {at} {draft} {o} {p} (at_end {end = t1} e1 h1) (nothing_read {end = n2} {item = d2} h2 a2 p2) = let z = told_end text at t1 e1 h1 in cc
answers_once {text} {source} {at} {draft} {o} {p} (at_end {end = t1} e1 h1) (too_high {end = n2} {item = d2} h2 a2 p2 l2) = let z = told_end text at t1 e1 h1 in cc
answers_once {text} {source} {at} {draft} {o} {p} (at_end {end = t1} e1 h1) (next {end = n2} {item = d2} h2 a2 p2 l2 b2) = let z = told_end text at t1 e1 h1 in cc
answers_once {text} {source} {at} {draft} {o} {p} (unread h1 a1) (at_end {end = t2} e2 h2) = let z = told_end text at t2 e2 h2 in cc
answers_once {text} {source} {at} {draft} {o} {p} (unread h1 a1) (unread h2 a2) = refl
answers_once {text} {source} {at} {draft} {o} {p} (unread h1 a1) (too_deep h2 a2) = let w = reads_once a1 a2 in cc
answers_once {text} {source} {at} {draft} {o} {p} (unread h1 a1) (nothing_read {end = n2} {item = d2} h2 a2 p2) = refl
answers_once {text} {source} {at} {draft} {o} {p} (unread h1 a1) (too_high {end = n2} {item = d2} h2 a2 p2 l2) = let w = reads_once a1 a2 in cc
answers_once {text} {source} {at} {draft} {o} {p} (unread h1 a1) (next {end = n2} {item = d2} h2 a2 p2 l2 b2) = let w = reads_once a1 a2 in cc
answers_once {text} {source} {at} {draft} {o} {p} (too_deep h1 a1) (at_end {end = t2} e2 h2) = let z = told_end text at t2 e2 h2 in cc
answers_once {text} {source} {at} {draft} {o} {p} (too_deep h1 a1) (unread h2 a2) = let w = reads_once a1 a2 in cc
answers_once {text} {source} {at} {draft} {o} {p} (too_deep h1 a1) (too_deep h2 a2) = refl
answers_once {text} {source} {at} {draft} {o} {p} (too_deep h1 a1) (nothing_read {end = n2} {item = d2} h2 a2 p2) = let w = reads_once a1 a2 in cc
answers_once {text} {source} {at} {draft} {o} {p} (too_deep h1 a1) (too_high {end = n2} {item = d2} h2 a2 p2 l2) = refl
answers_once {text} {source} {at} {draft} {o} {p} (too_deep h1 a1) (next {end = n2} {item = d2} h2 a2 p2 l2 b2) = let w = reads_once a1 a2 in cc
answers_once {text} {source} {at} {draft} {o} {p} (nothing_read {end = n1} {item = d1} h1 a1 p1) (at_end {end = t2} e2 h2) = let z = told_end text at t2 e2 h2 in cc
answers_once {text} {source} {at} {draft} {o} {p} (nothing_read {end = n1} {item = d1} h1 a1 p1) (unread h2 a2) = refl
answers_once {text} {source} {at} {draft} {o} {p} (nothing_read {end = n1} {item = d1} h1 a1 p1) (too_deep h2 a2) = let w = reads_once a1 a2 in cc
answers_once {text} {source} {at} {draft} {o} {p} (nothing_read {end = n1} {item = d1} h1 a1 p1) (nothing_read {end = n2} {item = d2} h2 a2 p2) = refl
answers_once {text} {source} {at} {draft} {o} {p} (nothing_read {end = n1} {item = d1} h1 a1 p1) (too_high {end = n2} {item = d2} h2 a2 p2 l2) = let w = reads_once a1 a2 in let u : n2 ≡ n1 = cc in let z : nat_lt at n2 ≡ nat_lt at n1 = ap (nat_lt at) u in cc
answers_once {text} {source} {at} {draft} {o} {p} (nothing_read {end = n1} {item = d1} h1 a1 p1) (next {end = n2} {item = d2} h2 a2 p2 l2 b2) = let w = reads_once a1 a2 in let u : n2 ≡ n1 = cc in let z : nat_lt at n2 ≡ nat_lt at n1 = ap (nat_lt at) u in cc
answers_once {text} {source} {at} {draft} {o} {p} (too_high {end = n1} {item = d1} h1 a1 p1 l1) (at_end {end = t2} e2 h2) = let z = told_end text at t2 e2 h2 in cc
answers_once {text} {source} {at} {draft} {o} {p} (too_high {end = n1} {item = d1} h1 a1 p1 l1) (unread h2 a2) = let w = reads_once a1 a2 in cc
answers_once {text} {source} {at} {draft} {o} {p} (too_high {end = n1} {item = d1} h1 a1 p1 l1) (too_deep h2 a2) = refl
answers_once {text} {source} {at} {draft} {o} {p} (too_high {end = n1} {item = d1} h1 a1 p1 l1) (nothing_read {end = n2} {item = d2} h2 a2 p2) = let w = reads_once a1 a2 in let u : n2 ≡ n1 = cc in let z : nat_lt at n2 ≡ nat_lt at n1 = ap (nat_lt at) u in cc
answers_once {text} {source} {at} {draft} {o} {p} (too_high {end = n1} {item = d1} h1 a1 p1 l1) (too_high {end = n2} {item = d2} h2 a2 p2 l2) = refl
answers_once {text} {source} {at} {draft} {o} {p} (too_high {end = n1} {item = d1} h1 a1 p1 l1) (next {end = n2} {item = d2} h2 a2 p2 l2 b2) = let w = reads_once a1 a2 in let v : d2 ≡ d1 = cc in let z : is_low d2 ≡ is_low d1 = ap is_low v in cc
answers_once {text} {source} {at} {draft} {o} {p} (next {end = n1} {item = d1} h1 a1 p1 l1 b1) (at_end {end = t2} e2 h2) = let z = told_end text at t2 e2 h2 in cc
answers_once {text} {source} {at} {draft} {o} {p} (next {end = n1} {item = d1} h1 a1 p1 l1 b1) (unread h2 a2) = let w = reads_once a1 a2 in cc
answers_once {text} {source} {at} {draft} {o} {p} (next {end = n1} {item = d1} h1 a1 p1 l1 b1) (too_deep h2 a2) = let w = reads_once a1 a2 in cc
answers_once {text} {source} {at} {draft} {o} {p} (next {end = n1} {item = d1} h1 a1 p1 l1 b1) (nothing_read {end = n2} {item = d2} h2 a2 p2) = let w = reads_once a1 a2 in let u : n2 ≡ n1 = cc in let z : nat_lt at n2 ≡ nat_lt at n1 = ap (nat_lt at) u in cc
answers_once {text} {source} {at} {draft} {o} {p} (next {end = n1} {item = d1} h1 a1 p1 l1 b1) (too_high {end = n2} {item = d2} h2 a2 p2 l2) = let w = reads_once a1 a2 in let v : d2 ≡ d1 = cc in let z : is_low d2 ≡ is_low d1 = ap is_low v in cc
answers_once {text} {source} {at} {draft} {o} {p} (next {end = n1} {item = d1} h1 a1 p1 l1 b1) (next {end = n2} {item = d2} h2 a2 p2 l2 b2) = let w = reads_once a1 a2 in let u : d2 ≡ d1 = cc in let v : n2 ≡ n1 = cc in
    answers_once b1 (subst (λ d. ReadsItems text source n1 (joined draft d) p) u (subst (λ n. ReadsItems text source n (joined draft d2) p) v b2))
