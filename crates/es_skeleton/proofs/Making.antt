-- What each step of the builder makes, over whole graphs.
use Rattle.std.proofs.Common.{◌≡◌, ℕ, suc, ◌<◌, ◌≤◌, List, [], ◌∷◌, ◌++◌, Bool, true, false, cond, length, get_or, refl, sym, ◌∙◌, ap, subst, arith, append_assoc, append-nil, IsTrue}
use Rattle.es_fork.specs.declared.segment.Segment.{Segment}
use Rattle.es_fork.specs.declared.segment.Label.{Label}
use Rattle.es_fork.specs.Graphs.{Parts, Has, IsOf, AreOf}
use Rattle.es_fork.specs.Changes.{labelled_at}
use Rattle.es_skeleton.specs.declared.completion.Completion.{Completion}
use Rattle.es_skeleton.specs.declared.completion.Completion.TheVariants.{Normal}
use Rattle.es_skeleton.specs.declared.pending.Pending.{Pending}
use Rattle.es_skeleton.specs.Controls.{Control, Emit, Exit, Catch, Choice, Loop, Finally}
use Rattle.es_skeleton.specs.Completions.{same}
use Rattle.es_skeleton.specs.Pendings.{Waits, heads, others, recoded}
use Rattle.es_skeleton.specs.Steps.{next_number, looped, new_next, join, unreachable, said, GoesOn, LeadsTo}
use Rattle.es_skeleton.specs.Built.{Head, Waiting, at_head, labels_of, Built, b_emit, b_exit, b_catch, b_dead, b_choice, b_loop, b_finally, b_never, b_same, b_recode, Copied, c_done, c_more, Makes, MakesCopies, SomeWait}
use Rattle.es_skeleton.proofs.CompletionsLemmas.{same-self}
use Rattle.es_skeleton.proofs.PendingsLemmas.{heads-waits}
use Rattle.es_skeleton.proofs.StepsLemmas.{fresh_facts, new_facts, is_of, said_facts}
use Rattle.es_skeleton.proofs.Frame.{Mid, frame, frame_new, mid_join, mid_of, mid_never, wait_on, heads_first, fresh_head, of_heads}
use Rattle.es_skeleton.proofs.ShapesLemmas.{said-append}
use Rattle.es_skeleton.proofs.FrontLemmas.{both, HasNone, heads-both, others-both, none_after, none_enter, after_to, after_from, enter_to, enter_from}

pub head_is : {g : List Segment} {at : ℕ} → Head g at → IsOf g at
head_is h = is_of h.above h.below

pub said_head : {g : List Segment} {at : ℕ} (ls : List Label) → Head g at → Head (said g at ls) at
said_head {g} {at} ls h =
    let f = said_facts ls g at (head_is h) in
    let n = f.len in
    let b = h.below in
    record { above = h.above; below = omega arith; open_at = ap (λ r. r.next) f.here ∙ h.open_at }

-- labels, and then labels, at one head
pub said_more : (g g1 g2 : Parts) (at : ℕ) (xs ys : List Label) → g1 ≡ record g { segments = said g.segments at xs } → g2 ≡ record g1 { segments = said g1.segments at ys }
    → g2 ≡ record g { segments = said g.segments at (xs ++ ys) }
said_more g g1 g2 at xs ys e q =
    q ∙ (λ k. record (e k) { segments = said (e k).segments at ys }) ∙ ap {A = List Segment} (λ s. record g { segments = s }) (sym (said-append g.segments at xs ys))

built_from : {k : Control} {m : List Segment} {at : ℕ} {g1 : List Segment} {ps : List Pending} (s : List Segment) (n : ℕ) → m ≡ s → at ≡ n → Built k m at g1 ps → Built k s n g1 ps
built_from {k} {m} {at} {g1} {ps} s n e q b = subst (λ j. Built k s j g1 ps) q (subst (λ j. Built k j at g1 ps) e b)

built_to : {k : Control} {g : List Segment} {at : ℕ} {m : List Segment} {ps : List Pending} (s : List Segment) (qs : List Pending) → s ≡ m → qs ≡ ps → Built k g at m ps → Built k g at s qs
built_to {k} {g} {at} {m} {ps} s qs e q b = subst (λ j. Built k g at s j) (sym q) (subst (λ j. Built k g at j ps) (sym e) b)

head_from : {m s : List Segment} {at n : ℕ} → s ≡ m → n ≡ at → Head m at → Head s n
head_from {m} {s} {at} {n} e q h = subst (λ j. Head j n) (sym e) (subst (λ j. Head m j) (sym q) h)

pub emit_makes : (g m : Parts) (at : ℕ) (l : Label) (ps : List Pending) → m ≡ record g { segments = labelled_at g.segments at l } → ps ≡ at_head Normal at ∷ [] → Makes (Emit l) g at m ps
emit_makes g m at l ps e q = record {
  built = built_to m.segments ps (ap (λ w. w.segments) e) q b_emit;
  returned = ap (λ w. w.returned) e;
  thrown = ap (λ w. w.thrown) e;
}

pub exit_makes : (g : Parts) (at : ℕ) (c : Completion) (ps : List Pending) → ps ≡ at_head c at ∷ [] → Makes (Exit c) g at g ps
exit_makes g at c ps q = record { built = built_to g.segments ps refl q b_exit; returned = refl; thrown = refl }

-- the heads that wait after a part are of its graph
pub made_of : {k : Control} {g g1 : Parts} {at : ℕ} {ps : List Pending} → Head g.segments at → Makes k g at g1 ps → (c : Completion) (hs : List ℕ) → hs ≡ heads c ps → AreOf g1.segments hs
made_of {ps = ps} h m c hs e j z = of_heads c (frame m.built h).waiting j (subst (λ l. Has l j) e z)

goes_over : {hs js : List ℕ} {g m : List Segment} {h : ℕ} {b : Bool} → hs ≡ js → GoesOn hs g m h b → GoesOn js g m h b
goes_over {g = g} {m} {h} {b} e x = subst (λ l. GoesOn l g m h b) e x

pub next_head : {a : Control} (g g1 m : Parts) {at h : ℕ} {ps : List Pending} (met : Bool) (c : Completion) {hs : List ℕ} → Head g.segments at → Makes a g at g1 ps → hs ≡ heads c ps → GoesOn hs g1.segments m.segments h met → Head m.segments h
next_head g g1 m {ps = ps} true c k ma e x = (mid_of {c = c} {ps = ps} (goes_over e x) (frame ma.built k).waiting).head
next_head g g1 m {ps = ps} false c k ma e x = (mid_never {c = c} {ps = ps} (goes_over e x)).head

pub catch_makes : {a b : Control} {g g1 : Parts} (m : Parts) {g2 : Parts} {at h : ℕ} (c : Completion) {ps qs : List Pending} (met : Bool) {hs : List ℕ} (out rest more : List Pending)
    → Makes a g at g1 ps → hs ≡ heads c ps → GoesOn hs g1.segments m.segments h met → m.returned ≡ g1.returned → m.thrown ≡ g1.thrown → Makes b m h g2 qs
    → rest ≡ others c ps → more ≡ qs → out ≡ cond met (rest ++ more) rest → Makes (Catch c a b) g at g2 out
catch_makes m {g2 = g2} c {ps = ps} true out rest more ma e x r t mb o q w = record {
  built = built_to g2.segments out refl (w ∙ ap (λ l. l ++ more) o ∙ ap (λ l. others c ps ++ l) q) (b_catch ma.built (goes_over e x) mb.built);
  returned = mb.returned ∙ r ∙ ma.returned;
  thrown = mb.thrown ∙ t ∙ ma.thrown;
}
catch_makes m {g2 = g2} c {ps = ps} false out rest more ma e x r t mb o q w = record {
  built = built_to g2.segments out refl (w ∙ o) (b_dead ma.built (goes_over e x) mb.built);
  returned = mb.returned ∙ r ∙ ma.returned;
  thrown = mb.thrown ∙ t ∙ ma.thrown;
}

pub recode_makes : {a : Control} {g g1 : Parts} {at : ℕ} {ps : List Pending} (c d : Completion) (b : Control) (out all : List Pending) → Makes a g at g1 ps → all ≡ ps → out ≡ recoded c d all → b ≡ Exit d → Makes (Catch c a b) g at g1 out
recode_makes {a} {g} {g1} {at} c d b out all ma e q x =
    subst (λ k. Makes (Catch c a k) g at g1 out) (sym x)
    (record { built = built_to g1.segments out refl (q ∙ ap (recoded c d) e) (b_recode ma.built); returned = ma.returned; thrown = ma.thrown })

pub new_head : (g m : Parts) (at first : ℕ) → Head g.segments at → first ≡ next_number g.segments → m ≡ record g { segments = new_next g.segments at } → Head m.segments first
new_head g m at first k f e = head_from (ap (λ w. w.segments) e) f (fresh_head (new_facts g.segments at k.above k.below))

new_built : {a : Control} (g m : Parts) {g1 : Parts} (at : ℕ) {first : ℕ} {ps : List Pending} → first ≡ next_number g.segments → m ≡ record g { segments = new_next g.segments at } → Makes a m first g1 ps
    → Built a (new_next g.segments at) (next_number g.segments) g1.segments ps
new_built g m at f e ma = built_from (new_next g.segments at) (next_number g.segments) (ap (λ w. w.segments) e) f ma.built

-- the head from which a choice begins is of the graph after its first part too, which leaves it open to further edges
pub still_of : {a : Control} (g m : Parts) {g1 : Parts} (at : ℕ) {first : ℕ} {ps : List Pending} → Head g.segments at → first ≡ next_number g.segments → m ≡ record g { segments = new_next g.segments at } → Makes a m first g1 ps → IsOf g1.segments at
still_of g m {g1 = g1} at k f e ma =
    let l = (frame_new k.above k.below (frame (new_built g m at f e ma) (fresh_head (new_facts g.segments at k.above k.below)))).0.grows in
    let b = k.below in
    let a = k.above in
    let lt : at < next_number g1.segments = omega arith in
    is_of a lt

pub second_head : (g m : Parts) (at second : ℕ) → IsOf g.segments at → second ≡ next_number g.segments → m ≡ record g { segments = new_next g.segments at } → Head m.segments second
second_head g m at second of f e =
    let z = of.to_last in
    head_from (ap (λ w. w.segments) e) f (fresh_head (new_facts g.segments at of.from_one (omega arith)))

pub choice_makes : {a b : Control} {g : Parts} (m : Parts) {g1 : Parts} (m1 : Parts) {g2 : Parts} {at first second : ℕ} {ps qs : List Pending} (out more : List Pending)
    → first ≡ next_number g.segments → m ≡ record g { segments = new_next g.segments at } → Makes a m first g1 ps
    → second ≡ next_number g1.segments → m1 ≡ record g1 { segments = new_next g1.segments at } → Makes b m1 second g2 qs → more ≡ qs → out ≡ ps ++ more → Makes (Choice a b) g at g2 out
choice_makes {g = g} m {g1 = g1} m1 {g2 = g2} {at = at} {ps = ps} out more f e ma f1 e1 mb q w = record {
  built = built_to g2.segments out refl (w ∙ ap (λ l. ps ++ l) q) (b_choice (new_built g m at f e ma) (new_built g1 m1 at f1 e1 mb));
  returned = mb.returned ∙ ap (λ w. w.returned) e1 ∙ ma.returned ∙ ap (λ w. w.returned) e;
  thrown = mb.thrown ∙ ap (λ w. w.thrown) e1 ∙ ma.thrown ∙ ap (λ w. w.thrown) e;
}

-- what a loop asks of the edges back to its first segment
pub loop_to_of : {a : Control} (g m : Parts) {g1 : Parts} (at : ℕ) {first : ℕ} {ps : List Pending} → Head g.segments at → first ≡ next_number g.segments → m ≡ record g { segments = new_next g.segments at } → Makes a m first g1 ps → IsOf g1.segments first
loop_to_of g m {g1 = g1} at {first = first} k f e ma =
    let h = new_head g m at first k f e in
    let l = (frame ma.built h).grows in
    let b = h.below in
    let a = h.above in
    let lt : first < next_number g1.segments = omega arith in
    is_of a lt

pub loop_leads : {a : Control} (g m : Parts) {g1 : Parts} (at : ℕ) {first : ℕ} {ps : List Pending} (hs : List ℕ) → Head g.segments at → first ≡ next_number g.segments → m ≡ record g { segments = new_next g.segments at } → Makes a m first g1 ps
    → hs ≡ heads Normal ps → LeadsTo g1.segments hs first
loop_leads g m {g1 = g1} at {first = first} {ps = ps} hs k f e ma q h z r =
    let k1 = new_head g m at first k f e in
    let fr = frame ma.built k1 in
    let w = fr.waiting.lives Normal h (heads-waits Normal ps h (subst (λ l. Has l h) q z)) in
    subst (λ b. IsTrue b) (w ∙ sym (fr.live first k1.below)) r

pub loop_makes : {a : Control} {g : Parts} (m : Parts) {g1 g2 : Parts} {at first : ℕ} {ps : List Pending} (out : List Pending) (hs : List ℕ) → first ≡ next_number g.segments → m ≡ record g { segments = new_next g.segments at } → Makes a m first g1 ps
    → hs ≡ heads Normal ps → g2 ≡ record g1 { segments = looped g1.segments hs first } → out ≡ others Normal ps → Makes (Loop a) g at g2 out
loop_makes {g = g} m {g1 = g1} {g2 = g2} {at = at} {first = first} {ps = ps} out hs f e ma h e2 o = record {
  built = built_to g2.segments out (ap (λ w. w.segments) e2 ∙ ap (λ l. looped g1.segments l first) h ∙ ap (looped g1.segments (heads Normal ps)) f) o (b_loop (new_built g m at f e ma));
  returned = ap (λ w. w.returned) e2 ∙ ma.returned ∙ ap (λ w. w.returned) e;
  thrown = ap (λ w. w.thrown) e2 ∙ ma.thrown ∙ ap (λ w. w.thrown) e;
}

pub never_head : (g m : Parts) {h : ℕ} → h ≡ next_number g.segments → m ≡ record g { segments = unreachable g.segments } → Head m.segments h
never_head g m f e = head_from (ap (λ w. w.segments) e) f (fresh_head (fresh_facts g.segments [] false (λ h m. absurd m)))

pub nil_of : {A : Type 0} (ps : List A) → length ps ≡ 0 → ps ≡ []
nil_of [] e = refl
nil_of (p ∷ ps) e = absurd (omega arith)

pub never_makes : {a b : Control} {g g1 : Parts} (m m2 : Parts) {at h : ℕ} (ps : List Pending) → Makes a g at g1 ps → ps ≡ [] → h ≡ next_number g1.segments → m ≡ record g1 { segments = unreachable g1.segments }
    → m2 ≡ record m { segments = said m.segments h (labels_of b) } → Makes (Finally a b) g at m2 ps
never_makes {a} {b} {g = g} {g1 = g1} m m2 {at = at} {h = h} ps ma q f e w = record {
  built = built_to m2.segments ps (ap (λ r. r.segments) w ∙ ap (λ s. said s h (labels_of b)) (ap (λ r. r.segments) e) ∙ ap (λ n. said (unreachable g1.segments) n (labels_of b)) f) q
      (b_never (subst (λ l. Built a g.segments at g1.segments l) q ma.built));
  returned = ap (λ r. r.returned) w ∙ ap (λ r. r.returned) e ∙ ma.returned;
  thrown = ap (λ r. r.thrown) w ∙ ap (λ r. r.thrown) e ∙ ma.thrown;
}

finally_built : {a b : Control} {g g1 g2 : List Segment} {at : ℕ} {qs : List Pending} (ps : List Pending) → 0 < length ps → Built a g at g1 ps → Copied b ps g1 g2 qs → Built (Finally a b) g at g2 qs
finally_built [] lt x y = absurd (omega arith)
finally_built (p ∷ ps) lt x y = b_finally x y

pub finally_makes : {a b : Control} {g g1 g2 : Parts} {at : ℕ} {qs : List Pending} (ps : List Pending) → 0 < length ps → Makes a g at g1 ps → MakesCopies b ps g1 g2 qs → Makes (Finally a b) g at g2 qs
finally_makes ps lt ma mb = record { built = finally_built ps lt ma.built mb.copies; returned = mb.returned ∙ ma.returned; thrown = mb.thrown ∙ ma.thrown }

pub made_wait : {k : Control} {g g1 : Parts} {at : ℕ} {ps : List Pending} → Head g.segments at → Makes k g at g1 ps → SomeWait g1.segments ps
made_wait h m = (_, (frame m.built h).waiting)

-- a turn of the loop over the finalizer's copies
others_shorter : (c : Completion) (ps : List Pending) → length (others c ps) ≤ length ps
others_shorter c [] = omega arith
others_shorter c (p ∷ ps) = let ih = others_shorter c ps in go (same p.completion c) ih
  where
    go : (b : Bool) → length (others c ps) ≤ length ps → length (cond b (others c ps) (p ∷ others c ps)) ≤ suc (length ps)
    go true le = omega arith
    go false le = omega arith

first_gone : (p : Pending) (ps : List Pending) → others p.completion (p ∷ ps) ≡ others p.completion ps
first_gone p ps = ap (λ b. cond b (others p.completion ps) (p ∷ others p.completion ps)) (same-self p.completion)

pub copy_smaller : (ps : List Pending) (d : Pending) (c : Completion) → 0 < length ps → c ≡ (get_or ps 0 d).completion → length (others c ps) < length ps
copy_smaller [] d c lt e = absurd (omega arith)
copy_smaller (p ∷ ps) d c lt e =
    let s = others_shorter p.completion ps in
    subst (λ n. length (others n (p ∷ ps)) < suc (length ps)) (sym e) (subst (λ l. length l < suc (length ps)) (sym (first_gone p ps)) (omega arith))

copy_mid : (g : List Segment) (ps : List Pending) (d : Pending) (c : Completion) (v : Bool) → 0 < length ps → c ≡ (get_or ps 0 d).completion → Waiting g ps v → Mid g c ps (join g (heads c ps)) (next_number g) v
copy_mid g [] d c v lt e w = absurd (omega arith)
copy_mid g (p ∷ ps) d c v lt e w = subst (λ n. Mid g n (p ∷ ps) (join g (heads n (p ∷ ps))) (next_number g) v) (sym e) (mid_join g p.completion (p ∷ ps) v p.head (heads p.completion ps) w (heads_first p ps))

pub copy_some : (ps : List Pending) (d : Pending) (c : Completion) → 0 < length ps → c ≡ (get_or ps 0 d).completion → (hs : List ℕ) → hs ≡ heads c ps → 1 ≤ length hs
copy_some [] d c lt e hs q = absurd (omega arith)
copy_some (p ∷ ps) d c lt e hs q = subst (λ l. 1 ≤ length l) (sym (q ∙ ap (λ n. heads n (p ∷ ps)) e ∙ heads_first p ps)) (omega arith)

copy_built : {b : Control} {g g1 g2 : List Segment} {qs rs : List Pending} (ps : List Pending) (d : Pending) (c : Completion) → 0 < length ps → c ≡ (get_or ps 0 d).completion
    → Built b (join g (heads c ps)) (next_number g) g1 qs → Copied b (others c ps) g1 g2 rs → Copied b ps g g2 (recoded Normal c qs ++ rs)
copy_built [] d c lt e x y = absurd (omega arith)
copy_built {b} {g} {g1} {g2} {qs} {rs} (p ∷ ps) d c lt e x y =
    subst (λ n. Copied b (p ∷ ps) g g2 (recoded Normal n qs ++ rs)) (sym e)
    (c_more (subst (λ n. Built b (join g (heads n (p ∷ ps))) (next_number g) g1 qs) e x) (subst (λ n. Copied b (others n (p ∷ ps)) g1 g2 rs) e y))

module _ (b : Control) (ps : List Pending) (d : Pending) (c : Completion) (lt : 0 < length ps) (first : c ≡ (get_or ps 0 d).completion) (g m : Parts) (h : ℕ) (hs : List ℕ)
    (hs-is : hs ≡ heads c ps) (h-is : h ≡ next_number g.segments) (m-is : m ≡ record g { segments = join g.segments hs }) (w : SomeWait g.segments ps) where
  copy_join : m.segments ≡ join g.segments (heads c ps)
  copy_join = ap (λ r. r.segments) m-is ∙ ap (join g.segments) hs-is

  pub copy_head : Head m.segments h
  copy_head = head_from copy_join h-is (copy_mid g.segments ps d c w.0 lt first w.1).head

  pub copy_waits : (g1 : Parts) (qs rest : List Pending) → Makes b m h g1 qs → rest ≡ others c ps → SomeWait g1.segments rest
  copy_waits g1 qs rest mb r =
      let i = copy_mid g.segments ps d c w.0 lt first w.1 in
      let x = built_from (join g.segments (heads c ps)) (next_number g.segments) copy_join h-is mb.built in
      (w.0, subst (λ l. Waiting g1.segments l w.0) (sym r) (wait_on w.1 i (frame x i.head)))

  pub copy_made : (g0 : List Segment) (ps0 out out' : List Pending) (g1 : Parts) (qs rest : List Pending) → Makes b m h g1 qs → rest ≡ others c ps → out' ≡ out ++ recoded Normal c qs
      → ((g2 : List Segment) (rs : List Pending) → Copied b ps g.segments g2 rs → Copied b ps0 g0 g2 (out ++ rs))
      → (g2 : List Segment) (rs : List Pending) → Copied b rest g1.segments g2 rs → Copied b ps0 g0 g2 (out' ++ rs)
  copy_made g0 ps0 out out' g1 qs rest mb r o inv g2 rs y =
      let x = built_from (join g.segments (heads c ps)) (next_number g.segments) copy_join h-is mb.built in
      let z = inv g2 (recoded Normal c qs ++ rs) (copy_built ps d c lt first x (subst (λ l. Copied b l g1.segments g2 rs) r y)) in
      subst (λ l. Copied b ps0 g0 g2 l) (sym (ap (λ l. l ++ rs) o ∙ append_assoc out (recoded Normal c qs) rs)) z

pub waits_of : {g : List Segment} {ps : List Pending} → SomeWait g ps → (c : Completion) (hs : List ℕ) → hs ≡ heads c ps → AreOf g hs
waits_of {ps = ps} w c hs e h m = of_heads c w.1 h (subst (λ l. Has l h) e m)

pub copies_end : {b : Control} {ps0 : List Pending} {g0 g : Parts} (rest out : List Pending) → rest ≡ []
    → ((g2 : List Segment) (rs : List Pending) → Copied b rest g.segments g2 rs → Copied b ps0 g0.segments g2 (out ++ rs)) → g.returned ≡ g0.returned → g.thrown ≡ g0.thrown → MakesCopies b ps0 g0 g out
copies_end {b} {ps0} {g0} {g} rest out e made r t = record {
  copies = subst (λ l. Copied b ps0 g0.segments g.segments l) (append-nil out) (made g.segments [] (subst (λ l. Copied b l g.segments g.segments []) (sym e) c_done));
  returned = r;
  thrown = t;
}

-- what is made of a list's parts, the normal heads apart
pub record FrontMade (k : Control) (g : Parts) (at : ℕ) (g1 : Parts) (normal : List ℕ) (rest : List Pending) : Type 0 where
  pub made : Makes k g at g1 (both rest normal)
  pub none : HasNone rest

pub front_begin : (g : Parts) (at : ℕ) (normal : List ℕ) (rest : List Pending) → normal ≡ at ∷ [] → rest ≡ [] → FrontMade (Exit Normal) g at g normal rest
front_begin g at normal rest n r = record {
  made = exit_makes g at Normal (both rest normal) (ap (λ l. both l normal) r ∙ ap (both []) n);
  none = λ h w. subst (λ l. Waits l Normal h) r w;
}

same_makes : {k : Control} {g g1 : Parts} {at : ℕ} {ps : List Pending} (qs : List Pending) → Makes k g at g1 ps → ((c : Completion) (h : ℕ) → Waits qs c h → Waits ps c h) → ((c : Completion) (h : ℕ) → Waits ps c h → Waits qs c h) → Makes k g at g1 qs
same_makes qs m to from = record { built = b_same m.built to from; returned = m.returned; thrown = m.thrown }

pub front_head : {a : Control} (g g1 m : Parts) {at h : ℕ} (normal : List ℕ) (rest : List Pending) (met : Bool) → Head g.segments at → FrontMade a g at g1 normal rest → GoesOn normal g1.segments m.segments h met → Head m.segments h
front_head g g1 m normal rest met k f x = next_head g g1 m met Normal k f.made (sym (heads-both rest normal f.none)) x

pub front_of : {a : Control} {g g1 : Parts} {at : ℕ} (normal : List ℕ) (rest : List Pending) → Head g.segments at → FrontMade a g at g1 normal rest → AreOf g1.segments normal
front_of normal rest k f = made_of k f.made Normal normal (sym (heads-both rest normal f.none))

pub front_after : {a b : Control} {g g1 : Parts} (m : Parts) {g2 : Parts} {at h : ℕ} (normal : List ℕ) (rest : List Pending) (qs : List Pending) (met : Bool) (normal' : List ℕ) (rest' : List Pending)
    → FrontMade a g at g1 normal rest → GoesOn normal g1.segments m.segments h met → m.returned ≡ g1.returned → m.thrown ≡ g1.thrown → Makes b m h g2 qs
    → normal' ≡ cond met (heads Normal qs) [] → rest' ≡ cond met (rest ++ others Normal qs) rest → FrontMade (Catch Normal a b) g at g2 normal' rest'
front_after {a} {b} {g} m {g2 = g2} {at = at} normal rest qs true normal' rest' f x r t mb n o =
    let whole : Makes (Catch Normal a b) g at g2 (rest ++ qs) = catch_makes m Normal true (rest ++ qs) rest qs f.made (sym (heads-both rest normal f.none)) x r t mb (sym (others-both rest normal f.none)) refl refl in
    let apart : Makes (Catch Normal a b) g at g2 (both (rest ++ others Normal qs) (heads Normal qs)) = same_makes _ whole (after_to rest qs) (after_from rest qs) in
    record {
      made = subst (λ l. Makes (Catch Normal a b) g at g2 (both l normal')) (sym o) (subst (λ l. Makes (Catch Normal a b) g at g2 (both (rest ++ others Normal qs) l)) (sym n) apart);
      none = subst HasNone (sym o) (none_after rest qs f.none);
    }
front_after {a} {b} {g} m {g2 = g2} {at = at} normal rest qs false normal' rest' f x r t mb n o =
    let whole : Makes (Catch Normal a b) g at g2 rest = catch_makes m Normal false rest rest qs f.made (sym (heads-both rest normal f.none)) x r t mb (sym (others-both rest normal f.none)) refl refl in
    record {
      made = subst (λ l. Makes (Catch Normal a b) g at g2 l) (sym (ap (λ l. both rest' l) n ∙ append-nil rest' ∙ o)) whole;
      none = subst HasNone (sym o) f.none;
    }

pub front_enter : {a : Control} {g g1 : Parts} {at : ℕ} (c : Completion) (normal : List ℕ) (rest : List Pending) (normal' : List ℕ) (rest' : List Pending)
    → FrontMade a g at g1 normal rest → normal' ≡ normal ++ heads c rest → rest' ≡ others c rest → FrontMade (Catch c a (Exit Normal)) g at g1 normal' rest'
front_enter {a} {g} {g1} {at} c normal rest normal' rest' f n o =
    let whole : Makes (Catch c a (Exit Normal)) g at g1 (recoded c Normal (both rest normal)) = recode_makes c Normal (Exit Normal) (recoded c Normal (both rest normal)) (both rest normal) f.made refl refl refl in
    let apart : Makes (Catch c a (Exit Normal)) g at g1 (both (others c rest) (normal ++ heads c rest)) = same_makes _ whole (enter_to c rest normal) (enter_from c rest normal) in
    record {
      made = subst (λ l. Makes (Catch c a (Exit Normal)) g at g1 (both l normal')) (sym o) (subst (λ l. Makes (Catch c a (Exit Normal)) g at g1 (both (others c rest) l)) (sym n) apart);
      none = subst HasNone (sym o) (none_enter c rest f.none);
    }
