-- The two forms of runs are the same relation.
use Rattle.std.proofs.Common.{◌≡◌, List, [], ◌∷◌, ◌++◌, refl, sym, ◌∙◌, ap, subst, append_assoc, append-nil}
use Rattle.es_fork.specs.declared.segment.Label.{Label}
use Rattle.es_skeleton.specs.declared.completion.Completion.{Completion}
use Rattle.es_skeleton.specs.Controls.{Control}
use Rattle.es_skeleton.specs.Runs as r
use Rattle.es_skeleton.proofs.RunsAfter.{Run, emit, exit, caught, passed, left, right, again, leave, kept, replaced, Part, none, emitted, in_catch, after_catch, in_left, in_right, in_loop, after_turn, in_body, in_final}

-- the trace that is added
abbrev Added : Control → List Label → List Label → Completion → Type 0
Added k t u c = (w : List Label) × (u ≡ t ++ w) × r.Run k w c

join_added : (t v w u s : List Label) → s ≡ t ++ v → u ≡ s ++ w → u ≡ t ++ (v ++ w)
join_added t v w u s e q = q ∙ ap (λ x. x ++ w) e ∙ append_assoc t v w

pub added : {k : Control} {t u : List Label} {c : Completion} → Run k t u c → Added k t u c
added (emit {l = l}) = (l ∷ [], refl, r.emit)
added (exit {t = t}) = ([], sym (append-nil t), r.exit)
added (caught {t = t} {u = s} {v = u} ra rb) = let x = added ra in let y = added rb in (x.0 ++ y.0, join_added t x.0 y.0 u s x.1 y.1, r.caught x.2 y.2)
added (passed ra n) = let x = added ra in (x.0, x.1, r.passed x.2 n)
added (left p) = let x = added p in (x.0, x.1, r.left x.2)
added (right p) = let x = added p in (x.0, x.1, r.right x.2)
added (again {t = t} {u = s} {v = u} ra rl) = let x = added ra in let y = added rl in (x.0 ++ y.0, join_added t x.0 y.0 u s x.1 y.1, r.again x.2 y.2)
added (leave p n) = let x = added p in (x.0, x.1, r.leave x.2 n)
added (kept {t = t} {u = s} {v = u} ra rb) = let x = added ra in let y = added rb in (x.0 ++ y.0, join_added t x.0 y.0 u s x.1 y.1, r.kept x.2 y.2)
added (replaced {t = t} {u = s} {v = u} ra rb n) = let x = added ra in let y = added rb in (x.0 ++ y.0, join_added t x.0 y.0 u s x.1 y.1, r.replaced x.2 y.2 n)

to : {k : Control} {t : List Label} {c : Completion} (u v : List Label) → u ≡ v → Run k t u c → Run k t v c
to {k} {t} {c} u v e r = subst (λ x. Run k t x c) e r

pub from_added : {k : Control} {w : List Label} {c : Completion} → r.Run k w c → (t : List Label) → Run k t (t ++ w) c
from_added r.emit t = emit
from_added r.exit t = to t (t ++ []) (sym (append-nil t)) exit
from_added (r.caught {t = v} {u = w} a b) t = to _ _ (append_assoc t v w) (caught (from_added a t) (from_added b (t ++ v)))
from_added (r.passed a n) t = passed (from_added a t) n
from_added (r.left a) t = left (from_added a t)
from_added (r.right a) t = right (from_added a t)
from_added (r.again {t = v} {u = w} a b) t = to _ _ (append_assoc t v w) (again (from_added a t) (from_added b (t ++ v)))
from_added (r.leave a n) t = leave (from_added a t) n
from_added (r.kept {t = v} {u = w} a b) t = to _ _ (append_assoc t v w) (kept (from_added a t) (from_added b (t ++ v)))
from_added (r.replaced {t = v} {u = w} a b n) t = to _ _ (append_assoc t v w) (replaced (from_added a t) (from_added b (t ++ v)) n)

abbrev AddedCut : Control → List Label → List Label → Type 0
AddedCut k t u = (w : List Label) × (u ≡ t ++ w) × r.Cut k w

pub added_cut : {k : Control} {t u : List Label} → Part k t u → AddedCut k t u
added_cut (none {t = t}) = ([], sym (append-nil t), r.at_once)
added_cut (emitted {l = l}) = (l ∷ [], refl, r.emitted)
added_cut (in_catch p) = let x = added_cut p in (x.0, x.1, r.in_first x.2)
added_cut (after_catch {t = t} {u = s} {v = u} ra p) = let x = added ra in let y = added_cut p in (x.0 ++ y.0, join_added t x.0 y.0 u s x.1 y.1, r.in_second x.2 y.2)
added_cut (in_left p) = let x = added_cut p in (x.0, x.1, r.in_left x.2)
added_cut (in_right p) = let x = added_cut p in (x.0, x.1, r.in_right x.2)
added_cut (in_loop p) = let x = added_cut p in (x.0, x.1, r.in_turn x.2)
added_cut (after_turn {t = t} {u = s} {v = u} ra p) = let x = added ra in let y = added_cut p in (x.0 ++ y.0, join_added t x.0 y.0 u s x.1 y.1, r.in_later_turn x.2 y.2)
added_cut (in_body p) = let x = added_cut p in (x.0, x.1, r.in_body x.2)
added_cut (in_final {t = t} {u = s} {v = u} ra p) = let x = added ra in let y = added_cut p in (x.0 ++ y.0, join_added t x.0 y.0 u s x.1 y.1, r.in_finalizer x.2 y.2)

cut_to : {k : Control} {t : List Label} (u v : List Label) → u ≡ v → Part k t u → Part k t v
cut_to {k} {t} u v e p = subst (λ x. Part k t x) e p

pub from_cut : {k : Control} {w : List Label} → r.Cut k w → (t : List Label) → Part k t (t ++ w)
from_cut r.at_once t = cut_to t (t ++ []) (sym (append-nil t)) none
from_cut r.emitted t = emitted
from_cut (r.in_first p) t = in_catch (from_cut p t)
from_cut (r.in_second {t = v} {u = w} a p) t = cut_to _ _ (append_assoc t v w) (after_catch (from_added a t) (from_cut p (t ++ v)))
from_cut (r.in_left p) t = in_left (from_cut p t)
from_cut (r.in_right p) t = in_right (from_cut p t)
from_cut (r.in_turn p) t = in_loop (from_cut p t)
from_cut (r.in_later_turn {t = v} {u = w} a p) t = cut_to _ _ (append_assoc t v w) (after_turn (from_added a t) (from_cut p (t ++ v)))
from_cut (r.in_body p) t = in_body (from_cut p t)
from_cut (r.in_finalizer {t = v} {u = w} a p) t = cut_to _ _ (append_assoc t v w) (in_final (from_added a t) (from_cut p (t ++ v)))
