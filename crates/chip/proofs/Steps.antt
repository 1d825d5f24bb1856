-- What an event comes to, by what was admitted; a call by whether the chip is fit.
use Rattle.std.proofs.Common.{◌≡◌, ℕ, Bool, [], Some, None, Ok, Err, Option, Result, sym, refl, ap, ◌∙◌}
use Rattle.backing.specs.Faults.{raised}
use Rattle.backing.specs.declared.fault.Fault.{Fault}
use Rattle.backing.specs.declared.refusal.Refusal.{Refusal}
use Rattle.rules.specs.declared.state.Event.{Event}
use Rattle.rules.specs.declared.state.Level.{Level}
use Rattle.rules.specs.declared.state.Pins.{Pins}
use Rattle.rules.specs.Shape.{Shape}
use Rattle.rules.specs.Tables.{unfit, refused_event, passed}
use Rattle.rules.specs.Rules.{View, Done, taken, refused, is_off, running, moved, refuses, unless, does, step, after, seen}
use Rattle.rules.specs.Calls.{Call, Outcome, outcome, fit_call, one_event, event}
use Rattle.rules.specs.Calls as calls
use Rattle.chip.specs.Answers.{checked, answered, numbered, spared, admitted}

spared_refusal : (o : Option Refusal) (e : Event) (r : Refusal) → ◌≡◌ {A = Result (Unit {0}) Refusal} (Err r) (passed o) → spared o e ≡ Err (raised r 0)
spared_refusal None e r q = absurd cc
spared_refusal (Some x) e r q = let z : x ≡ r = cc in ap (λ y. Err (raised y 0)) z

-- an event that decodes and is then refused
pub admitted_refusal : (s : Bool) (x : Pins) (runs : Bool) (d : Result Event Refusal) (e : Event) (r : Refusal) → Ok e ≡ d →
    ◌≡◌ {A = Result (Unit {0}) Refusal} (Err r) (passed (refused_event s x.clock x.input x.protect x.hold runs e)) → ◌≡◌ {A = Result Event Fault} (Err (raised r 0)) (admitted s x runs d)
admitted_refusal s x runs d e r q h = sym (ap (admitted s x runs) (sym q) ∙ spared_refusal (refused_event s x.clock x.input x.protect x.hold runs e) e r h)

spared_taken : (p : Shape) (v : View) (e x : Event) (o : Option Refusal) → ◌≡◌ {A = Result Event Fault} (Ok e) (spared o x) → unless o (moved p v x) ≡ taken (moved p v e)
spared_taken p v e x None q = let s : x ≡ e = cc in ap (λ y. taken (moved p v y)) s
spared_taken p v e x (Some r) q = absurd cc

pub does_taken : (p : Shape) (v : View) (e : Event) (d : Result Event Refusal) → ◌≡◌ {A = Result Event Fault} (Ok e) (admitted (is_off v.stretch) v.pins (running v.cycle) d) → does p v d ≡ taken (moved p v e)
does_taken p v e (Ok x) q = spared_taken p v e x (refuses v x) q
does_taken p v e (Err r) q = absurd cc

spared_refused : (u v : View) (f : Fault) (x : Event) (o : Option Refusal) → ◌≡◌ {A = Result Event Fault} (Err f) (spared o x) →
    ◌≡◌ {A = Result Level Fault} (Err f) (answered (unless o u)) × (v ≡ after v (unless o u))
spared_refused u v f x None q = absurd cc
spared_refused u v f x (Some r) q = (cc, refl)

pub does_refused : (p : Shape) (v : View) (f : Fault) (d : Result Event Refusal) → ◌≡◌ {A = Result Event Fault} (Err f) (admitted (is_off v.stretch) v.pins (running v.cycle) d) →
    ◌≡◌ {A = Result Level Fault} (Err f) (answered (does p v d)) × (v ≡ after v (does p v d))
does_refused p v f (Ok x) q = spared_refused (moved p v x) v f x (refuses v x) q
does_refused p v f (Err r) q = (cc, refl)

pub answer_taken : (w : View) (d : Done) (q : Level) → d ≡ taken w → q ≡ seen w.shift → ◌≡◌ {A = Result Level Fault} (Ok q) (answered d)
answer_taken w d q e f = let G : Level → Result Level Fault = λ x. Ok x in ap G f ∙ ap answered (sym e)

-- a fit chip
pub fit_outcome : (p : Shape) (v : View) (x : Call) → unfit p v.cells ≡ None → outcome p v x ≡ fit_call p v x
fit_outcome p v x q = ap (λ o. calls.unless o v (fit_call p v x)) q

refused_outcome : (v : View) (f : Fault) (o : Option Refusal) (x : Outcome) → ◌≡◌ {A = Result (Unit {0}) Fault} (checked o) (Err f) → calls.unless o v x ≡ record { view = v; levels = []; says = Err f }
refused_outcome v f None x q = absurd cc
refused_outcome v f (Some r) x q = let z : raised r 0 ≡ f = cc in ap (λ y. record { view = v; levels = []; says = Err y }) z

-- and one that is not
pub unfit_outcome : (p : Shape) (v : View) (f : Fault) (x : Call) → ◌≡◌ {A = Result (Unit {0}) Fault} (checked (unfit p v.cells)) (Err f) → outcome p v x ≡ record { view = v; levels = []; says = Err f }
unfit_outcome p v f x q = refused_outcome v f (unfit p v.cells) (fit_call p v x) q

event_says : (v : View) (d : Done) → numbered (answered d) ≡ (one_event v d).says
event_says v (taken u) = refl
event_says v (refused r) = refl

event_view : (v : View) (d : Done) → after v d ≡ (one_event v d).view
event_view v (taken u) = refl
event_view v (refused r) = refl

pub outcome_says : (p : Shape) (v : View) (k l : ℕ) (r : Result Level Fault) → unfit p v.cells ≡ None → r ≡ answered (step p v k l) → numbered r ≡ (outcome p v (event k l)).says
outcome_says p v k l r q e = ap numbered e ∙ event_says v (step p v k l) ∙ ap (λ o. o.says) (sym (fit_outcome p v (event k l) q))

pub outcome_view : (p : Shape) (v w : View) (k l : ℕ) → unfit p v.cells ≡ None → w ≡ after v (step p v k l) → w ≡ (outcome p v (event k l)).view
outcome_view p v w k l q e = e ∙ event_view v (step p v k l) ∙ ap (λ o. o.view) (sym (fit_outcome p v (event k l) q))
