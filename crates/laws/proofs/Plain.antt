-- Events that end no cycle leave the cells: on a fit chip their answers are those of step alone.
use Rattle.std.proofs.Common.{◌≡◌, ℕ, Bool, true, false, ◌&&◌, T, List, [], ◌∷◌, get_or, Some, None, Ok, Err, Option, Result, sym, refl, ap, ◌∙◌}
use Rattle.backing.specs.declared.refusal.Refusal.{Refusal}
use Rattle.backing.specs.declared.fault.Fault.{Fault}
use Rattle.rules.specs.declared.state.Event.{Event}
use Rattle.rules.specs.declared.state.Event.TheVariants.{Select, Clock, Hold, CycleEnd}
use Rattle.rules.specs.declared.state.Phase.{Phase}
use Rattle.rules.specs.declared.state.Phase.TheVariants.{Input}
use Rattle.rules.specs.Shape.{Shape, status_at, lock_at}
use Rattle.rules.specs.Tables.{decoded, unfit}
use Rattle.rules.specs.Rules.{View, Done, taken, refused, step, does, unless, refuses, moved, after, answer, closed, deselected, pending, counts, rises_s, rises_c, falls_c, holds}
use Rattle.rules.specs.Calls.{outcome, called, event, one_event}
use Rattle.laws.specs.Laws.{Action, send, answers, as_number, of_bytes, Alike}

-- ---- the cells

-- an event that ends no cycle
abbrev pub calm : Result Event Refusal → Bool
calm (Ok CycleEnd) = false
calm x = true

closed_cells : (p : Shape) (v : View) (ph : Phase) → (closed p v ph).cells ≡ v.cells
closed_cells p v (Input g) =
    elim (counts p v.pins.protect (get_or v.cells (status_at p) 0) (get_or v.cells (lock_at p) 0) g)
    as (λ t. (elim t as (λ _. View) [ true ↦ deselected v v.wel (Some (pending g)) | false ↦ deselected v v.wel v.cycle ]).cells ≡ v.cells)
    [ true ↦ refl | false ↦ refl ]
closed_cells p v ph = refl

select_cells : (p : Shape) (v : View) (held : Bool) → (rises_s p v held).cells ≡ v.cells
select_cells p v true = refl
select_cells p v false = closed_cells p v v.stretch

rise_cells : (p : Shape) (v : View) (held : Bool) → (rises_c p v held).cells ≡ v.cells
rise_cells p v true = refl
rise_cells p v false = refl

fall_cells : (p : Shape) (v : View) (held : Bool) → (falls_c p v held).cells ≡ v.cells
fall_cells p v true = refl
fall_cells p v false = refl

hold_cells : (v : View) (l c : Bool) → (holds v l c).cells ≡ v.cells
hold_cells v l true = refl
hold_cells v l false = refl

unless_cells : (v u : View) (o : Option Refusal) → u.cells ≡ v.cells → (after v (unless o u)).cells ≡ v.cells
unless_cells v u None e = e
unless_cells v u (Some r) e = refl

moved_cells : (p : Shape) (v : View) (e : Event) → T (calm (Ok e)) → (moved p v e).cells ≡ v.cells
moved_cells p v (Select true) c = select_cells p v v.shift.held
moved_cells p v (Clock true) c = rise_cells p v v.shift.held
moved_cells p v (Clock false) c = fall_cells p v v.shift.held
moved_cells p v (Hold l) c = hold_cells v l v.pins.clock
moved_cells p v CycleEnd c = absurd c
moved_cells p v e c = refl

does_cells : (p : Shape) (v : View) (x : Result Event Refusal) → T (calm x) → (after v (does p v x)).cells ≡ v.cells
does_cells p v (Ok e) c = unless_cells v (moved p v e) (refuses v e) (moved_cells p v e c)
does_cells p v (Err r) c = refl

-- an event that ends no cycle leaves the cells
step_cells : (p : Shape) (v : View) (k l : ℕ) → T (calm (decoded k l)) → (after v (step p v k l)).cells ≡ v.cells
step_cells p v k l c = does_cells p v (decoded k l) c

says_is : (v : View) (d : Done) → (one_event v d).says ≡ as_number (answer d)
says_is v (taken u) = refl
says_is v (refused r) = refl

pub view_is : (v : View) (d : Done) → (one_event v d).view ≡ after v d
view_is v (taken u) = refl
view_is v (refused r) = refl

-- a call on a fit chip is its step
pub fit_says : (p : Shape) (v : View) (k l : ℕ) → unfit p v.cells ≡ None → (outcome p v (event k l)).says ≡ as_number (answer (step p v k l))
fit_says p v k l f = rw f (says_is v (step p v k l))

fit_view : (p : Shape) (v : View) (k l : ℕ) → unfit p v.cells ≡ None → called p v (event k l) ≡ after v (step p v k l)
fit_view p v k l f = rw (f, called) (view_is v (step p v k l))

-- ---- lists

abbrev pub all_calm : List Action → Bool
all_calm [] = true
all_calm (send k l ∷ more) = calm (decoded k l) && all_calm more

-- the answers of step alone
abbrev pub plain : Shape → View → List Action → List (Result ℕ Fault)
plain p v [] = []
plain p v (send k l ∷ more) = as_number (answer (step p v k l)) ∷ plain p (after v (step p v k l)) more

T_parts : (a b : Bool) → T (a && b) → T a × T b
T_parts true b t = (tt, t)
T_parts false b t = absurd t

plainly : (p : Shape) (xs : List Action) (v : View) → T (all_calm xs) → unfit p v.cells ≡ None → answers p v xs ≡ plain p v xs
plainly p [] v c f = refl
plainly p (send k l ∷ more) v c f =
    let now : T (calm (decoded k l)) × T (all_calm more) = T_parts (calm (decoded k l)) (all_calm more) c in
    let fw : unfit p (after v (step p v k l)).cells ≡ None = ap (unfit p) (step_cells p v k l now.0) ∙ f in
    let e : answers p (called p v (event k l)) more ≡ plain p (after v (step p v k l)) more =
    ap (λ x. answers p x more) (fit_view p v k l f) ∙ plainly p more (after v (step p v k l)) now.1 fw in
    let s : (outcome p v (event k l)).says ≡ as_number (answer (step p v k l)) = fit_says p v k l f in
    λ i. s i ∷ e i

-- alike, by step alone
abbrev pub PlainlyAlike : Shape → View → View → Type 0
PlainlyAlike p u v = (xs : List Action) → T (of_bytes xs) → T (all_calm xs) → plain p u xs ≡ plain p v xs

pub alike_plainly : (p : Shape) (u v : View) → unfit p u.cells ≡ None → unfit p v.cells ≡ None → Alike p u v → PlainlyAlike p u v
alike_plainly p u v f g al xs b c = sym (plainly p xs u c f) ∙ (al xs b ∙ plainly p xs v c g)
