-- When two chips are the same.
use Rattle.std.specs.Prelude.{◌≡◌, ℕ, Bool, true, false, not, ◌||◌, ◌↔◌, List, IfOk, None, Ok, Err, Result}
use Rattle.std.specs.Result.{result_err}
use Rattle.backing.specs.Rows.{Bytes}
use Rattle.backing.specs.declared.fault.Fault.{Fault}
use Rattle.rules.specs.Shape.{Shape}
use Rattle.rules.specs.Tables.{unfit}
use Rattle.rules.specs.Rules.{View, running, is_off}
use Rattle.rules.specs.Calls.{Call}
use Rattle.laws.specs.Laws.{chip_after, journal_after, AtRest, Alike, Agree}
use Rattle.chip.specs.Answers.{checked}
use Rattle.chip.specs.Cells.{EqualCells}
use Rattle.chip.specs.declared.sameness.Comparison.{Comparison}
use Rattle.chip.specs.declared.sameness.Comparison.TheVariants.{Selected, Running, Same, Different}

-- the same levels of C, D, W and HOLD, the same write enable latch, the same cells
pub record Equal (p : Shape) (u v : View) : Type 0 where
  pub same_pins : u.pins ≡ v.pins
  pub same_wel : u.wel ≡ v.wel
  pub same_cells : EqualCells p u.cells v.cells

abbrev pub first_of : Result (Unit {0}) Fault → Result (Unit {0}) Fault → Result (Unit {0}) Fault
first_of (Err e) r = Err e
first_of (Ok x) r = r

-- making's fault of the first chip, else that of the second
abbrev pub first_fault : Shape → View → View → Result (Unit {0}) Fault
first_fault p u v = first_of (checked (unfit p u.cells)) (checked (unfit p v.cells))

-- S of one of two chips is low
abbrev pub one_selected : View → View → Bool
one_selected u v = not (is_off u.stretch) || not (is_off v.stretch)

-- in one of two chips a cycle runs
abbrev pub one_running : View → View → Bool
one_running u v = running u.cycle || running v.cycle

-- the four cases of a comparison of fit chips: no two of them hold at once
abbrev pub Case : Shape → View → View → Comparison → Type 0
Case p u v Selected = one_selected u v ≡ true
Case p u v Running = (one_selected u v ≡ false) × (one_running u v ≡ true)
Case p u v Same = (AtRest u × AtRest v) × Equal p u v
Case p u v Different = (AtRest u × AtRest v) × (Equal p u v → ⊥)

-- the law of sameness, of two chips with these views: fit and at rest, they are alike exactly when their histories agree
abbrev pub SameLaw : Shape → View → View → Type 0
SameLaw p u v =
    (birth birth' : List ℕ) (h h' : List Call) → Bytes birth → Bytes birth' →
    u ≡ chip_after p birth h → v ≡ chip_after p birth' h' →
    unfit p u.cells ≡ None → unfit p v.cells ≡ None → AtRest u → AtRest v →
    Alike p u v ↔ Agree p birth birth' (journal_after p birth h) (journal_after p birth' h')

-- what a comparison answers of chips with these views
pub record Compared (p : Shape) (u v : View) (r : Result Comparison Fault) : Type 0 where
  -- a fault exactly where making refuses one of them
  pub faults : result_err r ≡ result_err (first_fault p u v)
  -- else the case that holds
  pub answer : IfOk r (Case p u v)
  -- of chips with a history: Same if they are alike, Different if not
  pub alike : (birth birth' : List ℕ) (h h' : List Call) → Bytes birth → Bytes birth' →
      u ≡ chip_after p birth h → v ≡ chip_after p birth' h' →
      (r ≡ Ok Same → Alike p u v) × (r ≡ Ok Different → Alike p u v → ⊥)
  pub law : SameLaw p u v
