-- The laws of journal and cells, of a call on a chip that is the outcome of a history.
use Rattle.std.specs.Prelude.{◌≡◌, ℕ, List, [], ◌∷◌, ◌++◌, Result}
use Rattle.backing.specs.declared.fault.Fault.{Fault}
use Rattle.rules.specs.declared.state.Level.{Level}
use Rattle.rules.specs.Shape.{Shape}
use Rattle.rules.specs.Rules.{View}
use Rattle.rules.specs.Calls.{Call, event, capture, written}
use Rattle.laws.specs.Laws.{send, journal_says, journal_capture, chip_after, journal_after, Cells}
use Rattle.chip.specs.Answers.{numbered}

-- u and v are the views before and after; the answer and the cells are those of the journal
pub record EventTold (p : Shape) (v : View) (k l : ℕ) (r : Result Level Fault) (birth : List ℕ) (h : List Call) : Type 0 where
  pub answer : numbered r ≡ journal_says p birth (journal_after p birth h) (send k l)
  pub cells : Cells p birth v (journal_after p birth (h ++ (event k l ∷ [])))

abbrev pub EventLaw : Shape → (u v : View) → (k l : ℕ) → Result Level Fault → Type 0
EventLaw p u v k l r = (birth : List ℕ) (h : List Call) → u ≡ chip_after p birth h → EventTold p v k l r birth h

-- old and new are the answer buffer before and after
pub record CaptureTold (p : Shape) (v : View) (bytes old new : List ℕ) (room : ℕ) (r : Result ℕ Fault) (birth : List ℕ) (h : List Call) : Type 0 where
  pub answer : r ≡ (journal_capture p birth (journal_after p birth h) bytes room).says
  pub levels : new ≡ written (journal_capture p birth (journal_after p birth h) bytes room).levels old
  pub cells : Cells p birth v (journal_after p birth (h ++ (capture bytes room ∷ [])))

abbrev pub CaptureLaw : Shape → (u v : View) → (bytes old new : List ℕ) → (room : ℕ) → Result ℕ Fault → Type 0
CaptureLaw p u v bytes old new room r =
    (birth : List ℕ) (h : List Call) → u ≡ chip_after p birth h → CaptureTold p v bytes old new room r birth h
