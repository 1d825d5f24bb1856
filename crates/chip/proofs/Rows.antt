-- The part's cells in a row: reading them, judging them, putting a write into them.
use Rattle.std.proofs.Common.{◌≡◌, ℕ, zero, suc, ◌+◌, ◌<◌, ◌≤◌, min, true, false, List, [], ◌∷◌, length, get_or, take, drop, Some, Ok, Err, Option, Result, sym, refl, ap, ◌∙◌, arith, None}
use package.base.Fml.{GName}
use Rattle.std.proofs.lemmas.List.{get_or-take, length-take}
use Rattle.std.proofs.lemmas.Bool.{lt-ltb, le-ltb}
use Rattle.backing.specs.Rows.{Reads}
use Rattle.backing.specs.Faults.{raised}
use Rattle.backing.specs.declared.refusal.Refusal.{Refusal}
use Rattle.backing.specs.declared.refusal.Refusal.TheVariants.{ShortBacking}
use Rattle.backing.specs.declared.fault.Fault.{Fault}
use Rattle.rules.specs.Shape.{Shape, cell_count, status_at, lock_at}
use Rattle.rules.specs.Tables.{unfit, or, passed}
use Rattle.rules.specs.declared.state.Pending.{Pending}
use Rattle.rules.specs.Rules.{View, laid, over, base, reach, ended}
use Rattle.chip.specs.Shows.{cells_of, Kept}
use Rattle.chip.specs.Answers.{checked, unlawful}
use Rattle.chip.proofs.Laying.{length_laid}

pub read_is : (p : Shape) (row : List ℕ) (place : ℕ) (r : Result ℕ Fault) → place < cell_count p → cell_count p ≤ length row → Reads row place r → r ≡ Ok (get_or (cells_of p row) place 0)
unfolding cells_of
read_is p row place (Ok b) lt long R = ap Ok (R.1 ∙ sym (get_or-take (cell_count p) row place 0 lt))
read_is p row place (Err f) lt long R = absurd (omega (arith, R.0))

length_cells : (p : Shape) (row : List ℕ) → length (cells_of p row) ≡ min (cell_count p) (length row)
unfolding cells_of
length_cells p row = length-take (cell_count p) row

pub short_row : (p : Shape) (row : List ℕ) (n : ℕ) → n ≡ length row → n < cell_count p → checked (unfit p (cells_of p row)) ≡ Err (raised ShortBacking 0)
short_row p row n e lt =
    ap (λ t. checked (elim t as (λ _. Option Refusal) [ true ↦ Some ShortBacking | false ↦ unlawful (get_or (cells_of p row) (status_at p) 0) (get_or (cells_of p row) (lock_at p) 0) ]))
    (lt-ltb (length (cells_of p row)) (cell_count p) (omega (arith, length_cells p row)))

pub long_row : (p : Shape) (row : List ℕ) → cell_count p ≤ length row → unfit p (cells_of p row) ≡ unlawful (get_or (cells_of p row) (status_at p) 0) (get_or (cells_of p row) (lock_at p) 0)
long_row p row long =
    ap (λ t. elim t as (λ _. Option Refusal) [ true ↦ Some ShortBacking | false ↦ unlawful (get_or (cells_of p row) (status_at p) 0) (get_or (cells_of p row) (lock_at p) 0) ])
    (le-ltb (length (cells_of p row)) (cell_count p) (omega (arith, length_cells p row)))

-- a long row, by its two cells as they were read
judged_row : (p : Shape) (row : List ℕ) (s l : ℕ) → cell_count p ≤ length row →
    ◌≡◌ {A = Result ℕ Fault} (Ok s) (Ok (get_or (cells_of p row) (status_at p) 0)) → ◌≡◌ {A = Result ℕ Fault} (Ok l) (Ok (get_or (cells_of p row) (lock_at p) 0)) → unfit p (cells_of p row) ≡ unlawful s l
judged_row p row s l long es el =
    let s' : get_or (cells_of p row) (status_at p) 0 ≡ s = cc in
    let l' : get_or (cells_of p row) (lock_at p) 0 ≡ l = cc in
    long_row p row long ∙ ap (λ x. unlawful x (get_or (cells_of p row) (lock_at p) 0)) s' ∙ ap (λ x. unlawful s x) l'

-- a check that passes, and one that refuses
pub passed_none : (o : Option Refusal) → ◌≡◌ {A = Result (Unit {0}) Refusal} (Ok tt) (passed o) → o ≡ None
passed_none None e = refl
passed_none (Some r) e = absurd cc

pub passed_some : (o : Option Refusal) (r : Refusal) → ◌≡◌ {A = Result (Unit {0}) Refusal} (Err r) (passed o) → o ≡ Some r
passed_some None r e = absurd cc
passed_some (Some q) r e = cc

pub judged_fit : (p : Shape) (row : List ℕ) (s l : ℕ) → cell_count p ≤ length row →
    ◌≡◌ {A = Result ℕ Fault} (Ok s) (Ok (get_or (cells_of p row) (status_at p) 0)) → ◌≡◌ {A = Result ℕ Fault} (Ok l) (Ok (get_or (cells_of p row) (lock_at p) 0)) → Ok tt ≡ passed (unlawful s l) → unfit p (cells_of p row) ≡ None
judged_fit p row s l long es el e = judged_row p row s l long es el ∙ passed_none (unlawful s l) e

pub judged_unfit : (p : Shape) (row : List ℕ) (s l : ℕ) (r : Refusal) → cell_count p ≤ length row →
    ◌≡◌ {A = Result ℕ Fault} (Ok s) (Ok (get_or (cells_of p row) (status_at p) 0)) → ◌≡◌ {A = Result ℕ Fault} (Ok l) (Ok (get_or (cells_of p row) (lock_at p) 0)) → Err r ≡ passed (unlawful s l) → checked (unfit p (cells_of p row)) ≡ Err (raised r 0)
judged_unfit p row s l r long es el e = ap checked (judged_row p row s l long es el ∙ passed_some (unlawful s l) r e)

take_over : (n : ℕ) (xs : List ℕ) (bytes : List (Option ℕ)) → take n (over xs bytes) ≡ over (take n xs) bytes
take_over zero xs bytes = refl
take_over (suc n) [] bytes = refl
take_over (suc n) (x ∷ xs) [] = refl
take_over (suc n) (x ∷ xs) (o ∷ bytes) = ap (λ ys. or o x ∷ ys) (take_over n xs bytes)

take_laid : (n : ℕ) (xs : List ℕ) (at : ℕ) (bytes : List (Option ℕ)) → take n (laid xs at bytes) ≡ laid (take n xs) at bytes
take_laid n xs zero bytes = take_over n xs bytes
take_laid zero xs (suc at) bytes = refl
take_laid (suc n) [] (suc at) bytes = refl
take_laid (suc n) (x ∷ xs) (suc at) bytes = ap (λ ys. x ∷ ys) (take_laid n xs at bytes)

drop_over : (n : ℕ) (xs : List ℕ) (bytes : List (Option ℕ)) → length bytes ≤ n → drop n (over xs bytes) ≡ drop n xs
drop_over n [] bytes h = refl
drop_over n (x ∷ xs) [] h = refl
drop_over zero (x ∷ xs) (o ∷ bytes) h = absurd (omega arith)
drop_over (suc n) (x ∷ xs) (o ∷ bytes) h = drop_over n xs bytes (omega arith)

drop_laid : (n : ℕ) (xs : List ℕ) (at : ℕ) (bytes : List (Option ℕ)) → at + length bytes ≤ n → drop n (laid xs at bytes) ≡ drop n xs
drop_laid n xs zero bytes h = drop_over n xs bytes (omega arith)
drop_laid n [] (suc at) bytes h = refl
drop_laid zero (x ∷ xs) (suc at) bytes h = absurd (omega arith)
drop_laid (suc n) (x ∷ xs) (suc at) bytes h = drop_laid n xs at bytes (omega arith)

-- putting a write into the row puts it into the cells
pub laid_cells : (p : Shape) (xs : List ℕ) (at : ℕ) (bytes : List (Option ℕ)) → cells_of p (laid xs at bytes) ≡ laid (cells_of p xs) at bytes
unfolding cells_of
laid_cells p xs at bytes = take_laid (cell_count p) xs at bytes

-- and leaves the rest
pub laid_kept : {B : Type 0} (p : Shape) (row past : B → List ℕ) (held : B → List GName) (x y : B) (at : ℕ) (bytes : List (Option ℕ)) → at + length bytes ≤ cell_count p → row y ≡ laid (row x) at bytes → held y ≡ held x → past y ≡ past x → Kept p row past held x y
laid_kept p row past held x y at bytes h e hs ps =
    record {
      same_held = hs;
      same_past = ps;
      same_length = ap length e ∙ length_laid (row x) at bytes;
      same_rest = ap (drop (cell_count p)) e ∙ drop_laid (cell_count p) (row x) at bytes h;
    }

-- the end of a cycle
pub ended_view : (p : Shape) (v : View) (w : Pending) (xs ys : List ℕ) (at len : ℕ) → v.cells ≡ cells_of p xs → v.cycle ≡ Some w → at ≡ base p w.target w.start → len ≡ reach p w.target → ys ≡ laid xs at (take len w.bytes) →
    ◌≡◌ {A = View} (record { pins = v.pins; wel = false; cycle = None; stretch = v.stretch; shift = v.shift; cells = cells_of p ys }) (ended p v v.cycle)
ended_view p v w xs ys at len q m ea el e =
    let F : List ℕ → View = λ cs. record { pins = v.pins; wel = false; cycle = None; stretch = v.stretch; shift = v.shift; cells = cs } in
    ap F (ap (cells_of p) e
    ∙ laid_cells p xs at (take len w.bytes)
    ∙ ap (λ zs. laid zs at (take len w.bytes)) (sym q)
    ∙ ap (λ k. laid v.cells k (take len w.bytes)) ea
    ∙ ap (λ k. laid v.cells (base p w.target w.start) (take k w.bytes)) el)
    ∙ ap (ended p v) (sym m)
