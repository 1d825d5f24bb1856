-- The first part of what is left: which it is, and what may follow it.
use Rattle.std.proofs.lemmas.Bool.{cases_lt}
use Rattle.std.proofs.lemmas.Bool.Decides.{nat_tests}
use Rattle.std.proofs.Common.{inl, inr, ◌≡◌, ℕ, ◌+◌, ◌<◌, ◌≤◌, List, length, take, drop, sym, refl, ap, ◌∙◌, subst, arith}
use Rattle.std.proofs.lemmas.List.{length-take-le, length-drop, get_or-take, take_all}
use Rattle.stretch.specs.Parts.{Kind, Part, quiet, selected, opened, lone, ahead, front, first_part}
use Rattle.stretch.specs.Laws.{At, Lacks, Formed, MayFollow}
use Rattle.stretch.proofs.Scans.{passed, ahead_after}

-- by which tests the first part is found
pub front_lone : (xs : List ℕ) → length xs < 2 → front xs ≡ (lone, length xs)
unfolding front
front_lone xs h = grind (arith, nat_tests)

pub front_quiet : (xs : List ℕ) → 2 ≤ length xs → 0 < ahead 0 xs → front xs ≡ (quiet, ahead 0 xs)
unfolding front
front_quiet xs h p = grind (arith, nat_tests)

pub front_selected : (xs : List ℕ) → 2 ≤ length xs → ahead 0 xs ≤ 0 → ahead 1 xs + 1 < length xs → front xs ≡ (selected, ahead 1 xs + 2)
unfolding front
front_selected xs h p q = grind (arith, nat_tests)

pub front_open : (xs : List ℕ) → 2 ≤ length xs → ahead 0 xs ≤ 0 → length xs ≤ ahead 1 xs + 1 → front xs ≡ (opened, ahead 1 xs)
unfolding front
front_open xs h p q = grind (arith, nat_tests)

-- what holds of a first part in each of the four cases holds of it
pub front_cases : (P : List ℕ → Kind × ℕ → Type 0) (xs : List ℕ)
    → (length xs < 2 → P xs (lone, length xs))
    → (2 ≤ length xs → 0 < ahead 0 xs → P xs (quiet, ahead 0 xs))
    → (2 ≤ length xs → ahead 0 xs ≤ 0 → ahead 1 xs + 1 < length xs → P xs (selected, ahead 1 xs + 2))
    → (2 ≤ length xs → ahead 0 xs ≤ 0 → length xs ≤ ahead 1 xs + 1 → P xs (opened, ahead 1 xs))
    → P xs (front xs)
front_cases P xs l q s o =
    elim (cases_lt (length xs) 2) [
      | inl h ↦ subst (P xs) (sym (front_lone xs h)) (l h)
      | inr h ↦ elim (cases_lt 0 (ahead 0 xs)) [
        | inl p ↦ subst (P xs) (sym (front_quiet xs h p)) (q h p)
        | inr p ↦ elim (cases_lt (ahead 1 xs + 1) (length xs)) [
          | inl r ↦ subst (P xs) (sym (front_selected xs h p r)) (s h p r)
          | inr r ↦ subst (P xs) (sym (front_open xs h p r)) (o h p r)
        ]
      ]
    ]

-- a first part is not empty, and lies within what is left
abbrev Sized : List ℕ → Kind × ℕ → Type 0
Sized xs f = 0 < length xs → (0 < f.1) × (f.1 ≤ length xs)

pub front_sized : (xs : List ℕ) → 0 < length xs → (0 < (front xs).1) × ((front xs).1 ≤ length xs)
front_sized xs =
    let z = passed 0 xs in
    let o = passed 1 xs in
    front_cases Sized xs
    (λ h some. (some, omega arith))
    (λ h p some. (p, omega (arith, z.1.value, z.1.within)))
    (λ h p q some. (omega arith, omega arith))
    (λ h p q some. (omega (arith, o.1.value), omega (arith, o.1.value, o.1.within)))

-- records of a front
at_take : (level : ℕ) (xs : List ℕ) (n i : ℕ) → i + i + 1 < n → At level (take n xs) i → At level xs i
at_take level xs n i h a = let h0 : i + i < n = omega arith in simp get_or-take at a

at_in_take : (level : ℕ) (xs : List ℕ) (n i : ℕ) → i + i + 1 < n → At level xs i → At level (take n xs) i
at_in_take level xs n i h a = let h0 : i + i < n = omega arith in simp get_or-take a

lacks_take : (level : ℕ) (xs : List ℕ) (n m : ℕ) → m + m ≤ n → Lacks level xs m → Lacks level (take n xs) m
lacks_take level xs n m h lacks i small a = lacks i small (at_take level xs n i (omega arith) a)

-- a record 0, 0 comes first where none is ahead of one
falls_first : (xs : List ℕ) → 2 ≤ length xs → ahead 0 xs ≤ 0 → At 0 xs 0
falls_first xs h p =
    let z = passed 0 xs in
    let e : z.0 ≡ 0 = omega (arith, z.1.value) in
    subst (λ (i : ℕ). At 0 xs i) e (z.1.found (omega arith))

-- a first part is what its kind says
abbrev Shaped : List ℕ → Kind × ℕ → Type 0
Shaped xs f = 0 < length xs → Formed f.0 (take f.1 xs)

pub front_formed : (xs : List ℕ) → 0 < length xs → Formed (front xs).0 (take (front xs).1 xs)
front_formed xs =
    let z = passed 0 xs in
    let o = passed 1 xs in
    front_cases Shaped xs
    (λ h some. length-take-le (length xs) xs (omega arith) ∙ omega arith)
    (λ h p some. (
      z.0,
      length-take-le (ahead 0 xs) xs (omega (arith, z.1.value, z.1.within)) ∙ z.1.value,
      lacks_take 0 xs (ahead 0 xs) z.0 (omega (arith, z.1.value)) z.1.lacks,
    ))
    (λ h p q some. (
      o.0,
      length-take-le (ahead 1 xs + 2) xs (omega arith) ∙ omega (arith, o.1.value),
      at_in_take 0 xs (ahead 1 xs + 2) 0 (omega arith) (falls_first xs h p),
      lacks_take 1 xs (ahead 1 xs + 2) o.0 (omega (arith, o.1.value)) o.1.lacks,
      at_in_take 1 xs (ahead 1 xs + 2) o.0 (omega (arith, o.1.value)) (o.1.found (omega (arith, o.1.value))),
    ))
    (λ h p q some. (
      o.0,
      length-take-le (ahead 1 xs) xs (omega (arith, o.1.value, o.1.within)) ∙ o.1.value,
      at_in_take 0 xs (ahead 1 xs) 0 (omega (arith, o.1.value)) (falls_first xs h p),
      lacks_take 1 xs (ahead 1 xs) o.0 (omega (arith, o.1.value)) o.1.lacks,
    ))

-- a first part is not quiet where no record is ahead of a fall
abbrev BeginsQuiet : List ℕ → Kind × ℕ → Type 0
BeginsQuiet xs f = ahead 0 xs ≡ 0 → f.0 ≡ quiet → ⊥

not_quiet : (xs : List ℕ) → ahead 0 xs ≡ 0 → (front xs).0 ≡ quiet → ⊥
not_quiet xs =
    front_cases BeginsQuiet xs (λ h e q. cc) (λ h p e q. omega arith) (λ h p r e q. cc) (λ h p r e q. cc)

-- the next part may follow
abbrev Next : List ℕ → Kind × ℕ → Type 0
Next xs f = 0 < length (drop f.1 xs) → MayFollow f.0 (front (drop f.1 xs)).0

pub front_follows : (xs : List ℕ) → 0 < length (drop (front xs).1 xs) → MayFollow (front xs).0 (front (drop (front xs).1 xs)).0
front_follows xs =
    front_cases Next xs
    (λ h more. absurd (omega (arith, length-drop (length xs) xs)))
    (λ h p more. not_quiet (drop (ahead 0 xs) xs) (ahead_after 0 xs))
    (λ h p q more. tt)
    (λ h p q more. ap (λ (f : Kind × ℕ). f.0) (front_lone (drop (ahead 1 xs) xs) (omega (arith, length-drop (ahead 1 xs) xs))))

-- a part with the kind and the length of the first part of what is left
pub leads : (xs : List ℕ) (k : Kind) (m j : ℕ) → front xs ≡ (k, j) → m ≡ j → (n : ℕ) → ◌≡◌ {A = Part} (record { kind = k; first = n; bytes = take m xs }) (first_part n xs)
leads xs k m j e q n =
    ap {B = Part} (λ i. record { kind = k; first = n; bytes = take i xs }) q
    ∙ ap {B = Part} (λ (f : Kind × ℕ). record { kind = f.0; first = n; bytes = take f.1 xs }) (sym e)

pub leads_lone : (xs : List ℕ) → length xs < 2 → (n : ℕ) → ◌≡◌ {A = Part} (record { kind = lone; first = n; bytes = xs }) (first_part n xs)
leads_lone xs h n =
    ap {B = Part} (λ ys. record { kind = lone; first = n; bytes = ys }) (sym (take_all (length xs) xs (omega arith)))
    ∙ leads xs lone (length xs) (length xs) (front_lone xs h) refl n
