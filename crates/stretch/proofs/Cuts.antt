-- The parts of a capture, first part by first part, and the laws that they keep.
use Rattle.std.proofs.Common.{◌≡◌, ℕ, zero, suc, ◌+◌, ◌/◌, ◌<◌, ◌≤◌, List, [], ◌∷◌, ◌++◌, length, take, drop, sym, refl, ap, ◌∙◌, subst, arith}
use Rattle.std.proofs.lemmas.List.{length-take-le, length-drop, take-append-drop, drop-drop}
use Rattle.stretch.specs.Parts.{Part, front, first_part, parts_in, parts_from}
use Rattle.stretch.specs.Laws.{Cut, Ordered, Numbered, MayFollow}
use Rattle.stretch.specs.Reads.{shown_as, bytes_of}
use Rattle.stretch.specs.declared.part.Stretch.{Stretch}
use Rattle.stretch.specs.declared.part.Stretch.TheVariants.{Quiet, Selected, Open, LoneByte}
use Rattle.stretch.proofs.Fronts.{front_sized, front_formed, front_follows}

-- the bound on their number does not matter where it suffices
enough : (m n place : ℕ) (xs : List ℕ) → length xs ≤ m → length xs ≤ n → parts_in m place xs ≡ parts_in n place xs
unfolding parts_in
enough zero zero place xs h k = refl
enough zero (suc n) place [] h k = refl
enough zero (suc n) place (x ∷ xs) h k = absurd (omega arith)
enough (suc m) zero place [] h k = refl
enough (suc m) zero place (x ∷ xs) h k = absurd (omega arith)
enough (suc m) (suc n) place [] h k = refl
enough (suc m) (suc n) place (x ∷ xs) h k =
    let s = front_sized (x ∷ xs) (omega arith) in
    let d = length-drop (front (x ∷ xs)).1 (x ∷ xs) in
    ap (λ ps. first_part (place / 2) (x ∷ xs) ∷ ps)
    (enough m n (place + (front (x ∷ xs)).1) (drop (front (x ∷ xs)).1 (x ∷ xs)) (omega (arith, s.0, d)) (omega (arith, s.0, d)))

pub parts_none : (place : ℕ) (xs : List ℕ) → length xs ≤ 0 → parts_from place xs ≡ []
unfolding parts_from parts_in
parts_none place [] h = refl
parts_none place (x ∷ xs) h = absurd (omega arith)

pub parts_more : (place : ℕ) (xs : List ℕ) → 0 < length xs → parts_from place xs ≡ first_part (place / 2) xs ∷ parts_from (place + (front xs).1) (drop (front xs).1 xs)
unfolding parts_from parts_in
parts_more place [] h = absurd (omega arith)
parts_more place (x ∷ xs) h =
    let s = front_sized (x ∷ xs) (omega arith) in
    let d = length-drop (front (x ∷ xs)).1 (x ∷ xs) in
    ap (λ ps. first_part (place / 2) (x ∷ xs) ∷ ps)
    (enough (length xs) (length (drop (front (x ∷ xs)).1 (x ∷ xs))) (place + (front (x ∷ xs)).1) (drop (front (x ∷ xs)).1 (x ∷ xs)) (omega (arith, s.0, d)) (omega arith))

ordered_more : (p : Part) (most place : ℕ) (xs : List ℕ) → (0 < length xs → MayFollow p.kind (front xs).0) → Ordered (parts_in most place xs) → Ordered (p ∷ parts_in most place xs)
unfolding parts_in
ordered_more p zero place xs f o = tt
ordered_more p (suc most) place [] f o = tt
ordered_more p (suc most) place (x ∷ xs) f o = (f (omega arith), o)

cut_in : (most place : ℕ) (xs : List ℕ) → length xs ≤ most → Cut place xs (parts_in most place xs)
unfolding parts_in
cut_in zero place [] h = record { whole = refl; filled = tt; numbered = tt; formed = tt; ordered = tt }
cut_in zero place (x ∷ xs) h = absurd (omega arith)
cut_in (suc most) place [] h = record { whole = refl; filled = tt; numbered = tt; formed = tt; ordered = tt }
cut_in (suc most) place (x ∷ xs) h =
    let n = (front (x ∷ xs)).1 in
    let s = front_sized (x ∷ xs) (omega arith) in
    let t : length (take n (x ∷ xs)) ≡ n = length-take-le n (x ∷ xs) s.1 in
    let rest = cut_in most (place + n) (drop n (x ∷ xs)) (omega (arith, s.0, length-drop n (x ∷ xs))) in
    record {
      whole = ap (λ ys. take n (x ∷ xs) ++ ys) rest.whole ∙ take-append-drop n (x ∷ xs);
      filled = (omega (arith, t, s.0), rest.filled);
      numbered = (refl, subst (λ (k : ℕ). Numbered (place + k) (parts_in most (place + n) (drop n (x ∷ xs)))) (sym t) rest.numbered);
      formed = (front_formed (x ∷ xs) (omega arith), rest.formed);
      ordered = ordered_more (first_part (place / 2) (x ∷ xs)) most (place + n) (drop n (x ∷ xs)) (front_follows (x ∷ xs)) rest.ordered;
    }

pub cut_from : (place : ℕ) (xs : List ℕ) → Cut place xs (parts_from place xs)
unfolding parts_from
cut_from place xs = cut_in (length xs) place xs (omega arith)

-- a first part's length
handed_size : (place : ℕ) (xs ys : List ℕ) (p : Part) (m : ℕ) → ys ≡ drop place xs → place < length xs → p ≡ first_part (place / 2) ys → m ≡ length p.bytes → (m ≡ (front ys).1) × (0 < length ys)
handed_size place xs ys p m e h q l =
    let some : 0 < length ys = omega (arith, ap length e, length-drop place xs) in
    (l ∙ ap (λ (p : Part). length p.bytes) q ∙ length-take-le (front ys).1 ys (front_sized ys some).1, some)

-- the first part handed out, what is left after it, and that it moves on within the capture
pub handed : (place : ℕ) (xs ys : List ℕ) (p : Part) (m : ℕ) → ys ≡ drop place xs → place < length xs → p ≡ first_part (place / 2) ys → m ≡ length p.bytes → (parts_from place (drop place xs) ≡ p ∷ parts_from (place + m) (drop (place + m) xs)) × (0 < m) × (place + m ≤ length xs)
handed place xs ys p m e h q l =
    let n = handed_size place xs ys p m e h q l in
    let s = front_sized ys n.1 in (
      ap (parts_from place) (sym e)
          ∙ parts_more place ys n.1
          ∙ ap (λ p. p ∷ parts_from (place + (front ys).1) (drop (front ys).1 ys)) (sym q)
          ∙ ap (λ k. p ∷ parts_from (place + k) (drop k ys)) (sym n.0)
          ∙ ap (λ zs. p ∷ parts_from (place + m) zs) (ap (drop m) e ∙ drop-drop m place xs),
      omega (arith, n.0, s.0),
      omega (arith, n.0, s.1, ap length e, length-drop place xs),
    )

pub shown_bytes : (n : ℕ) (s : Stretch) → (shown_as n s).bytes ≡ bytes_of s
shown_bytes n (Quiet s) = refl
shown_bytes n (Selected s) = refl
shown_bytes n (Open s) = refl
shown_bytes n (LoneByte s) = refl
