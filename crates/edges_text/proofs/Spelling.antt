-- Answer bytes turned into characters one by one.
use Rattle.std.proofs.Common.{◌≡◌, ℕ, zero, suc, ◌+◌, ◌<◌, ◌≤◌, List, [], ◌∷◌, map, length, get_or, set, refl, ap, ◌∙◌, add-one, arith}
use Rattle.rules.specs.declared.state.Level.{Level}
use Rattle.rules.specs.Tables.{level_number}
use Rattle.edges_text.specs.Edges.{letter}

-- the first i as characters, the rest as answer bytes
abbrev pub mixed : ℕ → List Level → List ℕ
mixed zero qs = map level_number qs
mixed (suc i) [] = []
mixed (suc i) (q ∷ qs) = letter q ∷ mixed i qs

one_more : (i : ℕ) (qs : List Level) (r : ℕ) → i < length (mixed i qs) → ((q : Level) → get_or (mixed i qs) i 0 ≡ level_number q → r ≡ letter q) → set (mixed i qs) i r ≡ mixed (suc i) qs
one_more zero (q ∷ qs) r h f = ap (λ y. y ∷ map level_number qs) (f q refl)
one_more (suc i) (q ∷ qs) r h f = ap (λ ys. letter q ∷ ys) (one_more i qs r (omega arith) f)
one_more i qs r h f = absurd (omega arith)

pub mixed_more : (i : ℕ) (qs : List Level) (ys : List ℕ) (r : ℕ) → ys ≡ mixed i qs → i < length ys → ((q : Level) → get_or ys i 0 ≡ level_number q → r ≡ letter q) → set ys i r ≡ mixed (i + 1) qs
mixed_more i qs ys r e h f = rw (e, add-one i) (one_more i qs r (rw e at h) (λ q g. f q (rw e g)))

all_mixed : (i : ℕ) (qs : List Level) → length (mixed i qs) ≤ i → mixed i qs ≡ map letter qs
all_mixed zero (q ∷ qs) h = absurd (omega arith)
all_mixed (suc i) (q ∷ qs) h = ap (λ ys. letter q ∷ ys) (all_mixed i qs (omega arith))
all_mixed i qs h = refl

pub mixed_all : (i : ℕ) (qs : List Level) (ys : List ℕ) → ys ≡ mixed i qs → length ys ≤ i → ys ≡ map letter qs
mixed_all i qs ys e h = e ∙ all_mixed i qs (rw e at h)
