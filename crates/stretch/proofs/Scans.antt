-- The search for a record that moves S: what it finds, and what it passes.
use Rattle.std.proofs.Common.{◌≡◌, ℕ, zero, suc, ◌+◌, ◌*◌, ◌/◌, ◌<◌, ◌≤◌, Bool, true, false, not, cond, Option, List, [], ◌∷◌, length, position, drop, sym, refl, ap, ◌∙◌, subst, arith}
use borrow.Author.Tests.{both_ways}
use Rattle.std.proofs.lemmas.List.Sums.{prefix_len-le-length}
use Rattle.std.specs.List.{position_or_len}
use Rattle.std.specs.Option.{unwrap_or}
use Rattle.std.specs.Simd.{first_chunks}
use Rattle.stretch.specs.Parts.{ahead, moves, is_move}
use Rattle.stretch.specs.Laws.{At, Lacks}

-- one record more in front of those that were counted
one_more : (b : Bool) (m n : ℕ) → m ≡ 2 * n → cond b 0 (2 + m) ≡ 2 * cond (not b) (1 + n) 0
one_more true m n e = refl
one_more false m n e = omega arith

-- the whole records ahead of the first that moves S to the level
ahead_records : (level n : ℕ) (xs : List ℕ) → n + n ≤ length xs → length xs ≤ n + n + 1 → ahead level xs ≡ 2 * position_or_len (is_move level) (first_chunks 2 n xs)
unfolding ahead
ahead_records level zero [] h k = refl
ahead_records level zero (x ∷ []) h k = refl
ahead_records level zero (x ∷ y ∷ xs) h k = absurd (omega arith)
ahead_records level (suc n) [] h k = absurd (omega arith)
ahead_records level (suc n) (x ∷ []) h k = absurd (omega arith)
ahead_records level (suc n) (x ∷ y ∷ xs) h k =
    one_more (moves level x y) _ _ (ahead_records level n xs (omega arith) (omega arith))

-- the place of the first that passes, or else the length
position_else : {X : Type 0} (p : X → Bool) (xs : List X) → unwrap_or (position p xs) (length xs) ≡ position_or_len p xs
position_else p xs = grind (arith, prefix_len-le-length)

pub ahead_found : (level : ℕ) (xs : List ℕ) (rs : List (List ℕ)) (o : Option ℕ) (n : ℕ) → rs ≡ first_chunks 2 (length xs / 2) xs → o ≡ position (is_move level) rs → n ≡ unwrap_or o (length rs) → 2 * n ≡ ahead level xs
ahead_found level xs rs o n e f g =
    ap (λ m. 2 * m) (g ∙ ap (λ o. unwrap_or o (length rs)) f ∙ position_else (is_move level) rs ∙ ap (position_or_len (is_move level)) e)
    ∙ sym (ahead_records level (length xs / 2) xs (omega arith) (omega arith))

-- what a search from the front comes to: n records are passed, and the next one, if there is one, moves S to the level
pub record Passed (level : ℕ) (xs : List ℕ) (n : ℕ) : Type 0 where
  pub value : ahead level xs ≡ n + n
  pub within : n + n ≤ length xs
  pub lacks : Lacks level xs n
  pub found : n + n + 1 < length xs → At level xs n

-- a record two bytes further on
at_back : (level k l : ℕ) (xs : List ℕ) (i : ℕ) → At level (k ∷ l ∷ xs) (i + 1) → At level xs i
at_back level k l xs i h =
    let e : i + 1 + (i + 1) ≡ suc (suc (i + i)) = omega arith in
    let f : suc (suc (i + i)) + 1 ≡ suc (suc (i + i + 1)) = omega arith in
    simp (e, f) at h

at_on : (level k l : ℕ) (xs : List ℕ) (i : ℕ) → At level xs i → At level (k ∷ l ∷ xs) (i + 1)
at_on level k l xs i h =
    let e : i + 1 + (i + 1) ≡ suc (suc (i + i)) = omega arith in
    let f : suc (suc (i + i)) + 1 ≡ suc (suc (i + i + 1)) = omega arith in
    simp (e, f) h

lacks_on : (level k l : ℕ) (xs : List ℕ) (n : ℕ) → moves level k l ≡ false → Lacks level xs n → Lacks level (k ∷ l ∷ xs) (n + 1)
lacks_on level k l xs n e h zero small a = absurd (both_ways (moves level k l) e a)
lacks_on level k l xs n e h (suc i) small a =
    let q : suc i ≡ i + 1 = omega arith in
    h i (omega arith) (at_back level k l xs i (subst (λ (j : ℕ). At level (k ∷ l ∷ xs) j) q a))

passed_on : (level k l : ℕ) (xs : List ℕ) (b : Bool) → moves level k l ≡ b → (n : ℕ) × Passed level xs n → (n : ℕ) × Passed level (k ∷ l ∷ xs) n
unfolding ahead
passed_on level k l xs true e p = (
  0,
  record {
    value = ap (λ b. cond b 0 (2 + ahead level xs)) e;
    within = omega arith;
    lacks = λ i small a. absurd (omega arith);
    found = λ _. e;
  },
)
passed_on level k l xs false e p = (
  p.0 + 1,
  record {
    value = ap (λ b. cond b 0 (2 + ahead level xs)) e ∙ omega (arith, p.1.value);
    within = omega (arith, p.1.within);
    lacks = lacks_on level k l xs p.0 e p.1.lacks;
    found = λ more. at_on level k l xs p.0 (p.1.found (omega arith));
  },
)

pub passed : (level : ℕ) (xs : List ℕ) → (n : ℕ) × Passed level xs n
unfolding ahead
passed level [] = (0, record { value = refl; within = omega arith; lacks = λ i small a. absurd (omega arith); found = λ more. absurd (omega arith) })
passed level (x ∷ []) = (0, record { value = refl; within = omega arith; lacks = λ i small a. absurd (omega arith); found = λ more. absurd (omega arith) })
passed level (k ∷ l ∷ xs) = passed_on level k l xs (moves level k l) refl (passed level xs)

after_on : (level k l : ℕ) (xs : List ℕ) (b : Bool) → moves level k l ≡ b → ahead level (drop (ahead level xs) xs) ≡ 0 → ahead level (drop (ahead level (k ∷ l ∷ xs)) (k ∷ l ∷ xs)) ≡ 0
unfolding ahead
after_on level k l xs true e h =
    let z : ahead level (k ∷ l ∷ xs) ≡ 0 = ap (λ b. cond b 0 (2 + ahead level xs)) e in
    ap (λ n. ahead level (drop n (k ∷ l ∷ xs))) z ∙ z
after_on level k l xs false e h =
    let z : ahead level (k ∷ l ∷ xs) ≡ suc (suc (ahead level xs)) = ap (λ b. cond b 0 (2 + ahead level xs)) e ∙ omega arith in
    ap (λ n. ahead level (drop n (k ∷ l ∷ xs))) z ∙ h

-- a search from where one ended passes nothing
pub ahead_after : (level : ℕ) (xs : List ℕ) → ahead level (drop (ahead level xs) xs) ≡ 0
unfolding ahead
ahead_after level [] = refl
ahead_after level (x ∷ []) = refl
ahead_after level (k ∷ l ∷ xs) = after_on level k l xs (moves level k l) refl (ahead_after level xs)
