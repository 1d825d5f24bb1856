-- The digits of a number in decimal.
use Rattle.std.proofs.Common.{◌≡◌, ℕ, ◌+◌, ◌-◌, ◌*◌, ◌/◌, ◌%◌, ◌^◌, ◌<◌, ◌≤◌, List, [], ◌∷◌, ◌++◌, length, get_or, decimal, sym, refl, ap, ◌∙◌, inl, inr, mod-eq_of_lt, pow-suc, div-one, add-one, arith}
use native.Mathlib.Nat.{pow-succ', div-div-eq-div-mul}
use Rattle.std.proofs.lemmas.Fmt.{decimal_by_steps}
use Rattle.std.proofs.lemmas.Bool.{cases_lt}
use Rattle.std.proofs.lemmas.List.{length_push, get_or_append_left, get_or_push}
use Rattle.text.specs.Text.{DigitRule}

-- a place more is ten times as much
pub power_more : (w : ℕ) → 10 ^ (w + 1) ≡ 10 ^ w * 10
power_more w = ap (λ k. 10 ^ k) (add-one w) ∙ pow-suc 10 w

-- the digits of what is left without the last one
pub front_digit : (n j i : ℕ) → i ≡ j + 1 → n / 10 / 10 ^ j ≡ n / 10 ^ i
front_digit n j i e =
    div-div-eq-div-mul n 10 (10 ^ j) ∙ ap (λ x. n / x) (sym (pow-succ' 10 j) ∙ ap (λ k. 10 ^ k) (sym (e ∙ add-one j)))

-- the last place
pub last_digit : (n i : ℕ) → i ≡ 0 → n ≡ n / 10 ^ i
last_digit n i e = sym (ap (λ k. n / 10 ^ k) e ∙ div-one n)

-- no zero leads after one digit more
pub lead_more : (n w i : ℕ) → i ≡ w → 10 ≤ n → 0 < w → (1 < w → 10 ^ (w - 1) ≤ n / 10) → 10 ^ i ≤ n
lead_more n w i e h s l =
    elim (cases_lt 1 w) [
      | inl a ↦
          let p : 10 ^ i ≡ 10 ^ (w - 1) * 10 = let z : i ≡ w - 1 + 1 = omega arith in ap (λ k. 10 ^ k) z ∙ power_more (w - 1) in
          omega (arith, p, l a)
      | inr a ↦ let z : i ≡ 1 = omega arith in rw z h
    ]

-- the rule, with the number of digits under a name
pub rule_at : (n : ℕ) (bs : List ℕ) (w : ℕ) → length bs ≡ w → 0 < w → n < 10 ^ w → (1 < w → 10 ^ (w - 1) ≤ n) → ((k : ℕ) → k < w → get_or bs k 0 ≡ 48 + n / 10 ^ (w - 1 - k) % 10) → DigitRule n bs
rule_at n bs w e s r l d = record { some = rw e s; room = rw e r; lead = rw e l; digit = rw e d }

pub rule_one : (n : ℕ) → n < 10 → DigitRule n ((48 + n) ∷ [])
rule_one n h =
    rule_at n ((48 + n) ∷ []) 1 refl (omega arith) (omega arith) (λ l. omega arith)
    (λ k l. let z : k ≡ 0 = omega arith in
    rw z (ap (λ x. 48 + x) (sym (mod-eq_of_lt h) ∙ ap (λ x. x % 10) (last_digit n 0 refl))))

pub rule_more : (n : ℕ) (ds : List ℕ) → 10 ≤ n → DigitRule (n / 10) ds → DigitRule n (ds ++ ((48 + n % 10) ∷ []))
rule_more n ds h d =
    rule_at n (ds ++ ((48 + n % 10) ∷ [])) (length ds + 1) (length_push ds (48 + n % 10)) (omega arith)
    (omega (arith, power_more (length ds), d.room))
    (λ _. lead_more n (length ds) (length ds + 1 - 1) (omega arith) h d.some d.lead)
    (λ k l. elim (cases_lt k (length ds)) [
      | inl a ↦ get_or_append_left ds _ 0 k a ∙ d.digit k a ∙ ap (λ x. 48 + x % 10) (front_digit n (length ds - 1 - k) (length ds + 1 - 1 - k) (omega arith))
      | inr a ↦ get_or_push ds (48 + n % 10) 0 k (omega arith) ∙ ap (λ x. 48 + x % 10) (last_digit n (length ds + 1 - 1 - k) (omega arith))
    ])

-- what `decimal` writes goes by the rule
pub decimal_rule : (n : ℕ) → n < 2 ^ 64 → DigitRule n (decimal n)
decimal_rule n h = decimal_by_steps DigitRule rule_one rule_more n h
