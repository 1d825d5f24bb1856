-- The line of a stretch, by its word and its length.
use Rattle.std.proofs.Common.{◌≡◌, ℕ, ◌+◌, ◌^◌, ◌<◌, ◌≤◌, min, List, ◌++◌, length, take, drop, decimal, refl, ap, ◌∙◌, arith}
use Rattle.std.proofs.lemmas.Fmt.{length-decimal-le}
use Rattle.std.proofs.lemmas.List.{length-append, take_at, take_all}
use Rattle.text.specs.Text.{overlaid, Fills}
use Rattle.listing.specs.Listing.{row_of, last_line}

-- a number of 64 bits has at most twenty digits
decimal_short : (n : ℕ) → n < 2 ^ 64 → length (decimal n) ≤ 20
decimal_short n h = length-decimal-le 20 n (omega arith) (omega arith) h

pub row_short : (word : List ℕ) (m n : ℕ) → m < 2 ^ 64 → n < 2 ^ 64 → length (row_of word m n) ≤ length word + 43
row_short word m n h k =
    let d = decimal_short m h in
    let e = decimal_short n k in
    simp length-append (omega arith)

pub last_short : (m n : ℕ) → m < 2 ^ 64 → n < 2 ^ 64 → length (last_line m n) ≤ 64
last_short m n h k =
    let d = decimal_short m h in
    let e = decimal_short n k in
    simp length-append (omega arith)

-- the front of a buffer that a text was laid into
front_text : (b t : List ℕ) (n : ℕ) → length t ≤ length b → n ≡ min (length t) (length b) → take n (overlaid b t) ≡ t
front_text b t n h e =
    let f : n ≡ length t = omega arith in
    ap (λ k. take k (overlaid b t)) f
    ∙ ap (λ u. take (length t) (u ++ drop (length t) b)) (take_all (length b) t h)
    ∙ take_at t (drop (length t) b) (length t) refl

-- what a push of that front adds
pub pushed : (out out' b t now : List ℕ) (n : ℕ) → out' ≡ out ++ take n now → Fills b t n now → length t ≤ 64 → length b ≡ 64 → out' ≡ out ++ t
pushed out out' b t now n e f h l =
    e ∙ ap (λ u. out ++ u) (ap (take n) f.buffer ∙ front_text b t n (omega arith) f.wrote)
