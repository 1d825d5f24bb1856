-- The bytes of a write put one by one.
use Rattle.std.proofs.Common.{◌≡◌, ℕ, zero, suc, ◌+◌, ◌<◌, List, [], ◌∷◌, length, get_or, take, set, Some, None, Option, sym, refl, ap, ◌∙◌, zero-add, add-one, arith}
use Rattle.rules.specs.Tables.{or}
use Rattle.rules.specs.Rules.{over, laid}

pub over_nil : (xs : List ℕ) → over xs [] ≡ xs
over_nil [] = refl
over_nil (x ∷ xs) = refl

pub over_some : (xs : List ℕ) (page : List (Option ℕ)) (i b : ℕ) → i < length page → get_or page i None ≡ Some b → over xs (take (suc i) page) ≡ set (over xs (take i page)) i b
over_some [] page i b h e = refl
over_some (x ∷ xs) [] i b h e = absurd (omega arith)
over_some (x ∷ xs) (o ∷ page) zero b h e = ap (λ o. or o x ∷ over xs []) e ∙ ap (λ ys. b ∷ ys) (over_nil xs)
over_some (x ∷ xs) (o ∷ page) (suc i) b h e = ap (λ ys. or o x ∷ ys) (over_some xs page i b (omega arith) e)

pub over_none : (xs : List ℕ) (page : List (Option ℕ)) (i : ℕ) → get_or page i None ≡ None → over xs (take (suc i) page) ≡ over xs (take i page)
over_none [] page i e = refl
over_none (x ∷ xs) [] zero e = refl
over_none (x ∷ xs) [] (suc i) e = refl
over_none (x ∷ xs) (o ∷ page) zero e = ap (λ o. or o x ∷ over xs []) e ∙ ap (λ ys. x ∷ ys) (over_nil xs)
over_none (x ∷ xs) (o ∷ page) (suc i) e = ap (λ ys. or o x ∷ ys) (over_none xs page i e)

laid_some' : (xs : List ℕ) (at : ℕ) (page : List (Option ℕ)) (i b : ℕ) → i < length page → get_or page i None ≡ Some b → laid xs at (take (suc i) page) ≡ set (laid xs at (take i page)) (at + i) b
laid_some' xs zero page i b h e = over_some xs page i b h e ∙ ap (λ k. set (over xs (take i page)) k b) (sym (zero-add i))
laid_some' [] (suc n) page i b h e = refl
laid_some' (x ∷ xs) (suc n) page i b h e =
    let q : suc (n + i) ≡ suc n + i = omega arith in
    ap (λ ys. x ∷ ys) (laid_some' xs n page i b h e) ∙ ap (λ k. set (x ∷ laid xs n (take i page)) k b) q

laid_none' : (xs : List ℕ) (at : ℕ) (page : List (Option ℕ)) (i : ℕ) → get_or page i None ≡ None → laid xs at (take (suc i) page) ≡ laid xs at (take i page)
laid_none' xs zero page i e = over_none xs page i e
laid_none' [] (suc n) page i e = refl
laid_none' (x ∷ xs) (suc n) page i e = ap (λ ys. x ∷ ys) (laid_none' xs n page i e)

pub laid_some : (xs : List ℕ) (at : ℕ) (page : List (Option ℕ)) (i b : ℕ) → i < length page → get_or page i None ≡ Some b → laid xs at (take (i + 1) page) ≡ set (laid xs at (take i page)) (at + i) b
laid_some xs at page i b h e = ap (λ k. laid xs at (take k page)) (add-one i) ∙ laid_some' xs at page i b h e

pub laid_none : (xs : List ℕ) (at : ℕ) (page : List (Option ℕ)) (i : ℕ) → get_or page i None ≡ None → laid xs at (take (i + 1) page) ≡ laid xs at (take i page)
laid_none xs at page i e = ap (λ k. laid xs at (take k page)) (add-one i) ∙ laid_none' xs at page i e

pub laid_nil : (xs : List ℕ) (at : ℕ) → laid xs at [] ≡ xs
laid_nil xs zero = over_nil xs
laid_nil [] (suc n) = refl
laid_nil (x ∷ xs) (suc n) = ap (λ ys. x ∷ ys) (laid_nil xs n)

length_over : (xs : List ℕ) (page : List (Option ℕ)) → length (over xs page) ≡ length xs
length_over [] page = refl
length_over (x ∷ xs) [] = refl
length_over (x ∷ xs) (o ∷ page) = ap suc (length_over xs page)

pub length_laid : (xs : List ℕ) (at : ℕ) (page : List (Option ℕ)) → length (laid xs at page) ≡ length xs
length_laid xs zero page = length_over xs page
length_laid [] (suc n) page = refl
length_laid (x ∷ xs) (suc n) page = ap suc (length_laid xs n page)
