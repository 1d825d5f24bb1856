-- How a text is laid, and how texts laid one after another make one.
use Rattle.std.proofs.Common.{◌≡◌, ℕ, suc, ◌+◌, ◌≤◌, min, List, [], ◌∷◌, ◌++◌, length, take, drop, sym, refl, ap, ◌∙◌, arith}
use borrow.Rule.Slice.PartMut.{put_mid}
use Rattle.std.proofs.lemmas.List.{append-nil, drop_all, take_all, length-append, length-take, length-drop}
use Rattle.text.specs.Text.{overlaid, laid, fitted}

-- the bytes that find room, and what lies past them
pub overlaid_cut : (out text : List ℕ) (k : ℕ) → k ≡ min (length text) (length out) → take k text ++ drop k out ≡ overlaid out text
overlaid_cut [] [] k e = rw e refl
overlaid_cut [] (t ∷ ts) k e = let z : k ≡ 0 = omega arith in rw z refl
overlaid_cut (b ∷ bs) [] k e = let z : k ≡ 0 = omega arith in rw z refl
overlaid_cut (b ∷ bs) (t ∷ ts) k e =
    let s : k ≡ suc (min (length ts) (length bs)) = omega arith in
    rw s (ap (λ xs. t ∷ xs) (overlaid_cut bs ts (min (length ts) (length bs)) refl))

-- what a copy of those bytes to their place leaves
pub laid_cut : (out : List ℕ) (at : ℕ) (text ys : List ℕ) (i k n : ℕ) → ys ≡ take i text → i ≡ n → k ≡ n → n ≡ fitted out at text → put_mid at k out ys ≡ laid out at text
laid_cut out at text ys i k n e g h f =
    let m : n ≡ min (length text) (length (drop at out)) = f ∙ ap (λ j. min (length text) j) (sym (length-drop at out)) in
    ap (λ j. put_mid at j out ys) h ∙ ap (λ zs. take at out ++ (zs ++ drop n (drop at out))) (e ∙ ap (λ j. take j text) g) ∙ ap (λ zs. take at out ++ zs) (overlaid_cut (drop at out) text n m)

-- past the end nothing changes
pub laid_past : (out : List ℕ) (at : ℕ) (text : List ℕ) → length out ≤ at → out ≡ laid out at text
laid_past out at text h =
    sym (ap (λ zs. take at out ++ overlaid zs text) (drop_all at out h) ∙ ap (λ zs. take at out ++ zs) (drop_all (length text) [] (omega arith)) ∙ append-nil (take at out) ∙ take_all at out h)

-- no text changes nothing
pub overlaid_none : (out : List ℕ) → overlaid out [] ≡ out
overlaid_none [] = refl
overlaid_none (b ∷ bs) = refl

-- a text laid behind another
pub overlaid_more : (b t u : List ℕ) (k : ℕ) → k ≡ min (length t) (length b) → laid (overlaid b t) k u ≡ overlaid b (t ++ u)
overlaid_more [] [] u k e = let z : k ≡ 0 = omega arith in rw z refl
overlaid_more [] (t ∷ ts) u k e = let z : k ≡ 0 = omega arith in rw z (drop_all (length u) [] (omega arith))
overlaid_more (b ∷ bs) [] u k e = let z : k ≡ 0 = omega arith in rw z refl
overlaid_more (b ∷ bs) (t ∷ ts) u k e =
    let s : k ≡ suc (min (length ts) (length bs)) = omega arith in
    rw s (ap (λ xs. t ∷ xs) (overlaid_more bs ts u (min (length ts) (length bs)) refl))

pub length_overlaid : (out text : List ℕ) → length (overlaid out text) ≡ length out
length_overlaid out text = simp (length-append, length-take, length-drop) (omega arith)

-- how far two texts reach
pub fitted_more : (b t u : List ℕ) (k : ℕ) → k ≡ min (length t) (length b) → k + fitted (overlaid b t) k u ≡ min (length (t ++ u)) (length b)
fitted_more b t u k e = omega (arith, length_overlaid b t, length-append t u)
