-- Rows of an image and of a pair: their lengths and places, and what a call on a part is for the whole.
use Rattle.std.proofs.Common.{◌≡◌, ℕ, ◌+◌, ◌-◌, ◌%◌, ◌<◌, ◌≤◌, min, List, ◌++◌, map, length, get_or, take, set, Ok, Err, Result, sym, ap, ◌∙◌, mod-eq_of_lt, arith, length-append, drop-set-lt}
use lib.Seq.{take-set-lt}
use Rattle.std.proofs.lemmas.List.{length-take, length-map, get_or-take, get_or-map, map-set, set-append_left, set-append_right, get_or_append_left, get_or-append_right}
use Rattle.std.proofs.lemmas.Result.{MatchResult-weaker}
use Rattle.backing.specs.declared.fault.Fault.{Fault}
use Rattle.backing.specs.declared.refusal.Refusal.TheVariants.{PastRow}
use Rattle.backing.specs.Faults.{number, position, raised, Shows}
use Rattle.backing.specs.Rows.{capped, imaged, beyond, paired, Reads, Writes}

pub past_shows : (e : Fault) → e ≡ raised PastRow 0 → Shows 15 5 0 e
past_shows e q = (ap (λ f. number f.refusal) q, ap (λ f. position f.layer) q, ap (λ f. f.«record») q)

pub length_imaged : (xs : List ℕ) → length (imaged xs) ≡ min 1048576 (length xs)
unfolding imaged
length_imaged xs = length-map (take 1048576 xs) (λ b. b % 256) ∙ length-take 1048576 xs

pub get_or_imaged : (xs : List ℕ) (i b : ℕ) → i < 1048576 → i < length xs → b ≡ get_or xs i 0 → b < 256 → b ≡ get_or (imaged xs) i 0
unfolding imaged
get_or_imaged xs i b h k e small =
    let l : i < length (take 1048576 xs) = omega (arith, length-take 1048576 xs) in
    sym (get_or-map (λ b. b % 256) (take 1048576 xs) i 0 0 l ∙ ap (λ b. b % 256) (get_or-take 1048576 xs i 0 h ∙ sym e) ∙ mod-eq_of_lt small)

pub set_imaged : (xs : List ℕ) (i b : ℕ) → i < 1048576 → b < 256 → imaged (set xs i b) ≡ set (imaged xs) i b
unfolding imaged
set_imaged xs i b h small =
    ap (map (λ b. b % 256)) (take-set-lt 1048576 xs i b h)
    ∙ map-set (λ b. b % 256) (take 1048576 xs) i b
    ∙ ap (λ v. set (map (λ b. b % 256) (take 1048576 xs)) i v) (mod-eq_of_lt small)

pub set_beyond : (xs : List ℕ) (i b : ℕ) → i < 1048576 → beyond (set xs i b) ≡ beyond xs
unfolding beyond
set_beyond xs i b h = drop-set-lt 1048576 xs i b h

pub length_paired : (xs ys : List ℕ) → length (paired xs ys) ≡ min 1048576 (length xs + length ys)
unfolding capped
length_paired xs ys = length-take 1048576 (xs ++ ys) ∙ ap (λ n. min 1048576 n) (length-append xs ys)

get_or_left : (xs ys : List ℕ) (i : ℕ) → i < 1048576 → i < length xs → get_or (paired xs ys) i 0 ≡ get_or xs i 0
unfolding capped
get_or_left xs ys i h l = get_or-take 1048576 (xs ++ ys) i 0 h ∙ get_or_append_left xs ys 0 i l

get_or_right : (xs ys : List ℕ) (n i : ℕ) → i < 1048576 → length xs ≡ n → n ≤ i → get_or (paired xs ys) i 0 ≡ get_or ys (i - n) 0
unfolding capped
get_or_right xs ys n i h e l = get_or-take 1048576 (xs ++ ys) i 0 h ∙ get_or-append_right xs ys n i 0 e l

set_left : (xs ys : List ℕ) (i b : ℕ) → i < 1048576 → i < length xs → paired (set xs i b) ys ≡ set (paired xs ys) i b
unfolding capped
set_left xs ys i b h l = ap capped (sym (set-append_left xs ys i b l)) ∙ take-set-lt 1048576 (xs ++ ys) i b h

set_right : (xs ys : List ℕ) (n i b : ℕ) → i < 1048576 → length xs ≡ n → n ≤ i → paired xs (set ys (i - n) b) ≡ set (paired xs ys) i b
unfolding capped
set_right xs ys n i b h e l = ap capped (sym (set-append_right xs ys n i b e l)) ∙ take-set-lt 1048576 (xs ++ ys) i b h

-- a call on one side of a pair, below the cap, is that call on the pair
pub reads_left : (xs ys : List ℕ) (i : ℕ) (r : Result ℕ Fault) → i < 1048576 → i < length xs → Reads xs i r → Reads (paired xs ys) i r
reads_left xs ys i r h l R =
    MatchResult-weaker r R
    (λ b p. (omega (arith, length_paired xs ys), p.1 ∙ sym (get_or_left xs ys i h l)))
    (λ e p. (omega arith, p.1))

pub reads_right : (xs ys : List ℕ) (n i : ℕ) (r : Result ℕ Fault) → i < 1048576 → length xs ≡ n → n ≤ i → Reads ys (i - n) r → Reads (paired xs ys) i r
reads_right xs ys n i r h e l R =
    MatchResult-weaker r R
    (λ b p. (omega (arith, length_paired xs ys), p.1 ∙ sym (get_or_right xs ys n i h e l)))
    (λ f p. (omega (arith, length_paired xs ys), p.1))

pub writes_left : (xs xs' ys : List ℕ) (i b : ℕ) (r : Result (Unit {0}) Fault) → i < 1048576 → i < length xs → Writes xs xs' i b r → Writes (paired xs ys) (paired xs' ys) i b r
writes_left xs xs' ys i b r h l W =
    MatchResult-weaker r W
    (λ _ p. (omega (arith, length_paired xs ys), ap (λ zs. paired zs ys) p.1 ∙ set_left xs ys i b h l))
    (λ f p. (omega arith, p.1, ap (λ zs. paired zs ys) p.2))

pub writes_right : (xs ys ys' : List ℕ) (n i b : ℕ) (r : Result (Unit {0}) Fault) → i < 1048576 → length xs ≡ n → n ≤ i → Writes ys ys' (i - n) b r → Writes (paired xs ys) (paired xs ys') i b r
writes_right xs ys ys' n i b r h e l W =
    MatchResult-weaker r W
    (λ _ p. (omega (arith, length_paired xs ys), ap (λ zs. paired xs zs) p.1 ∙ set_right xs ys n i b h e l))
    (λ f p. (omega (arith, length_paired xs ys), p.1, ap (λ zs. paired xs zs) p.2))

-- a put on one side of a pair, below the cap, leaves what lies past it
pub past_left : (xs xs' ys : List ℕ) (i b : ℕ) (r : Result (Unit {0}) Fault) → i < 1048576 → i < length xs → Writes xs xs' i b r → beyond (xs' ++ ys) ≡ beyond (xs ++ ys)
past_left xs xs' ys i b (Ok u) h l W = ap (λ zs. beyond (zs ++ ys)) W.1 ∙ ap beyond (sym (set-append_left xs ys i b l)) ∙ set_beyond (xs ++ ys) i b h
past_left xs xs' ys i b (Err e) h l W = ap (λ zs. beyond (zs ++ ys)) W.2

pub past_right : (xs ys ys' : List ℕ) (n i b : ℕ) (r : Result (Unit {0}) Fault) → i < 1048576 → length xs ≡ n → n ≤ i → Writes ys ys' (i - n) b r → beyond (xs ++ ys') ≡ beyond (xs ++ ys)
past_right xs ys ys' n i b (Ok u) h e l W = ap (λ zs. beyond (xs ++ zs)) W.1 ∙ ap beyond (sym (set-append_right xs ys n i b e l)) ∙ set_beyond (xs ++ ys) i b h
past_right xs ys ys' n i b (Err q) h e l W = ap (λ zs. beyond (xs ++ zs)) W.2

-- past the cap a pair has no place
pub past_paired : (xs ys : List ℕ) (i : ℕ) → 1048576 ≤ i → length (paired xs ys) ≤ i
past_paired xs ys i h = omega (arith, length_paired xs ys)
