-- The rows over a delivered part's cells.
use Rattle.std.proofs.Common.{◌≡◌, ℕ, ◌%◌, ◌≤◌, List, ◌++◌, map, length, refl, ap, ◌∙◌, arith, length-append}
use Rattle.std.proofs.lemmas.List.{map-append, take_all}
use Rattle.backing.specs.Rows.{capped, imaged, paired}
use Rattle.laws.specs.Bench.{delivered}
use Rattle.comparing.specs.Running.{ran_on, ran}

-- an image that is not too long
imaged_all : (xs : List ℕ) → length xs ≤ 1048576 → imaged xs ≡ map (λ b. b % 256) xs
unfolding imaged
imaged_all xs h = ap (map (λ b. b % 256)) (take_all 1048576 xs h)

delivered_length : length delivered ≡ 4370
delivered_length = refl

delivered_bytes : map (λ b. b % 256) delivered ≡ delivered
delivered_bytes = refl

image_row : imaged delivered ≡ delivered
image_row = imaged_all delivered (omega (arith, delivered_length)) ∙ delivered_bytes

pair_row : (xs ys : List ℕ) → delivered ≡ xs ++ ys → paired (imaged xs) (imaged ys) ≡ delivered
unfolding capped
pair_row xs ys e =
    let l : length xs ≤ 1048576 = omega (arith, length-append xs ys, ap length e, delivered_length) in
    let m : length ys ≤ 1048576 = omega (arith, length-append xs ys, ap length e, delivered_length) in
    rw (imaged_all xs l, imaged_all ys m, ← map-append (λ b. b % 256) xs ys, ← e, delivered_bytes) (take_all 1048576 delivered (omega (arith, delivered_length)))

ran_delivered : (records : List ℕ) (room : ℕ) → ran_on delivered records room ≡ ran records room
unfolding ran_on ran
ran_delivered records room = refl

pub ran_image : (xs records : List ℕ) (room : ℕ) → xs ≡ delivered → ran_on (imaged xs) records room ≡ ran records room
ran_image xs records room e = rw (e, image_row) (ran_delivered records room)

pub ran_pair : (xs ys records : List ℕ) (room : ℕ) → delivered ≡ xs ++ ys → ran_on (paired (imaged xs) (imaged ys)) records room ≡ ran records room
ran_pair xs ys records room e = rw (pair_row xs ys e) (ran_delivered records room)

-- delivered cells in two parts, each known as another list
pub halves : (cells low high xs ys : List ℕ) → cells ≡ delivered → cells ≡ low ++ high → xs ≡ low → ys ≡ high → delivered ≡ xs ++ ys
halves cells low high xs ys e f h k = cc
