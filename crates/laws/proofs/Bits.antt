-- What the bits of a stretch come to: the phase that they lead to lists what the journal lists.
use Rattle.std.proofs.Common.{◌≡◌, ℕ, suc, ◌+◌, ◌-◌, ◌*◌, ◌%◌, ◌^◌, ◌<◌, ◌≤◌, Bool, true, false, cond, ◌&&◌, eqb, ltb, leb, List, [], ◌∷◌, ◌++◌, length, take, drop, set, replicate, Some, None, Option, sym, refl, ap, ◌∙◌, inl, inr, mod-eq_of_lt, arith}
use Rattle.std.proofs.Math.Nat.{mod_self, pow-succ', pow-le-pow_right}
use Rattle.std.proofs.Math.Dec.{eqb-suc-zero}
use Rattle.std.proofs.Math.Seq.{take-set-lt}
use Rattle.std.proofs.lemmas.Bool.{cond_both, eq-eqb, ne_eqb, le-leb, lt-ltb, le-ltb, cases_lt, and_from, and_right}
use Rattle.std.proofs.lemmas.List.{take-append-drop, length-set, length-take-le, length-replicate, take-replicate, drop_at, drop-drop, drop_all}
use Rattle.std.proofs.lemmas.Nat.{mul-le, mod_below}
use Rattle.rules.specs.declared.state.Instruction.{Instruction}
use Rattle.rules.specs.declared.state.Instruction.TheVariants as name
use Rattle.rules.specs.declared.state.Access.{Access}
use Rattle.rules.specs.declared.state.Access.TheVariants as access
use Rattle.rules.specs.declared.state.Region.{Region}
use Rattle.rules.specs.declared.state.Region.TheVariants as region
use Rattle.rules.specs.declared.state.Target.{Target}
use Rattle.rules.specs.declared.state.Target.TheVariants as target
use Rattle.rules.specs.declared.state.Got.{Got}
use Rattle.rules.specs.declared.state.Got.TheVariants.{Nothing, One, More}
use Rattle.rules.specs.declared.state.Page.{Page}
use Rattle.rules.specs.declared.state.Phase.{Phase}
use Rattle.rules.specs.declared.state.Phase.TheVariants.{Ignored, Enable, Disable, Status, Address, Output, Input}
use Rattle.rules.specs.Shape.{Shape, Lawful, ident_at, status_at, lock_at}
use Rattle.rules.specs.Tables.{to_number, kept, a10, page_open, status_open, ident_open, locks, page_of}
use Rattle.rules.specs.Rules.{filled, pushed, pushed_address, rolled, empty, begun, aimed, one_more, latched, some_byte, one_byte, head_byte, base, reach, allowed, counts, put_bytes}
use Rattle.laws.specs.Journal.{Entry, wren_done, wrdi_done, wrote, number_after, number, bytes_in, placed, whole_bytes, if_so, lists}

-- bits latched after the instruction was judged: runs and wel no longer matter
abbrev pub goes_on : ℕ → Phase → List Bool → Phase
goes_on ident ph [] = ph
goes_on ident ph (b ∷ bs) = goes_on ident (latched ident false false b ph) bs

-- what the rules list when s rises in a phase
abbrev pub entry : Shape → Bool → (st lk : ℕ) → Phase → List Entry
entry p w st lk Enable = wren_done ∷ []
entry p w st lk Disable = wrdi_done ∷ []
entry p w st lk (Input g) = if_so (counts p w st lk g) (wrote (base p g.target g.start) (take (reach p g.target) (put_bytes g.target g.bytes)))
entry p w st lk ph = []

pub goes_on_push : (ident : ℕ) (ph : Phase) (bs : List Bool) (b : Bool) → goes_on ident ph (bs ++ (b ∷ [])) ≡ latched ident false false b (goes_on ident ph bs)
goes_on_push ident ph [] b = refl
goes_on_push ident ph (x ∷ bs) b = goes_on_push ident (latched ident false false x ph) bs b

number_push : (acc : ℕ) (bs : List Bool) (b : Bool) → number_after acc (bs ++ (b ∷ [])) ≡ 2 * number_after acc bs + to_number b
number_push acc [] b = refl
number_push acc (x ∷ bs) b = number_push (2 * acc + to_number x) bs b

-- ---- numbers of bits

to_number_le : (b : Bool) → to_number b ≤ 1
to_number_le true = omega arith
to_number_le false = omega arith

double : (acc n x : ℕ) → x ≤ 1 → (2 * acc + x + 1) * n ≤ (acc + 1) * (2 * n)
double acc n x le =
    let m : (2 * acc + x + 1) * n ≤ (2 * (acc + 1)) * n = mul-le (2 * acc + x + 1) n (2 * (acc + 1)) n (omega arith) (omega arith) in
    omega arith

number_after_lt : (acc : ℕ) (bs : List Bool) → number_after acc bs < (acc + 1) * 2 ^ length bs
number_after_lt acc [] = omega arith
number_after_lt acc (b ∷ bs) =
    let i : number_after (2 * acc + to_number b) bs < (2 * acc + to_number b + 1) * 2 ^ length bs = number_after_lt (2 * acc + to_number b) bs in
    let le : (2 * acc + to_number b + 1) * 2 ^ length bs ≤ (acc + 1) * (2 * 2 ^ length bs) = double acc (2 ^ length bs) (to_number b) (to_number_le b) in
    rw pow-succ' (omega arith)

pub number_lt : (bs : List Bool) → number bs < 2 ^ length bs
number_lt bs = omega (arith, number_after_lt 0 bs)

-- a number of at most n bits
pub number_below : (bs : List Bool) (n : ℕ) → length bs ≤ n → number bs < 2 ^ n
number_below bs n h = omega (arith, number_lt bs, pow-le-pow_right {n = 2} (omega arith) {i = length bs} {j = n} h)

number_le : (acc : ℕ) (bs : List Bool) → acc ≤ number_after acc bs
number_le acc [] = omega arith
number_le acc (b ∷ bs) = omega (arith, number_le (2 * acc + to_number b) bs)

-- a register that rolls takes a number that fits; half is half of what it holds
abbrev pushes : (half acc : ℕ) → List Bool → ℕ
pushes half acc [] = acc
pushes half acc (b ∷ bs) = pushes half (2 * (acc % half) + to_number b) bs

pushes_is : (half acc : ℕ) (bs : List Bool) → number_after acc bs < 2 * half → pushes half acc bs ≡ number_after acc bs
pushes_is half acc [] lt = refl
pushes_is half acc (b ∷ bs) lt =
    let le = number_le (2 * acc + to_number b) bs in
    let e : acc % half ≡ acc = mod-eq_of_lt (omega arith) in
    rw e (pushes_is half (2 * acc + to_number b) bs lt)

-- the instruction's register
pub pushed_number : (bs : List Bool) (b : Bool) → length bs < 8 → pushed (number bs) b ≡ number (bs ++ (b ∷ []))
pushed_number bs b lt =
    let e : number bs % 128 ≡ number bs = mod-eq_of_lt (number_below bs 7 (omega arith)) in
    rw (e, number_push 0 bs b)

-- ---- phases that stay

-- what holds of both ways of a test
pub pick : {A : Type 0} (P : A → Type 0) (t : Bool) (x y : A) → P x → P y → P (elim t as (λ _. A) [ true ↦ x | false ↦ y ])
pick P true x y a b = a
pick P false x y a b = b

-- a phase that a latch leaves
pub goes_on_stays : (ident : ℕ) (ph : Phase) → ((b : Bool) → latched ident false false b ph ≡ ph) → (bs : List Bool) → goes_on ident ph bs ≡ ph
goes_on_stays ident ph stays [] = refl
goes_on_stays ident ph stays (b ∷ bs) = rw (stays b) (goes_on_stays ident ph stays bs)

-- ---- address bits

-- one more, not the last
address_more : (ident : ℕ) (acc : Access) (wel b : Bool) (n v : ℕ) → n < 23 →
    latched ident false false b (Address acc wel n v) ≡ Address acc wel (n + 1) (pushed_address v b)
address_more ident acc wel b n v lt = rw (lt-ltb n 23 lt, latched)

address_whole : (ident : ℕ) (acc : Access) (wel : Bool) (bs rest : List Bool) (n v : ℕ) → n + length bs ≡ 24 → n < 24 →
    goes_on ident (Address acc wel n v) (bs ++ rest) ≡ goes_on ident (aimed ident acc wel (pushes 8388608 v bs)) rest
address_whole ident acc wel [] rest n v e lt = absurd (omega arith)
address_whole ident acc wel (b ∷ []) rest n v e lt = let q : n ≡ 23 = omega arith in rw q
address_whole ident acc wel (b ∷ b' ∷ bs) rest n v e lt =
    ap (λ ph. goes_on ident ph (b' ∷ (bs ++ rest))) (address_more ident acc wel b n v (omega arith)) ∙
    (address_whole ident acc wel (b' ∷ bs) rest (n + 1) (pushed_address v b) (omega arith) (omega arith))

address_short : (ident : ℕ) (acc : Access) (wel : Bool) (bs : List Bool) (n v : ℕ) → n + length bs < 24 →
    goes_on ident (Address acc wel n v) bs ≡ Address acc wel (n + length bs) (pushes 8388608 v bs)
address_short ident acc wel [] n v lt = ap (λ m. Address acc wel m v) (omega arith)
address_short ident acc wel (b ∷ bs) n v lt =
    let e : n + 1 + length bs ≡ n + suc (length bs) = omega arith in
    rw (address_more ident acc wel b n v (omega arith), address_short ident acc wel bs (n + 1) (pushed_address v b) (omega arith), e)

-- fewer than 24 bits, and 24 with what follows
pub address_part : (ident : ℕ) (acc : Access) (wel : Bool) (rest : List Bool) → length rest < 24 →
    goes_on ident (Address acc wel 0 0) rest ≡ Address acc wel (length rest) (number rest)
address_part ident acc wel rest lt =
    let z : 0 + length rest ≡ length rest = omega arith in
    rw (address_short ident acc wel rest 0 0 (omega arith), z, pushes_is 8388608 0 rest (number_below rest 24 (omega arith)))

pub address_full : (ident : ℕ) (acc : Access) (wel : Bool) (rest : List Bool) → 24 ≤ length rest →
    goes_on ident (Address acc wel 0 0) rest ≡ goes_on ident (aimed ident acc wel (number (take 24 rest))) (drop 24 rest)
address_full ident acc wel rest ge =
    let l24 : length (take 24 rest) ≡ 24 = length-take-le 24 rest ge in
    ap (λ x. goes_on ident (Address acc wel 0 0) x) (sym (take-append-drop 24 rest)) ∙
    rw (address_whole ident acc wel (take 24 rest) (drop 24 rest) 0 0 (omega arith) (omega arith), pushes_is 8388608 0 (take 24 rest) (number_below (take 24 rest) 24 (omega arith)))

-- ---- data bits

abbrev sheet : Target → Bool → (start at last bit value : ℕ) → Got → List (Option ℕ) → Page
sheet t wel start at last bit value got bytes =
    record { target = t; wel = wel; start = start; at = at; last = last; bit = bit; value = value; got = got; bytes = bytes }

-- whole bytes, or some bits over
data Chunks : List Bool → Type 0 where
  done : Chunks []
  byte : (a b c d e f g h : Bool) {bs : List Bool} → Chunks bs → Chunks (a ∷ b ∷ c ∷ d ∷ e ∷ f ∷ g ∷ h ∷ bs)
  ends : (a : Bool) (bs : List Bool) → length bs < 7 → Chunks (a ∷ bs)

chunks : (bs : List Bool) → Chunks bs
chunks (a ∷ b ∷ c ∷ d ∷ e ∷ f ∷ g ∷ h ∷ bs) = byte a b c d e f g h (chunks bs)
chunks [] = done
chunks (a ∷ bs) = ends a bs (omega arith)

-- what whole bytes leave of the count and of a page
abbrev gots : Got → List ℕ → Got
gots g [] = g
gots g (b ∷ bs) = gots (one_more g) bs

abbrev rolls_in : List (Option ℕ) → (at last : ℕ) → List ℕ → List (Option ℕ)
rolls_in pg at last [] = pg
rolls_in pg at last (b ∷ bs) = rolls_in (set pg at (Some b)) (rolled at last) last bs

-- the first n places of a page that rolls at n - 1 are a page of n
pub rolled_is : (at last n : ℕ) → last + 1 ≡ n → at < n → rolled at last ≡ (at + 1) % n
rolled_is at last n e lt =
    elim (cases_lt at last) [
      | inl l ↦
          let small : (at + 1) % n ≡ at + 1 = mod-eq_of_lt (omega arith) in
          rw (lt-ltb at last l, small, rolled)
      | inr g ↦
          let q : at + 1 ≡ n = omega arith in
          rw (le-ltb at last g, q, mod_self n, rolled)
    ]

rolls_cut : (n last : ℕ) → last + 1 ≡ n → (bs : List ℕ) (pg : List (Option ℕ)) (at : ℕ) → n ≤ length pg → at < n →
    take n (rolls_in pg at last bs) ≡ placed (take n pg) at bs
rolls_cut n last e [] pg at le lt = refl
rolls_cut n last e (b ∷ bs) pg at le lt =
    let l : length (set pg at (Some b)) ≡ length pg = length-set pg at (Some b) in
    let len : length (take n pg) ≡ n = length-take-le n pg le in
    let r : rolled at last ≡ (at + 1) % n = rolled_is at last n e lt in
    let below : (at + 1) % n < n = mod_below (at + 1) n (omega arith) in
    rw (rolls_cut n last e bs (set pg at (Some b)) (rolled at last) (omega arith) (omega arith), take-set-lt n pg at (Some b) lt, r, len)

-- fewer than eight bits
input_more : (ident : ℕ) (t : Target) (wel b : Bool) (start at last k v : ℕ) (got : Got) (pg : List (Option ℕ)) → k < 7 →
    latched ident false false b (Input (sheet t wel start at last k v got pg)) ≡ Input (sheet t wel start at last (k + 1) (pushed v b) got pg)
input_more ident t wel b start at last k v got pg lt = rw (lt-ltb k 7 lt, filled)

input_part : (ident : ℕ) (t : Target) (wel : Bool) (start at last : ℕ) (got : Got) (pg : List (Option ℕ)) (bs : List Bool) (k v : ℕ) → k + length bs < 8 →
    goes_on ident (Input (sheet t wel start at last k v got pg)) bs ≡ Input (sheet t wel start at last (k + length bs) (pushes 128 v bs) got pg)
input_part ident t wel start at last got pg [] k v lt = ap (λ n. Input (sheet t wel start at last n v got pg)) (omega arith)
input_part ident t wel start at last got pg (b ∷ bs) k v lt =
    let e : k + 1 + length bs ≡ k + suc (length bs) = omega arith in
    rw (input_more ident t wel b start at last k v got pg (omega arith), input_part ident t wel start at last got pg bs (k + 1) (pushed v b) (omega arith), e)

-- some bits over
input_over : (ident : ℕ) (t : Target) (wel : Bool) (start at last : ℕ) (got : Got) (pg : List (Option ℕ)) (a : Bool) (bs : List Bool) → length bs < 7 →
    goes_on ident (Input (sheet t wel start at last 0 0 got pg)) (a ∷ bs) ≡ Input (sheet t wel start at last (suc (length bs)) (pushes 128 (pushed 0 a) bs) got pg)
input_over ident t wel start at last got pg a bs lt =
    let e : 1 + length bs ≡ suc (length bs) = omega arith in
    rw (input_part ident t wel start at last got pg bs 1 (pushed 0 a) (omega arith), e)

-- eight bits
abbrev of_eight : (a b c d e f g h : Bool) → ℕ
of_eight a b c d e f g h = number (a ∷ b ∷ c ∷ d ∷ e ∷ f ∷ g ∷ h ∷ [])

input_byte : (ident : ℕ) (t : Target) (wel : Bool) (start at last : ℕ) (got : Got) (pg : List (Option ℕ)) (a b c d e f g h : Bool) (bs : List Bool) →
    goes_on ident (Input (sheet t wel start at last 0 0 got pg)) (a ∷ b ∷ c ∷ d ∷ e ∷ f ∷ g ∷ h ∷ bs) ≡
    goes_on ident (Input (sheet t wel start (rolled at last) last 0 0 (one_more got) (set pg at (Some (of_eight a b c d e f g h))))) bs
input_byte ident t wel start at last got pg a b c d e f g h bs =
    rw (pushes_is 128 0 (a ∷ b ∷ c ∷ d ∷ e ∷ f ∷ g ∷ h ∷ []) (number_lt (a ∷ b ∷ c ∷ d ∷ e ∷ f ∷ g ∷ h ∷ [])))

-- where data bits lead
data Led (t : Target) (wel : Bool) (start at last : ℕ) (got : Got) (pg : List (Option ℕ)) (bs : List Bool) (ph : Phase) : Type 0 where
  whole : (at' : ℕ) → length bs % 8 ≡ 0 → ph ≡ Input (sheet t wel start at' last 0 0 (gots got (bytes_in bs)) (rolls_in pg at last (bytes_in bs))) → Led t wel start at last got pg bs ph
  ragged : (at' k v : ℕ) (got' : Got) (pg' : List (Option ℕ)) → (length bs % 8 ≡ 0 → ⊥) → ph ≡ Input (sheet t wel start at' last (suc k) v got' pg') → Led t wel start at last got pg bs ph

led : (ident : ℕ) (t : Target) (wel : Bool) (start last : ℕ) {bs : List Bool} → Chunks bs → (at : ℕ) (got : Got) (pg : List (Option ℕ)) →
    Led t wel start at last got pg bs (goes_on ident (Input (sheet t wel start at last 0 0 got pg)) bs)
led ident t wel start last done at got pg = whole at refl refl
led ident t wel start last (byte a b c d e f g h {bs} ch) at got pg =
    let one = input_byte ident t wel start at last got pg a b c d e f g h bs in
    elim (led ident t wel start last ch (rolled at last) (one_more got) (set pg at (Some (of_eight a b c d e f g h))))
    [ whole at' e8 q ↦ whole at' (omega arith) (one ∙ q) | ragged at' k v got' pg' ne q ↦ ragged at' k v got' pg' (λ z. ne (omega arith)) (one ∙ q) ]
led ident t wel start last (ends a bs lt) at got pg =
    ragged at (length bs) (pushes 128 (pushed 0 a) bs) got pg (λ z. omega arith) (input_over ident t wel start at last got pg a bs lt)

some_one : (xs : List ℕ) → (some_byte (gots One xs) ≡ true) × (some_byte (gots More xs) ≡ true)
some_one [] = (refl, refl)
some_one (x ∷ xs) = ((some_one xs).1, (some_one xs).1)

single_more : (xs : List ℕ) → one_byte (gots More xs) ≡ false
single_more [] = refl
single_more (x ∷ xs) = single_more xs

some_by : {bs : List Bool} → Chunks bs → length bs % 8 ≡ 0 → some_byte (gots Nothing (bytes_in bs)) ≡ whole_bytes bs
some_by done e = refl
some_by (byte a b c d e f g h {bs} ch) m =
    (some_one (bytes_in bs)).0 ∙ sym (and_from _ _ (le-leb 8 (length (a ∷ b ∷ c ∷ d ∷ e ∷ f ∷ g ∷ h ∷ bs)) (omega arith)) (eq-eqb _ 0 m))
some_by (ends a bs lt) m = absurd (omega arith)

-- ---- what a phase lists

module _ (p : Shape) (w : Bool) (st lk : ℕ) where
  abbrev laid_by : Target → List (Option ℕ) → List (Option ℕ)
  laid_by t pg = take (reach p t) (put_bytes t pg)

  status_none : (bs : List Bool) (k : ℕ) → entry p w st lk (goes_on p.ident (Status k) bs) ≡ []
  status_none [] k = refl
  status_none (b ∷ bs) k = status_none bs (rolled k 7)

  output_none : (r : Region) (bs : List Bool) (a k : ℕ) → entry p w st lk (goes_on p.ident (Output r a k) bs) ≡ []
  output_none r [] a k = refl
  output_none r (b ∷ bs) a k =
      pick (λ ph. entry p w st lk (goes_on p.ident ph bs) ≡ []) (ltb k 7) _ _ (output_none r bs a (k + 1)) (output_none r bs ((a + 1) % 4294967296) 0)

  -- a write with the latch clear
  disabled : (t : Target) (start last : ℕ) (bs : List Bool) (at k v : ℕ) (got : Got) (pg : List (Option ℕ)) →
      entry p w st lk (goes_on p.ident (Input (sheet t false start at last k v got pg)) bs) ≡ []
  disabled t start last [] at k v got pg = refl
  disabled t start last (b ∷ bs) at k v got pg =
      pick (λ g. entry p w st lk (goes_on p.ident (Input g) bs) ≡ []) (ltb k 7) _ _
      (disabled t start last bs at (k + 1) (pushed v b) got pg) (disabled t start last bs (rolled at last) 0 0 (one_more got) (set pg at (Some (pushed v b))))

  uneven : (t : Target) (start at last k v : ℕ) (got : Got) (pg : List (Option ℕ)) → entry p w st lk (Input (sheet t true start at last (suc k) v got pg)) ≡ []
  uneven t start at last k v got pg =
      ap (λ x. if_so (x && allowed p w st lk t start got (head_byte pg)) (wrote (base p t start) (laid_by t pg))) (eqb-suc-zero k)

  -- the paged targets: x is what they ask besides whole bytes, n the places of the page
  paged : (t : Target) (start at last n : ℕ) (pg : List (Option ℕ)) (x : Bool) → last + 1 ≡ n → n ≤ length pg → at < n →
      ((got : Got) (b : ℕ) → allowed p w st lk t start got b ≡ (some_byte got && x)) → ((q : List (Option ℕ)) → laid_by t q ≡ take n q) →
      {bs : List Bool} → Chunks bs →
      entry p w st lk (goes_on p.ident (Input (sheet t true start at last 0 0 Nothing pg)) bs) ≡ if_so (whole_bytes bs && x) (wrote (base p t start) (placed (take n pg) at (bytes_in bs)))
  paged t start at last n pg x en le lt cs ls {bs} ch =
      elim (led p.ident t true start last ch at Nothing pg) [
        | whole at' e q ↦
            let P : List (Option ℕ) = rolls_in pg at last (bytes_in bs) in
            rw (q, cs (gots Nothing (bytes_in bs)) (head_byte P), some_by ch e, ls P, rolls_cut n last en (bytes_in bs) pg at le lt)
        | ragged at' k v got' pg' ne q ↦
            rw (q, uneven t start at' last k v got' pg', and_right (leb 8 (length bs)) (eqb (length bs % 8) 0) (ne_eqb (length bs % 8) 0 ne))
      ]

  -- the targets of one byte: y is what they ask of it besides, l what they lay
  single : (t : Target) (start : ℕ) (y : ℕ → Bool) (l : ℕ → List (Option ℕ)) (o : Option ℕ) (os : List (Option ℕ)) →
      ((got : Got) (b : ℕ) → allowed p w st lk t start got b ≡ (one_byte got && y b)) → ((n : ℕ) → laid_by t (Some n ∷ os) ≡ l n) →
      {bs : List Bool} → Chunks bs →
      entry p w st lk (goes_on p.ident (Input (sheet t true start 0 0 0 0 Nothing (o ∷ os))) bs) ≡ if_so (eqb (length bs) 8 && y (number bs)) (wrote (base p t start) (l (number bs)))
  single t start y l o os cs ls done = rw (cs Nothing (head_byte (o ∷ os)))
  single t start y l o os cs ls (byte a b c d e f g h done) =
      let n : ℕ = of_eight a b c d e f g h in
      ap (entry p w st lk) (input_byte p.ident t true start 0 0 Nothing (o ∷ os) a b c d e f g h []) ∙ rw (cs One n, ls n)
  single t start y l o os cs ls (byte a b c d e f g h (byte a' b' c' d' e' f' g' h' {bs} ch)) =
      let n : ℕ = of_eight a b c d e f g h in
      let n' : ℕ = of_eight a' b' c' d' e' f' g' h' in
      let all : List Bool = a ∷ b ∷ c ∷ d ∷ e ∷ f ∷ g ∷ h ∷ a' ∷ b' ∷ c' ∷ d' ∷ e' ∷ f' ∷ g' ∷ h' ∷ bs in
      ap (entry p w st lk) (input_byte p.ident t true start 0 0 Nothing (o ∷ os) a b c d e f g h (a' ∷ b' ∷ c' ∷ d' ∷ e' ∷ f' ∷ g' ∷ h' ∷ bs)
      ∙ input_byte p.ident t true start 0 0 One (Some n ∷ os) a' b' c' d' e' f' g' h' bs)
      ∙ rw (ne_eqb (length all) 8 (omega arith))
      (elim (led p.ident t true start 0 ch 0 More (Some n' ∷ os)) [
        | whole at' ev q ↦
            let P : List (Option ℕ) = rolls_in (Some n' ∷ os) 0 0 (bytes_in bs) in
            rw (q, cs (gots More (bytes_in bs)) (head_byte P), single_more (bytes_in bs))
        | ragged at' k v got' pg' ne q ↦ rw q (uneven t start at' 0 k v got' pg')
      ])
  single t start y l o os cs ls (byte a b c d e f g h (ends a' bs lt)) =
      let all : List Bool = a ∷ b ∷ c ∷ d ∷ e ∷ f ∷ g ∷ h ∷ a' ∷ bs in
      let n : ℕ = of_eight a b c d e f g h in
      ap (entry p w st lk) (input_byte p.ident t true start 0 0 Nothing (o ∷ os) a b c d e f g h (a' ∷ bs) ∙ input_over p.ident t true start 0 0 One (Some n ∷ os) a' bs lt)
      ∙ rw (ne_eqb (length all) 8 (omega arith)) (uneven t start 0 0 (length bs) (pushes 128 (pushed 0 a') bs) One (Some n ∷ os))
  single t start y l o os cs ls (ends a bs lt) =
      ap (entry p w st lk) (input_over p.ident t true start 0 0 Nothing (o ∷ os) a bs lt)
      ∙ rw (ne_eqb (length (a ∷ bs)) 8 (omega arith)) (uneven t start 0 0 (length bs) (pushes 128 (pushed 0 a) bs) Nothing (o ∷ os))

  -- an instruction with an address, by what it does at each address
  by_address : (acc : Access) (wel : Bool) (f : ℕ → List Bool → List Entry) → ((a : ℕ) → f a [] ≡ []) →
      ((a : ℕ) (ds : List Bool) → entry p w st lk (goes_on p.ident (aimed p.ident acc wel a) ds) ≡ f a ds) →
      (rest : List Bool) → entry p w st lk (goes_on p.ident (Address acc wel 0 0) rest) ≡ f (number (take 24 rest)) (drop 24 rest)
  by_address acc wel f none each rest =
      elim (cases_lt (length rest) 24) [
        | inl lt ↦ rw (address_part p.ident acc wel rest lt, drop_all 24 rest (omega arith), none (number (take 24 rest)))
        | inr ge ↦ rw (address_full p.ident acc wel rest ge) (each (number (take 24 rest)) (drop 24 rest))
      ]

  silent : (acc : Access) (wel : Bool) → ((a : ℕ) (ds : List Bool) → entry p w st lk (goes_on p.ident (aimed p.ident acc wel a) ds) ≡ []) →
      (rest : List Bool) → entry p w st lk (goes_on p.ident (Address acc wel 0 0) rest) ≡ []
  silent acc wel each rest = by_address acc wel (λ a ds. []) (λ a. refl) each rest

  ident_read : (wel : Bool) (a : ℕ) (ds : List Bool) → entry p w st lk (goes_on p.ident (aimed p.ident access.ReadIdent wel a) ds) ≡ []
  ident_read wel a ds =
      pick (λ ph. entry p w st lk (goes_on p.ident ph ds) ≡ []) (a10 a) _ _ (output_none region.Lock ds a 0) (output_none region.Ident ds a 0)

  ident_disabled : (a : ℕ) (ds : List Bool) → entry p w st lk (goes_on p.ident (aimed p.ident access.WriteIdent false a) ds) ≡ []
  ident_disabled a ds =
      pick (λ ph. entry p w st lk (goes_on p.ident ph ds) ≡ []) (a10 a) _ _
      (disabled target.Lock a 0 ds 0 0 0 Nothing (replicate 256 None)) (disabled target.Ident a (p.ident - 1) ds (a % p.ident) 0 0 Nothing (replicate 256 None))

  -- what each write lists, by its address and its data bits
  abbrev written : ℕ → List Bool → List Entry
  written a ds = if_so (whole_bytes ds && page_open p st (page_of p a)) (wrote (page_of p a) (placed (replicate 256 None) (a % 256) (bytes_in ds)))

  abbrev ident_written : ℕ → List Bool → List Entry
  ident_written a ds = if_so (whole_bytes ds && ident_open st lk) (wrote (ident_at p) (placed (replicate p.ident None) (a % p.ident) (bytes_in ds)))

  abbrev locked : List Bool → List Entry
  locked ds = if_so (eqb (length ds) 8 && locks st (number ds)) (wrote (lock_at p) (Some 1 ∷ []))

  abbrev ident_or_lock : ℕ → List Bool → List Entry
  ident_or_lock a ds = cond (a10 a) (locked ds) (ident_written a ds)

  no_ident_or_lock : (a : ℕ) → ident_or_lock a [] ≡ []
  no_ident_or_lock a = cond_both (a10 a) (locked []) (ident_written a []) (λ es. es ≡ []) (λ _. refl) (λ _. refl)

  write_in : (a : ℕ) (ds : List Bool) → entry p w st lk (goes_on p.ident (aimed p.ident access.Write true a) ds) ≡ written a ds
  write_in a ds =
      let len : length (replicate {A = Option ℕ} 256 None) ≡ 256 = length-replicate {A = Option ℕ} 256 None in
      paged target.Array a (a % 256) 255 256 (replicate 256 None) (page_open p st (page_of p a)) (omega arith) (omega arith) (mod_below a 256 (omega arith)) (λ got b. refl) (λ q. refl) (chunks ds)

  ident_in : 0 < p.ident → p.ident ≤ 256 → (a : ℕ) (ds : List Bool) → entry p w st lk (goes_on p.ident (aimed p.ident access.WriteIdent true a) ds) ≡ ident_or_lock a ds
  ident_in pos few a ds =
      let len : length (replicate {A = Option ℕ} 256 None) ≡ 256 = length-replicate {A = Option ℕ} 256 None in
      elim (a10 a) as (λ z. entry p w st lk (goes_on p.ident (elim z as (λ _. Phase) [ true ↦ Input (empty target.Lock true a 0 0) | false ↦ Input (empty target.Ident true a (a % p.ident) (p.ident - 1)) ]) ds) ≡ cond z (locked ds) (ident_written a ds)) [
        | true ↦ single target.Lock a (λ b. locks st b) (λ b. Some 1 ∷ []) None (replicate 255 None) (λ got b. refl) (λ n. refl) (chunks ds)
        | false ↦
            paged target.Ident a (a % p.ident) (p.ident - 1) p.ident (replicate 256 None) (ident_open st lk) (omega arith) (omega arith) (mod_below a p.ident pos) (λ got b. refl) (λ q. refl) (chunks ds) ∙
            ap (λ x. if_so (whole_bytes ds && ident_open st lk) (wrote (ident_at p) (placed x (a % p.ident) (bytes_in ds)))) (take-replicate p.ident 256 None few)
      ]

  status_in : (ds : List Bool) → entry p w st lk (goes_on p.ident (begun true name.Wrsr) ds) ≡ if_so (eqb (length ds) 8 && status_open st w) (wrote (status_at p) (Some (kept (number ds)) ∷ []))
  status_in ds = single target.Status 0 (λ b. status_open st w) (λ b. Some (kept b) ∷ []) None (replicate 255 None) (λ got b. refl) (λ n. refl) (chunks ds)

-- a function of what follows the instruction, and its address
at_address : (f : ℕ → List Bool → List Entry) (eight rest : List Bool) → length eight ≡ 8 →
    f (number (take 24 rest)) (drop 24 rest) ≡ f (number (take 24 (drop 8 (eight ++ rest)))) (drop 32 (eight ++ rest))
at_address f eight rest e = rw (← drop-drop 24 8 (eight ++ rest), drop_at eight rest 8 e)

pub ident_size : (p : Shape) → Lawful p → (0 < p.ident) × (p.ident ≤ 256)
ident_size p law = elim law.page [ inl e ↦ (omega arith, omega arith) | inr e ↦ (omega arith, omega arith) ]

-- what a stretch lists when s rises, by its instruction and its bits
pub stretch_lists : (p : Shape) → Lawful p → (w : Bool) (st lk : ℕ) (wel : Bool) (i : Instruction) (eight rest : List Bool) → length eight ≡ 8 →
    entry p w st lk (goes_on p.ident (begun wel i) rest) ≡ lists p w st lk wel i (eight ++ rest)
stretch_lists p law w st lk wel name.Wren eight rest e = ap (entry p w st lk) (goes_on_stays p.ident Enable (λ _. refl) rest)
stretch_lists p law w st lk wel name.Wrdi eight rest e = ap (entry p w st lk) (goes_on_stays p.ident Disable (λ _. refl) rest)
stretch_lists p law w st lk wel name.Rdsr eight rest e = status_none p w st lk rest 0
stretch_lists p law w st lk true name.Wrsr eight rest e =
    rw (drop_at eight rest 8 e) (status_in p w st lk rest)
stretch_lists p law w st lk false name.Wrsr eight rest e = disabled p w st lk target.Status 0 0 rest 0 0 0 Nothing (replicate 256 None)
stretch_lists p law w st lk wel name.Read eight rest e = silent p w st lk access.Read wel (λ a ds. output_none p w st lk region.Array ds a 0) rest
stretch_lists p law w st lk true name.Write eight rest e =
    by_address p w st lk access.Write true (written p w st lk) (λ a. refl) (write_in p w st lk) rest ∙ at_address (written p w st lk) eight rest e
stretch_lists p law w st lk false name.Write eight rest e =
    silent p w st lk access.Write false (λ a ds. disabled p w st lk target.Array a 255 ds (a % 256) 0 0 Nothing (replicate 256 None)) rest
stretch_lists p law w st lk wel name.RdidRdls eight rest e = silent p w st lk access.ReadIdent wel (ident_read p w st lk wel) rest
stretch_lists p law w st lk true name.WridLid eight rest e =
    by_address p w st lk access.WriteIdent true (ident_or_lock p w st lk) (no_ident_or_lock p w st lk) (ident_in p w st lk (ident_size p law).0 (ident_size p law).1) rest ∙
    at_address (ident_or_lock p w st lk) eight rest e
stretch_lists p law w st lk false name.WridLid eight rest e = silent p w st lk access.WriteIdent false (ident_disabled p w st lk) rest
stretch_lists p law w st lk wel name.Rduid eight rest e = silent p w st lk access.ReadUnique wel (λ a ds. output_none p w st lk region.Unique ds a 0) rest
stretch_lists p law w st lk wel name.Unknown eight rest e = ap (entry p w st lk) (goes_on_stays p.ident Ignored (λ _. refl) rest)

pub stretch_ignored : (p : Shape) (w : Bool) (st lk : ℕ) (rest : List Bool) → entry p w st lk (goes_on p.ident Ignored rest) ≡ []
stretch_ignored p w st lk rest = ap (entry p w st lk) (goes_on_stays p.ident Ignored (λ _. refl) rest)
