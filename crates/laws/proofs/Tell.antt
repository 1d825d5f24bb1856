-- Two chips at rest that answer every list of events alike show the same.
use Rattle.std.proofs.Common.{◌≡◌, ℕ, zero, suc, ◌+◌, ◌-◌, ◌/◌, ◌%◌, ◌^◌, ◌<◌, ◌≤◌, Bool, true, false, ◌&&◌, T, eqb, ltb, List, [], ◌∷◌, ◌++◌, length, get_or, Some, None, Ok, Option, Result, sym, refl, ap, ◌∙◌, subst, subst₂, inl, inr, mod-eq_of_lt, arith, lit<}
use Rattle.std.proofs.lemmas.Bool.{cases_eq, cases_lt, eqb-true, ltb-false}
use Rattle.std.proofs.lemmas.Nat.{pow_below}
use Rattle.std.proofs.lemmas.Nat.Bits.{same_from_bits_below}
use Rattle.backing.specs.Rows.{Bytes}
use Rattle.backing.specs.declared.refusal.Refusal.{Refusal}
use Rattle.backing.specs.declared.refusal.Refusal.TheVariants.{ShortBacking, StatusBits, LockValue}
use Rattle.backing.specs.declared.fault.Fault.{Fault}
use Rattle.rules.specs.declared.state.Level.TheVariants.{Float}
use Rattle.rules.specs.declared.state.Event.TheVariants.{Clock, Data, Protect, Hold}
use Rattle.rules.specs.declared.state.Region.{Region}
use Rattle.rules.specs.declared.state.Region.TheVariants as region
use Rattle.rules.specs.declared.state.Pins.{Pins}
use Rattle.rules.specs.declared.state.Phase.{Phase}
use Rattle.rules.specs.declared.state.Phase.TheVariants.{Deselected, Status, Output}
use Rattle.rules.specs.Shape.{Shape, Lawful, array_len, unique_at, status_at, lock_at, cell_count}
use Rattle.rules.specs.Tables.{there, level_number, level_of, bit_of, kept, unfit, status_byte, decoded}
use Rattle.rules.specs.Rules.{View, moved, unless, step, after, answer, at_rest, place}
use Rattle.laws.specs.Laws.{Action, send, as_number, of_bytes, AtRest, Alike}
use Rattle.laws.proofs.Bits.{ident_size}
use Rattle.laws.proofs.Plain.{calm, all_calm, plain, PlainlyAlike, alike_plainly}

-- ---- views, and lists of events

abbrev levels : Bool → Bool → Bool → Bool → Pins
levels c d w h = record { clock = c; input = d; protect = w; hold = h }

abbrev rest : Bool → Bool → Bool → Bool → Bool → List ℕ → View
rest c d w h wel cells = record { pins = levels c d w h; wel = wel; cycle = None; stretch = Deselected; shift = at_rest; cells = cells }

-- C low, HOLD high, D at d; bit k of byte b has been shifted out
abbrev putting : (d w wel : Bool) (cells : List ℕ) (b k : ℕ) → Phase → View
putting d w wel cells b k ph =
    record {
      pins = levels false d w true;
      wel = wel;
      cycle = None;
      stretch = ph;
      shift = record { held = false; shown = level_of (bit_of b k); sample = b };
      cells = cells;
    }

abbrev go : Shape → View → List Action → View
go p v [] = v
go p v (send k l ∷ more) = go p (after v (step p v k l)) more

-- bits of a byte, the highest first, in front of more
abbrev bits_on : ℕ → ℕ → List ℕ → List ℕ
bits_on zero b more = more
bits_on (suc k) b more = (b / 2 ^ k % 2) ∷ bits_on k b more

abbrev bits_of : List ℕ → List ℕ
bits_of [] = []
bits_of (b ∷ bs) = bits_on 8 b (bits_of bs)

-- one bit in: D, a rise of C, a fall of C
abbrev clocked : List ℕ → List Action
clocked [] = []
clocked (b ∷ bs) = send 2 b ∷ (send 1 1 ∷ (send 1 0 ∷ clocked bs))

-- a command of these bytes, from rest: C low, HOLD high, S low, the bits
abbrev opens : List ℕ → List Action
opens bytes = send 1 0 ∷ (send 4 1 ∷ (send 0 0 ∷ clocked (bits_of bytes)))

abbrev clk : ℕ → List Action
clk zero = []
clk (suc n) = send 1 1 ∷ (send 1 0 ∷ clk n)

abbrev rounds : ℕ → List Action
rounds zero = []
rounds (suc n) = rounds n ++ clk 8

abbrev said : Shape → View → ℕ → ℕ → Result ℕ Fault
said p v k l = as_number (answer (step p v k l))

three : (P : Bool → Bool → Bool → Type 0) → P true true true → P true true false → P true false true → P true false false → P false true true → P false true false → P false false true → P false false false → (a b c : Bool) → P a b c
three P a b c d e f g h true true true = a
three P a b c d e f g h true true false = b
three P a b c d e f g h true false true = c
three P a b c d e f g h true false false = d
three P a b c d e f g h false true true = e
three P a b c d e f g h false true false = f
three P a b c d e f g h false false true = g
three P a b c d e f g h false false false = h

-- byte at address a of a region is being read, bit k is out
abbrev reading : (p : Shape) (w wel : Bool) (cells : List ℕ) (r : Region) (a k : ℕ) → View
reading p w wel cells r a k = putting false w wel cells (get_or cells (place p r a) 0) k (Output r a k)

go_append : (p : Shape) (v : View) (xs ys : List Action) → go p v (xs ++ ys) ≡ go p (go p v xs) ys
go_append p v [] ys = refl
go_append p v (send k l ∷ xs) ys = go_append p (after v (step p v k l)) xs ys

-- what is said at the last of some events
last_said : (p : Shape) (es : List Action) (k l : ℕ) (u v : View) → plain p u (es ++ (send k l ∷ [])) ≡ plain p v (es ++ (send k l ∷ [])) → said p (go p u es) k l ≡ said p (go p v es) k l
last_said p [] k l u v h = cc
last_said p (send a b ∷ es) k l u v h = last_said p es k l (after u (step p u a b)) (after v (step p v a b)) cc

-- ---- lists of bytes that end no cycle

abbrev Fine : List Action → Type 0
Fine xs = T (of_bytes xs) × T (all_calm xs)

keep : (a x y : Bool) → T (a && x) → (T x → T y) → T (a && y)
keep true x y t f = f t
keep false x y t f = t

bytes_append : (xs ys : List Action) → T (of_bytes xs) → T (of_bytes ys) → T (of_bytes (xs ++ ys))
bytes_append [] ys t u = u
bytes_append (send k l ∷ xs) ys t u = keep (ltb k 256 && ltb l 256) (of_bytes xs) (of_bytes (xs ++ ys)) t (λ z. bytes_append xs ys z u)

calm_append : (xs ys : List Action) → T (all_calm xs) → T (all_calm ys) → T (all_calm (xs ++ ys))
calm_append [] ys t u = u
calm_append (send k l ∷ xs) ys t u = keep (calm (decoded k l)) (all_calm xs) (all_calm (xs ++ ys)) t (λ z. calm_append xs ys z u)

fine_append : (xs ys : List Action) → Fine xs → Fine ys → Fine (xs ++ ys)
fine_append xs ys f g = (bytes_append xs ys f.0 g.0, calm_append xs ys f.1 g.1)

fine_clk : (n : ℕ) → Fine (clk n)
fine_clk zero = (tt, tt)
fine_clk (suc n) = fine_clk n

fine_rounds : (n : ℕ) → Fine (rounds n)
fine_rounds zero = (tt, tt)
fine_rounds (suc n) = fine_append (rounds n) (clk 8) (fine_rounds n) (tt, tt)

-- one event after others, by both
says_alike : (p : Shape) (u v : View) → PlainlyAlike p u v → (es : List Action) → Fine es → said p (go p u es) 1 1 ≡ said p (go p v es) 1 1
says_alike p u v al es f =
    let g : Fine (es ++ (send 1 1 ∷ [])) = fine_append es (send 1 1 ∷ []) f (tt, tt) in
    last_said p es 1 1 u v (al (es ++ (send 1 1 ∷ [])) g.0 g.1)

-- ---- bits

byte_from_bits : (a b : ℕ) → a < 256 → b < 256 → ((k : ℕ) → k < 8 → bit_of a k ≡ bit_of b k) → a ≡ b
byte_from_bits a b ha hb f =
    same_from_bits_below 8 a b ha hb (λ i h. let e : 7 - (7 - i) ≡ i = omega arith in subst (λ n. a / 2 ^ n % 2 ≡ b / 2 ^ n % 2) e (f (7 - i) (omega arith)))

-- a bit by the level that shows it
level_bit : (x : ℕ) → x < 2 → level_number (level_of x) ≡ x
level_bit zero lt = refl
level_bit (suc zero) lt = refl
level_bit (suc (suc x)) lt = absurd (omega arith)

same_bit : (x y : ℕ) → level_number (level_of (x % 2)) ≡ level_number (level_of (y % 2)) → x % 2 ≡ y % 2
same_bit x y e = sym (level_bit (x % 2) (omega arith)) ∙ (e ∙ level_bit (y % 2) (omega arith))

below_7 : (P : ℕ → Type 0) → P 0 → P 1 → P 2 → P 3 → P 4 → P 5 → P 6 → (k : ℕ) → k < 7 → P k
below_7 P a b c d e f g zero lt = a
below_7 P a b c d e f g (suc zero) lt = b
below_7 P a b c d e f g (suc (suc zero)) lt = c
below_7 P a b c d e f g (suc (suc (suc zero))) lt = d
below_7 P a b c d e f g (suc (suc (suc (suc zero)))) lt = e
below_7 P a b c d e f g (suc (suc (suc (suc (suc zero))))) lt = f
below_7 P a b c d e f g (suc (suc (suc (suc (suc (suc zero)))))) lt = g
below_7 P a b c d e f g (suc (suc (suc (suc (suc (suc (suc k))))))) lt = absurd (omega arith)

-- a byte by the levels at its bits
byte_from_levels : (a b : ℕ) → a < 256 → b < 256 → ((k : ℕ) → k < 8 → level_number (level_of (bit_of a k)) ≡ level_number (level_of (bit_of b k))) → a ≡ b
byte_from_levels a b ha hb f = byte_from_bits a b ha hb (λ k h. same_bit (a / 2 ^ (7 - k)) (b / 2 ^ (7 - k)) (f k h))

-- clocks, of which each is one turn of f
clocks_by : (p : Shape) (f : ℕ → View) → ((k : ℕ) → k < 7 → go p (f k) (clk 1) ≡ f (suc k)) → (k n m : ℕ) → k + n ≡ m → m < 8 → go p (f k) (clk n) ≡ f m
clocks_by p f t k zero m e h = ap f (omega arith)
clocks_by p f t k (suc n) m e h = ap (λ v. go p v (clk n)) (t k (omega arith)) ∙ clocks_by p f t (suc k) n m (omega arith) h

-- ---- a region, read byte by byte

module _ (p : Shape) (w wel : Bool) (cells : List ℕ) (r : Region) (a : ℕ) where
  abbrev Ticks : ℕ → Type 0
  Ticks k = go p (reading p w wel cells r a k) (clk 1) ≡ reading p w wel cells r a (suc k)

  ticks : (k : ℕ) → k < 7 → Ticks k
  ticks = below_7 Ticks refl refl refl refl refl refl refl

  at_bit : (k : ℕ) → k < 8 → go p (reading p w wel cells r a 0) (clk k) ≡ reading p w wel cells r a k
  at_bit k h = clocks_by p (reading p w wel cells r a) ticks 0 k k (omega arith) h

  round : go p (reading p w wel cells r a 0) (clk 8) ≡ reading p w wel cells r ((a + 1) % 4294967296) 0
  round = go_append p (reading p w wel cells r a 0) (clk 7) (clk 1) ∙ ap (λ v. go p v (clk 1)) (at_bit 7 (lit< tt))

-- after i bytes, the next is i on
at_byte : (p : Shape) (w wel : Bool) (cells : List ℕ) (r : Region) (a i : ℕ) → a + i < 4294967296 → go p (reading p w wel cells r a 0) (rounds i) ≡ reading p w wel cells r (a + i) 0
at_byte p w wel cells r a zero h = ap (λ n. reading p w wel cells r n 0) (omega arith)
at_byte p w wel cells r a (suc i) h =
    let e : (a + i + 1) % 4294967296 ≡ a + suc i = omega arith in
    go_append p (reading p w wel cells r a 0) (rounds i) (clk 8) ∙
    (ap (λ v. go p v (clk 8)) (at_byte p w wel cells r a i (omega arith)) ∙
    (round p w wel cells r (a + i) ∙ ap (λ n. reading p w wel cells r n 0) e))

-- the bytes of a region, from the answers
module _ (p : Shape) (w wel wel' : Bool) (cells cells' : List ℕ) (r : Region) (a : ℕ) (u v : View) (cmd : List Action)
    (ou : go p u cmd ≡ reading p w wel cells r a 0) (ov : go p v cmd ≡ reading p w wel' cells' r a 0) (al : PlainlyAlike p u v) (fine : Fine cmd) where
  comes : (x : View) (wl : Bool) (cs : List ℕ) → go p x cmd ≡ reading p w wl cs r a 0 → (i k : ℕ) → a + i < 4294967296 → k < 8 →
      said p (go p x (cmd ++ (rounds i ++ clk k))) 1 1 ≡ Ok (level_number (level_of (bit_of (get_or cs (place p r (a + i)) 0) k)))
  comes x wl cs o i k hi hk =
      rw (go_append p x cmd (rounds i ++ clk k), go_append p (go p x cmd) (rounds i) (clk k), o, at_byte p w wl cs r a i hi, at_bit p w wl cs r (a + i) k hk)

  levels_alike : (i : ℕ) → a + i < 4294967296 → (k : ℕ) → k < 8 →
      level_number (level_of (bit_of (get_or cells (place p r (a + i)) 0) k)) ≡ level_number (level_of (bit_of (get_or cells' (place p r (a + i)) 0) k))
  levels_alike i hi k hk =
      let f : Fine (cmd ++ (rounds i ++ clk k)) = fine_append cmd (rounds i ++ clk k) fine (fine_append (rounds i) (clk k) (fine_rounds i) (fine_clk k)) in
      cc (comes u wel cells ou i k hi hk, says_alike p u v al (cmd ++ (rounds i ++ clk k)) f, comes v wel' cells' ov i k hi hk)

  bytes_alike : Bytes cells → Bytes cells' → (i : ℕ) → a + i < 4294967296 → get_or cells (place p r (a + i)) 0 ≡ get_or cells' (place p r (a + i)) 0
  bytes_alike b b' i hi = byte_from_levels (get_or cells (place p r (a + i)) 0) (get_or cells' (place p r (a + i)) 0) (b (place p r (a + i))) (b' (place p r (a + i))) (levels_alike i hi)

-- ---- commands

-- RDSR: bit k of the status byte is out
abbrev status_now : (p : Shape) (wel : Bool) (cells : List ℕ) → ℕ
status_now p wel cells = status_byte (get_or cells (status_at p) 0) wel false

abbrev asking : (p : Shape) (w wel : Bool) (cells : List ℕ) (k : ℕ) → View
asking p w wel cells k = putting true w wel cells (status_now p wel cells) k (Status k)

module _ (p : Shape) (w wel : Bool) (cells : List ℕ) where
  abbrev Opens : List ℕ → View → Bool → Bool → Bool → Type 0
  Opens cmd v c d h = go p (rest c d w h wel cells) (opens cmd) ≡ v

  read_opens : (c d h : Bool) → Opens (3 ∷ 0 ∷ 0 ∷ 0 ∷ []) (reading p w wel cells region.Array 0 0) c d h
  read_opens = three (Opens (3 ∷ 0 ∷ 0 ∷ 0 ∷ []) (reading p w wel cells region.Array 0 0)) refl refl refl refl refl refl refl refl

  ident_opens : (c d h : Bool) → Opens (131 ∷ 0 ∷ 0 ∷ 0 ∷ []) (reading p w wel cells region.Ident 0 0) c d h
  ident_opens = three (Opens (131 ∷ 0 ∷ 0 ∷ 0 ∷ []) (reading p w wel cells region.Ident 0 0)) refl refl refl refl refl refl refl refl

  unique_opens : (c d h : Bool) → Opens (129 ∷ 0 ∷ 0 ∷ 0 ∷ []) (reading p w wel cells region.Unique 0 0) c d h
  unique_opens = three (Opens (129 ∷ 0 ∷ 0 ∷ 0 ∷ []) (reading p w wel cells region.Unique 0 0)) refl refl refl refl refl refl refl refl

  lock_opens : (c d h : Bool) → Opens (131 ∷ 0 ∷ 4 ∷ 0 ∷ []) (reading p w wel cells region.Lock 1024 0) c d h
  lock_opens = three (Opens (131 ∷ 0 ∷ 4 ∷ 0 ∷ []) (reading p w wel cells region.Lock 1024 0)) refl refl refl refl refl refl refl refl

  -- RDSR up to the last rise of C, then the fall
  abbrev asked : View
  asked =
      record {
        pins = levels true true w true;
        wel = wel;
        cycle = None;
        stretch = Status 0;
        shift = record { held = false; shown = Float; sample = 0 };
        cells = cells;
      }

  abbrev asks_so_far : List Action
  asks_so_far = send 1 0 ∷ (send 4 1 ∷ (send 0 0 ∷ (clocked (0 ∷ 0 ∷ 0 ∷ 0 ∷ 0 ∷ 1 ∷ 0 ∷ []) ++ (send 2 1 ∷ (send 1 1 ∷ [])))))

  abbrev Leads : Bool → Bool → Bool → Type 0
  Leads c d h = go p (rest c d w h wel cells) asks_so_far ≡ asked

  leads : (c d h : Bool) → Leads c d h
  leads = three Leads refl refl refl refl refl refl refl refl

  status_opens : (c d h : Bool) → Opens (5 ∷ []) (asking p w wel cells 0) c d h
  status_opens c d h = go_append p (rest c d w h wel cells) asks_so_far (send 1 0 ∷ []) ∙ ap (λ y. go p y (send 1 0 ∷ [])) (leads c d h)

  abbrev Asks : ℕ → Type 0
  Asks k = go p (asking p w wel cells k) (clk 1) ≡ asking p w wel cells (suc k)

  asks : (k : ℕ) → k < 7 → Asks k
  asks = below_7 Asks refl refl refl refl refl refl refl

  at_status : (k : ℕ) → k < 8 → go p (asking p w wel cells 0) (clk k) ≡ asking p w wel cells k
  at_status k h = clocks_by p (asking p w wel cells) asks 0 k k (omega arith) h

  status_comes : (c d h : Bool) (k : ℕ) → k < 8 → said p (go p (rest c d w h wel cells) (opens (5 ∷ []) ++ clk k)) 1 1 ≡ Ok (level_number (level_of (bit_of (status_now p wel cells) k)))
  status_comes c d h k lt =
      ap (λ y. said p y 1 1) (go_append p (rest c d w h wel cells) (opens (5 ∷ [])) (clk k) ∙ (ap (λ y. go p y (clk k)) (status_opens c d h) ∙ at_status k lt))

status_alike : (p : Shape) (c d w h wel wel' : Bool) (cells cells' : List ℕ) → PlainlyAlike p (rest c d w h wel cells) (rest c d w h wel' cells') → (k : ℕ) → k < 8 →
    level_number (level_of (bit_of (status_now p wel cells) k)) ≡ level_number (level_of (bit_of (status_now p wel' cells') k))
status_alike p c d w h wel wel' cells cells' al k lt =
    cc (status_comes p w wel cells c d h k lt, says_alike p (rest c d w h wel cells) (rest c d w h wel' cells') al (opens (5 ∷ []) ++ clk k) (fine_append (opens (5 ∷ [])) (clk k) (tt, tt) (fine_clk k)), status_comes p w wel' cells' c d h k lt)

-- the byte of a fit chip's status cell, with its latch
small : (s : ℕ) (wel : Bool) → s < 256 → kept s ≡ s → status_byte s wel false < 256
small s true h e = omega arith
small s false h e = omega arith

apart : (s t : ℕ) (a b : Bool) → kept s ≡ s → kept t ≡ t → status_byte s a false ≡ status_byte t b false → (a ≡ b) × (s ≡ t)
apart s t true true e f q = (refl, omega arith)
apart s t false false e f q = (refl, omega arith)
apart s t a b e f q = absurd (omega arith)

-- ---- fitness

abbrev fitting : Bool → Bool → Bool → Option Refusal
fitting a b c =
    elim a as (λ _. Option Refusal) [
      | true ↦ Some ShortBacking
      | false ↦
          elim b as (λ _. Option Refusal) [
            | false ↦ Some StatusBits
            | true ↦
                elim c as (λ _. Option Refusal) [ true ↦ Some LockValue | false ↦ None ]
          ]
    ]

fit_parts : (a b c : Bool) → fitting a b c ≡ None → (a ≡ false) × (b ≡ true) × (c ≡ false)
fit_parts false true false e = (refl, refl, refl)
fit_parts a b c e = cc

module _ (p : Shape) (cells : List ℕ) (fit : unfit p cells ≡ None) where
  all_parts : (ltb (length cells) (cell_count p) ≡ false) × (eqb (kept (get_or cells (status_at p) 0)) (get_or cells (status_at p) 0) ≡ true) × (ltb 1 (get_or cells (lock_at p) 0) ≡ false)
  all_parts =
      fit_parts (ltb (length cells) (cell_count p)) (eqb (kept (get_or cells (status_at p) 0)) (get_or cells (status_at p) 0)) (ltb 1 (get_or cells (lock_at p) 0))
      fit

  pub fit_length : cell_count p ≤ length cells
  fit_length = ltb-false (length cells) (cell_count p) all_parts.0

  pub fit_status : kept (get_or cells (status_at p) 0) ≡ get_or cells (status_at p) 0
  fit_status = eqb-true (kept (get_or cells (status_at p) 0)) (get_or cells (status_at p) 0) all_parts.1

  pub fit_lock : get_or cells (lock_at p) 0 ≤ 1
  fit_lock = ltb-false 1 (get_or cells (lock_at p) 0) all_parts.2

-- an event to the level that a pin has is refused, and no other is
same_pin : (a b : Bool) (u v : View) → as_number (answer (unless (there a true) u)) ≡ as_number (answer (unless (there b true) v)) → a ≡ b
same_pin true true u v e = refl
same_pin false false u v e = refl
same_pin a b u v e = cc

-- ---- cells, with the same levels

-- a byte of a region from its first on
first_turn : (n i : ℕ) → i < n → (0 + i) % n ≡ i
first_turn n i h = let e : 0 + i ≡ i = omega arith in rw e (mod-eq_of_lt h)

module _ (p : Shape) (law : Lawful p) (c d w h wel wel' : Bool) (cells cells' : List ℕ)
    (ok : Bytes cells) (ok' : Bytes cells') (al : PlainlyAlike p (rest c d w h wel cells) (rest c d w h wel' cells')) where
  abbrev At : ℕ → Type 0
  At i = get_or cells i 0 ≡ get_or cells' i 0

  region_alike : (r : Region) (a : ℕ) (cmd : List ℕ) → ((wl : Bool) (cs : List ℕ) → go p (rest c d w h wl cs) (opens cmd) ≡ reading p w wl cs r a 0) → Fine (opens cmd) → (i : ℕ) → a + i < 4294967296 → At (place p r (a + i))
  region_alike r a cmd o f i lt =
      bytes_alike p w wel wel' cells cells' r a (rest c d w h wel cells) (rest c d w h wel' cells') (opens cmd) (o wel cells) (o wel' cells') al f ok ok' i lt

  in_array : (i : ℕ) → i < array_len p → At i
  in_array i lt =
      let big : 2 ^ p.bits < 4294967296 = pow_below p.bits 32 (omega arith) in
      rw (first_turn (array_len p) i lt) at (region_alike region.Array 0 (3 ∷ 0 ∷ 0 ∷ 0 ∷ []) (λ wl cs. read_opens p w wl cs c d h) (tt, tt) i (omega arith))

  in_ident : (i : ℕ) → i < p.ident → At (array_len p + i)
  in_ident i lt =
      let few = ident_size p law in
      rw (first_turn p.ident i lt) at (region_alike region.Ident 0 (131 ∷ 0 ∷ 0 ∷ 0 ∷ []) (λ wl cs. ident_opens p w wl cs c d h) (tt, tt) i (omega arith))

  in_unique : (i : ℕ) → i < 16 → At (unique_at p + i)
  in_unique i lt = rw (first_turn 16 i lt) at (region_alike region.Unique 0 (129 ∷ 0 ∷ 0 ∷ 0 ∷ []) (λ wl cs. unique_opens p w wl cs c d h) (tt, tt) i (omega arith))

  in_lock : At (lock_at p)
  in_lock = region_alike region.Lock 1024 (131 ∷ 0 ∷ 4 ∷ 0 ∷ []) (λ wl cs. lock_opens p w wl cs c d h) (tt, tt) 0 (lit< tt)

  abbrev Kept : List ℕ → Type 0
  Kept cs = kept (get_or cs (status_at p) 0) ≡ get_or cs (status_at p) 0

  status_same : Kept cells → Kept cells' → (wel ≡ wel') × At (status_at p)
  status_same e e' =
      apart (get_or cells (status_at p) 0) (get_or cells' (status_at p) 0) wel wel' e e'
      (byte_from_levels (status_now p wel cells) (status_now p wel' cells') (small (get_or cells (status_at p) 0) wel (ok (status_at p)) e) (small (get_or cells' (status_at p) 0) wel' (ok' (status_at p)) e')
      (status_alike p c d w h wel wel' cells cells' al))

  cell_alike : Kept cells → Kept cells' → (i : ℕ) → i < cell_count p → At i
  cell_alike e e' i lt =
      elim (cases_lt i (array_len p)) [
        | inl a ↦ in_array i a
        | inr a ↦ elim (cases_lt i (unique_at p)) [
          | inl b ↦ subst At (omega arith) (in_ident (i - array_len p) (omega arith))
          | inr b ↦ elim (cases_lt i (status_at p)) [
            | inl f ↦ subst At (omega arith) (in_unique (i - unique_at p) (omega arith))
            | inr f ↦ elim (cases_eq i (status_at p)) [
              | inl g ↦ subst At (sym g) (status_same e e').1
              | inr g ↦ subst At (omega arith) in_lock
            ]
          ]
        ]
      ]

-- ---- the whole

as_rest : (u : View) → AtRest u → u.shift ≡ at_rest → u ≡ rest u.pins.clock u.pins.input u.pins.protect u.pins.hold u.wel u.cells
as_rest u r q = λ i. record { pins = u.pins; wel = u.wel; cycle = r.idle i; stretch = r.deselected i; shift = q i; cells = u.cells }

-- chips at rest with these levels, latch and cells
resting : (p : Shape) → Lawful p → (x y : Pins) (wel wel' : Bool) (cells cells' : List ℕ) → Bytes cells → Bytes cells' → unfit p cells ≡ None → unfit p cells' ≡ None →
    PlainlyAlike p (rest x.clock x.input x.protect x.hold wel cells) (rest y.clock y.input y.protect y.hold wel' cells') →
    (x ≡ y) × (wel ≡ wel') × ((i : ℕ) → i < cell_count p → get_or cells i 0 ≡ get_or cells' i 0)
resting p law x y wel wel' cells cells' b b' f f' al =
    let ux : View = rest x.clock x.input x.protect x.hold wel cells in
    let vy : View = rest y.clock y.input y.protect y.hold wel' cells' in
    let says : (k : ℕ) → Fine (send k 1 ∷ []) → said p ux k 1 ≡ said p vy k 1 = λ k g. last_said p [] k 1 ux vy (al (send k 1 ∷ []) g.0 g.1) in
    let ec : x.clock ≡ y.clock = same_pin x.clock y.clock (moved p ux (Clock true)) (moved p vy (Clock true)) (says 1 (tt, tt)) in
    let ed : x.input ≡ y.input = same_pin x.input y.input (moved p ux (Data true)) (moved p vy (Data true)) (says 2 (tt, tt)) in
    let ew : x.protect ≡ y.protect = same_pin x.protect y.protect (moved p ux (Protect true)) (moved p vy (Protect true)) (says 3 (tt, tt)) in
    let eh : x.hold ≡ y.hold = same_pin x.hold y.hold (moved p ux (Hold true)) (moved p vy (Hold true)) (says 4 (tt, tt)) in
    let al2 : PlainlyAlike p (rest x.clock x.input x.protect x.hold wel cells) (rest x.clock x.input x.protect x.hold wel' cells') =
    rw (← ec, ← ed, ← ew, ← eh) at al in (
      λ i. levels (ec i) (ed i) (ew i) (eh i),
      (status_same p law x.clock x.input x.protect x.hold wel wel' cells cells' b b' al2 (fit_status p cells f) (fit_status p cells' f')).0,
      cell_alike p law x.clock x.input x.protect x.hold wel wel' cells cells' b b' al2 (fit_status p cells f) (fit_status p cells' f'),
    )

pub tells : (p : Shape) → Lawful p → (u v : View) → AtRest u → AtRest v → u.shift ≡ at_rest → v.shift ≡ at_rest →
    Bytes u.cells → Bytes v.cells → unfit p u.cells ≡ None → unfit p v.cells ≡ None →
    Alike p u v →
    (u.pins ≡ v.pins) × (u.wel ≡ v.wel) × ((i : ℕ) → i < cell_count p → get_or u.cells i 0 ≡ get_or v.cells i 0)
tells p law u v ru rv qu qv b b' f f' al =
    resting p law u.pins v.pins u.wel v.wel u.cells v.cells b b' f f'
    (subst₂ (PlainlyAlike p) (as_rest u ru qu) (as_rest v rv qv) (alike_plainly p u v f f' al))
