-- A shifting fall of C puts out what the journal says.
use Rattle.std.proofs.Common.{◌≡◌, ℕ, ◌+◌, ◌-◌, ◌/◌, ◌%◌, ◌<◌, ◌≤◌, Bool, true, false, cond, eqb, ltb, List, [], ◌∷◌, ◌++◌, length, get_or, take, drop, refl, ap, ◌∙◌, inl, inr, mod-lt, arith, length-append, pow_pos, Option}
use Rattle.std.proofs.lemmas.Bool.{le-leb, lt-leb, cases_lt}
use Rattle.std.proofs.lemmas.List.{drop_at, length-drop, length-take-le}
use Rattle.rules.specs.declared.state.Level.{Level}
use Rattle.rules.specs.declared.state.Instruction.{Instruction}
use Rattle.rules.specs.declared.state.Instruction.TheVariants as name
use Rattle.rules.specs.declared.state.Access.{Access}
use Rattle.rules.specs.declared.state.Access.TheVariants as access
use Rattle.rules.specs.declared.state.Region.{Region}
use Rattle.rules.specs.declared.state.Region.TheVariants as region
use Rattle.rules.specs.declared.state.Target.TheVariants as target
use Rattle.rules.specs.declared.state.Shift.{Shift}
use Rattle.rules.specs.declared.state.Page.{Page}
use Rattle.rules.specs.declared.state.Pending.{Pending}
use Rattle.rules.specs.declared.state.Phase.{Phase}
use Rattle.rules.specs.declared.state.Phase.TheVariants.{Ignored, Enable, Disable, Status, Address, Output, Input}
use Rattle.rules.specs.Shape.{Shape, Lawful, array_len, ident_at, unique_at, status_at, cell_count}
use Rattle.rules.specs.Tables.{a10, status_byte, bit_of, level_of}
use Rattle.rules.specs.Rules as rule
use Rattle.rules.specs.Rules.{View, running, judged, begun, latched, place, aimed, filled, shifted, shift_out, same_shown}
use Rattle.laws.specs.Journal.{Entry, enabled, cycle_runs, byte_of, number, address, read_place, read_bit, puts_out, samples}
use Rattle.laws.proofs.Bits.{goes_on, pick, goes_on_stays, number_below, address_part, address_full, ident_size}
use Rattle.laws.proofs.Regions.{status_phase, output_phase, read_place_is}
use Rattle.laws.proofs.Keeps.{vw, Mem, SampleOk}

-- the output side after a shifting fall, and that its sample is in order
pub record Shifts (p : Shape) (v : View) (held : Bool) (ph : Phase) (last : Level) (sampled : ℕ) : Type 0 where
  pub sample : ℕ
  pub shift_is : shifted p v held ph ≡ record { held = held; shown = last; sample = sample }
  pub sample_is : SampleOk p v.cells false ph sample sampled

-- ---- phases that put nothing out

module _ (p : Shape) (v : View) (held : Bool) (sampled : ℕ) where
  abbrev Still : Phase → Type 0
  Still ph = Shifts p v held ph v.shift.shown sampled

  still_at : (ph : Phase) → shifted p v held ph ≡ same_shown v.shift held → SampleOk p v.cells false ph v.shift.sample sampled → Still ph
  still_at ph e s = record { sample = v.shift.sample; shift_is = e; sample_is = s }

  still_ignored : (rest : List Bool) → Still (goes_on p.ident Ignored rest)
  still_ignored rest = rw (goes_on_stays p.ident Ignored (λ _. refl) rest) (still_at Ignored refl tt)

  still_input : (g : Page) (rest : List Bool) → Still (goes_on p.ident (Input g) rest)
  still_input g [] = still_at (Input g) refl tt
  still_input g (b ∷ rest) = still_input (filled g b) rest

  -- an access whose aim is a write
  abbrev Writes : Access → Type 0
  Writes acc = (wel : Bool) (a : ℕ) (rest : List Bool) → Still (goes_on p.ident (aimed p.ident acc wel a) rest)

  still_address : (acc : Access) → Writes acc → (rest : List Bool) (wel : Bool) (n a : ℕ) → Still (goes_on p.ident (Address acc wel n a) rest)
  still_address acc h [] wel n a = still_at (Address acc wel n a) refl tt
  still_address acc h (b ∷ rest) wel n a =
      pick (λ ph. Still (goes_on p.ident ph rest)) (ltb n 23) _ _
      (still_address acc h rest wel (n + 1) (rule.pushed_address a b)) (h wel (rule.pushed_address a b) rest)

  ident_writes : Writes access.WriteIdent
  ident_writes wel a rest =
      pick (λ ph. Still (goes_on p.ident ph rest)) (a10 a) _ _
      (still_input (rule.empty target.Lock wel a 0 0) rest) (still_input (rule.empty target.Ident wel a (a % p.ident) (p.ident - 1)) rest)

-- ---- the status byte

-- what both ways of a test come to
chosen : (t : Bool) (a b x : ℕ) → (t ≡ true → a ≡ x) → (t ≡ false → b ≡ x) → elim t as (λ _. ℕ) [ true ↦ a | false ↦ b ] ≡ x
chosen true a b x e f = e refl
chosen false a b x e f = f refl

status_out : (p : Shape) (v : View) (held : Bool) (k sampled status : ℕ) → v.shift.sample ≡ sampled → status_byte (get_or v.cells (status_at p) 0) v.wel (running v.cycle) ≡ status →
    Shifts p v held (Status k) (level_of (bit_of (cond (eqb k 0) status sampled) k)) (cond (eqb k 0) status sampled)
status_out p v held k sampled status e f =
    record {
      sample = cond (eqb k 0) status sampled;
      shift_is = ap {B = Shift} (λ byte. record { held = held; shown = level_of (bit_of byte k); sample = byte })
          (chosen (eqb k 0) _ _ (cond (eqb k 0) status sampled) (λ z. rw z f) (λ z. rw z e));
      sample_is = refl;
    }

-- ---- a byte of a region

region_out : (p : Shape) (v : View) (held : Bool) (r : Region) (a k sampled : ℕ) → SampleOk p v.cells true (Output r a k) v.shift.sample sampled →
    Shifts p v held (Output r a k) (level_of (bit_of (get_or v.cells (place p r a) 0) k)) sampled
region_out p v held r a k sampled so =
    let e = chosen (eqb k 0) (get_or v.cells (place p r a) 0) v.shift.sample (get_or v.cells (place p r a) 0) (λ _. refl) so in
    record {
      sample = get_or v.cells (place p r a) 0;
      shift_is = ap {B = Shift} (λ byte. record { held = held; shown = level_of (bit_of byte k); sample = byte }) e;
      sample_is = λ _. refl;
    }

module _ (p : Shape) (law : Lawful p) (birth : List ℕ) (es : List Entry) (cy : Option Pending) (cells : List ℕ) (m : Mem p birth es cy cells) where
  abbrev pub byte : ℕ → ℕ
  byte i = byte_of birth i false es

  unfoldable pub status : ℕ
  status = status_byte (byte (status_at p)) (enabled es) (cycle_runs es)

  -- a chip that is not held and shifts: its stretch does not matter here
  abbrev pub sees : (d w h : Bool) → Phase → Level → ℕ → View
  sees d w h ph last sample = vw true d w h (enabled es) cy ph (record { held = false; shown = last; sample = sample }) cells

  module _ (d w h wel held : Bool) (ph : Phase) (last : Level) (sample sampled : ℕ) (eight rest : List Bool) (e8 : length eight ≡ 8) where
    abbrev v : View
    v = sees d w h ph last sample

    abbrev bits : List Bool
    bits = eight ++ rest

    len : length bits ≡ 8 + length rest
    len = length-append eight rest ∙ ap (λ n. n + length rest) e8

    address_is : address bits ≡ number (take 24 rest)
    address_is = ap (λ xs. number (take 24 xs)) (drop_at eight rest 8 e8)

    -- an address that is not whole puts nothing out
    read_none : (i : Instruction) (acc : Access) → length rest < 24 → Shifts p v held (goes_on p.ident (Address acc wel 0 0) rest) (read_bit p byte i bits last) sampled
    read_none i acc lt =
        rw (address_part p.ident acc wel rest lt, lt-leb 32 (length bits) (omega (arith, len)))
        (still_at p v held sampled (Address acc wel (length rest) (number rest)) refl tt)

    -- a whole one: r is the region
    read_some : (i : Instruction) (acc : Access) (r : Region) → aimed p.ident acc wel (number (take 24 rest)) ≡ Output r (number (take 24 rest)) 0 →
        ((j : ℕ) → place p r ((number (take 24 rest) + j) % 4294967296) ≡ read_place p i (number (take 24 rest)) j) → ((x : ℕ) → place p r x < cell_count p) →
        24 ≤ length rest → SampleOk p cells true (goes_on p.ident (Address acc wel 0 0) rest) sample sampled →
        Shifts p v held (goes_on p.ident (Address acc wel 0 0) rest) (read_bit p byte i bits last) sampled
    read_some i acc r aim at below ge so =
        let a : ℕ = number (take 24 rest) in
        let ds : List Bool = drop 24 rest in
        let A : ℕ = (a + length ds / 8) % 4294967296 in
        let dl : length ds ≡ length bits - 32 = length-drop 24 rest ∙ omega (arith, len) in
        let l24 : length (take 24 rest) ≡ 24 = length-take-le 24 rest ge in
        let n24 = number_below (take 24 rest) 24 (omega arith) in
        let phase : goes_on p.ident (Address acc wel 0 0) rest ≡ Output r A (length ds % 8) =
        address_full p.ident acc wel rest ge ∙ ap (λ x. goes_on p.ident x ds) aim ∙ output_phase p.ident r a ds (omega arith) in
        let cell : get_or cells (place p r A) 0 ≡ byte (read_place p i (address bits) ((length bits - 32) / 8)) =
        rw (← dl, address_is, ← at (length ds / 8)) (m.now_is (place p r A) (below A)) in
        rw (phase, le-leb 32 (length bits) (omega (arith, len)), ← cell, ← dl)
        (region_out p v held r A (length ds % 8) sampled (rw phase at so))

    -- either
    read_any : (i : Instruction) (acc : Access) (r : Region) → aimed p.ident acc wel (number (take 24 rest)) ≡ Output r (number (take 24 rest)) 0 →
        ((j : ℕ) → place p r ((number (take 24 rest) + j) % 4294967296) ≡ read_place p i (number (take 24 rest)) j) → ((x : ℕ) → place p r x < cell_count p) →
        SampleOk p cells true (goes_on p.ident (Address acc wel 0 0) rest) sample sampled →
        Shifts p v held (goes_on p.ident (Address acc wel 0 0) rest) (read_bit p byte i bits last) sampled
    read_any i acc r aim at below so =
        elim (cases_lt (length rest) 24) [ inl lt ↦ read_none i acc lt | inr ge ↦ read_some i acc r aim at below ge so ]

    array_below : (x : ℕ) → x % array_len p < cell_count p
    array_below x = let lt : x % array_len p < array_len p = mod-lt x (pow_pos p.bits) in omega arith

    ident_below : (x : ℕ) → ident_at p + x % p.ident < cell_count p
    ident_below x = let lt : x % p.ident < p.ident = mod-lt x (ident_size p law).0 in omega arith

    unique_below : (x : ℕ) → unique_at p + x % 16 < cell_count p
    unique_below x = omega arith

    ident_out : (t : Bool) → a10 (number (take 24 rest)) ≡ t → SampleOk p cells true (goes_on p.ident (Address access.ReadIdent wel 0 0) rest) sample sampled →
        Shifts p v held (goes_on p.ident (Address access.ReadIdent wel 0 0) rest) (read_bit p byte name.RdidRdls bits last) sampled
    ident_out true e so = read_any name.RdidRdls access.ReadIdent region.Lock (rw (e, aimed)) (λ j. rw e) (λ x. omega arith) so
    ident_out false e so =
        read_any name.RdidRdls access.ReadIdent region.Ident (rw (e, aimed)) (λ j. rw e (read_place_is p law (number (take 24 rest)) j).1) ident_below so

    status_now : status_byte (get_or cells (status_at p) 0) (enabled es) (running cy) ≡ status
    unfolding status
    status_now = rw (m.now_is (status_at p) (omega arith), m.run_is)

    rdsr_out : SampleOk p cells true (goes_on p.ident (Status 0) rest) sample sampled →
        Shifts p v held (goes_on p.ident (Status 0) rest) (level_of (bit_of (cond (eqb ((length bits - 8) % 8) 0) status sampled) ((length bits - 8) % 8))) (cond (eqb ((length bits - 8) % 8) 0) status sampled)
    rdsr_out so =
        let k : length rest % 8 ≡ (length bits - 8) % 8 = ap (λ n. n % 8) (omega (arith, len)) in
        let phase : goes_on p.ident (Status 0) rest ≡ Status ((length bits - 8) % 8) = status_phase p.ident rest ∙ ap Status k in
        rw phase (status_out p v held ((length bits - 8) % 8) sampled status (rw phase at so) status_now)

    -- by the instruction
    pub outs : (i : Instruction) → SampleOk p cells true (goes_on p.ident (begun wel i) rest) sample sampled →
        Shifts p v held (goes_on p.ident (begun wel i) rest) (puts_out p byte (samples status sampled i bits) i bits last) (samples status sampled i bits)
    outs name.Wren so = rw (goes_on_stays p.ident Enable (λ _. refl) rest) (still_at p v held sampled Enable refl tt)
    outs name.Wrdi so = rw (goes_on_stays p.ident Disable (λ _. refl) rest) (still_at p v held sampled Disable refl tt)
    outs name.Rdsr so = rdsr_out so
    outs name.Wrsr so = still_input p v held sampled (rule.empty target.Status wel 0 0 0) rest
    outs name.Read so = read_any name.Read access.Read region.Array refl (λ j. (read_place_is p law (number (take 24 rest)) j).0) array_below so
    outs name.Write so = still_address p v held sampled access.Write (λ wl a more. still_input p v held sampled (rule.empty target.Array wl a (a % 256) 255) more) rest wel 0 0
    outs name.RdidRdls so = ident_out (a10 (number (take 24 rest))) refl so
    outs name.WridLid so = still_address p v held sampled access.WriteIdent (ident_writes p v held sampled) rest wel 0 0
    outs name.Rduid so = read_any name.Rduid access.ReadUnique region.Unique refl (λ j. (read_place_is p law (number (take 24 rest)) j).2) unique_below so
    outs name.Unknown so = still_ignored p v held sampled rest

    pub ignores : Shifts p v held (goes_on p.ident Ignored rest) last sampled
    ignores = still_ignored p v held sampled rest
