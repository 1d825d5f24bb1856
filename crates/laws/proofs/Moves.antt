-- Each taken event keeps the tie between journal and chip.
use Rattle.std.proofs.Common.{◌≡◌, ℕ, zero, suc, ◌+◌, ◌<◌, Bool, true, false, not, leb, List, [], ◌∷◌, ◌++◌, length, get_or, take, None, Option, sym, refl, ap, ◌∙◌, inl, inr, append_assoc, append-nil, arith, length-append, Some}
use Rattle.std.proofs.Math.Nat.{suc-sub-suc, sub-zero}
use Rattle.std.proofs.Math.Dec.{leb-zero, leb-suc-suc, leb-suc-zero}
use Rattle.std.proofs.lemmas.Bool.{eq-eqb, ne_eqb, lt-ltb, le-ltb, cases_lt}
use Rattle.std.proofs.lemmas.List.{take_at}
use Rattle.rules.specs.declared.state.Level.{Level}
use Rattle.rules.specs.declared.state.Level.TheVariants.{Float}
use Rattle.rules.specs.declared.state.Event.{Event}
use Rattle.rules.specs.declared.state.Event.TheVariants.{Select, Clock, Data, Protect, Hold, CycleEnd, Power}
use Rattle.rules.specs.declared.state.Instruction.{Instruction}
use Rattle.rules.specs.declared.state.Instruction.TheVariants as name
use Rattle.rules.specs.declared.state.Shift.{Shift}
use Rattle.rules.specs.declared.state.Page.{Page}
use Rattle.rules.specs.declared.state.Pending.{Pending}
use Rattle.rules.specs.declared.state.Phase.{Phase}
use Rattle.rules.specs.declared.state.Phase.TheVariants.{Instruction as Instructing, Ignored, Enable, Disable, Input}
use Rattle.rules.specs.Shape.{Shape, Lawful, status_at, lock_at}
use Rattle.rules.specs.Tables.{named, accepted, or, refused_event}
use Rattle.rules.specs.Rules as rule
use Rattle.rules.specs.Rules.{View, running, is_off, judged, latched, at_rest, pushed, laid, over, base, reach, moved, closed, counts, pending, begun, shifted}
use Rattle.laws.specs.Journal as note
use Rattle.laws.specs.Journal.{Journal, Noted, unread, noted, Entry, wren_done, wrdi_done, cycle_end, wrote, if_so, enabled, cycle_runs, put_at, byte_of, number, noting, lists, closes, notes, puts_out, samples}
use Rattle.laws.proofs.Bits.{goes_on, goes_on_push, pushed_number, entry, stretch_lists, stretch_ignored}
use Rattle.laws.proofs.Outputs.{Shifts, sees, outs, ignores, status}
use Rattle.laws.proofs.Keeps.{Mem, SampleOk, Fits, resting, young, old, Tracks, tracks, jr, vw, judged_on, old_off, late_old, latched_late, sample_latched, calm, only_rdsr}

-- ---- a write put into the cells

over_get_or : (xs : List ℕ) (ps : List (Option ℕ)) (i : ℕ) → i < length xs → get_or (over xs ps) i 0 ≡ or (get_or ps i None) (get_or xs i 0)
over_get_or [] ps i lt = absurd (omega arith)
over_get_or (x ∷ xs) (o ∷ ps) (suc i) lt = over_get_or xs ps i (omega arith)
over_get_or xs ps i lt = refl

length_over : (xs : List ℕ) (ps : List (Option ℕ)) → length (over xs ps) ≡ length xs
length_over (x ∷ xs) (o ∷ ps) = ap suc (length_over xs ps)
length_over xs ps = refl

length_laid : (xs : List ℕ) (n : ℕ) (ps : List (Option ℕ)) → length (laid xs n ps) ≡ length xs
length_laid [] zero ps = refl
length_laid [] (suc n) ps = refl
length_laid (x ∷ xs) zero ps = length_over (x ∷ xs) ps
length_laid (x ∷ xs) (suc n) ps = ap suc (length_laid xs n ps)

put_at_zero : (ps : List (Option ℕ)) (i : ℕ) → put_at 0 ps i ≡ get_or ps i None
put_at_zero ps i = rw (leb-zero i, sub-zero i, put_at)

put_at_suc : (n : ℕ) (ps : List (Option ℕ)) (i : ℕ) → put_at (suc n) ps (suc i) ≡ put_at n ps i
put_at_suc n ps i = rw (leb-suc-suc n i, put_at) (ap (λ k. elim (leb n i) as (λ _. Option ℕ) [ true ↦ get_or ps k None | false ↦ None ]) (suc-sub-suc i n))

put_at_below : (n : ℕ) (ps : List (Option ℕ)) → put_at (suc n) ps 0 ≡ None
put_at_below n ps = rw (leb-suc-zero n, put_at)

laid_get_or : (xs : List ℕ) (n : ℕ) (ps : List (Option ℕ)) (i : ℕ) → i < length xs → get_or (laid xs n ps) i 0 ≡ or (put_at n ps i) (get_or xs i 0)
laid_get_or [] n ps i lt = absurd (omega arith)
laid_get_or (x ∷ xs) zero ps i lt = rw (put_at_zero ps i) (over_get_or (x ∷ xs) ps i lt)
laid_get_or (x ∷ xs) (suc n) ps zero lt = rw (put_at_below n ps)
laid_get_or (x ∷ xs) (suc n) ps (suc i) lt = rw (put_at_suc n ps i) (laid_get_or xs n ps i (omega arith))

pub off_is : {p : Shape} {cells : List ℕ} {es : List Entry} {s c held : Bool} {bits : List Bool} {nt : Noted} {last : Level} {sampled : ℕ} {ph : Phase} {sh : Shift} →
    Fits p cells es s c held bits nt last sampled ph sh → is_off ph ≡ s
off_is resting = refl
off_is (young lt) = refl
off_is {p} (old eight rest a wel sample e8 ok so) = old_off p.ident a wel eight rest

module _ (p : Shape) (birth : List ℕ) (es : List Entry) (cy : Option Pending) (cells : List ℕ) (m : Mem p birth es cy cells) where
  -- ---- a rise of C

  -- the eighth bit, and any before it
  young_latch : (d : Bool) (bits : List Bool) (last : Level) (sampled : ℕ) → length bits < 8 →
      Fits p cells es false true false (bits ++ (d ∷ [])) (notes es (bits ++ (d ∷ [])) unread) last sampled
      (latched p.ident (running cy) (enabled es) d (Instructing (length bits) (number bits))) (record { held = false; shown = last; sample = sampled })
  young_latch d bits last sampled lt =
      let more : List Bool = bits ++ (d ∷ []) in
      let len : length more ≡ length bits + 1 = length-append bits (d ∷ []) in
      let num : pushed (number bits) d ≡ number more = pushed_number bits d lt in
      elim (cases_lt (length bits) 7) [
        | inl lt7 ↦ rw (ne_eqb (length more) 8 (omega arith), lt-ltb (length bits) 7 lt7, num, ← len, latched) (young {bits = more} (omega arith))
        | inr ge7 ↦
            let i : Instruction = named (number more) in
            let a : Bool = accepted (cycle_runs es) i in
            let fit : Fits p cells es false true false (more ++ []) (noted a (enabled es)) last sampled (judged a (enabled es) i) (record { held = false; shown = last; sample = sampled }) =
            old {c = true} {held = false} more [] a (enabled es) sampled (omega arith) (λ e. e) (judged_sample a i) in
            rw (eq-eqb (length more) 8 (omega arith), le-ltb (length bits) 7 ge7, num, m.run_is, latched) (rw (append-nil more) at fit)
      ]
    where
      judged_sample : (a : Bool) (i : Instruction) → SampleOk p cells true (judged a (enabled es) i) sampled sampled
      judged_sample false i = tt
      judged_sample true name.Rdsr = refl
      judged_sample true i = tt

  old_latch : (d : Bool) (eight rest : List Bool) (a wel : Bool) (last : Level) (sample sampled : ℕ) → length eight ≡ 8 → (a ≡ true → accepted (cycle_runs es) (named (number eight)) ≡ true) →
      SampleOk p cells false (judged_on p.ident a wel eight rest) sample sampled →
      Fits p cells es false true false ((eight ++ rest) ++ (d ∷ [])) (notes es ((eight ++ rest) ++ (d ∷ [])) (noted a wel)) last sampled
      (latched p.ident (running cy) (enabled es) d (judged_on p.ident a wel eight rest)) (record { held = false; shown = last; sample = sample })
  old_latch d eight rest a wel last sample sampled e8 ok so =
      let i : Instruction = named (number eight) in
      let ph : Phase = goes_on p.ident (judged a wel i) rest in
      let all : List Bool = (eight ++ rest) ++ (d ∷ []) in
      let len : length all ≡ length (eight ++ rest) + 1 = length-append (eight ++ rest) (d ∷ []) in
      let len2 : length (eight ++ rest) ≡ length eight + length rest = length-append eight rest in
      let lt = late_old p.ident a wel i rest in
      let push = goes_on_push p.ident (judged a wel i) rest d in
      rw (ne_eqb (length all) 8 (omega arith), latched_late p.ident (running cy) (enabled es) d ph lt, ← push, append_assoc eight rest (d ∷ []))
      (old {c = true} {held = false} {sampled = sampled} eight (rest ++ (d ∷ [])) a wel sample e8 ok (rw push (sample_latched p cells p.ident d ph sample sampled lt so)))

  -- ---- a fall of C

  -- a stretch goes on with a new output side
  fell : (d w h : Bool) (eight rest : List Bool) (a wel : Bool) (last : Level) (sampled : ℕ) (v : View) → length eight ≡ 8 → (a ≡ true → accepted (cycle_runs es) (named (number eight)) ≡ true) →
      v.cells ≡ cells →
      Shifts p v (rule.held_now (judged_on p.ident a wel eight rest) h) (judged_on p.ident a wel eight rest) last sampled →
      Tracks p birth (jr false false d w h (not h) (eight ++ rest) (noted a wel) last sampled es)
      (vw false d w h (enabled es) cy (judged_on p.ident a wel eight rest) (shifted p v (rule.held_now (judged_on p.ident a wel eight rest) h) (judged_on p.ident a wel eight rest)) cells)
  fell d w h eight rest a wel last sampled v e8 ok ce s =
      rw (s.shift_is, old_off p.ident a wel eight rest) (tracks (old eight rest a wel s.sample e8 ok (rw ce at s.sample_is)) m)

  -- ---- a rise of S

  abbrev st : ℕ
  st = get_or cells (status_at p) 0

  abbrev lk : ℕ
  lk = get_or cells (lock_at p) 0

  -- the journal at rest, with more entries
  abbrev at_end : (c d w h : Bool) → List Entry → Journal
  at_end c d w h more = jr true c d w h false [] unread Float 0 (more ++ es)

  -- the same memory under an entry that is no write
  unwritten : (e : Entry) → cycle_runs (e ∷ es) ≡ cycle_runs es → ((i : ℕ) (b : Bool) → byte_of birth i b (e ∷ es) ≡ byte_of birth i b es) → Mem p birth (e ∷ es) cy cells
  unwritten e r b =
      record { run_is = m.run_is ∙ sym r; len_is = m.len_is; now_is = λ i h. m.now_is i h ∙ sym (b i false); then_is = λ i h. m.then_is i h ∙ sym (b i true) }

  -- a counting write, with no cycle running before it
  written : (g : Page) → cy ≡ None → Mem p birth (wrote (base p g.target g.start) (take (reach p g.target) (rule.put_bytes g.target g.bytes)) ∷ es) (Some (pending g)) cells
  written g idle =
      let B : ℕ = base p g.target g.start in
      let L : List (Option ℕ) = take (reach p g.target) (rule.put_bytes g.target g.bytes) in
      record {
        run_is = refl;
        len_is = m.len_is;
        now_is = m.now_is;
        then_is = λ i h. laid_get_or cells B L i (rw m.len_is h) ∙ ap (or (put_at B L i)) (rw idle at (m.then_is i h));
      }

  shut_input : (c d w h : Bool) (g : Page) (sh : Shift) → cy ≡ None → (t : Bool) → counts p w st lk g ≡ t →
      Tracks p birth (at_end c d w h (if_so t (wrote (base p g.target g.start) (take (reach p g.target) (rule.put_bytes g.target g.bytes)))))
      (elim t as (λ _. View) [ true ↦ rule.deselected (vw c d w h (enabled es) cy (Input g) sh cells) (enabled es) (Some (pending g)) | false ↦ rule.deselected (vw c d w h (enabled es) cy (Input g) sh cells) (enabled es) cy ])
  shut_input c d w h g sh idle true e = tracks resting (written g idle)
  shut_input c d w h g sh idle false e = tracks resting m

  -- what the rules list at the end of a stretch, the journal takes in
  shut : (c d w h : Bool) (ph : Phase) (sh : Shift) → cy ≡ None →
      Tracks p birth (at_end c d w h (entry p w st lk ph)) (closed p (vw c d w h (enabled es) cy ph sh cells) ph)
  shut c d w h Enable sh idle = tracks resting (unwritten wren_done refl (λ i b. refl))
  shut c d w h Disable sh idle = tracks resting (unwritten wrdi_done refl (λ i b. refl))
  shut c d w h (Input g) sh idle = shut_input c d w h g sh idle (counts p w st lk g) refl
  shut c d w h ph sh idle = tracks resting m

  idle_by : (x : Option Pending) → running x ≡ false → x ≡ None
  idle_by None e = refl
  idle_by (Some w) e = cc

  -- in a cycle or not
  shut_old : (c d w h : Bool) (sh : Shift) (a wel : Bool) (i : Instruction) (rest : List Bool) → (a ≡ true → accepted (cycle_runs es) i ≡ true) → (r : Bool) → cycle_runs es ≡ r →
      Tracks p birth (at_end c d w h (entry p w st lk (goes_on p.ident (judged a wel i) rest))) (closed p (vw c d w h (enabled es) cy (goes_on p.ident (judged a wel i) rest) sh cells) (goes_on p.ident (judged a wel i) rest))
  shut_old c d w h sh a wel i rest ok false e = shut c d w h (goes_on p.ident (judged a wel i) rest) sh (idle_by cy (m.run_is ∙ e))
  shut_old c d w h sh a wel i rest ok true e =
      elim (calm p.ident a wel i rest (λ z. rw e at (ok z))) [ inl q ↦ rw q (tracks resting m) | inr q ↦ rw q (tracks resting m) ]

  -- the two lists are one
  lists_same : Lawful p → (w : Bool) (a wel : Bool) (eight rest : List Bool) → length eight ≡ 8 →
      entry p w st lk (judged_on p.ident a wel eight rest) ≡ closes p w (byte_of birth (status_at p) false es) (byte_of birth (lock_at p) false es) (noted a wel) (eight ++ rest)
  lists_same law w false wel eight rest e8 = stretch_ignored p w st lk rest
  lists_same law w true wel eight rest e8 =
      rw (← m.now_is (status_at p) (omega arith), ← m.now_is (lock_at p) (omega arith), take_at eight rest 8 e8) (stretch_lists p law w st lk wel (named (number eight)) eight rest e8)

  -- ---- the cycle ends

  end_fits : {s c held : Bool} {bits : List Bool} {nt : Noted} {last : Level} {sampled : ℕ} {ph : Phase} {sh : Shift} → (cells' : List ℕ) → cycle_runs es ≡ true →
      Fits p cells es s c held bits nt last sampled ph sh → Fits p cells' (cycle_end ∷ es) s c held bits nt last sampled ph sh
  end_fits cells' run resting = resting
  end_fits cells' run (young lt) = young lt
  end_fits {c = c} {held = held} cells' run (old eight rest a wel sample e8 ok so) =
      let i : Instruction = named (number eight) in
      let ok' : a ≡ true → accepted true i ≡ true = λ z. rw run at (ok z) in
      old {c = c} {held = held} eight rest a wel sample e8 (λ z. ap (accepted false) (only_rdsr i (ok' z)))
      (elim (calm p.ident a wel i rest ok') [ inl q ↦ rw q tt | inr q ↦ rw q (rw q at so) ])

-- ---- the events: each that is taken keeps the tie

abbrev Keeps : Shape → List ℕ → Event → Type 0
Keeps p birth e = (j : Journal) (v : View) → Tracks p birth j v → note.refuses j e ≡ None → Tracks p birth (noting p birth j e) (moved p v e)

module _ (p : Shape) (law : Lawful p) (birth : List ℕ) where
  hold_keeps : (l : Bool) → Keeps p birth (Hold l)
  hold_keeps l _ _ (tracks {c = true} resting m) n = tracks resting m
  hold_keeps l _ _ (tracks {c = false} (young lt) m) n = tracks (young lt) m
  hold_keeps l _ _ (tracks {c = false} (old eight rest a wel sample e8 ok so) m) n =
      rw (old_off p.ident a wel eight rest) (tracks (old eight rest a wel sample e8 ok so) m)
  hold_keeps l _ _ (tracks f m) n = tracks f m

  rise_keeps : Keeps p birth (Clock true)
  rise_keeps _ _ (tracks {c = true} f m) n = cc
  rise_keeps _ _ (tracks {held = true} (young lt) m) n = tracks (young lt) m
  rise_keeps _ _ (tracks {d = d} {held = false} {es = es} {cy = cy} {cells = cells} (young {bits = bits} {last = last} {sampled = sampled} lt) m) n =
      tracks (young_latch p birth es cy cells m d bits last sampled lt) m
  rise_keeps _ _ (tracks {held = true} (old eight rest a wel sample e8 ok so) m) n = tracks (old eight rest a wel sample e8 ok so) m
  rise_keeps _ _ (tracks {d = d} {held = false} {es = es} {cy = cy} {cells = cells} (old {last = last} {sampled = sampled} eight rest a wel sample e8 ok so) m) n =
      tracks (old_latch p birth es cy cells m d eight rest a wel last sample sampled e8 ok so) m
  rise_keeps _ _ (tracks resting m) n = tracks resting m

  fall_keeps : Keeps p birth (Clock false)
  unfolding status
  fall_keeps _ _ (tracks {c = false} f m) n = cc
  fall_keeps _ _ (tracks {held = true} (young lt) m) n = tracks (young lt) m
  fall_keeps _ _ (tracks {held = false} (young lt) m) n = tracks (young lt) m
  fall_keeps _ _ (tracks {held = true} (old eight rest a wel sample e8 ok so) m) n =
      rw (old_off p.ident a wel eight rest) (tracks (old eight rest a wel sample e8 ok so) m)
  fall_keeps _ _ (tracks {d = d} {w = w} {h = h} {held = false} {es = es} {cy = cy} {cells = cells} (old {last = last} {sampled = sampled} eight rest false wel sample e8 ok so) m) n =
      fell p birth es cy cells m d w h eight rest false wel last sampled (sees p law birth es cy cells m d w h (goes_on p.ident Ignored rest) last sample) e8 ok refl
      (ignores p law birth es cy cells m d w h wel (rule.held_now (goes_on p.ident Ignored rest) h) (goes_on p.ident Ignored rest) last sample sampled eight rest e8)
  fall_keeps _ _ (tracks {d = d} {w = w} {h = h} {held = false} {es = es} {cy = cy} {cells = cells} (old {last = last} {sampled = sampled} eight rest true wel sample e8 ok so) m) n =
      let i : Instruction = named (number eight) in
      let x : Phase = goes_on p.ident (begun wel i) rest in
      rw (take_at eight rest 8 e8)
      (fell p birth es cy cells m d w h eight rest true wel _ _ (sees p law birth es cy cells m d w h x last sample) e8 ok refl
      (outs p law birth es cy cells m d w h wel (rule.held_now x h) x last sample sampled eight rest e8 i so))
  fall_keeps _ _ (tracks resting m) n = tracks resting m

  select_keeps : Keeps p birth (Select false)
  select_keeps _ _ (tracks resting m) n = tracks (young (omega arith)) m
  select_keeps _ _ (tracks f m) n = cc

  deselect_keeps : Keeps p birth (Select true)
  deselect_keeps _ _ (tracks resting m) n = cc
  deselect_keeps _ _ (tracks {c = c} {d = d} {w = w} {h = h} {held = false} {es = es} {cy = cy} {cells = cells} (old {last = last} eight rest a wel sample e8 ok so) m) n =
      rw (← lists_same p birth es cy cells m law w a wel eight rest e8)
      (shut_old p birth es cy cells m c d w h (record { held = false; shown = last; sample = sample }) a wel (named (number eight)) rest ok (cycle_runs es) refl)
  deselect_keeps _ _ (tracks {held = true} f m) n = tracks resting m
  deselect_keeps _ _ (tracks f m) n = tracks resting m

  end_keeps : Keeps p birth CycleEnd
  end_keeps _ _ (tracks {cy = None} f m) n = let q = rw (← m.run_is, refused_event) at n in cc
  end_keeps _ _ (tracks {es = es} {cy = Some b} {cells = cells} f m) n =
      tracks (end_fits p birth es (Some b) cells m _ (sym m.run_is) f)
      (record { run_is = refl; len_is = length_laid cells (base p b.target b.start) (take (reach p b.target) b.bytes) ∙ m.len_is; now_is = m.then_is; then_is = m.then_is })

  power_keeps : Keeps p birth Power
  power_keeps _ _ (tracks resting m) n = tracks resting (record { run_is = m.run_is; len_is = m.len_is; now_is = m.now_is; then_is = m.then_is })
  power_keeps _ _ (tracks f m) n = cc

  pub keeps : (e : Event) → Keeps p birth e
  keeps (Select true) j v t n = deselect_keeps j v t n
  keeps (Select false) j v t n = select_keeps j v t n
  keeps (Clock true) j v t n = rise_keeps j v t n
  keeps (Clock false) j v t n = fall_keeps j v t n
  keeps (Data l) _ _ (tracks f m) n = tracks f m
  keeps (Protect l) _ _ (tracks f m) n = tracks f m
  keeps (Hold l) j v t n = hold_keeps l j v t n
  keeps CycleEnd j v t n = end_keeps j v t n
  keeps Power j v t n = power_keeps j v t n
