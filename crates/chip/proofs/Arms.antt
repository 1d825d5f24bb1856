-- The last address bit.
use Rattle.std.proofs.Common.{◌≡◌, ℕ, ◌+◌, ◌≤◌, Bool, true, false, sym, ap, ◌∙◌, le-ltb}
use Rattle.rules.specs.declared.state.Access.{Access}
use Rattle.rules.specs.declared.state.Phase.{Phase}
use Rattle.rules.specs.declared.state.Phase.TheVariants.{Address}
use Rattle.rules.specs.Shape.{Shape}
use Rattle.rules.specs.Rules.{View, rises_c, clocks, latched, aimed, pushed_address, running}

latched_last : (ident : ℕ) (runs wel d : Bool) (a : Access) (was : Bool) (n v : ℕ) → 23 ≤ n → aimed ident a was (pushed_address v d) ≡ latched ident runs wel d (Address a was n v)
latched_last ident runs wel d a was n v h =
    let F : Bool → Phase = λ t. elim t [ true ↦ Address a was (n + 1) (pushed_address v d) | false ↦ aimed ident a was (pushed_address v d) ] in
    ap F (sym (le-ltb n 23 h))

pub aims_view : (p : Shape) (v : View) (a : Access) (was : Bool) (n b x ident : ℕ) (r : Phase) → v.stretch ≡ Address a was n b → 23 ≤ n → x ≡ pushed_address b v.pins.input → ident ≡ p.ident → r ≡ aimed ident a was x → v.shift.held ≡ false → clocks v true r v.shift ≡ rises_c p v v.shift.held
aims_view p v a was n b x ident r e h q i k held =
    let G : Phase → Phase = latched p.ident (running v.cycle) v.wel v.pins.input in
    ap (λ s. clocks v true s v.shift)
    (k ∙ ap (λ m. aimed m a was x) i ∙ ap (aimed p.ident a was) q ∙ latched_last p.ident (running v.cycle) v.wel v.pins.input a was n b h ∙ ap G (sym e))
    ∙ ap (rises_c p v) (sym held)
