use Rattle.std.proofs.Common.{◌≡◌, true, sym, refl, ap, ◌∙◌, rules}
use Rattle.rules.specs.declared.state.Event.TheVariants.{Clock}
use Rattle.rules.specs.Ident.{ident_length}
use Rattle.rules.specs.Rules.{moved}
use Rattle.chip.specs.Shows.{view_of}
use Rattle.chip.proofs.Arms.{aims_view}
use Rattle.chip.proofs.unit.Chip.apply.Goals as goal

-- the last address bit
pub returns-else-n-lt23 : goal.returns-else-n-lt23
returns-else-n-lt23 g c =
    let p = g.P.Part.shape in
    let v = view_of p g.B.Backing.row c.args.self.now in
    let a = c.in-Address-Clock-true in
    let e : c.args.event ≡ Clock true = search rules in
    record {
      made = refl;
      view = aims_view p v a.access a.wel a.n a.value c.push_address-more.result (ident_length c.IDENT_PAGE.result) c.aim-self.result a.is-0 c.if-n-lt23.false c.push_address-more.ensures (ap ident_length c.IDENT_PAGE.ensures ∙ sym (ap (λ s. s.ident) g.P.Part.is_shape)) c.aim-self.ensures c.if-self.false ∙ ap (moved p v) (sym e);
      lent = refl;
      kept = record { same_held = refl; same_past = refl; same_length = refl; same_rest = refl };
    }
