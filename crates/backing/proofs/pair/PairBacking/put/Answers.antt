use Rattle.std.proofs.Common.{◌++◌, sym, refl, ap, ◌∙◌, arith}
use Rattle.backing.specs.Rows.{beyond}
use Rattle.backing.proofs.Rows.{writes_left, writes_right, past_left, past_right, past_paired, past_shows}
use Rattle.backing.proofs.pair.PairBacking.put.Goals as goal

pub returns-then-place-ge-PLACES : goal.returns-then-place-ge-PLACES
returns-then-place-ge-PLACES g c =
    record {
      row = (past_paired (g.A.Backing.row c.args.self.now.a) (g.B.Backing.row c.args.self.now.b) _ c.if-place-ge-PLACES.true, past_shows c.from.result c.from.ensures, refl);
      past = refl;
      held = refl;
    }

pub returns-then-place-n : goal.returns-then-place-n
returns-then-place-n g c =
    record {
      row = writes_left _ _ _ _ _ c.put.result (omega arith) (omega arith) c.put.ensures.row;
      past = ap (λ zs. zs ++ (g.A.Backing.past c.put.new.self ++ g.B.Backing.past c.args.self.now.b)) (past_left _ _ (g.B.Backing.row c.args.self.now.b) _ _ c.put.result (omega arith) (omega arith) c.put.ensures.row) ∙ ap (λ zs. beyond (g.A.Backing.row c.args.self.now.a ++ g.B.Backing.row c.args.self.now.b) ++ (zs ++ g.B.Backing.past c.args.self.now.b)) c.put.ensures.past;
      held = ap (λ ns. ns ++ g.B.Backing.held c.args.self.now.b) c.put.ensures.held;
    }

pub returns-else-place-n : goal.returns-else-place-n
returns-else-place-n g c =
    record {
      row = writes_right _ _ _ _ _ _ c.put-else-place-n.result (omega arith) (sym c.len-n.ensures) c.if-place-n.false c.put-else-place-n.ensures.row;
      past = ap (λ zs. zs ++ (g.A.Backing.past c.args.self.now.a ++ g.B.Backing.past c.put-else-place-n.new.self)) (past_right (g.A.Backing.row c.args.self.now.a) _ _ _ _ _ c.put-else-place-n.result (omega arith) (sym c.len-n.ensures) c.if-place-n.false c.put-else-place-n.ensures.row) ∙ ap (λ zs. beyond (g.A.Backing.row c.args.self.now.a ++ g.B.Backing.row c.args.self.now.b) ++ (g.A.Backing.past c.args.self.now.a ++ zs)) c.put-else-place-n.ensures.past;
      held = ap (λ ns. g.A.Backing.held c.args.self.now.a ++ ns) c.put-else-place-n.ensures.held;
    }
