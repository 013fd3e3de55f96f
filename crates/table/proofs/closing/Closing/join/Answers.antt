use Rattle.std.proofs.Common.{◌≡◌, ◌≢◌, ℕ, ◌<◌, List, length, refl, sym, subst}
use denote.Bor.{Bor}
use Rattle.rows.proofs.Places.{long}
use Rattle.rows.specs.Stored.{at, rows_of}
use Rattle.rows.specs.declared.rows.Rows.{Rows}
use Rattle.table.proofs.Closings.{sheet_in}
use Rattle.table.proofs.Hands.{coherent_at_hand}
use Rattle.table.proofs.Joins.{joined_more}
use Rattle.table.proofs.closing.Closing.join.Goals as goal
use Rattle.table.specs.Joining.{Sides, Sound, labels, merged}
use Rattle.table.specs.Sheets.{sheet_of}
use Rattle.table.specs.declared.closing.Closing.{Closing}
use Rattle.unification.specs.Closures.{Closure}
use Rattle.unification.specs.Sheets.{IsCoherent}

-- What the joining leaves: it is sound, both sides of each equation have one number, and there is one class less.
joined : (t : Closing) (x y : ℕ) → x < length (sheet_in t).rows → y < length (sheet_in t).rows → ∥ Closure (sheet_in t) x y ∥₁ → at t.classing.classes.of x ≢ at t.classing.classes.of y → (k : List ℕ) → k ≡ merged (sheet_in t).rows t.classing.classes.of x y → Sound (sheet_in t) (length (sheet_in t).rows) k × Sides (sheet_in t) k × (labels k (length (sheet_in t).rows) < labels t.classing.classes.of (length (sheet_in t).rows))
joined t x y hx hy h d k e =
    let s = sheet_in t in
    let n = length s.rows in
    let c = t.classing.classes in
    subst (λ (z : List ℕ). Sound s n z × Sides s z × (labels z n < labels c.of n)) (sym e)
    (joined_more s n (coherent_at_hand t.coherent) refl c.of x y (long t.classing.rows.now c) (t.sound, t.sides) hx hy h d)

pub invariant_of-self : goal.invariant_of-self
invariant_of-self c =
    let t = c.args.self.now in
    let e = t.equations.now in
    let k = c.merge.new.self.classes.of in
    let r = sym c.merge.ensures.rows in
    let j = joined t c.args.x c.args.y c.requires.left c.requires.right c.requires.together c.requires.apart k c.merge.ensures.classes in
    record {
      coherent = subst (λ (z : Bor Rows). ∥ IsCoherent (sheet_of z.now e) ∥₁) r t.coherent;
      sound = subst (λ (z : Bor Rows). Sound (sheet_of z.now e) (length (rows_of z.now.items)) k) r j.0;
      sides = subst (λ (z : Bor Rows). Sides (sheet_of z.now e) k) r j.1;
    }

pub returns-clause-labels : goal.returns-clause-labels
returns-clause-labels c =
    (joined c.args.self.now c.args.x c.args.y c.requires.left c.requires.right c.requires.together c.requires.apart c.merge.new.self.classes.of c.merge.ensures.classes).2
