use Rattle.std.proofs.Common.{◌≡◌, ◌<◌, ◌≤◌, ◌⊎◌, ℕ, MatchOption, length, get_or, take, subst, arith, rules, tests}
use Rattle.std.proofs.lemmas.Grind.{common_steps}
use Rattle.std.proofs.lemmas.Iterator.{IsFirst-from_position, YieldsList-from_slice}
use Rattle.std.proofs.lemmas.List.{get_or-take, length-map, length-take-le}
use Rattle.fault.specs.Firsts.{Below}
use Rattle.lists.specs.Entries.{entries}
use Rattle.rows.proofs.Places.{mapped_at}
use Rattle.rows.proofs.Searches.{placed}
use Rattle.rows.proofs.equations.find_outside.Goals as goal
use Rattle.rows.specs.Stored.{Inside, Outside, equation_of, equations_of}
use Rattle.rows.specs.declared.equations.Equation.{Equation}
use Rattle.unification.specs.Sheets as theory

-- An equation with a side that is not below n, and one with no such side.
abbrev Out : ℕ → Equation → Type 0
Out n e = (n ≤ e.left) ⊎ (n ≤ e.right)

abbrev In : ℕ → Equation → Type 0
In n e = (e.left < n) × (e.right < n)

pub returns : goal.returns
returns c =
    let es = entries c.args.equations.now in
    let m = c.args.m in
    let n = c.args.n in
    let l = length-map es equation_of in
    let len : length (take m es) ≡ m = length-take-le m es (omega arith) in
    let zero : Equation = record { left = 0; right = 0 } in
    let Q : ℕ → Type 0 = Inside (equations_of c.args.equations.now) n in
    let R : ℕ → Type 0 = λ i. (i < m) × Outside (equations_of c.args.equations.now) n i in
    subst (λ (z : ℕ). MatchOption c.position.result (Below z Q) R) len
    (placed zero (take m es) (Out n) (In n) Q R
    (λ k h b e f.
    let a = mapped_at equation_of es k zero (omega arith) in
    let q : equation_of (get_or es k zero) ≡ e = cc in
    subst (λ (z : theory.Equation). (z.left < n) × (z.right < n)) q
    (subst (In n) (get_or-take m es k zero (omega arith)) b))
    (λ i h b d. (
      omega arith,
      (
        equation_of (get_or es i zero),
        mapped_at equation_of es i zero (omega arith),
        subst (Out n) (get_or-take m es i zero (omega arith)) b,
      ),
    ))
    c.position.result
    (IsFirst-from_position _ _ c.position.result (Out n) (In n) c.position.ensures.ran (YieldsList-from_slice (take m es) (grind (arith, common_steps)))
    (λ x q k. search (rules, tests)) (λ x q k. search (rules, tests))))
