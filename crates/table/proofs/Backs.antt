-- A table that keeps its first rows and equations.
use Rattle.std.proofs.Common.{◌≡◌, ℕ, ◌<◌, ◌≤◌, List, map, length, take, sym, ap, ◌∙◌, subst, arith, length-take}
use Rattle.std.proofs.lemmas.List.{take-map}
use Rattle.fault.specs.Firsts.{Below}
use Rattle.lists.specs.Entries.{entries}
use Rattle.table.proofs.Hands.{coherent_at_hand, represents_at_hand}
use Rattle.table.proofs.Rebuilt.{like_kept}
use Rattle.table.specs.Calls.{KeptAmong, NamesDropped}
use Rattle.table.specs.Joining.{Unlike}
use Rattle.table.specs.Sheets.{sheet_of}
use Rattle.table.specs.Uniformity.{IsUniform}
use Rattle.rows.specs.Stored.{Equations, Inside, Outside, equation_of, equations_of, rows_of}
use Rattle.rows.specs.declared.rows.Rows.{Rows}
use Rattle.table.specs.declared.table.Table.{Table}
use Rattle.unification.proofs.Bridges.{at_kept, at_member, cycle_kept, kept_at, kept_coherent, member_at}
use Rattle.unification.proofs.Cycles.{depth_no_cycle}
use Rattle.unification.proofs.Reading.{at_within}
use Rattle.unification.specs.Closures.{Cycle}
use Rattle.unification.specs.Sheets as theory
use Rattle.unification.specs.Sheets.{Sheet, IsCoherent, kept}

-- Equations by position, and by membership in the first ones.
pub inside_among : (s : Sheet) (r m : ℕ) → Below m (Inside s.equations r) → KeptAmong s r m
inside_among s r m k e h =
    let a = member_at (take m s.equations) e h in
    let w = at_within (take m s.equations) a.0 e a.1 in
    let n = length-take m s.equations in
    k a.0 (omega arith) e (at_kept s.equations m a.0 e a.1)

pub outside_dropped : (s : Sheet) (r m i : ℕ) → i < m → Outside s.equations r i → NamesDropped s r m
outside_dropped s r m i h o = (o.0, at_member (take m s.equations) i o.0 (kept_at s.equations m i o.0 h o.1), o.2)

-- The sheet that is left when rows and equations are cut.
pub cut_down : (t : Table) (n m : ℕ) (rows : Rows) (equations : Equations) → rows_of rows.items ≡ take n (rows_of t.rows.items) → entries equations ≡ take m (entries t.equations) → sheet_of rows equations ≡ kept n m (sheet_of t.rows t.equations)
cut_down t n m rows equations a b =
    ap (λ (l : List theory.Row). record { rows = l; equations = equations_of equations }) a
    ∙ ap (λ (l : List theory.Equation). record { rows = take n (rows_of t.rows.items); equations = l }) (ap (map equation_of) b ∙ sym (take-map equation_of m (entries t.equations)))

module _ (t : Table) (n m : ℕ) (hn : n ≤ length (rows_of t.rows.items)) (among : KeptAmong (sheet_of t.rows t.equations) n m) (s : Sheet) (e : s ≡ kept n m (sheet_of t.rows t.equations)) where
  pub coherent_first : IsCoherent s
  coherent_first =
      subst IsCoherent (sym e) (kept_coherent (coherent_at_hand t.coherent) n m hn among)

  pub like_first : IsUniform t.rows t.equations t.classes → (p q : ℕ) → Unlike s p q → ⊥
  like_first U p q u =
      like_kept t.classes.of (represents_at_hand (coherent_at_hand t.coherent) t.represents) U n m p q
      (subst (λ (z : Sheet). Unlike z p q) e u)

  pub straight_first : Cycle s → ⊥
  straight_first c = depth_no_cycle t.falls (cycle_kept (sheet_of t.rows t.equations) n m (subst Cycle e c))
