-- More equations put more rows together; the same equations, in whatever order, the same rows.
use Rattle.std.proofs.Common.{◌≡◌, ℕ, zero, suc, ◌≤◌, List, [], ◌∷◌, ◌++◌, sym, ap, ◌∙◌, subst, arith}
use mathlib.Core.List.Memᴰ
use mathlib.Core.Option.{some}
use lib.ListN.{get_elem?}
use Rattle.scale.specs.Scales.{Operations}
use Rattle.vocabulary.specs.Words.{Words}
use Rattle.unification.specs.Closures.{Closure, stated, same, turned, joined, passed, Above, Descent, step, more, Cycle, kind, Representative, Bound}
use Rattle.unification.specs.Sheets.{Row, composed, Equation, Sheet, At, Holds, equated}
use Rattle.unification.specs.Solutions.{Solved, free, built, AllSolved, none, each, IsSolution}
use Rattle.unification.specs.Terms.{Term, Terms}
use Rattle.unification.specs.Theorems.{OrderFree}

-- Rows that stay where they are, and equations that stay, keep together what was together.
pub closure_grows : {s t : Sheet} → ((p : ℕ) (r : Row) → At s p r → At t p r) → ((e : Equation) → Holds s e → Holds t e) → {p q : ℕ} → Closure s p q → Closure t p q
closure_grows a g (stated e h) = stated e (g e h)
closure_grows a g (same p) = same p
closure_grows a g (turned c) = turned (closure_grows a g c)
closure_grows a g (joined c d) = joined (closure_grows a g c) (closure_grows a g d)
closure_grows a g (passed {p = p} {q = q} f h xs ys i c hp hq hl hi) =
    passed f h xs ys i (closure_grows a g c) (a p (composed f xs) hp) (a q (composed h ys) hq) hl hi

-- So a new equation only puts more together, and so does a new row.
pub closure_equated : (s : Sheet) (e : Equation) {p q : ℕ} → Closure s p q → Closure (equated s e) p q
closure_equated s e c = closure_grows (λ p r h. h) (λ d m. Memᴰ.append_left (e ∷ []) m) c

at_appended : (l m : List Row) (p : ℕ) (r : Row) → get_elem? l p ≡ some r → get_elem? (l ++ m) p ≡ some r
at_appended [] m p r h = let z : ◌≡◌ {A = ℕ} 0 1 = cc in absurd (omega arith)
at_appended (x ∷ l) m zero r h = h
at_appended (x ∷ l) m (suc p) r h = at_appended l m p r h

pub closure_appended : (s : Sheet) (new : List Row) {p q : ℕ} → Closure s p q → Closure (record { rows = s.rows ++ new; equations = s.equations }) p q
closure_appended s new c = closure_grows (λ p r h. at_appended s.rows new p r h) (λ d m. m) c

-- Over the same rows each row stays where it is.
at_moved : (s t : Sheet) → s.rows ≡ t.rows → (p : ℕ) (r : Row) → At s p r → At t p r
at_moved s t e p r h = ap (λ (l : List Row). get_elem? l p) (sym e) ∙ h

module _ {s t : Sheet} (a : (p : ℕ) (r : Row) → At s p r → At t p r) (g : (e : Equation) → Holds s e → Holds t e) where
  above_grows : {p q : ℕ} → Above s p q → Above t p q
  above_grows b =
      record {
        row = b.row;
        word = b.word;
        args = b.args;
        place = b.place;
        together = closure_grows a g b.together;
        is = a b.row (composed b.word b.args) b.is;
        in_args = b.in_args;
        below = closure_grows a g b.below;
      }

  descent_grows : {p q : ℕ} → Descent s p q → Descent t p q
  descent_grows (step b) = step (above_grows b)
  descent_grows (more b d) = more (above_grows b) (descent_grows d)

  pub cycle_grows : Cycle s → Cycle t
  cycle_grows c = (c.0, descent_grows c.1)

module _ {s t : Sheet} (r : s.rows ≡ t.rows) (g : (e : Equation) → Holds s e → Holds t e) (b : (e : Equation) → Holds t e → Holds s e) where
  representative_same : {p q : ℕ} → Representative s q p → Representative t q p
  representative_same {p} {q} h =
      record {
        together = closure_grows (at_moved s t r) g h.together;
        kindest = λ a c.
            subst (λ (l : List Row). kind (get_elem? l q) ≤ kind (get_elem? l a)) r (h.kindest a (closure_grows (at_moved t s (sym r)) b c));
        lowest = λ a c e.
            h.lowest a (closure_grows (at_moved t s (sym r)) b c) (subst (λ (l : List Row). kind (get_elem? l q) ≡ kind (get_elem? l a)) (sym r) e);
      }

  mutual
    solved_same : {p : ℕ} {u : Term} → Solved s p u → Solved t p u
    solved_same (free {q = q} {x = x} c e) = free (representative_same c) (at_moved s t r q _ e)
    solved_same (built {q = q} c e h) = built (representative_same c) (at_moved s t r q _ e) (all_solved_same h)

    all_solved_same : {ps : List ℕ} {us : Terms} → AllSolved s ps us → AllSolved t ps us
    all_solved_same none = none
    all_solved_same (each h hs) = each (solved_same h) (all_solved_same hs)

  solution_same : (σ : ℕ → Term) → IsSolution s σ → IsSolution t σ
  solution_same σ K =
      record {
        labelled = λ p x e. solved_same (K.labelled p x (at_moved t s (sym r) p _ e));
        other = λ x hx n. K.other x hx (λ p e. n p (at_moved s t r p _ e));
      }

module _ {D : Type 0} (S : Operations D) (V : Words D) where
  bound_shrinks : (s t : Sheet) → s.rows ≡ t.rows → ((e : Equation) → Holds s e → Holds t e) → (d : D) → Bound S V t d → Bound S V s d
  bound_shrinks s t r g d b p q f h xs ys c hp hq =
      b p q f h xs ys (closure_grows (at_moved s t r) g c) (at_moved s t r p (composed f xs) hp) (at_moved s t r q (composed h ys) hq)

  pub order_free : OrderFree S V
  order_free s t r g b =
      record {
        degree = λ d G.
            record {
              bound = bound_shrinks t s (sym r) b d G.bound;
              greatest = λ c k. G.greatest c (bound_shrinks s t r g c k);
            };
        representative = λ p q h. representative_same r g b h;
        value = λ p u h. solved_same r g b h;
        solution = solution_same r g b;
        cycle = cycle_grows (at_moved s t r) g;
      }
