use Rattle.std.proofs.Common.{◌≡◌, ℕ, ◌+◌, ◌-◌, length, get_or, replicate, refl, ◌∙◌, inl, inr, arith, get_or-drop}
use Rattle.std.proofs.lemmas.Bool.{cases_lt}
use Rattle.std.proofs.lemmas.List.{get_or_append_left, get_or-append_right, get_or-replicate, get_or_past, length-replicate}
use Rattle.layout.proofs.layout.Layout.arities.Goals as goal

-- A list of zeros has 0 at every place, and past its end.
zeros : (n k : ℕ) → ◌≡◌ {A = ℕ} (get_or (replicate n 0) k 0) 0
zeros n k =
    elim (cases_lt k n) [
      | inl lt ↦ get_or-replicate n k 0 0 lt
      | inr past ↦ get_or_past (replicate n 0) k 0 (omega (arith, length-replicate {A = ℕ} n 0))
    ]

pub returns-clause-rest : goal.returns-clause-rest
returns-clause-rest c = λ k h.
    let n = c.args.self.now.count in
    let at = k - length c.loop-arity.arity-items in
    get_or-append_right c.loop-arity.arity-items _ _ k 0 refl (omega arith) ∙ get_or-drop n (replicate 128 0) at 0 ∙ zeros 128 (n + at)

pub returns-clause-places : goal.returns-clause-places
returns-clause-places c = λ k h.
    get_or_append_left c.loop-arity.arity-items _ 0 k (omega arith) ∙ c.loop-arity.invariant.2 k (omega arith)
