-- Of the answers that a call may give, one fits.
use Rattle.std.proofs.Common.{◌≡◌, ℕ, ◌<◌, List, length, get_or, Ok, Err, Result, sym, refl, ap, ◌∙◌, inl, inr, arith}
use Rattle.fault.proofs.Firsts.{first1_only}
use Rattle.table.specs.Calls.{BackGives, ComposeGives, KeptAmong, NamesDropped, VariableGives}
use Rattle.table.specs.Verdicts.{CallsSettled}
use Rattle.table.specs.declared.causes.BackFault.{BackFault}
use Rattle.table.specs.declared.causes.BackFault.TheVariants.{Rows, Equations, Dropped}
use Rattle.table.specs.declared.causes.RowFault.{RowFault}
use Rattle.table.specs.declared.causes.RowFault.TheVariants.{TooMany, Missing, Label, Full}
use Rattle.unification.specs.Sheets.{Sheet, IsCoherent}

variable_settled : (s : Sheet) → IsCoherent s → (x : ℕ) (r q : Result ℕ RowFault) (t u : Sheet) → VariableGives s x r t → VariableGives s x q u → (r ≡ q) × (t ≡ u)
variable_settled s I x (Ok a) (Ok b) t u (h, inl k) (i, inl l) = (ap Ok (I.once a b x k.0 l.0), k.1 ∙ sym l.1)
variable_settled s I x (Ok a) (Ok b) t u (h, inl k) (i, inr l) = absurd (l.0 a k.0)
variable_settled s I x (Ok a) (Ok b) t u (h, inr k) (i, inl l) = absurd (k.0 b l.0)
variable_settled s I x (Ok a) (Ok b) t u (h, inr k) (i, inr l) = (ap Ok (k.2 ∙ sym l.2), k.3 ∙ sym l.3)
variable_settled s I x (Ok a) (Err Label) t u h k = let i = h.0 in let l = k.0 in absurd (omega arith)
variable_settled s I x (Ok a) (Err Full) t u (h, inl k) l = absurd (l.1 a k.0)
variable_settled s I x (Ok a) (Err Full) t u (h, inr k) l = let i = k.1 in let j = l.2 in absurd (omega arith)
variable_settled s I x (Ok a) (Err TooMany) t u h k = absurd k
variable_settled s I x (Ok a) (Err (Missing i)) t u h k = absurd k
variable_settled s I x (Err Label) (Ok b) t u h k = let i = h.0 in let l = k.0 in absurd (omega arith)
variable_settled s I x (Err Label) (Err Label) t u h k = (refl, h.1 ∙ sym k.1)
variable_settled s I x (Err Label) (Err Full) t u h k = let i = h.0 in let l = k.0 in absurd (omega arith)
variable_settled s I x (Err Label) (Err TooMany) t u h k = absurd k
variable_settled s I x (Err Label) (Err (Missing i)) t u h k = absurd k
variable_settled s I x (Err Full) (Ok b) t u h (k, inl l) = absurd (h.1 b l.0)
variable_settled s I x (Err Full) (Ok b) t u h (k, inr l) = let i = h.2 in let j = l.1 in absurd (omega arith)
variable_settled s I x (Err Full) (Err Label) t u h k = let i = h.0 in let l = k.0 in absurd (omega arith)
variable_settled s I x (Err Full) (Err Full) t u h k = (refl, h.3 ∙ sym k.3)
variable_settled s I x (Err Full) (Err TooMany) t u h k = absurd k
variable_settled s I x (Err Full) (Err (Missing i)) t u h k = absurd k
variable_settled s I x (Err TooMany) q t u h k = absurd h
variable_settled s I x (Err (Missing i)) q t u h k = absurd h

compose_settled : (s : Sheet) (f : ℕ) (xs : List ℕ) (r q : Result ℕ RowFault) (t u : Sheet) → ComposeGives s f xs r t → ComposeGives s f xs q u → (r ≡ q) × (t ≡ u)
compose_settled s f xs (Ok a) (Ok b) t u h k = (ap Ok (h.3 ∙ sym k.3), h.4 ∙ sym k.4)
compose_settled s f xs (Ok a) (Err TooMany) t u h k = let i = h.0 in let l = k.0 in absurd (omega arith)
compose_settled s f xs (Ok a) (Err (Missing i)) t u h k = absurd (k.1.fails (h.1 i k.1.within))
compose_settled s f xs (Ok a) (Err Full) t u h k = let i = h.2 in let l = k.2 in absurd (omega arith)
compose_settled s f xs (Ok a) (Err Label) t u h k = absurd k
compose_settled s f xs (Err TooMany) (Ok b) t u h k = let i = h.0 in let l = k.0 in absurd (omega arith)
compose_settled s f xs (Err TooMany) (Err TooMany) t u h k = (refl, h.1 ∙ sym k.1)
compose_settled s f xs (Err TooMany) (Err (Missing i)) t u h k = let j = h.0 in let l = k.0 in absurd (omega arith)
compose_settled s f xs (Err TooMany) (Err Full) t u h k = let j = h.0 in let l = k.0 in absurd (omega arith)
compose_settled s f xs (Err TooMany) (Err Label) t u h k = absurd k
compose_settled s f xs (Err (Missing i)) (Ok b) t u h k = absurd (h.1.fails (k.1 i h.1.within))
compose_settled s f xs (Err (Missing i)) (Err TooMany) t u h k = let j = h.0 in let l = k.0 in absurd (omega arith)
compose_settled s f xs (Err (Missing i)) (Err (Missing j)) t u h k =
    (ap (λ (z : ℕ). Err (Missing z)) (first1_only (length xs) (λ n. get_or xs n 0 < length s.rows) i j h.1 k.1), h.2 ∙ sym k.2)
compose_settled s f xs (Err (Missing i)) (Err Full) t u h k = absurd (h.1.fails (k.1 i h.1.within))
compose_settled s f xs (Err (Missing i)) (Err Label) t u h k = absurd k
compose_settled s f xs (Err Full) (Ok b) t u h k = let i = h.2 in let l = k.2 in absurd (omega arith)
compose_settled s f xs (Err Full) (Err TooMany) t u h k = let i = h.0 in let l = k.0 in absurd (omega arith)
compose_settled s f xs (Err Full) (Err (Missing i)) t u h k = absurd (k.1.fails (h.1 i k.1.within))
compose_settled s f xs (Err Full) (Err Full) t u h k = (refl, h.3 ∙ sym k.3)
compose_settled s f xs (Err Full) (Err Label) t u h k = absurd k
compose_settled s f xs (Err Label) q t u h k = absurd h

-- An equation is not among the rows that are kept and about another at once.
not_both : (s : Sheet) (n m : ℕ) → KeptAmong s n m → NamesDropped s n m → ⊥
not_both s n m k d = let w = k d.0 d.1 in elim d.2 [ inl a ↦ omega arith | inr b ↦ omega arith ]

back_settled : (s : Sheet) (n m : ℕ) (r q : Result (Unit {0}) BackFault) (t u : Sheet) → BackGives s n m r t → BackGives s n m q u → (r ≡ q) × (t ≡ u)
back_settled s n m (Ok x) (Ok y) t u h k = (refl, h.3 ∙ sym k.3)
back_settled s n m (Ok x) (Err Rows) t u h k = let i = h.0 in let l = k.0 in absurd (omega arith)
back_settled s n m (Ok x) (Err Equations) t u h k = let i = h.1 in let l = k.1 in absurd (omega arith)
back_settled s n m (Ok x) (Err Dropped) t u h k = absurd (not_both s n m h.2 k.2)
back_settled s n m (Err Rows) (Ok y) t u h k = let i = h.0 in let l = k.0 in absurd (omega arith)
back_settled s n m (Err Rows) (Err Rows) t u h k = (refl, h.1 ∙ sym k.1)
back_settled s n m (Err Rows) (Err Equations) t u h k = let i = h.0 in let l = k.0 in absurd (omega arith)
back_settled s n m (Err Rows) (Err Dropped) t u h k = let i = h.0 in let l = k.0 in absurd (omega arith)
back_settled s n m (Err Equations) (Ok y) t u h k = let i = h.1 in let l = k.1 in absurd (omega arith)
back_settled s n m (Err Equations) (Err Rows) t u h k = let i = h.0 in let l = k.0 in absurd (omega arith)
back_settled s n m (Err Equations) (Err Equations) t u h k = (refl, h.2 ∙ sym k.2)
back_settled s n m (Err Equations) (Err Dropped) t u h k = let i = h.1 in let l = k.1 in absurd (omega arith)
back_settled s n m (Err Dropped) (Ok y) t u h k = absurd (not_both s n m k.2 h.2)
back_settled s n m (Err Dropped) (Err Rows) t u h k = let i = h.0 in let l = k.0 in absurd (omega arith)
back_settled s n m (Err Dropped) (Err Equations) t u h k = let i = h.1 in let l = k.1 in absurd (omega arith)
back_settled s n m (Err Dropped) (Err Dropped) t u h k = (refl, h.3 ∙ sym k.3)

pub calls_settled : CallsSettled
calls_settled = record { variable = variable_settled; compose = compose_settled; back = back_settled }
