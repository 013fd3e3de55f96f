-- What a call answers, and the sheet that it leaves, is settled by the sheet and what is asked.
use Rattle.std.proofs.Common.{◌≡◌, ℕ, ◌<◌, List, length, get_or, Ok, Err, Result, sym, refl, ap, ◌∙◌, inl, inr, arith}
use Rattle.fault.proofs.Firsts.{first1_only}
use Rattle.scale.specs.Scales.{Operations}
use Rattle.sheet.specs.Calls.{ComposeGives, EquateGives, ResolveGives, VariableGives}
use Rattle.sheet.specs.declared.causes.ComposeFault.{ComposeFault}
use Rattle.sheet.specs.declared.causes.ComposeFault.TheVariants as composing
use Rattle.sheet.specs.declared.causes.EquateFault.{EquateFault}
use Rattle.sheet.specs.declared.causes.EquateFault.TheVariants as equating
use Rattle.sheet.specs.declared.causes.NoRow.{NoRow}
use Rattle.sheet.specs.declared.causes.VariableFault.{VariableFault}
use Rattle.sheet.specs.declared.causes.VariableFault.TheVariants as asking
use Rattle.table.specs.Equating.{Between, MissingSide}
use Rattle.unification.proofs.Solving.{one_representative}
use Rattle.unification.specs.Closures.{same}
use Rattle.unification.specs.Sheets.{Sheet, Equation, IsCoherent}
use Rattle.vocabulary.specs.Words.{Words}

pub one_variable : (s : Sheet) → IsCoherent s → (x : ℕ) (r q : Result ℕ VariableFault) (t u : Sheet) → VariableGives s x r t → VariableGives s x q u → (r ≡ q) × (t ≡ u)
one_variable s I x (Ok a) (Ok b) t u (h, inl k) (i, inl l) = (ap Ok (I.once a b x k.0 l.0), k.1 ∙ sym l.1)
one_variable s I x (Ok a) (Ok b) t u (h, inl k) (i, inr l) = absurd (l.0 a k.0)
one_variable s I x (Ok a) (Ok b) t u (h, inr k) (i, inl l) = absurd (k.0 b l.0)
one_variable s I x (Ok a) (Ok b) t u (h, inr k) (i, inr l) = (ap Ok (k.2 ∙ sym l.2), k.3 ∙ sym l.3)
one_variable s I x (Ok a) (Err asking.Label) t u h k = let i = h.0 in let l = k.0 in absurd (omega arith)
one_variable s I x (Ok a) (Err asking.Full) t u (h, inl k) l = absurd (l.1 a k.0)
one_variable s I x (Ok a) (Err asking.Full) t u (h, inr k) l = let i = k.1 in let j = l.2 in absurd (omega arith)
one_variable s I x (Err asking.Label) (Ok b) t u h k = let i = h.0 in let l = k.0 in absurd (omega arith)
one_variable s I x (Err asking.Label) (Err asking.Label) t u h k = (refl, h.1 ∙ sym k.1)
one_variable s I x (Err asking.Label) (Err asking.Full) t u h k = let i = h.0 in let l = k.0 in absurd (omega arith)
one_variable s I x (Err asking.Full) (Ok b) t u h (k, inl l) = absurd (h.1 b l.0)
one_variable s I x (Err asking.Full) (Ok b) t u h (k, inr l) = let i = h.2 in let j = l.1 in absurd (omega arith)
one_variable s I x (Err asking.Full) (Err asking.Label) t u h k = let i = h.0 in let l = k.0 in absurd (omega arith)
one_variable s I x (Err asking.Full) (Err asking.Full) t u h k = (refl, h.3 ∙ sym k.3)

between_missing : (s : Sheet) (e : Equation) (i : ℕ) → Between s e → MissingSide s e i → ⊥
between_missing s e i b m =
    elim m [ inl a ↦ let x = a.1 in let y = b.0 in omega arith | inr a ↦ let x = a.2 in let y = b.1 in omega arith ]

one_missing : (s : Sheet) (e : Equation) (i j : ℕ) → MissingSide s e i → MissingSide s e j → i ≡ j
one_missing s e i j (inl a) (inl b) = a.0 ∙ sym b.0
one_missing s e i j (inl a) (inr b) = let x = a.1 in let y = b.1 in absurd (omega arith)
one_missing s e i j (inr a) (inl b) = let x = a.1 in let y = b.1 in absurd (omega arith)
one_missing s e i j (inr a) (inr b) = a.0 ∙ sym b.0

module _ {D : Type 0} (S : Operations D) (V : Words D) (s : Sheet) (e : Equation) where
  pub one_equate : (r q : Result (Unit {0}) EquateFault) (t u : Sheet) → EquateGives S V s e r t → EquateGives S V s e q u → (r ≡ q) × (t ≡ u)
  one_equate (Ok x) (Ok y) t u h k = (refl, h.4 ∙ sym k.4)
  one_equate (Ok x) (Err (equating.NoRow i)) t u h k = absurd (between_missing s e i h.0 k.0)
  one_equate (Ok x) (Err equating.Full) t u h k = let a = h.1 in let b = k.1 in absurd (omega arith)
  one_equate (Ok x) (Err equating.Clash) t u h k = absurd (h.2 k.2)
  one_equate (Ok x) (Err equating.Occurs) t u h k = absurd (h.3 k.2.1)
  one_equate (Err (equating.NoRow i)) (Ok x) t u h k = absurd (between_missing s e i k.0 h.0)
  one_equate (Err (equating.NoRow i)) (Err (equating.NoRow j)) t u h k =
      (ap (λ (z : ℕ). Err (equating.NoRow z)) (one_missing s e i j h.0 k.0), h.1 ∙ sym k.1)
  one_equate (Err (equating.NoRow i)) (Err equating.Full) t u h k = absurd (between_missing s e i k.0 h.0)
  one_equate (Err (equating.NoRow i)) (Err equating.Clash) t u h k = absurd (between_missing s e i k.0 h.0)
  one_equate (Err (equating.NoRow i)) (Err equating.Occurs) t u h k = absurd (between_missing s e i k.0 h.0)
  one_equate (Err equating.Full) (Ok x) t u h k = let a = h.1 in let b = k.1 in absurd (omega arith)
  one_equate (Err equating.Full) (Err (equating.NoRow j)) t u h k = absurd (between_missing s e j h.0 k.0)
  one_equate (Err equating.Full) (Err equating.Full) t u h k = (refl, h.2 ∙ sym k.2)
  one_equate (Err equating.Full) (Err equating.Clash) t u h k = let a = h.1 in let b = k.1 in absurd (omega arith)
  one_equate (Err equating.Full) (Err equating.Occurs) t u h k = let a = h.1 in let b = k.1 in absurd (omega arith)
  one_equate (Err equating.Clash) (Ok x) t u h k = absurd (k.2 h.2)
  one_equate (Err equating.Clash) (Err (equating.NoRow j)) t u h k = absurd (between_missing s e j h.0 k.0)
  one_equate (Err equating.Clash) (Err equating.Full) t u h k = let a = h.1 in let b = k.1 in absurd (omega arith)
  one_equate (Err equating.Clash) (Err equating.Clash) t u h k = (refl, h.3 ∙ sym k.3)
  one_equate (Err equating.Clash) (Err equating.Occurs) t u h k = absurd (k.2.0 h.2)
  one_equate (Err equating.Occurs) (Ok x) t u h k = absurd (k.3 h.2.1)
  one_equate (Err equating.Occurs) (Err (equating.NoRow j)) t u h k = absurd (between_missing s e j h.0 k.0)
  one_equate (Err equating.Occurs) (Err equating.Full) t u h k = let a = h.1 in let b = k.1 in absurd (omega arith)
  one_equate (Err equating.Occurs) (Err equating.Clash) t u h k = absurd (h.2.0 k.2)
  one_equate (Err equating.Occurs) (Err equating.Occurs) t u h k = (refl, h.3 ∙ sym k.3)

module _ {D : Type 0} (V : Words D) (s : Sheet) (f : ℕ) (xs : List ℕ) where
  pub one_compose : (r q : Result ℕ ComposeFault) (t u : Sheet) → ComposeGives V s f xs r t → ComposeGives V s f xs q u → (r ≡ q) × (t ≡ u)
  one_compose (Ok p) (Ok q) t u h k = (ap Ok (h.4 ∙ sym k.4), h.5 ∙ sym k.5)
  one_compose (Ok p) (Err composing.NoWord) t u h k = let a = h.0 in let b = k.0 in absurd (omega arith)
  one_compose (Ok p) (Err composing.WrongArguments) t u h k = absurd (k.1 h.1)
  one_compose (Ok p) (Err (composing.NoRow j)) t u h k = absurd (k.2.fails (h.2 j k.2.within))
  one_compose (Ok p) (Err composing.Full) t u h k = let a = h.3 in let b = k.3 in absurd (omega arith)
  one_compose (Err composing.NoWord) (Ok q) t u h k = let a = h.0 in let b = k.0 in absurd (omega arith)
  one_compose (Err composing.NoWord) (Err composing.NoWord) t u h k = (refl, h.1 ∙ sym k.1)
  one_compose (Err composing.NoWord) (Err composing.WrongArguments) t u h k = let a = h.0 in let b = k.0 in absurd (omega arith)
  one_compose (Err composing.NoWord) (Err (composing.NoRow j)) t u h k = let a = h.0 in let b = k.0 in absurd (omega arith)
  one_compose (Err composing.NoWord) (Err composing.Full) t u h k = let a = h.0 in let b = k.0 in absurd (omega arith)
  one_compose (Err composing.WrongArguments) (Ok q) t u h k = absurd (h.1 k.1)
  one_compose (Err composing.WrongArguments) (Err composing.NoWord) t u h k = let a = h.0 in let b = k.0 in absurd (omega arith)
  one_compose (Err composing.WrongArguments) (Err composing.WrongArguments) t u h k = (refl, h.2 ∙ sym k.2)
  one_compose (Err composing.WrongArguments) (Err (composing.NoRow j)) t u h k = absurd (h.1 k.1)
  one_compose (Err composing.WrongArguments) (Err composing.Full) t u h k = absurd (h.1 k.1)
  one_compose (Err (composing.NoRow i)) (Ok q) t u h k = absurd (h.2.fails (k.2 i h.2.within))
  one_compose (Err (composing.NoRow i)) (Err composing.NoWord) t u h k = let a = h.0 in let b = k.0 in absurd (omega arith)
  one_compose (Err (composing.NoRow i)) (Err composing.WrongArguments) t u h k = absurd (k.1 h.1)
  one_compose (Err (composing.NoRow i)) (Err (composing.NoRow j)) t u h k =
      (ap (λ (z : ℕ). Err (composing.NoRow z)) (first1_only (length xs) (λ m. get_or xs m 0 < length s.rows) i j h.2 k.2), h.3 ∙ sym k.3)
  one_compose (Err (composing.NoRow i)) (Err composing.Full) t u h k = absurd (h.2.fails (k.2 i h.2.within))
  one_compose (Err composing.Full) (Ok q) t u h k = let a = h.3 in let b = k.3 in absurd (omega arith)
  one_compose (Err composing.Full) (Err composing.NoWord) t u h k = let a = h.0 in let b = k.0 in absurd (omega arith)
  one_compose (Err composing.Full) (Err composing.WrongArguments) t u h k = absurd (k.1 h.1)
  one_compose (Err composing.Full) (Err (composing.NoRow j)) t u h k = absurd (k.2.fails (h.2 j k.2.within))
  one_compose (Err composing.Full) (Err composing.Full) t u h k = (refl, h.4 ∙ sym k.4)

pub one_resolve : (s : Sheet) (p : ℕ) (r q : Result ℕ NoRow) → ResolveGives s p r → ResolveGives s p q → r ≡ q
one_resolve s p (Ok x) (Ok y) h k = ap Ok (one_representative (same p) h.1 k.1)
one_resolve s p (Ok x) (Err y) h k = let a = h.0 in absurd (omega arith)
one_resolve s p (Err x) (Ok y) h k = let a = k.0 in absurd (omega arith)
one_resolve s p (Err x) (Err y) h k = refl
