-- What is told of a fault is told of it under its name.
use Rattle.std.proofs.Common.{◌≡◌, ℕ, List, IfOk, Result, sym, subst}

pub told : {X E F : Type 0} (bytes : X → List ℕ) (text : F → List ℕ) (r : Result X E) (f g : F) → f ≡ g → IfOk r (λ s. bytes s ≡ text g) → IfOk r (λ s. bytes s ≡ text f)
told {F = F} bytes text r f g e h = subst (λ (x : F). IfOk r (λ s. bytes s ≡ text x)) (sym e) h

-- A text of parts is the text of what the parts are.
pub retold : {X E : Type 0} (bytes : X → List ℕ) (r : Result X E) (parts text : List ℕ) → IfOk r (λ s. bytes s ≡ parts) → parts ≡ text → IfOk r (λ s. bytes s ≡ text)
retold bytes r parts text h e = subst (λ (t : List ℕ). IfOk r (λ s. bytes s ≡ t)) e h
