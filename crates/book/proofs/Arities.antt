-- The arities of a book's words, as a list has them.
use Rattle.std.proofs.Common.{◌≡◌, ℕ, ◌<◌, List, length, get_or, take, ◌∙◌, arith, length-take, get_or-take}
use Rattle.fault.specs.Firsts.{Below}
use Rattle.layout.specs.Places.{arity_at, count_of}

pub arity_read : (B A : List ℕ) (n i : ℕ) → n ≡ count_of B → Below (count_of B) (λ k. get_or A k 0 ≡ arity_at B k) → i < length (take n A) → (i < count_of B) × (get_or (take n A) i 0 ≡ arity_at B i)
arity_read B A n i counted places within =
    let short = length-take n A in
    let word : i < count_of B = omega arith in
    (word, get_or-take n A i 0 (omega arith) ∙ places i word)
