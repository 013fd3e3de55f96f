-- What a search of a list answers, said of the places of the list.
use Rattle.std.proofs.Common.{ℕ, ◌<◌, List, length, get_or, MatchOption, Some, None, arith}
use Rattle.std.specs.declared.option.Option.{Option}
use Rattle.std.specs.List.{AllWithin, HoldsAt}
use Rattle.fault.specs.Firsts.{Below}

-- The answer of `position`, where No of each element that was passed gives Q of its place, and Yes of the one that was found, with Q of
-- the places before it, gives R of its place.
pub placed : {B : Type 0} (d : B) (xs : List B) (Yes No : B → Type 0) (Q R : ℕ → Type 0) → ((k : ℕ) → k < length xs → No (get_or xs k d) → Q k) → ((i : ℕ) → i < length xs → Yes (get_or xs i d) → Below i Q → R i) → (r : Option ℕ) → MatchOption r (AllWithin No xs 0 (length xs)) (λ i. (i < length xs) × HoldsAt Yes xs i × AllWithin No xs 0 i) → MatchOption r (Below (length xs) Q) R
placed d xs Yes No Q R passed found None h = λ k l. passed k l (h k d (omega arith) l)
placed d xs Yes No Q R passed found (Some i) h = found i h.0 (h.1 d) (λ k l. passed k (omega (arith, h.0)) (h.2 k d (omega arith) l))
