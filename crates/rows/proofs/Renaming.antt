-- Renaming one label, place by place.
use Rattle.std.proofs.Common.{◌≡◌, ℕ, ◌+◌, ◌<◌, eqb, List, ◌++◌, map, length, get_or, take, drop, set, sym, ap, ◌∙◌}
use Rattle.std.proofs.lemmas.List.Edits.{map_over_more}
use Rattle.std.proofs.lemmas.List.{get_or_default}
use Rattle.std.proofs.lemmas.Bool.{cond-true, cond-false, eq-eqb, ne_eqb}
use Rattle.rows.specs.Labels.{renamed}

pub renamed_same : (gone keep x : ℕ) → x ≡ gone → renamed gone keep x ≡ keep
renamed_same gone keep x e = cond-true (eqb x gone) keep x (eq-eqb x gone e)

pub renamed_other : (gone keep x : ℕ) → (x ≡ gone → ⊥) → renamed gone keep x ≡ x
renamed_other gone keep x e = cond-false (eqb x gone) keep x (ne_eqb x gone e)

-- A loop that writes f x over each x, where the value written is known to be f x.
pub map_step : (f : ℕ → ℕ) (xs ys : List ℕ) (i v : ℕ) → i < length xs → i < length ys → ys ≡ map f (take i xs) ++ drop i xs → f (get_or ys i 0) ≡ v → set ys i v ≡ map f (take (i + 1) xs) ++ drop (i + 1) xs
map_step f xs ys i v h k e r =
    ap (λ z. set ys i z) (sym r) ∙ map_over_more f xs ys i (get_or ys i 0) h e (get_or_default ys i 0 (get_or ys i 0) k)
