-- A cell of the table is what the book has there.
use Rattle.std.proofs.Common.{◌≡◌, ℕ, ◌+◌, ◌*◌, ◌<◌, ◌&&◌, ltb, List, get_or, drop, Some, sym, ap, ◌∙◌, add_assoc, arith, get_or-drop}
use Rattle.std.proofs.lemmas.Bool.{and_from, cond-true, lt-ltb}
use Rattle.layout.specs.Places.{code_at, code_of, count_of, pair, table_start}

-- The two bytes at a place of the table are those at the same place of the book.
pair_drop : (B : List ℕ) (s k : ℕ) → pair (drop s B) k ≡ pair B (s + k)
pair_drop B s k =
    let high = get_or-drop s B k 0 in
    let low = get_or-drop s B (k + 1) 0 ∙ ap (λ (at : ℕ). get_or B at 0) (sym (add_assoc s k 1)) in
    cc

pub cell_is : (B T : List ℕ) (n i j : ℕ) → n ≡ count_of B → T ≡ drop (table_start B) B → i < n → j < n → Some (pair T (2 * (i * n + j))) ≡ code_of B i j
unfolding code_at
cell_is B T n i j counted placed p q =
    let e = pair_drop B (table_start B) (2 * (i * count_of B + j)) in
    let here : pair T (2 * (i * n + j)) ≡ code_at B i j = cc in
    let p' : i < count_of B = omega arith in
    let q' : j < count_of B = omega arith in
    ap Some here ∙ sym (cond-true (ltb i (count_of B) && ltb j (count_of B)) _ _ (and_from _ _ (lt-ltb _ _ p') (lt-ltb _ _ q')))
