-- The degree of a sheet, gathered row by row.
use mathlib.Core.Option.{Option, none, some}
use Rattle.std.proofs.Common.{◌≡◌, ℕ, ◌+◌, Some, None, sym, refl, ap, ◌∙◌, add-one}
use lib.ListN.{get_elem?}
use Rattle.scale.specs.Scales.{Operations}
use Rattle.std.specs.declared.option.Option as declared
use Rattle.rows.specs.Stored.{pair_of}
use Rattle.unification.specs.Sheets.{Row, variable, composed, Sheet}
use Rattle.unification.specs.Tables.{rows_alike, gathered}
use Rattle.vocabulary.specs.Words.{Words}

module _ {D : Type 0} (S : Operations D) (V : Words D) where
  -- How much two words are alike; top where there are none.
  abbrev pub pair_alike : declared.Option (ℕ × ℕ) → D
  pair_alike None = S.top
  pair_alike (Some w) = V.likeness w.0 w.1

  pub pair_alike_lem : (p q : Option Row) → rows_alike S V p q ≡ pair_alike (pair_of p q)
  pair_alike_lem none q = refl
  pair_alike_lem (some (variable x)) q = refl
  pair_alike_lem (some (composed f xs)) none = refl
  pair_alike_lem (some (composed f xs)) (some (variable x)) = refl
  pair_alike_lem (some (composed f xs)) (some (composed g ys)) = refl

  -- One row more.
  pub gathered_more : (s : Sheet) (of : ℕ → ℕ) (k : ℕ) (d : D) (w : declared.Option (ℕ × ℕ)) → w ≡ pair_of (get_elem? s.rows k) (get_elem? s.rows (of k)) → d ≡ gathered S V s of k → S.meet (pair_alike w) d ≡ gathered S V s of (k + 1)
  gathered_more s of k d w e h =
      ap (λ (x : D). S.meet x d) (ap pair_alike e ∙ sym (pair_alike_lem (get_elem? s.rows k) (get_elem? s.rows (of k))))
      ∙ ap (S.meet (rows_alike S V (get_elem? s.rows k) (get_elem? s.rows (of k)))) h
      ∙ ap (gathered S V s of) (sym (add-one k))
