-- What reading a text answers is settled by the sheet and the text.
use Rattle.std.proofs.Common.{◌≡◌, ℕ, ◌≤◌, List, length, Ok, Err, Option, Result, sym, refl, ap, ◌∙◌, subst, arith, length-take}
use lib.ListN.{length-map}
use Rattle.table.proofs.Hands.{coherent_at_hand}
use Rattle.table.specs.Calls.{KeptOnErr}
use Rattle.table.specs.Sheets.{sheet_of}
use Rattle.table.specs.declared.table.Table.{Table}
use Rattle.text.specs.Verdicts.{Accepted, Refused}
use Rattle.text.specs.declared.causes.TextFault.{TextFault}
use Rattle.text.proofs.Judging.{only_one}
use Rattle.unification.specs.Putting.{Put}
use Rattle.unification.specs.Sheets.{Sheet, IsCoherent}
use Rattle.unification.specs.Terms.{Term}
use Rattle.unification.proofs.Putting.{put_same}
use Rattle.reading.specs.Reads.{ReadGives}
use Rattle.reading.specs.declared.causes.ReadFault.{ReadFault}
use Rattle.reading.specs.declared.causes.ReadFault.TheVariants.{Text, Full}

-- The sheet of a table is coherent, and has at most 512 rows.
pub table_coherent : (t : Table) → IsCoherent (sheet_of t.rows t.equations)
table_coherent t = coherent_at_hand t.coherent

pub table_short : (t : Table) → length (sheet_of t.rows t.equations).rows ≤ 512
table_short t = let b = t.rows.items.within in simp (length-map, length-take) (omega arith)

-- A refusal changes nothing.
pub kept_same : {A T E : Type 0} (r : Result T E) (x : A) → KeptOnErr r x x
kept_same (Ok y) x = tt
kept_same (Err e) x = refl

module _ (spellings : ℕ → Option (List ℕ)) (arities : List ℕ) (text : List ℕ) where
  same_term : (a b : Accepted spellings arities text) → a.term ≡ b.term
  same_term a b = b.reads.only a.term a.reads.formed a.reads.writes

  not_both : Accepted spellings arities text → (f : TextFault) → Refused spellings arities text f → ⊥
  not_both a f r = let e = only_one spellings arities text (Ok tt) (Err f) a r in cc

  same_fault : (f g : TextFault) → Refused spellings arities text f → Refused spellings arities text g → f ≡ g
  same_fault f g a b = let e = only_one spellings arities text (Err g) (Err f) b a in cc

  put_both : {s : Sheet} → IsCoherent s → (a b : Accepted spellings arities text) (p q : ℕ) (u v : Sheet) → Put s a.term p u → Put s b.term q v → (p ≡ q) × (u ≡ v)
  put_both {s} I a b p q u v h k = put_same I h (subst (λ (t : Term). Put s t q v) (sym (same_term a b)) k)

  pub read_settled : (s : Sheet) → IsCoherent s → (r q : Result ℕ ReadFault) (u v : Sheet) → ReadGives spellings arities s text r u → ReadGives spellings arities s text q v → (q ≡ r) × (v ≡ u)
  read_settled s I (Ok p) (Ok q) u v h k =
      let e = put_both I k.0 h.0 q p v u k.1 h.1 in
      (ap Ok e.0, e.1)
  read_settled s I (Ok p) (Err (Text f)) u v h k = absurd (not_both h.0 f k.0)
  read_settled s I (Ok p) (Err Full) u v h k =
      let e = put_both I h.0 k.0 p k.1.0 u k.1.1 h.1 k.1.2 in
      let n = ap (λ (z : Sheet). length z.rows) e.1 in
      let a = h.2 in
      let b = k.1.3 in
      absurd (omega arith)
  read_settled s I (Err (Text f)) (Ok q) u v h k = absurd (not_both k.0 f h.0)
  read_settled s I (Err (Text f)) (Err (Text g)) u v h k = (ap (λ (x : TextFault). Err (Text x)) (same_fault g f k.0 h.0), k.1 ∙ sym h.1)
  read_settled s I (Err (Text f)) (Err Full) u v h k = absurd (not_both k.0 f h.0)
  read_settled s I (Err Full) (Ok q) u v h k =
      let e = put_both I k.0 h.0 q h.1.0 v h.1.1 k.1 h.1.2 in
      let n = ap (λ (z : Sheet). length z.rows) e.1 in
      let a = k.2 in
      let b = h.1.3 in
      absurd (omega arith)
  read_settled s I (Err Full) (Err (Text g)) u v h k = absurd (not_both h.0 g k.0)
  read_settled s I (Err Full) (Err Full) u v h k = (refl, k.2 ∙ sym h.2)

  -- a fault that was converted is the fault
  pub refused_as : (s u : Sheet) (r : Result ℕ ReadFault) (e f : ReadFault) → r ≡ Err e → e ≡ f → ReadGives spellings arities s text (Err f) u → ReadGives spellings arities s text r u
  refused_as s u r e f is told h = subst (λ (q : Result ℕ ReadFault). ReadGives spellings arities s text q u) (sym (is ∙ ap Err told)) h
