-- What equating answers, from what the table answers and how much the words are alike.
use Rattle.std.proofs.Common.{◌≡◌, ℕ, zero, suc, ◌<◌, length, Ok, Err, Result, sym, refl, ap, ◌∙◌, subst, inl, inr, arith}
use lib.ListN.{get_elem?}
use Rattle.scale.specs.Scales.{Operations, IsScale}
use Rattle.sheet.specs.Calls.{EquateGives, PossibleOrRefused}
use Rattle.sheet.specs.Faults.{join_refusal}
use Rattle.sheet.specs.declared.causes.EquateFault.{EquateFault}
use Rattle.sheet.specs.declared.causes.EquateFault.TheVariants as equating
use Rattle.table.specs.Equating.{Between, JoinAnswers}
use Rattle.rows.specs.Stored.{at}
use Rattle.table.specs.declared.causes.JoinFault as table
use Rattle.table.specs.declared.causes.JoinFault.TheVariants as joins
use Rattle.rows.specs.declared.numbers.Numbers.{Numbers}
use Rattle.unification.proofs.Bridges.{equated_sheet, untyped_bottom}
use Rattle.unification.proofs.Cycles.{depth_no_cycle}
use Rattle.unification.proofs.Main.{equations_possible, one_degree}
use Rattle.unification.proofs.Tables.{gathered_degree}
use Rattle.unification.specs.Closures as closures
use Rattle.unification.specs.Closures.{Cycle, IsDegree, IsDepth}
use Rattle.unification.specs.Sheets.{Sheet, Equation, IsSheet, equated}
use Rattle.unification.specs.Tables.{Represents, gathered, rows_alike}
use Rattle.vocabulary.specs.Words.{Words, IsVocabulary}

module _ {D : Type 0} (S : Operations D) (V : Words D) where
  -- The degree is gathered from the rows alone.
  gathered_equated : (s : Sheet) (e : Equation) (of : ℕ → ℕ) (k : ℕ) → gathered S V (equated s e) of k ≡ gathered S V s of k
  gathered_equated s e of zero = refl
  gathered_equated s e of (suc k) = ap (S.meet (rows_alike S V (get_elem? s.rows k) (get_elem? s.rows (of k)))) (gathered_equated s e of k)

module _ {D : Type 0} {S : Operations D} (L : IsScale S) {V : Words D} (W : IsVocabulary S V) (s : Sheet) (e : Equation) where
  pub degree_equated : {of : ℕ → ℕ} → Represents (equated s e) of → (d : D) → d ≡ gathered S V s of (length s.rows) → IsDegree S V (equated s e) d
  degree_equated {of} R d h =
      subst (IsDegree S V (equated s e)) (gathered_equated S V s e of (length s.rows) ∙ sym h) (gathered_degree L W R)

  -- A refused joining.
  pub join_refused : IsSheet V.count V.arity s → (fault : table.JoinFault) → JoinAnswers s e (Err fault) → EquateGives S V s e (Err (join_refusal fault)) s
  join_refused I (joins.Missing i) h = (h, refl)
  join_refused I joins.Full h = (h.0, h.1, refl)
  join_refused I (joins.Unequal u) h =
      let k = h.2 in
      (h.0, h.1, untyped_bottom L W (equated_sheet I e h.0.0 h.0.1) k.together k.first k.second k.unequal, refl)

  -- Whether an equation is refused tells whether it is possible.
  pub possible_or_refused : IsSheet V.count V.arity s → (r : Result (Unit {0}) EquateFault) (t : Sheet) → EquateGives S V s e r t → Between s e → length s.equations < 128 → PossibleOrRefused S V s e r
  possible_or_refused I (Ok done) t h b n =
      (equations_possible L W s e (equated_sheet I e b.0 b.1)).enough h.2 (λ o. h.3 o.1)
  possible_or_refused I (Err (equating.NoRow i)) t h b n =
      elim h.0 [ inl a ↦ let x = a.1 in let y = b.0 in absurd (omega arith) | inr a ↦ let x = a.2 in let y = b.1 in absurd (omega arith) ]
  possible_or_refused I (Err equating.Full) t h b n = let x = h.1 in absurd (omega arith)
  possible_or_refused I (Err equating.Clash) t h b n = λ m. ((equations_possible L W s e (equated_sheet I e b.0 b.1)).needs m).0 h.2
  possible_or_refused I (Err equating.Occurs) t h b n = λ m. ((equations_possible L W s e (equated_sheet I e b.0 b.1)).needs m).1 h.2

  -- What equating promises of its answer r and the sheet t that it leaves.
  abbrev pub Answers : Result (Unit {0}) EquateFault → Sheet → Type 0
  Answers r t =
      (IsSheet V.count V.arity s → EquateGives S V s e r t)
      × (IsSheet V.count V.arity s → Between s e → length s.equations < 128 → PossibleOrRefused S V s e r)

  both : (r : Result (Unit {0}) EquateFault) (t : Sheet) → (IsSheet V.count V.arity s → EquateGives S V s e r t) → Answers r t
  both r t h = (h, λ I. possible_or_refused I r t (h I))

  pub no_join : (fault : table.JoinFault) → JoinAnswers s e (Err fault) → Answers (Err (join_refusal fault)) s
  no_join fault h = both (Err (join_refusal fault)) s (λ I. join_refused I fault h)

  -- Joined, with the representatives c and the degree d that is gathered from them.
  module _ (c : Numbers) (J : JoinAnswers s e (Ok c)) (d : D) (G : d ≡ gathered S V s (at c.of) (length s.rows)) where
    pub clash_answer : d ≡ S.bottom → Answers (Err equating.Clash) s
    clash_answer h = both (Err equating.Clash) s (λ I. (J.0, J.1, subst (IsDegree S V (equated s e)) h (degree_equated J.2 d G), refl))

    no_clash : (d ≡ S.bottom → ⊥) → closures.Clash S V s e → ⊥
    no_clash n k = n (sym (one_degree L (degree_equated J.2 d G) k))

    pub done_answer : (d ≡ S.bottom → ⊥) → {depth : ℕ → ℕ} → IsDepth (equated s e) depth → (t : Sheet) → t ≡ equated s e → Answers (Ok tt) t
    done_answer n f t h = both (Ok tt) t (λ I. (J.0, J.1, no_clash n, depth_no_cycle f, h))

    pub occurs_answer : (d ≡ S.bottom → ⊥) → Cycle (equated s e) → Answers (Err equating.Occurs) s
    occurs_answer n k = both (Err equating.Occurs) s (λ I. (J.0, J.1, (no_clash n, k), refl))
