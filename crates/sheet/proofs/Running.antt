-- A run keeps its sheet consistent, and is the only one.
use Rattle.std.proofs.Common.{◌≡◌, ℕ, ◌+◌, ◌<◌, List, [], ◌∷◌, ◌++◌, length, get_or, take, drop, set, Ok, Err, Option, Result, sym, refl, ap, ◌∙◌, subst, inl, inr, arith}
use Rattle.std.proofs.lemmas.List.{drop-drop, drop-set-lt, take_more, take_more_set}
use Rattle.reading.proofs.Settled.{read_settled}
use Rattle.reading.specs.Reads.{ReadGives}
use Rattle.reading.specs.declared.causes.ReadFault.{ReadFault}
use Rattle.reading.specs.declared.causes.ReadFault.TheVariants as reading
use Rattle.scale.specs.Scales.{Operations, IsScale}
use Rattle.sheet.proofs.Consistency.{consistent_appended, consistent_kept, consistent_put}
use Rattle.sheet.proofs.Arranged.{formed_over}
use Rattle.sheet.proofs.Single.{one_compose, one_equate, one_resolve, one_variable}
use Rattle.sheet.specs.Arities.{arities_of}
use Rattle.sheet.specs.Calls.{VariableGives, ComposeGives, EquateGives, equation}
use Rattle.sheet.specs.Promises.{Consistent}
use Rattle.sheet.specs.Runs.{Outcome, outcome, Step, Run, done, next}
use Rattle.sheet.specs.declared.calls.Answer.{Answer}
use Rattle.sheet.specs.declared.calls.Answer.TheVariants as answer
use Rattle.sheet.specs.declared.calls.Call.{Call}
use Rattle.sheet.specs.declared.calls.Call.TheVariants as call
use Rattle.sheet.specs.declared.causes.ComposeFault.{ComposeFault}
use Rattle.sheet.specs.declared.causes.ComposeFault.TheVariants as composing
use Rattle.sheet.specs.declared.causes.EquateFault.{EquateFault}
use Rattle.sheet.specs.declared.causes.EquateFault.TheVariants as equating
use Rattle.sheet.specs.declared.causes.SheetFault.{SheetFault}
use Rattle.table.proofs.Unique.{calls_settled}
use Rattle.table.specs.Calls.{BackGives}
use Rattle.table.specs.declared.causes.BackFault.{BackFault}
use Rattle.table.specs.declared.causes.BackFault.TheVariants as back
use Rattle.sheet.specs.declared.causes.VariableFault.{VariableFault}
use Rattle.sheet.specs.declared.causes.VariableFault.TheVariants as variable_fault
use Rattle.unification.proofs.Bridges.{equated_sheet}
use Rattle.unification.proofs.Main.{one_degree}
use Rattle.unification.specs.Sheets.{Sheet, variable, composed, Equation}
use Rattle.vocabulary.specs.Words.{Words, IsVocabulary}

module _ {D : Type 0} {S : Operations D} (L : IsScale S) {V : Words D} (W : IsVocabulary S V) {s : Sheet} (C : Consistent S V s) where
  stays : {t : Sheet} → t ≡ s → Consistent S V t
  stays e = subst (Consistent S V) (sym e) C

  consistent_variable : (x : ℕ) (r : Result ℕ VariableFault) (t : Sheet) → VariableGives s x r t → Consistent S V t
  consistent_variable x (Ok p) t (h, inl k) = stays k.1
  consistent_variable x (Ok p) t (h, inr k) = subst (Consistent S V) (sym k.3) (consistent_appended L W C (variable x) (h, k.0) tt)
  consistent_variable x (Err variable_fault.Label) t h = stays h.1
  consistent_variable x (Err variable_fault.Full) t h = stays h.3

  consistent_compose : (f : ℕ) (xs : List ℕ) (r : Result ℕ ComposeFault) (t : Sheet) → ComposeGives V s f xs r t → Consistent S V t
  consistent_compose f xs (Ok p) t h = subst (Consistent S V) (sym h.5) (consistent_appended L W C (composed f xs) h.2 (h.0, h.1))
  consistent_compose f xs (Err composing.NoWord) t h = stays h.1
  consistent_compose f xs (Err composing.WrongArguments) t h = stays h.2
  consistent_compose f xs (Err (composing.NoRow i)) t h = stays h.3
  consistent_compose f xs (Err composing.Full) t h = stays h.4

  consistent_equate : (e : Equation) (r : Result (Unit {0}) EquateFault) (t : Sheet) → EquateGives S V s e r t → Consistent S V t
  consistent_equate e (Ok x) t h =
      subst (Consistent S V) (sym h.4) (record { formed = equated_sheet C.formed e h.0.0 h.0.1; above = h.2 })
  consistent_equate e (Err (equating.NoRow i)) t h = stays h.1
  consistent_equate e (Err equating.Full) t h = stays h.2
  consistent_equate e (Err equating.Clash) t h = stays h.3
  consistent_equate e (Err equating.Occurs) t h = stays h.3

  consistent_back : (n m : ℕ) (r : Result (Unit {0}) BackFault) (t : Sheet) → BackGives s n m r t → Consistent S V t
  consistent_back n m (Ok x) t h = subst (Consistent S V) (sym h.3) (consistent_kept L W C n m h.0 h.2)
  consistent_back n m (Err back.Rows) t h = stays h.1
  consistent_back n m (Err back.Equations) t h = stays h.2
  consistent_back n m (Err back.Dropped) t h = stays h.3

  consistent_read : (spell : ℕ → Option (List ℕ)) (text : List ℕ) (r : Result ℕ ReadFault) (t : Sheet) → ReadGives spell (arities_of V) s text r t → Consistent S V t
  consistent_read spell text (Ok p) t h = (consistent_put L W C (formed_over V h.0.term h.0.reads.formed) h.1).0
  consistent_read spell text (Err (reading.Text f)) t h = stays h.1
  consistent_read spell text (Err reading.Full) t h = stays h.2

-- Equal results of a call have equal outcomes, and leave equal sheets.
joined : {A F D : Type 0} (of : A → Answer D) (in-sheet : F → SheetFault) {r q : Result A F} {t u : Sheet} {o v : Outcome D} → (r ≡ q) × (t ≡ u) → o ≡ outcome of in-sheet r → v ≡ outcome of in-sheet q → (o ≡ v) × (t ≡ u)
joined of in-sheet h e k = (e ∙ ap (outcome of in-sheet) h.0 ∙ sym k, h.1)

module _ {M D : Type 0} (spellings : M → ℕ → Option (List ℕ)) {S : Operations D} (L : IsScale S) {V : Words D} (W : IsVocabulary S V) where
  pub consistent_step : {s : Sheet} → Consistent S V s → (c : Call M) (o : Outcome D) (t : Sheet) → Step spellings S V s c o t → Consistent S V t
  consistent_step C (call.Variable x) o t h = consistent_variable L W C x h.0 t h.1
  consistent_step C (call.Compose f xs) o t h = consistent_compose L W C f xs.now h.0 t h.1
  consistent_step C (call.Read text lexicon) o t h = consistent_read L W C (spellings lexicon.now) text.now h.0 t h.1
  consistent_step C (call.Equate p q) o t h = consistent_equate L W C (equation p q) h.0 t h.1
  consistent_step C (call.Back n m) o t h = consistent_back L W C n m h.0 t h.1
  consistent_step C call.Mark o t h = stays L W C h.1
  consistent_step C call.Degree o t h = stays L W C h.3
  consistent_step C (call.Resolve p) o t h = stays L W C h.3

  one_step : {s : Sheet} → Consistent S V s → (c : Call M) (o v : Outcome D) (t u : Sheet) → Step spellings S V s c o t → Step spellings S V s c v u → (o ≡ v) × (t ≡ u)
  one_step {s} C (call.Variable x) o v t u h k = joined _ _ (one_variable s C.formed.coherent x h.0 k.0 t u h.1 k.1) h.2 k.2
  one_step {s} C (call.Compose f xs) o v t u h k = joined _ _ (one_compose V s f xs.now h.0 k.0 t u h.1 k.1) h.2 k.2
  one_step {s} C (call.Read text lexicon) o v t u h k =
      joined _ _ (read_settled (spellings lexicon.now) (arities_of V) text.now s C.formed.coherent k.0 h.0 u t k.1 h.1) h.2 k.2
  one_step {s} C (call.Equate p q) o v t u h k = joined _ _ (one_equate S V s (equation p q) h.0 k.0 t u h.1 k.1) h.2 k.2
  one_step {s} C (call.Back n m) o v t u h k = joined _ _ (calls_settled.back s n m h.0 k.0 t u h.1 k.1) h.2 k.2
  one_step C call.Mark o v t u h k = (h.0 ∙ sym k.0, h.1 ∙ sym k.1)
  one_step C call.Degree o v t u h k =
      (h.2 ∙ ap (λ (d : D). Ok (answer.Degree d)) (one_degree L k.1 h.1) ∙ sym k.2, h.3 ∙ sym k.3)
  one_step {s} C (call.Resolve p) o v t u h k = joined _ _ (one_resolve s p h.0 k.0 h.1 k.1, h.3 ∙ sym k.3) h.2 k.2

  -- One call more, at the end.
  pub run_more : {s t u : Sheet} {cs : List (Call M)} {os : List (Outcome D)} (c : Call M) (o : Outcome D) → Run spellings S V s cs os t → Step spellings S V t c o u → Run spellings S V s (cs ++ (c ∷ [])) (os ++ (o ∷ [])) u
  run_more c o done h = next h done
  run_more c o (next k r) h = next k (run_more c o r h)

  pub run_consistent : {s t : Sheet} {cs : List (Call M)} {os : List (Outcome D)} → Consistent S V s → Run spellings S V s cs os t → Consistent S V t
  run_consistent C done = C
  run_consistent C (next {t = t} {c = c} {o = o} h r) = run_consistent (consistent_step C c o t h) r

  pub run_single : {s t u : Sheet} {cs : List (Call M)} {os vs : List (Outcome D)} → Consistent S V s → Run spellings S V s cs os t → Run spellings S V s cs vs u → (vs ≡ os) × (u ≡ t)
  run_single C done done = (refl, refl)
  run_single {u = u} C (next {t = a} {c = c} {o = o} {cs = cs} {os = os} h r) (next {t = b} {o = v} {os = vs} k q) =
      let e = one_step C c v o b a k h in
      let z = run_single (consistent_step C c o a h) r (subst (λ (x : Sheet). Run spellings S V x cs vs u) e.1 q) in
      (ap (λ (x : Outcome D). x ∷ vs) e.0 ∙ ap (λ (l : List (Outcome D)). o ∷ l) z.0, z.1)

  -- One turn more: the call at i was carried out, and its outcome written down there.
  pub run_turn : {s t u : Sheet} (cs : List (Call M)) (os : List (Outcome D)) (i : ℕ) (c : Call M) (o : Outcome D) → i < length cs → i < length os → c ≡ get_or cs i c → Run spellings S V s (take i cs) (take i os) t → Step spellings S V t c o u → Run spellings S V s (take (i + 1) cs) (take (i + 1) (set os i o)) u
  run_turn {s} {t} {u} cs os i c o hc ho e r h =
      subst (λ (l : List (Call M)). Run spellings S V s l (take (i + 1) (set os i o)) u) (ap (λ (x : Call M). take i cs ++ (x ∷ [])) e ∙ sym (take_more cs i c hc))
      (subst (λ (l : List (Outcome D)). Run spellings S V s (take i cs ++ (c ∷ [])) l u) (sym (take_more_set os i o ho)) (run_more c o r h))

-- What is behind stays as it is behind one more.
pub behind_more : {X : Type 0} (xs ys : List X) (i : ℕ) (x : X) → drop i xs ≡ drop i ys → drop (i + 1) (set xs i x) ≡ drop (i + 1) ys
behind_more xs ys i x e = drop-set-lt (i + 1) xs i x (omega arith) ∙ sym (drop-drop 1 i xs) ∙ ap (drop 1) e ∙ drop-drop 1 i ys
