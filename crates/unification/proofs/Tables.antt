-- From what a table beside a sheet holds to what the theorems ask.
use Rattle.std.proofs.Common.{◌≡◌, ℕ, zero, suc, ◌<◌, ◌≤◌, List, length, get_or, sym, refl, ap, ◌∙◌, subst, arith}
use mathlib.Core.Option.{Option, none, some}
use native.Mathlib.Decide.{ℕ_discrete}
use lib.ListN.{get_elem?}
use Rattle.scale.specs.Scales.{Operations, IsScale, AtMost}
use Rattle.vocabulary.specs.Words.{Words, IsVocabulary}
use Rattle.unification.specs.Closures.{Closure, stated, same, turned, joined, passed, kind, Representative, Bound, IsDegree}
use Rattle.unification.specs.Sheets.{Row, variable, composed, Sheet, At}
use Rattle.unification.specs.Tables.{IsClosed, IsStar, Represents, rows_alike, gathered}
use Rattle.scale.proofs.Orders.{le_trans, le_of_eq, le_top, meet_glb, meet_left, meet_right}
use Rattle.unification.proofs.Reading.{at_within}
use Rattle.unification.proofs.Solving.{one_representative}

-- A closed numbering is equal on rows in the closure.
pub closed_closure : {s : Sheet} {class : ℕ → ℕ} → IsClosed s class → {p q : ℕ} → Closure s p q → class p ≡ class q
closed_closure C (stated e h) = C.sides e h
closed_closure C (same p) = refl
closed_closure C (turned c) = sym (closed_closure C c)
closed_closure C (joined c k) = closed_closure C c ∙ closed_closure C k
closed_closure C (passed {p = a} {q = b} f g xs ys i c hp hq hl hi) = C.args a b f g xs ys (closed_closure C c) hp hq hl i hi

-- It is enough to compare each composed row with one list of arguments for its class.
pub star_closed : {s : Sheet} {class : ℕ → ℕ} {chief : ℕ → List ℕ} → IsStar s class chief → IsClosed s class
star_closed {class = class} {chief = chief} C =
    record {
      sides = C.sides;
      args = λ p q f g xs ys e hp hq hl i hi.
          C.args p f xs hp i hi ∙ ap (λ c. class (get_or (chief c) i 0)) e ∙ sym (C.args q g ys hq i (omega arith));
    }

-- A composed row's representative is composed.
pub representative_word : {s : Sheet} {p q f : ℕ} {xs : List ℕ} → Representative s q p → At s p (composed f xs) → (g : ℕ) × (ys : List ℕ) × At s q (composed g ys)
representative_word {s} {p} {q} c h = go (get_elem? s.rows q) refl (rw h at (c.kindest p (same p)))
  where
    go : (r : Option Row) → get_elem? s.rows q ≡ r → kind (get_elem? s.rows q) ≤ 0 → (g : ℕ) × (ys : List ℕ) × (get_elem? s.rows q ≡ some (composed g ys))
    go none e k = let l = rw e at k in absurd (omega arith)
    go (some (variable x)) e k = let l = rw e at k in absurd (omega arith)
    go (some (composed g ys)) e k = (g, ys, e)

module _ {D : Type 0} {S : Operations D} (L : IsScale S) {V : Words D} (W : IsVocabulary S V) {s : Sheet} {of : ℕ → ℕ} (R : Represents s of) where
  -- Each composed row's word is alike its representative's at d or more.
  abbrev pub StarBound : D → Type 0
  StarBound d = (p f g : ℕ) (xs ys : List ℕ) → At s p (composed f xs) → At s (of p) (composed g ys) → AtMost S d (V.likeness f g)

  pub star_bound : (d : D) → StarBound d → Bound S V s d
  star_bound d b p q f g xs ys c hp hq =
      let rp = R p (at_within s.rows p (composed f xs) hp) in
      let rq = R q (at_within s.rows q (composed g ys) hq) in
      let m = representative_word rp hp in
      let k = b p f m.0 xs m.1 hp m.2 in
      let l = b q g m.0 ys m.1 hq (subst (λ (a : ℕ). At s a (composed m.0 m.1)) (one_representative c rp rq) m.2) in
      le_trans L (meet_glb L k (le_trans L l (le_of_eq L (W.symmetric g m.0)))) (W.transitive f m.0 g)

  pub star_degree : (d : D) → StarBound d → ((c : D) → StarBound c → AtMost S c d) → IsDegree S V s d
  star_degree d b h =
      record {
        bound = star_bound d b;
        greatest = λ c k. h c (λ p f g xs ys hp hq. k p (of p) f g xs ys (R p (at_within s.rows p (composed f xs) hp)).together hp hq);
      }

  -- The meet over the rows, one after the other, is the sheet's degree.
  abbrev against : ℕ → D
  against p = rows_alike S V (get_elem? s.rows p) (get_elem? s.rows (of p))

  gathered_row : (k p : ℕ) → p < k → AtMost S (gathered S V s of k) (against p)
  gathered_row zero p h = absurd (omega arith)
  gathered_row (suc k) p h = go (ℕ_discrete p k) (gathered_row k p)
    where
      go : Dec (p ≡ k) → (p < k → AtMost S (gathered S V s of k) (against p)) → AtMost S (gathered S V s of (suc k)) (against p)
      go (yes e) ih = rw e (meet_left L (against k) (gathered S V s of k))
      go (no n) ih = le_trans L (meet_right L (against k) (gathered S V s of k)) (ih (omega arith))

  gathered_greatest : (c : D) → StarBound c → (k : ℕ) → AtMost S c (gathered S V s of k)
  gathered_greatest c b zero = le_top L c
  gathered_greatest c b (suc k) = meet_glb L (go (get_elem? s.rows k) (get_elem? s.rows (of k)) refl refl) (gathered_greatest c b k)
    where
      go : (r q : Option Row) → get_elem? s.rows k ≡ r → get_elem? s.rows (of k) ≡ q → AtMost S c (rows_alike S V r q)
      go none q e m = le_top L c
      go (some (variable x)) q e m = le_top L c
      go (some (composed f xs)) none e m = le_top L c
      go (some (composed f xs)) (some (variable x)) e m = le_top L c
      go (some (composed f xs)) (some (composed g ys)) e m = b k f g xs ys e m

  pub gathered_degree : IsDegree S V s (gathered S V s of (length s.rows))
  gathered_degree =
      star_degree (gathered S V s of (length s.rows))
      (λ p f g xs ys hp hq. rw (hp, hq) at (gathered_row (length s.rows) p (at_within s.rows p (composed f xs) hp)))
      (λ c b. gathered_greatest c b (length s.rows))
