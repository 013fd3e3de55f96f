-- The whole promise, of every consistent sheet without a cycle.
use Rattle.std.proofs.Common.{ℕ, subst}
use Rattle.fault.specs.Firsts.{Below}
use Rattle.scale.specs.Scales.{Operations, IsScale, AtMost}
use Rattle.sheet.proofs.Equated.{possible_or_refused}
use Rattle.sheet.specs.Calls.{equation}
use Rattle.sheet.specs.Promises.{Consistent, Solves, Promised}
use Rattle.unification.proofs.Main.{crisp_unifies, degree_of_lem, one_degree, solutions_are_best}
use Rattle.unification.specs.Closures.{Cycle, IsDegree}
use Rattle.unification.specs.Sheets.{Sheet}
use Rattle.unification.specs.Similarity.{alike}
use Rattle.unification.specs.Solutions.{IsSolution}
use Rattle.unification.specs.Substitutions.{apply}
use Rattle.unification.specs.Terms.{Term}
use Rattle.vocabulary.specs.Words.{Words, IsVocabulary}

module _ {D : Type 0} {S : Operations D} (L : IsScale S) {V : Words D} (W : IsVocabulary S V) where
  pub solves : {s : Sheet} → Consistent S V s → (Cycle s → ⊥) → (σ : ℕ → Term) → IsSolution s σ → (d : D) → IsDegree S V s d → Solves S V s d σ
  solves {s} C n σ h d G =
      let b = (solutions_are_best L W s C.formed n d G).best σ h in
      record {
        formed = b.formed;
        attained = b.attained;
        best = λ θ w e q. subst (λ (x : D). AtMost S x d) q (b.best θ w);
        general = λ θ w e q. subst (λ (y : D). Below 100 (λ x. AtMost S y (alike S V (θ x) (apply θ (σ x))))) q (b.general θ w);
        crisp = λ K. (crisp_unifies L W K s C.formed d G).enough (λ e. C.above (subst (IsDegree S V s) e G)) n σ h;
      }

  pub promised : {s : Sheet} → Consistent S V s → (Cycle s → ⊥) → Promised S V s
  promised {s} C n =
      let G = degree_of_lem L W C.formed in
      let B = solutions_are_best L W s C.formed n G.0 G.1 in
      record {
        formed = C.formed;
        degree = (G.0, G.1, λ e h. one_degree L G.1 h);
        above = λ d h e. C.above (subst (IsDegree S V s) e h);
        acyclic = n;
        solution = (B.exists.0, B.exists.1, λ τ h. B.only τ B.exists.0 h B.exists.1);
        solves = solves C n;
        equate = λ p q hp hq hm r t E. possible_or_refused L W s (equation p q) C.formed r t E (hp, hq) hm;
      }
