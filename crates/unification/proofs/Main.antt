-- The theorems, for every scale and vocabulary that keep their laws.
use Rattle.std.proofs.Common.{◌≡◌, ℕ, length, sym, ◌∙◌, subst, inl, inr}
use Rattle.scale.specs.Scales.{Operations, IsScale}
use Rattle.vocabulary.specs.Words.{Words, IsVocabulary}
use Rattle.unification.specs.Closures.{same, IsDegree}
use Rattle.unification.specs.Sheets.{Sheet, IsSheet, equated}
use Rattle.unification.specs.Solutions.{IsBest}
use Rattle.unification.specs.Tables.{IsSolvedBy, IsSolutionBy, gathered}
use Rattle.unification.specs.Terms.{Term}
use Rattle.unification.specs.Theorems.{SheetsHave, SolutionsAreBest, PossibleExactly, EquationsPossible, CrispUnifies, WeakUnification}
use Rattle.unification.proofs.Classes.{class_degrees}
use Rattle.unification.proofs.Crisp.{best_most_general, unifies_suits}
use Rattle.unification.proofs.Cycles.{cycle_bottom, no_cycle, degree_above, depth_no_cycle}
use Rattle.unification.proofs.Depths.{depth_or_cycle, depth_of}
use Rattle.unification.proofs.Numberings.{representatives, represents}
use Rattle.unification.proofs.Orderings.{order_free}
use Rattle.scale.proofs.Orders.{le_trans, le_anti, le_of_eq, le_bottom}
use Rattle.unification.proofs.Reading.{terms_read}
use Rattle.unification.proofs.Similarity.{similarity}
use Rattle.unification.proofs.Solving.{one_representative, formed_solution, solved_suits, solved_general}
use Rattle.unification.proofs.Tables.{gathered_degree}
use Rattle.unification.proofs.Unifiers.{suits_degree}
use Rattle.unification.proofs.Values.{value, value_solved, solution, is_solution, solution_by, by_solution, stable_solution, one_solution}

pub one_degree : {D : Type 0} {S : Operations D} (L : IsScale S) {V : Words D} {s : Sheet} {d e : D} → IsDegree S V s d → IsDegree S V s e → e ≡ d
one_degree L {d = d} {e = e} g h = le_anti L (g.greatest e h.bound) (h.greatest d g.bound)

module _ {D : Type 0} {S : Operations D} (L : IsScale S) {V : Words D} (W : IsVocabulary S V) where
  pub degree_of_lem : {s : Sheet} → IsSheet V.count V.arity s → (d : D) × IsDegree S V s d
  degree_of_lem {s} I = (gathered S V s (representatives I.coherent) (length s.rows), gathered_degree L W (represents I.coherent))

  pub sheets_have : SheetsHave S V
  sheets_have s I =
      record {
        terms = terms_read I.coherent;
        representative = λ p hp.
            (representatives I.coherent p, represents I.coherent p hp, λ r h. one_representative (same p) h (represents I.coherent p hp));
        degree = ((degree_of_lem I).0, (degree_of_lem I).1, λ e h. one_degree L (degree_of_lem I).1 h);
        descent = depth_or_cycle I.coherent;
        not_both = λ depth R c. depth_no_cycle R c;
      }

  -- A best match from the representatives and values that a table gives.
  pub table_best : {s : Sheet} → IsSheet V.count V.arity s → {of : ℕ → ℕ} {value σ : ℕ → Term} {d : D} → IsSolvedBy s of value → IsSolutionBy s value σ → IsDegree S V s d → IsBest S V s d σ
  table_best I {σ = σ} {d = d} H K G =
      record {
        formed = formed_solution L W I H K;
        attained = solved_suits L W I H K d G;
        best = λ θ w. suits_degree L W I θ w d G;
        general = λ θ w. solved_general L W I H σ K θ w;
        stable = stable_solution I.coherent H K;
      }

  pub solutions_are_best : SolutionsAreBest S V
  solutions_are_best s I n d G =
      let F = depth_of I.coherent n in
      let H = value_solved I.coherent (represents I.coherent) F.1 in
      record {
        exists = (solution I.coherent (value I.coherent (represents I.coherent) F.1), by_solution I.coherent H (is_solution I.coherent (value I.coherent (represents I.coherent) F.1)));
        only = λ σ τ a b. one_solution a b;
        best = λ σ K. table_best I H (solution_by I.coherent H K) G;
      }

  pub possible_exactly : PossibleExactly S V
  possible_exactly s I d G =
      record {
        needs = λ m. (degree_above L W I m.0 m.1 m.2 d G, no_cycle L W I m.0 m.1 m.2);
        enough = λ a n.
            let B = solutions_are_best s I n d G in
            let b = B.best B.exists.0 B.exists.1 in
            (B.exists.0, b.formed, λ e. a (sym b.attained ∙ e));
        else = λ c θ w.
            elim c [
              | inl e ↦ le_bottom L (le_trans L (suits_degree L W I θ w d G) (le_of_eq L e))
              | inr k ↦ cycle_bottom L W I θ w k
            ];
      }

  pub equations_possible : EquationsPossible S V
  equations_possible s e I =
      let G = degree_of_lem I in
      let P = possible_exactly (equated s e) I G.0 G.1 in
      record {
        needs = λ m. (λ c. (P.needs m).0 (one_degree L c G.1), λ o. (P.needs m).1 o.1);
        enough = λ nc no.
            P.enough (λ b. nc (subst (λ (d : D). IsDegree S V (equated s e) d) b G.1)) (λ c. no (nc, c));
      }

  pub crisp_unifies : CrispUnifies S V
  crisp_unifies C s I d G =
      record {
        needs = λ θ w u.
            (possible_exactly s I d G).needs (θ, w, λ e. L.apart (sym e ∙ unifies_suits L W C I θ w u));
        enough = λ a n σ K. best_most_general L W C I a ((solutions_are_best s I n d G).best σ K);
      }

  pub weak_unification : WeakUnification S V
  weak_unification =
      record {
        similar = similarity L W;
        classes = class_degrees L W;
        sheets = sheets_have;
        best = solutions_are_best;
        possible = possible_exactly;
        equations = equations_possible;
        crisp = crisp_unifies;
        order = order_free S V;
      }
