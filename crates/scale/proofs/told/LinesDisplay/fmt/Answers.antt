use Rattle.std.proofs.Common.{rules, ◌≡◌, ℕ, List, [], ◌++◌, ◌∙◌, codes, decimal, sym, refl, append-nil}
use Rattle.std.proofs.Output.{has_written_append, has_written_of_eq}
use Rattle.std.proofs.lemmas.Bool.{cond-true, cond-false, eq-eqb, ne_eqb}
use Rattle.scale.proofs.Listings.{listing_more, listing_none}
use Rattle.scale.specs.Told.{line_text, listing}
use Rattle.scale.proofs.told.LinesDisplay.fmt.Goals as goal
use Rattle.scale.proofs.told.LinesDisplay.fmt.Goals.{then-self-line-eq1+in_ok-write, else-self-line-eq1}

pub loop-line-init : goal.loop-line-init
loop-line-init g c = λ plain.
    has_written_of_eq _ _ _ _ _ (listing_none (line_text c.args.self.now.set) (codes "lines")) (search rules)

pub loop-line-preserved : goal.loop-line-preserved
loop-line-preserved g c = λ plain.
    let front = codes "lines" ++ listing c.loop-line.line-counter (line_text c.args.self.now.set) in
    let more = λ (text : List ℕ) (e : text ≡ line_text c.args.self.now.set c.loop-line.line-counter). listing_more (line_text c.args.self.now.set) (codes "lines") c.loop-line.line-counter front text refl e in
    elim c.if-self-line-eq1.branch [
      | then-self-line-eq1+in_ok-write w ↦
          rw w.f-is (has_written_of_eq _ _ _ _ _ (more (codes " " ++ decimal c.loop-line.line-counter) (sym (cond-true _ _ _ (eq-eqb _ _ w.if-self-line-eq1.true)))) (has_written_append _ _ _ _ _ _ (c.loop-line.invariant plain) (search rules)))
      | else-self-line-eq1 w ↦ rw w.f-is (has_written_of_eq _ _ _ _ _ (sym (append-nil front) ∙ more [] (sym (cond-false _ _ _ (ne_eqb _ _ w.if-self-line-eq1.false)))) (c.loop-line.invariant plain))
    ]
