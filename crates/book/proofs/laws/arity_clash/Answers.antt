use Rattle.std.proofs.Common.{◌≡◌, Bool, true, false, not, refl, sym, ap, ◌∙◌, below_more}
use Rattle.std.proofs.lemmas.Bool.{false≢true}
use Rattle.scale.specs.Scales.{IsScale, Operations}
use Rattle.book.proofs.Arities.{arity_read}
use Rattle.book.proofs.laws.arity_clash.Goals as goal
use Rattle.book.proofs.laws.arity_clash.Goals.{else-one-other-via-then-one-other+else-ne, else-one-other-via-else-one-other}

was_true : (b : Bool) → not b ≡ false → b ≡ true
was_true true e = refl
was_true false e = sym e

-- Degrees that are not told apart are equal.
equal : {D : Type 0} (S : Operations D) → IsScale S → (eq : D → D → Bool) → ((d e : D) → eq d e ≡ S.same d e) → (d e : D) (ne : Bool) → ne ≡ not (eq d e) → ne ≡ false → d ≡ e
equal S laws eq by_same d e ne told same = (laws.exact d e).0 (sym (by_same d e) ∙ was_true (eq d e) (sym told ∙ same))

-- Degrees that are told apart are not equal.
unequal : {D : Type 0} (S : Operations D) → IsScale S → (eq : D → D → Bool) → ((d e : D) → eq d e ≡ S.same d e) → (d e : D) (ne : Bool) → ne ≡ not (eq d e) → ne ≡ true → d ≡ e → ⊥
unequal S laws eq by_same d e ne told differ same =
    let tested = by_same d e ∙ (laws.exact d e).1 same in false≢true (sym (told ∙ ap not tested) ∙ differ)

pub returns-then-ne : goal.returns-then-ne
returns-then-ne g c =
    let read = arity_read c.args.layout.now.bytes.now c.arities-arities.result c.count.result in
    let one = read c.loop-i.i c.count.ensures.value c.arities-arities.ensures.places c.loop-i-test.true in
    let other = read c.loop-j.j c.count.ensures.value c.arities-arities.ensures.places c.loop-j-test.true in
    record {
      row = one.0;
      column = other.0;
      fails = λ typed.
          unequal _ g.met.S.Scale.lawful g.S.PartialEq.eq g.met.S.Scale.equal _ _ _ c.ne.ensures c.if-ne.true
          (c.likeness.ensures ∙ (typed (λ e. c.if-one-other.true (one.1 ∙ (e ∙ sym other.1))) ∙ sym c.bottom.ensures));
      rows = c.loop-i.invariant;
      columns = c.loop-j.invariant;
    }

pub loop-j-preserved : goal.loop-j-preserved
loop-j-preserved g c =
    let read = arity_read c.args.layout.now.bytes.now c.arities-arities.result c.count.result in
    let one = read c.loop-i.i c.count.ensures.value c.arities-arities.ensures.places c.loop-i-test.true in
    let other = read c.loop-j.j c.count.ensures.value c.arities-arities.ensures.places c.loop-j-test.true in
    below_more _ _ c.loop-j.invariant
    (λ differ.
    elim c.else-one-other.branch [
      | else-one-other-via-then-one-other+else-ne w ↦
          sym w.likeness.ensures ∙ equal _ g.met.S.Scale.lawful g.S.PartialEq.eq g.met.S.Scale.equal _ _ _ w.ne.ensures w.if-ne.false ∙ w.bottom.ensures
      | else-one-other-via-else-one-other w ↦ absurd (differ (sym one.1 ∙ (w.if-one-other.false ∙ other.1)))
    ])
