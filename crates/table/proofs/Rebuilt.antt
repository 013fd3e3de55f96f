-- Classes and depths of a sheet from its equations alone.
use Rattle.std.proofs.Common.{◌≡◌, ℕ, ◌+◌, ◌<◌, ◌≤◌, List, length, sym, ap, ◌∙◌, subst, arith, below_more}
use mathlib.Core.Option.{some}
use lib.ListN.{get_elem?}
use Rattle.fault.specs.Firsts.{Below}
use Rattle.table.proofs.Growing.{same_class}
use Rattle.table.proofs.Joins.{merged_joins, merged_keeps, sound_merged}
use Rattle.table.specs.Joining.{Sides, Sound, Uniform, Unlike, merged}
use Rattle.rows.specs.Stored.{args_at, args_of, at, rank}
use Rattle.unification.proofs.Bridges.{at_kept, at_member, closure_kept, member_at}
use Rattle.unification.proofs.Reading.{at_within}
use Rattle.unification.specs.Closures.{Closure, same, stated, kind}
use Rattle.unification.specs.Sheets.{Equation, Sheet, IsCoherent, composed, kept}
use Rattle.unification.specs.Tables.{Represents}

-- Each row in a class of its own.
pub sound_own : (s : Sheet) (n : ℕ) (c : List ℕ) → Below n (λ p. at c p ≡ p) → Sound s n c
sound_own s n c o =
    record {
      within = λ p h. subst (λ (z : ℕ). z < n) (sym (o p h)) h;
      fixed = λ p h. ap (at c) (o p h);
      first = λ p h. subst (λ (z : ℕ). rank s.rows z ≤ rank s.rows p) (sym (o p h)) (omega arith);
      together = λ p h. subst (λ (z : ℕ). ∥ Closure s p z ∥₁) (sym (o p h)) ∣ same p ∣₁;
    }

-- Both sides of each of the first i equations have one number.
abbrev pub SidesTo : Sheet → ℕ → List ℕ → Type 0
SidesTo s i c = Below i (λ k. (e : Equation) → get_elem? s.equations k ≡ some e → at c e.left ≡ at c e.right)

pub sides_all : (s : Sheet) (c : List ℕ) → SidesTo s (length s.equations) c → Sides s c
sides_all s c k e m = let a = member_at s.equations e m in k a.0 (at_within s.equations a.0 e a.1) e a.1

module _ {s : Sheet} (I : IsCoherent s) (n : ℕ) (len : n ≡ length s.rows) (c : List ℕ) (long : n ≤ length c) (i : ℕ) (e : Equation) (found : get_elem? s.equations i ≡ some e) where
  pub left_row : e.left < n
  left_row = let w = (I.within e (at_member s.equations i e found)).0 in omega arith

  pub right_row : e.right < n
  right_row = let w = (I.within e (at_member s.equations i e found)).1 in omega arith

  pub sound_more : Sound s n c → Sound s n (merged s.rows c e.left e.right)
  sound_more S = sound_merged s n c e.left e.right long S left_row right_row ∣ stated e (at_member s.equations i e found) ∣₁

  pub sides_more : SidesTo s i c → SidesTo s (i + 1) (merged s.rows c e.left e.right)
  sides_more k =
      below_more (λ j. (d : Equation) → get_elem? s.equations j ≡ some d → at after d.left ≡ at after d.right) i
      (λ j h d f.
      let w = I.within d (at_member s.equations j d f) in
      let x = w.0 in
      let y = w.1 in
      merged_keeps s n c e.left e.right d.left d.right (omega arith) (omega arith) (k j h d f))
      (λ d f.
      let q : e ≡ d = cc in
      let x = left_row in
      let y = right_row in
      subst (λ (z : Equation). at after z.left ≡ at after z.right) q (merged_joins s n c e.left e.right (omega arith) (omega arith)))
    where
      after : List ℕ
      after = merged s.rows c e.left e.right

-- What is kept of a sheet has no two composed rows in its closure with different numbers of arguments, where the sheet has none.
pub like_kept : {s : Sheet} (c : List ℕ) → Represents s (at c) → Uniform s.rows (length s.rows) c → (r m p q : ℕ) → Unlike (kept r m s) p q → ⊥
like_kept {s} c R U r m p q u =
    let a = at_kept s.rows r p (composed u.left u.lefts) u.first in
    let b = at_kept s.rows r q (composed u.right u.rights) u.second in
    let hp = at_within s.rows p (composed u.left u.lefts) a in
    let hq = at_within s.rows q (composed u.right u.rights) b in
    let k = same_class R hp hq (closure_kept s r m u.together) in
    u.unequal
    (sym (ap (λ z. length (args_of z)) a) ∙ U p hp (ap kind a) ∙ ap (λ (z : ℕ). length (args_at s.rows z)) k ∙ sym (U q hq (ap kind b)) ∙ ap (λ z. length (args_of z)) b)
