-- The layers together keep the laws of a vocabulary, and say what their lists say.
use Rattle.std.proofs.Common.{◌≡◌, ℕ, List, length, ap, ◌∙◌}
use Rattle.scale.specs.Scales.{Operations, IsScale}
use Rattle.vocabulary.specs.Words.{Words, IsVocabulary}
use Rattle.layers.specs.Dialects.{IsDialect, listed, spoken}
use Rattle.layers.specs.Floors.{floored}
use Rattle.layers.specs.Tables.{tabled as entries_of}
use Rattle.layers.specs.declared.dialect.Dialect.{Dialect}
use Rattle.layers.specs.declared.floor.Floor.{Floor}
use Rattle.layers.specs.Floored.{floor_laws}
use Rattle.layers.specs.Spoken.{dialect_laws}
use Rattle.tree.specs.Families.{family, IsTree}
use Rattle.tree.specs.Paths.{tree_words}
use Rattle.tree.specs.Tables.{tabled as family_of}
use Rattle.tree.specs.declared.tree.Tree.{Tree}
use Rattle.tree.proofs.Held.{tree_family}
use Rattle.tree.specs.TreeLaws.{tree_laws}
use Rattle.stack.specs.Stacks.{layered, stack_words}

-- What one vocabulary says, another that says the same says.
pub said : {D : Type 0} (V W : Words D) (f g : ℕ) (r : D) → V ≡ W → r ≡ V.likeness f g → r ≡ W.likeness f g
said V W f g r same e = e ∙ (λ i. (same i).likeness f g)

-- A dialect over a floor over a vocabulary says what these are made of.
pub layered_words : {D V : Type 0} (S : Operations D) (model : V → Words D) (below : V) (floor : D) (list : List ℕ)
    (f : Floor V D) (d : Dialect (Floor V D) D) → f.below ≡ below → f.degree ≡ floor → d.below ≡ f → entries_of d.table ≡ listed list
    → spoken S (entries_of d.table) (floored S d.below.degree (model d.below.below)) ≡ layered S (model below) floor list
layered_words {D} {V} S model below floor list f d on_below at-floor on-floor entries =
    let degree = ap (λ (u : Floor V D). u.degree) on-floor ∙ at-floor in
    let bottom = ap (λ (u : Floor V D). u.below) on-floor ∙ on_below in
    λ i. spoken S (entries i) (floored S (degree i) (model (bottom i)))

module _ {D : Type 0} (S : Operations D) (x y z : List ℕ) (floor : D) (list : List ℕ) where
  pub stack_laws : IsScale S → IsTree S x y z → IsDialect (length x) list → IsVocabulary S (stack_words S x y z floor list)
  stack_laws L tree dialect =
      dialect_laws S (listed list) (floored S floor (tree_words S (family x y z))) L
      (floor_laws S L floor (tree_words S (family x y z)) (tree_laws S L (family x y z) (tree_family S x y z tree)))
      dialect.counted

  module _ (t : Tree D) (f : Floor (Tree D) D) (of_Tree : family_of t.table ≡ family x y z) (on-tree : f.below ≡ t) where
    pub count_below : (family_of f.below.table).count ≡ length x
    count_below = ap (λ (u : Tree D). (family_of u.table).count) on-tree ∙ (λ i. (of_Tree i).count)
