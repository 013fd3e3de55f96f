use Rattle.std.specs.Prelude.{ℕ, List, length}
use Rattle.fault.specs.declared.fault.Fault.{Fault}
use Rattle.scale.specs.Scales.{Operations}
use Rattle.vocabulary.specs.Words.{Words}
use Rattle.layers.specs.Dialects.{listed, spoken}
use Rattle.layers.specs.Floors.{floored}
use Rattle.layers.specs.Verdicts.{dialect_refusal, Refused as NoDialect}
use Rattle.tree.specs.Families.{family, IsTree}
use Rattle.tree.specs.Paths.{tree_words}
use Rattle.tree.specs.Verdicts.{tree_refusal, Refused as NoTree}
use Rattle.stack.specs.declared.causes.StackFault.{StackFault}
use Rattle.stack.specs.declared.causes.StackFault.TheVariants.{Tree, Dialect}

-- What a dialect over a floor over a vocabulary says.
abbrev pub layered : {D : Type 0} → Operations D → Words D → D → List ℕ → Words D
layered S V floor entries = spoken S (listed entries) (floored S floor V)

-- What it says over a family tree, by the lists that all is made of.
abbrev pub stack_words : {D : Type 0} → Operations D → List ℕ → List ℕ → List ℕ → D → List ℕ → Words D
stack_words S arities parents codes floor entries = layered S (tree_words S (family arities parents codes)) floor entries

-- Why the lists make none: the tree is refused, or else the dialect over its words.
abbrev pub Refused : {D : Type 0} → Operations D → List ℕ → List ℕ → List ℕ → List ℕ → StackFault → Type 0
Refused S arities parents codes entries (Tree fault) = NoTree S arities parents codes fault
Refused S arities parents codes entries (Dialect fault) = IsTree S arities parents codes × NoDialect (length arities) entries fault

-- A refusal of the layers is that of the layer that refused.
abbrev pub stack_refusal : StackFault → Fault
stack_refusal (Tree fault) = tree_refusal fault
stack_refusal (Dialect fault) = dialect_refusal fault
