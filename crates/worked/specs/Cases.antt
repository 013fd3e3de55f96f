use Rattle.std.specs.Prelude.{ℕ, List, codes}
use Prim.Native.String.{String}
use Rattle.scale.specs.Degrees.{mark_operations}
use Rattle.scale.specs.declared.mark.Mark.{Mark}
use Rattle.vocabulary.specs.Words.{Words}
use Rattle.unification.specs.Closures.{Clash, Occurs}
use Rattle.unification.specs.EightWords.{eight_arities}
use Rattle.unification.specs.Examples.{between, Binding, Matched}
use Rattle.unification.specs.Putting.{Put}
use Rattle.unification.specs.Sheets.{Sheet, Equation, fresh}
use Rattle.unification.specs.Terms.{Term}
use Rattle.text.specs.Verdicts.{Sized, AllShallow}
use Rattle.text.specs.Writings.{Reads}
use Rattle.worked.specs.Lexicon.{eight_spellings}

-- The bytes are within the limits of a text, and are read as the term t over the eight words.
pub record Reading (text : List ℕ) (t : Term) : Type 0 where
  pub sized : Sized text
  pub shallow : AllShallow text
  pub reads : Reads eight_spellings eight_arities text t

-- What may come of equating two rows: a match at a mark, with what the solved substitution gives some variables, or a refusal.
pub data Answer : Type 0 where
  matched : ℕ → List Binding → Answer
  clash : Answer
  occurs : Answer

-- Over the words V, this comes of the new equation on the sheet.
abbrev pub Comes : Words Mark → Sheet → Equation → Answer → Type 0
Comes V s e (matched mark bindings) = Matched V s e mark bindings
Comes V s e clash = Clash mark_operations V s e
Comes V s e occurs = Occurs mark_operations V s e

-- A case over the words V: two texts are read, put one after the other onto a fresh sheet, and equated.
pub record Case (V : Words Mark) (first second : String) (answer : Answer) : Type 0 where
  -- the terms that the texts are read as
  pub left : Term
  pub right : Term
  pub reads_left : Reading (codes first) left
  pub reads_right : Reading (codes second) right
  -- the row of the first, and the sheet that then stands
  pub p : ℕ
  pub half : Sheet
  pub puts_left : Put fresh left p half
  -- the row of the second, and the whole sheet
  pub q : ℕ
  pub sheet : Sheet
  pub puts_right : Put half right q sheet
  -- what comes of equating the two rows
  pub comes : Comes V sheet (between p q) answer
