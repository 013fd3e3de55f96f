use Rattle.book.specs.declared.causes.BookFault.{BookFault}
use Rattle.book.specs.declared.causes.BookFault.TheVariants.{Form, Law}
use Rattle.book.specs.declared.causes.LawFault.{LawFault}
use Rattle.book.specs.declared.causes.LawFault.TheVariants.{NoDegree, Reflexivity, Symmetry, Arity, Transitivity}
use Rattle.fault.specs.Places.{at_words}
use Rattle.fault.specs.declared.fault.Fault.{Fault}
use Rattle.layout.specs.Faults.{form_refusal}

-- The laws have the numbers 4 to 8, in the order in which they are tried.
abbrev pub law_refusal : LawFault → Fault
law_refusal (NoDegree i j) = at_words 4 i j 0
law_refusal (Reflexivity i) = at_words 5 i 0 0
law_refusal (Symmetry i j) = at_words 6 i j 0
law_refusal (Arity i j) = at_words 7 i j 0
law_refusal (Transitivity i j k) = at_words 8 i j k

abbrev pub book_refusal : BookFault → Fault
book_refusal (Form f) = form_refusal f
book_refusal (Law f) = law_refusal f
