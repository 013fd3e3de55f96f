use Rattle.std.specs.Prelude.{ℕ, Bool, false, List, ◌++◌, is_some, Some, None, Ok, Err, codes, decimal, Option, Result}
use Rattle.book.specs.Likeness.{words_of}
use Rattle.layout.specs.declared.kind.Kind.{Kind}
use Rattle.layout.specs.declared.kind.Kind.TheVariants.{Marks, Lines}
use Rattle.book.specs.declared.causes.BookFault.{BookFault}
use Rattle.fault.specs.Lines.{fault_line}
use Rattle.fault.specs.declared.fault.Fault.{Fault}
use Rattle.layers.specs.Floors.{floored}
use Rattle.layout.specs.Places.{spelling_of}
use Rattle.scale.specs.Degrees.{line_operations, mark_operations}
use Rattle.scale.specs.Faults.{degree_refusal}
use Rattle.scale.specs.Scales.{Operations}
use Rattle.scale.specs.declared.causes.DegreeFault.TheVariants.{NoDegree}
use Rattle.vocabulary.specs.Words.{Words}
use Rattle.scale.specs.Told.{lines_text, mark_text}
use Rattle.report.specs.Reports.{refusal_text}
use Rattle.account.specs.Words.{words_text}

-- A floor that is no degree: the refusal, and a sentence.
abbrev pub no_floor_text : Fault → ℕ → List ℕ
no_floor_text fault code =
    fault_line fault ++ (codes "\nThe floor " ++ (decimal code ++ codes " is no mark: marks go from 0 to 1000.\n"))

abbrev pub no_degree_text : ℕ → List ℕ
no_degree_text code = no_floor_text (degree_refusal (NoDegree code)) code

-- The words above a floor, made of its parts: the degree in words, and the words.
abbrev pub above_text : List ℕ → List ℕ → List ℕ
above_text told words = codes "Words alike at " ++ (told ++ (codes " or more:\n" ++ words))

-- What is left of a vocabulary above the floor d.
abbrev pub left_text : {D : Type 0} → Operations D → (D → List ℕ) → Words D → (ℕ → Option (List ℕ)) → D → List ℕ
left_text S told V spellings d = above_text (told d) (words_text S told (floored S d V) spellings)

-- What is told of a vocabulary above the floor with this code, of which the degree, if there is one, is given.
abbrev pub floor_text : {D : Type 0} → Operations D → (D → List ℕ) → Words D → (ℕ → Option (List ℕ)) → ℕ → Option D → List ℕ
floor_text S told V spellings code None = no_degree_text code
floor_text S told V spellings code (Some d) = left_text S told V spellings d

-- What is told of bytes that are offered as a book, and of what the floor with this code leaves of it, by the verdict on them.
abbrev pub above_report : List ℕ → ℕ → Result Kind BookFault → List ℕ
above_report B code (Ok Marks) =
    floor_text mark_operations (λ m. mark_text m.value) (words_of mark_operations B) (spelling_of B) code (mark_operations.decoded code)
above_report B code (Ok Lines) =
    floor_text line_operations (λ l. lines_text l.set) (words_of line_operations B) (spelling_of B) code (line_operations.decoded code)
above_report B code (Err f) = refusal_text B f

-- Whether the book and the floor are accepted.
abbrev pub above_accepted : ℕ → Result Kind BookFault → Bool
above_accepted code (Ok Marks) = is_some (mark_operations.decoded code)
above_accepted code (Ok Lines) = is_some (line_operations.decoded code)
above_accepted code (Err f) = false
