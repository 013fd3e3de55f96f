use Rattle.std.specs.Prelude.{ℕ, cond, List, ◌++◌, Ok, Err, codes, decimal, Result, ◌==◌}
use Rattle.book.specs.Faults.{book_refusal}
use Rattle.book.specs.Likeness.{words_of}
use Rattle.layout.specs.declared.kind.Kind.{Kind}
use Rattle.layout.specs.declared.kind.Kind.TheVariants.{Marks, Lines}
use Rattle.book.specs.declared.causes.BookFault.{BookFault}
use Rattle.book.specs.declared.causes.BookFault.TheVariants.{Form, Law}
use Rattle.fault.specs.Lines.{fault_line}
use Rattle.layout.specs.Kinds.{kind_text}
use Rattle.layout.specs.Places.{count_of, kind_of, spelling_of}
use Rattle.scale.specs.Degrees.{line_operations, mark_operations}
use Rattle.scale.specs.Told.{lines_text, mark_text}
use Rattle.report.specs.Forms.{form_sentence}
use Rattle.report.specs.Laws.{law_sentence}
use Rattle.account.specs.Words.{words_text}

-- The words of a book of marks, and of a book of lines.
abbrev pub marks_words : List ℕ → List ℕ
marks_words B = words_text mark_operations (λ m. mark_text m.value) (words_of mark_operations B) (spelling_of B)

abbrev pub lines_words : List ℕ → List ℕ
lines_words B = words_text line_operations (λ l. lines_text l.set) (words_of line_operations B) (spelling_of B)

-- A sentence about what is wrong with a book.
abbrev pub sentence_text : List ℕ → BookFault → List ℕ
sentence_text B (Form f) = form_sentence B f
sentence_text B (Law f) =
    cond (kind_of B == 1) (law_sentence mark_operations (λ m. mark_text m.value) B f)
    (law_sentence line_operations (λ l. lines_text l.set) B f)

-- A refusal: the line with its numbers, and a line with the sentence.
abbrev pub refusal_text : List ℕ → BookFault → List ℕ
refusal_text B f = fault_line (book_refusal f) ++ (codes "\n" ++ (sentence_text B f ++ codes "\n"))

-- An accepted book: its kind, its number of words, and the words.
abbrev pub book_text : Kind → ℕ → List ℕ → List ℕ
book_text kind count words = codes "A book of " ++ (kind_text kind ++ (codes ", words: " ++ (decimal count ++ (codes "\n" ++ words))))

-- What is told of bytes that are offered as a book, by the verdict on them.
abbrev pub report_text : List ℕ → Result Kind BookFault → List ℕ
report_text B (Ok Marks) = book_text Marks (count_of B) (marks_words B)
report_text B (Ok Lines) = book_text Lines (count_of B) (lines_words B)
report_text B (Err f) = refusal_text B f
