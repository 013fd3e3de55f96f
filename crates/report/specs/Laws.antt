use Rattle.std.specs.Prelude.{ℕ, List, ◌++◌, codes, decimal}
use Rattle.std.specs.Option.{unwrap_or}
use Rattle.book.specs.Likeness.{likeness_of}
use Rattle.book.specs.declared.causes.LawFault.{LawFault}
use Rattle.book.specs.declared.causes.LawFault.TheVariants.{NoDegree, Reflexivity, Symmetry, Arity, Transitivity}
use Rattle.layout.specs.Places.{arity_at, code_of, count_of, spelling_of}
use Rattle.scale.specs.Scales.{Operations}
use Rattle.vocabulary.specs.Words.{known}
use Rattle.account.specs.Names.{name_of}

-- The sentences about broken laws, made of their parts.
abbrev pub both_text : List ℕ → List ℕ → List ℕ
both_text one other = one ++ (codes " and " ++ other)

abbrev pub no_mark_text : List ℕ → List ℕ → List ℕ
no_mark_text both code = both ++ (codes " have the number " ++ (code ++ codes ", which is no mark: marks go from 0 to 1000."))

abbrev pub self_text : List ℕ → List ℕ → List ℕ
self_text word degree = word ++ (codes " is alike to itself at " ++ (degree ++ codes ", and not wholly."))

abbrev pub turned_text : List ℕ → List ℕ → List ℕ → List ℕ → List ℕ
turned_text both there turned back =
    both ++ (codes " are alike at " ++ (there ++ (codes ", but " ++ (turned ++ (codes " at " ++ (back ++ codes "."))))))

abbrev pub arguments_clash_text : List ℕ → List ℕ → List ℕ → List ℕ → List ℕ
arguments_clash_text both degree first second =
    both ++ (codes " are alike at " ++ (degree ++ (codes ", though they take " ++ (first ++ (codes " and " ++ (second ++ codes " arguments."))))))

abbrev pub weak_text : List ℕ → List ℕ → List ℕ → List ℕ → List ℕ
weak_text both degree between through =
    both ++ (codes " are alike at " ++ (degree ++ (codes ", less than through " ++ (between ++ (codes ": " ++ (through ++ codes "."))))))

-- A word of the book B by its spelling, and two of them.
abbrev pub word_of : List ℕ → ℕ → List ℕ
word_of B i = name_of (spelling_of B) i

abbrev pub both_of : List ℕ → ℕ → ℕ → List ℕ
both_of B i j = both_text (word_of B i) (word_of B j)

-- The number of the table for two words, and the number of arguments of a word, in decimal.
abbrev pub code_text : List ℕ → ℕ → ℕ → List ℕ
code_text B i j = decimal (unwrap_or (code_of B i j) 0)

abbrev pub arity_text : List ℕ → ℕ → List ℕ
arity_text B i = decimal (unwrap_or (known (count_of B) (arity_at B) i) 0)

module _ {D : Type 0} (S : Operations D) (told : D → List ℕ) (B : List ℕ) where
  -- How much two words are alike, in words.
  abbrev pub degree_text : ℕ → ℕ → List ℕ
  degree_text i j = told (likeness_of S B i j)

  -- How much i and k are alike through j, in words.
  abbrev pub through_text : ℕ → ℕ → ℕ → List ℕ
  through_text i j k = told (S.meet (likeness_of S B i j) (likeness_of S B j k))

  -- What is told of a broken law.
  abbrev pub law_sentence : LawFault → List ℕ
  law_sentence (NoDegree i j) = no_mark_text (both_of B i j) (code_text B i j)
  law_sentence (Reflexivity i) = self_text (word_of B i) (degree_text i i)
  law_sentence (Symmetry i j) = turned_text (both_of B i j) (degree_text i j) (both_of B j i) (degree_text j i)
  law_sentence (Arity i j) = arguments_clash_text (both_of B i j) (degree_text i j) (arity_text B i) (arity_text B j)
  law_sentence (Transitivity i j k) = weak_text (both_of B i k) (degree_text i k) (word_of B j) (through_text i j k)
