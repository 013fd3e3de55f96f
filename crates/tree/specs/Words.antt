use Rattle.std.specs.Prelude.{List, length, slice_index_or}
use Rattle.tree.specs.Families.{Family}
use Rattle.tree.specs.declared.word.Word.{Word}

-- What is read past the last word: a root without arguments.
abbrev pub blank : Word
blank = record { arity = 0; parent = 0; code = 0 }

-- The family that a list of words gives.
abbrev pub words_family : List Word → Family
words_family W =
    record {
      count = length W;
      arity = λ i. (slice_index_or W i blank).arity;
      parent = λ i. (slice_index_or W i blank).parent;
      code = λ i. (slice_index_or W i blank).code;
    }
