use Rattle.std.specs.Prelude.{ℕ, ◌<◌, cond, List, length, nat_lt, slice_index}
use Rattle.fault.specs.Firsts.{Below}
use Rattle.lists.specs.Counts.{Counted}
use Rattle.scale.specs.Scales.{Operations}
use Rattle.vocabulary.specs.Words.{Words}

-- The words of a dialect: how many there are, and for each the number of a word below.
pub record Entries : Type 0 where
  pub count : ℕ
  pub entry : ℕ → ℕ

-- The words that a list gives, one entry to a word.
abbrev pub listed : List ℕ → Entries
listed list = record { count = length list; entry = λ i. slice_index list i }

-- The list is a dialect over `count` words: 1 to 128 entries, each of them a word below.
pub record IsDialect (count : ℕ) (list : List ℕ) : Type 0 where
  pub counted : Counted (length list)
  pub words : Below (length list) (λ i. slice_index list i < count)

-- The word below that word f of a dialect stands for; an entry that is no word of the `count` below is read as word 0 there.
abbrev pub word_below : ℕ → Entries → ℕ → ℕ
word_below count E f = cond (nat_lt (E.entry f) count) (E.entry f) 0

-- What a dialect says of its words: the arity and the likeness of the words below that they stand for.
abbrev pub spoken : {D : Type 0} → Operations D → Entries → Words D → Words D
spoken S E V =
    record {
      count = E.count;
      arity = λ f. V.arity (word_below V.count E f);
      likeness = λ f g.
          cond (nat_lt f E.count)
          (cond (nat_lt g E.count) (V.likeness (word_below V.count E f) (word_below V.count E g)) S.bottom)
          S.bottom;
    }
