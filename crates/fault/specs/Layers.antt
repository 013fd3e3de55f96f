use Rattle.std.specs.Prelude.{ℕ}
use Rattle.fault.specs.declared.layer.Layer.{Layer}
use Rattle.fault.specs.declared.layer.Layer.TheVariants.{Vocabulary, Sentence, Message, Sheet, Record}

-- The number of a layer.
abbrev pub layer_number : Layer → ℕ
layer_number Vocabulary = 1
layer_number Sentence = 2
layer_number Message = 3
layer_number Sheet = 4
layer_number Record = 5
