use Rattle.std.specs.Prelude.{ℕ, ◌+◌, ◌*◌}
use Rattle.fault.specs.declared.fault.Fault.{Fault}
use Rattle.fault.specs.declared.layer.Layer.TheVariants.{Vocabulary}

-- A refusal of the first layer, by its number and the words that it is about: an unused word counts 0.
abbrev pub at_words : ℕ → ℕ → ℕ → ℕ → Fault
at_words number i j k = record { layer = Vocabulary; number = number; place = (i * 128 + j) * 128 + k }
