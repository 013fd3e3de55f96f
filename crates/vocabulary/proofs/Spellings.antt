-- That two spellings are the same goes both ways and passes on.
use Rattle.std.proofs.Common.{ℕ, List, sym, ◌∙◌}
use Rattle.vocabulary.specs.Spellings.{SameSpelling}

pub same_turned : (s t : List ℕ) → SameSpelling s t → SameSpelling t s
same_turned s t e = sym e

pub same_joined : (s t u : List ℕ) → SameSpelling s t → SameSpelling t u → SameSpelling s u
same_joined s t u e f = e ∙ f
