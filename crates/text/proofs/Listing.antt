-- The words of a phrase are one listing of it.
use Rattle.std.proofs.Common.{◌≡◌, ℕ, ◌+◌, List, ◌∷◌, ◌++◌, length, refl, ap, ap₂}
use Rattle.text.specs.Phrases.{Phrase, Phrases, variable, word, none, more, count, bytes}
use Rattle.text.specs.Occurrences.{Occurrence, words, words_among}
use Rattle.text.specs.Listings.{listed, listed_among, unlisted, occurs}

mutual
  pub words_listed : (i : ℕ) (p : Phrase) → words i p ≡ listed Occurrence unlisted occurs i p
  words_listed i (variable n) = refl
  words_listed i (word s ps) = ap (λ (l : List Occurrence). occurs i s (count ps) ∷ l) (among_listed (i + length s) ps)

  pub among_listed : (i : ℕ) (ps : Phrases) → words_among i ps ≡ listed_among Occurrence unlisted occurs i ps
  among_listed i none = refl
  among_listed i (more p ps) = ap₂ (λ (k l : List Occurrence). k ++ l) (words_listed (i + 1) p) (among_listed (i + 1 + length (bytes p)) ps)
