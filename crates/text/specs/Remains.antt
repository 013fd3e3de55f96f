use Rattle.std.specs.Prelude.{List, [], ◌∷◌, ◌++◌, ℕ}
use Rattle.text.specs.Phrases.{Phrase, Phrases, bytes, bracketed, following, Sound, AllSound}

-- What is left of a phrase between two tokens: first a phrase, or the arguments of the word just passed;
-- then, for each bracket that is open, the arguments that follow.
pub data Left : Type 0 where
  whole : Phrase → Left
  arguments : Phrases → Left

abbrev pub left_bytes : Left → List ℕ
left_bytes (whole p) = bytes p
left_bytes (arguments ps) = bracketed ps

abbrev pub LeftSound : Left → Type 0
LeftSound (whole p) = Sound p
LeftSound (arguments ps) = AllSound ps

abbrev pub open_bytes : List Phrases → List ℕ
open_bytes [] = []
open_bytes (ps ∷ os) = following ps ++ open_bytes os

abbrev pub OpenSound : List Phrases → Type 0
OpenSound [] = Unit {0}
OpenSound (ps ∷ os) = AllSound ps × OpenSound os
