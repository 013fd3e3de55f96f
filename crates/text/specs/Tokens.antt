use Rattle.std.specs.Prelude.{◌≡◌, ℕ, ◌+◌, ◌<◌, ◌≤◌, Bool, true, false, ◌&&◌, ◌||◌, ◌⊎◌, List, [], ◌∷◌, ◌++◌, length, take, drop, ◌==◌, nat_le}
use Rattle.std.specs.List.{take_while}
use Rattle.vocabulary.specs.Spellings.{fits}
use Rattle.text.specs.Limits.{longest_word, labels}
use Rattle.text.specs.Phrases.{decimal}
use Rattle.text.specs.declared.token.Token.{Token}
use Rattle.text.specs.declared.token.Token.TheVariants.{Word, Open, Close, Comma, Variable}
use Rattle.text.specs.declared.token.SyntaxFault.{SyntaxFault}

-- What a word begins with, what it goes on with, and a digit.
abbrev pub small : ℕ → Bool
small b = fits 0 b

abbrev pub in_word : ℕ → Bool
in_word b = fits 1 b

abbrev pub digit : ℕ → Bool
digit b = nat_le 48 b && nat_le b 57

-- A word could go on with each of the bytes.
abbrev pub wordy : List ℕ → Bool
wordy [] = true
wordy (b ∷ bs) = in_word b && wordy bs

-- How many of the bytes a word goes on with, 15 at most.
abbrev pub word_rest : List ℕ → ℕ
word_rest bs = length (take_while in_word (take 15 bs))

-- A spelling, read from its front.
abbrev pub IsWord : List ℕ → Type 0
IsWord [] = ⊥
IsWord (b ∷ bs) = (small b ≡ true) × (wordy bs ≡ true) × (length bs ≤ 15)

-- The first byte, if any, fails the test.
abbrev pub Stop : (ℕ → Bool) → List ℕ → Type 0
Stop f [] = Unit {0}
Stop f (b ∷ bs) = f b ≡ false

-- A byte that may follow an argument.
abbrev pub parts : ℕ → Bool
parts b = b == 44 || b == 41

-- Nothing, or what may follow an argument.
abbrev pub Ended : List ℕ → Type 0
Ended [] = Unit {0}
Ended (b ∷ bs) = parts b ≡ true

-- The kinds of token, without a place.
pub data Part : Type 0 where
  name : List ℕ → Part
  opening : Part
  closing : Part
  parting : Part
  label : ℕ → Part

abbrev pub part : Token → Part
part (Word w) = name w.now
part Open = opening
part Close = closing
part Comma = parting
part (Variable n) = label n

abbrev pub spell : Part → List ℕ
spell (name s) = s
spell opening = 40 ∷ []
spell closing = 41 ∷ []
spell parting = 44 ∷ []
spell (label n) = 63 ∷ decimal n

-- The part is one of the language's, and as long as what follows lets it be.
abbrev pub Fair : Part → List ℕ → Type 0
Fair (name s) rest = IsWord s × (length s < longest_word → Stop in_word rest)
Fair opening rest = Unit {0}
Fair closing rest = Unit {0}
Fair parting rest = Unit {0}
Fair (label n) rest = (n < labels) × (0 < n → n < 10 → Stop digit rest)

-- The token stands at the place, up to where it ends.
pub record Lexed (text : List ℕ) (at : ℕ) (t : Token × ℕ) : Type 0 where
  pub past : at < t.1
  pub within : t.1 ≤ length text
  pub read : drop at text ≡ spell (part t.0) ++ drop t.1 text
  pub fair : Fair (part t.0) (drop t.1 text)

-- A byte that a token begins with.
abbrev pub begins : ℕ → Bool
begins b = small b || (b == 40 || (b == 41 || (b == 44 || b == 63)))

-- No token begins at the place, or a `?` stands there and no digit follows.
pub record NoToken (text : List ℕ) (at : ℕ) (f : SyntaxFault) : Type 0 where
  pub past : at ≤ f.place
  pub within : f.place ≤ length text
  pub why : ((f.place ≡ at) × Stop begins (drop at text)) ⊎ ((f.place ≡ at + 1) × (drop at text ≡ 63 ∷ drop (at + 1) text) × Stop digit (drop (at + 1) text))
