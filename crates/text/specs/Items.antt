use Rattle.std.specs.Prelude.{◌≡◌, ℕ, List, [], ◌∷◌, ◌++◌, map, drop, Option}
use Rattle.unification.specs.Terms.{Term, Terms, var, app, nil, cons}
use Rattle.vocabulary.specs.Spellings.{Spells}
use Rattle.text.specs.Listings.{Remain}
use Rattle.text.specs.declared.items.Item.{Item}
use Rattle.text.specs.declared.items.Item.TheVariants.{Variable, Word}
use Rattle.text.specs.declared.items.ItemAt.{ItemAt}

-- An item of a term: a variable by its label, or a word by its number.
pub data Entry : Type 0 where
  variable : ℕ → Entry
  word : ℕ → Entry

-- The items of a term, front to back: a word stands before its arguments.
abbrev mutual
  pub items : Term → List Entry
  items (var x) = variable x ∷ []
  items (app f ts) = word f ∷ all_items ts

  pub all_items : Terms → List Entry
  all_items nil = []
  all_items (cons t ts) = items t ++ all_items ts

-- The item, as code has it.
abbrev pub entry_of : Item → Entry
entry_of (Variable x) = variable x
entry_of (Word f) = word f

-- An item in a text: the place of its first byte, and what it is.
pub record Standing : Type 0 where
  pub place : ℕ
  pub entry : Entry

abbrev pub standing : ItemAt → Standing
standing a = record { place = a.place; entry = entry_of a.item }

-- The same before any lexicon is asked: the place, and a label or the characters of a word.
pub data Mark : Type 0 where
  label : ℕ → ℕ → Mark
  name : ℕ → List ℕ → Mark

-- What is listed as marks.
abbrev pub label_mark : ℕ → ℕ → List Mark
label_mark i n = label i n ∷ []

abbrev pub name_mark : ℕ → List ℕ → ℕ → Mark
name_mark i s n = name i s

module _ (spellings : ℕ → Option (List ℕ)) where
  -- By the lexicon, the mark is an item.
  abbrev pub Stands : Mark → Standing → Type 0
  Stands (label i n) a = a ≡ record { place = i; entry = variable n }
  Stands (name i s) a = (f : ℕ) × Spells spellings f s × (a ≡ record { place = i; entry = word f })

  abbrev pub AllStand : List Mark → List Standing → Type 0
  AllStand [] [] = Unit {0}
  AllStand [] (a ∷ ss) = ⊥
  AllStand (m ∷ ms) [] = ⊥
  AllStand (m ∷ ms) (a ∷ ss) = Stands m a × AllStand ms ss

  -- The items ss are those of the bytes that are left from place i on.
  pub record ItemsLeft (left : List ℕ) (i : ℕ) (ss : List Standing) : Type 0 where
    pub marks : List Mark
    pub remain : Remain Mark label_mark name_mark left i marks
    pub stand : AllStand marks ss

  -- The item is the first of ss, and the others are left behind it.
  pub record NextItem (text : List ℕ) (ss : List Standing) (a : ItemAt) : Type 0 where
    pub others : List Standing
    pub has : ss ≡ standing a ∷ others
    pub left : ItemsLeft (drop a.end text) a.end others

  -- The items of the text, from its first byte on, are those of the term.
  pub record HasItems (text : List ℕ) (t : Term) : Type 0 where
    pub standings : List Standing
    pub left : ItemsLeft text 0 standings
    pub are : map (λ (a : Standing). a.entry) standings ≡ items t
