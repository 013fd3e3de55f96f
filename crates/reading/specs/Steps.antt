use Rattle.std.specs.Prelude.{◌≡◌, ℕ, ◌<◌, List, [], ◌∷◌, ◌++◌, length, Some, None, Ok, Err, Option, Result, slice_index}
use Rattle.rows.specs.Limits.{most_rows}
use Rattle.text.specs.Items.{Entry, items, entry_of}
use Rattle.text.specs.declared.items.Item.{Item}
use Rattle.text.specs.Writings.{Nested}
use Rattle.unification.specs.Putting.{Put}
use Rattle.unification.specs.Sheets.{Sheet}
use Rattle.unification.specs.Terms.{Term, Formed}
use Rattle.reading.specs.Frames.{Frame, Leads, pending, Framed, AreOpen}
use Rattle.reading.specs.declared.causes.NoRoom.{NoRoom}
use Rattle.reading.specs.declared.words.OpenWord.{OpenWord}

-- Putting the term onto the sheet makes more rows than there can be.
abbrev pub Overfull : Sheet → Term → Type 0
Overfull start t = (r : ℕ) × (u : Sheet) × Put start t r u × (most_rows < length u.rows)

-- While the term t is put onto the sheet `start`, over words with these arities:
module _ (arities : List ℕ) (start : Sheet) (t : Term) where
  -- a term is to be put next, with these words open on the sheet s and these items left, its own first
  pub record Due (ws : List OpenWord) (s : Sheet) (es : List Entry) : Type 0 where
    pub next : Term
    pub frames : List Frame
    pub depth : ℕ
    pub formed : Formed (length arities) (λ w. slice_index arities w) next
    pub nested : Nested next depth
    pub framed : Framed arities s frames depth
    pub opened : AreOpen ws frames
    pub leads : (p r : ℕ) (v u : Sheet) → Put s next p v → Leads frames p v r u → Put start t r u
    pub left : es ≡ items next ++ pending frames

  -- row p was made, and is to be given to the innermost of the open words
  pub record Made (ws : List OpenWord) (p : ℕ) (s : Sheet) (es : List Entry) : Type 0 where
    pub frames : List Frame
    pub depth : ℕ
    pub framed : Framed arities s frames depth
    pub opened : AreOpen ws frames
    pub row : p < length s.rows
    pub leads : (r : ℕ) (u : Sheet) → Leads frames p s r u → Put start t r u
    pub left : es ≡ pending frames

  -- what comes of a step: a further term is due, the whole is put, or it makes too many rows
  abbrev pub Comes : Result (Option ℕ) NoRoom → List OpenWord → Sheet → List Entry → Type 0
  Comes (Ok None) ws s es = Due ws s es
  Comes (Ok (Some p)) ws s es = (es ≡ []) × Put start t p s
  Comes (Err e) ws s es = Overfull start t

-- Something of the kind is so.
pub record IsDue (arities : List ℕ) (ws : List OpenWord) (s : Sheet) (item : Item) : Type 0 where
  pub start : Sheet
  pub whole : Term
  pub others : List Entry
  pub due : Due arities start whole ws s (entry_of item ∷ others)

pub record IsMade (ws : List OpenWord) (p : ℕ) (s : Sheet) : Type 0 where
  pub arities : List ℕ
  pub start : Sheet
  pub whole : Term
  pub others : List Entry
  pub made : Made arities start whole ws p s others
