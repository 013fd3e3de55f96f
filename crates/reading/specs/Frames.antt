use Rattle.std.specs.Prelude.{◌≡◌, ℕ, suc, ◌+◌, ◌<◌, ◌≤◌, List, [], ◌∷◌, ◌++◌, length, slice_index}
use Rattle.fault.specs.Firsts.{Below}
use Rattle.text.specs.Items.{Entry, all_items}
use Rattle.text.specs.Limits.{deepest}
use Rattle.text.specs.Writings.{AllNested}
use Rattle.unification.specs.Putting.{PutAll}
use Rattle.unification.specs.Sheets.{Sheet, composed, appended}
use Rattle.unification.specs.Terms.{Terms, size, AllFormed}
use Rattle.reading.specs.Stacks.{given_to}
use Rattle.reading.specs.declared.words.OpenWord.{OpenWord}

-- A word of which one argument is being put: the rows of the arguments before it, and the arguments after it.
pub record Frame : Type 0 where
  pub word : ℕ
  pub rows : List ℕ
  pub rest : Terms

-- With row p of the sheet s as the argument that was being put, putting the arguments that are left and composing the words, the innermost
-- first, leads to row r of the sheet u.
abbrev pub Leads : List Frame → ℕ → Sheet → ℕ → Sheet → Type 0
Leads [] p s r u = (p ≡ r) × (s ≡ u)
Leads (f ∷ fs) p s r u =
    (qs : List ℕ) × (v : Sheet) × PutAll s f.rest qs v × Leads fs (length v.rows) (appended v (composed f.word ((f.rows ++ (p ∷ [])) ++ qs))) r u

-- The items of the arguments that are left.
abbrev pub pending : List Frame → List Entry
pending [] = []
pending (f ∷ fs) = all_items f.rest ++ pending fs

-- The rows are rows of the sheet; the arguments that are left are well formed, and nested so little, d deep in the innermost word, that at
-- most 31 brackets are open at once.
abbrev pub Framed : List ℕ → Sheet → List Frame → ℕ → Type 0
Framed arities s [] d = d ≡ deepest
Framed arities s (f ∷ fs) d =
    AllFormed (length arities) (λ w. slice_index arities w) f.rest
    × AllNested f.rest d
    × Below (length f.rows) (λ i. slice_index f.rows i < length s.rows)
    × Framed arities s fs (suc d)

-- The open word is that of the frame.
pub record IsOpen (w : OpenWord) (f : Frame) : Type 0 where
  pub word : w.word ≡ f.word
  pub takes : w.takes ≡ length f.rows + 1 + size f.rest
  pub few : w.takes ≤ 6
  pub rows : given_to w ≡ f.rows

abbrev pub AreOpen : List OpenWord → List Frame → Type 0
AreOpen [] [] = Unit {0}
AreOpen [] (f ∷ fs) = ⊥
AreOpen (w ∷ ws) [] = ⊥
AreOpen (w ∷ ws) (f ∷ fs) = IsOpen w f × AreOpen ws fs
