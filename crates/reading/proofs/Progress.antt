-- What the loop over the items of a text keeps.
use Rattle.std.proofs.Common.{◌≡◌, ℕ, List, [], ◌∷◌, map, drop, Err, Option, Result, sym, ap, ◌∙◌, subst}
use Rattle.text.specs.Items.{Entry, Standing, ItemsLeft, NextItem, entry_of}
use Rattle.text.specs.Verdicts.{Accepted}
use Rattle.text.specs.declared.items.ItemAt.{ItemAt}
use Rattle.text.proofs.Itemizing.{has_items}
use Rattle.text.proofs.Nesting.{nested_shallow}
use Rattle.unification.specs.Sheets.{Sheet}
use Rattle.unification.specs.Terms.{Term}
use Rattle.reading.specs.Reads.{RowsGive}
use Rattle.reading.specs.Steps.{Due, Overfull}
use Rattle.reading.specs.declared.causes.NoRoom.{NoRoom}
use Rattle.reading.specs.declared.words.OpenWord.{OpenWord}
use Rattle.reading.proofs.Steps.{due_whole, some_item}

abbrev entries : List Standing → List Entry
entries ss = map (λ (a : Standing). a.entry) ss

module _ (spellings : ℕ → Option (List ℕ)) (arities : List ℕ) (text : List ℕ) (start : Sheet) (t : Term) where
  -- from the place `at` on, the items are left of what is still to be put
  pub record Progress (at : ℕ) (ws : List OpenWord) (s : Sheet) : Type 0 where
    pub standings : List Standing
    pub left : ItemsLeft spellings (drop at text) at standings
    pub due : Due arities start t ws s (entries standings)

  pub progress_due : (at : ℕ) (ws : List OpenWord) (s : Sheet) (a : ItemAt) (p : Progress at ws s) (n : NextItem spellings text p.standings a) → Due arities start t ws s (entry_of a.item ∷ entries n.others)
  progress_due at ws s a p n = subst (λ (ss : List Standing). Due arities start t ws s (entries ss)) n.has p.due

  pub progress_more : (at : ℕ) (ws vs : List OpenWord) (s u : Sheet) (a : ItemAt) (p : Progress at ws s) (n : NextItem spellings text p.standings a) → Due arities start t vs u (entries n.others) → Progress a.end vs u
  progress_more at ws vs s u a p n d = record { standings = n.others; left = n.left; due = d }

  -- while a term is due there is an item
  pub progress_some : (at : ℕ) (ws : List OpenWord) (s : Sheet) (p : Progress at ws s) → p.standings ≡ [] → ⊥
  progress_some at ws s p e = some_item p.due.next _ (sym p.due.left ∙ ap entries e)

module _ (spellings : ℕ → Option (List ℕ)) (arities : List ℕ) (text : List ℕ) (start : Sheet) where
  pub progress_none : (a : Accepted spellings arities text) (ws : List OpenWord) → ws ≡ [] → Progress spellings arities text start a.term 0 ws start
  progress_none a ws e =
      let r = a.reads in
      let h = has_items spellings text a.term r.writes in
      let d = due_whole arities start a.term r.formed (nested_shallow spellings text a.term r.writes a.shallow) in
      record {
        standings = h.standings;
        left = h.left;
        due = subst (λ (vs : List OpenWord). Due arities start a.term vs start (entries h.standings)) (sym e) (subst (λ (es : List Entry). Due arities start a.term [] start es) (sym h.are) d);
      }

-- A refusal says that there are too many rows.
pub rows_refused : (s : Sheet) (t : Term) (r : Result ℕ NoRoom) (e : NoRoom) (u : Sheet) → r ≡ Err e → Overfull s t → RowsGive s t r u
rows_refused s t r e u is h = subst (λ (q : Result ℕ NoRoom). RowsGive s t q u) (sym is) h
