use Rattle.std.proofs.Common.{◌≡◌, ℕ, refl, arith, true, false}
use Rattle.std.proofs.lemmas.List.{length-map}
use Rattle.lists.specs.Entries.{entries}
use Rattle.rows.specs.Stored.{equation_of}
use Rattle.std.specs.Prelude.{Option, Some, None, MatchOption, is_some}
use Rattle.table.proofs.Backs.{inside_among, outside_dropped}
use Rattle.table.proofs.table.Table.back.Goals as goal
use Rattle.table.specs.Sheets.{sheet_of}

-- What is found, where something is; what holds, where nothing is.
told : (P : Type 0) (Q : ℕ → Type 0) (r : Option ℕ) → MatchOption r P Q → is_some r ≡ true → (i : ℕ) × Q i
told P Q None h e = let z : ◌≡◌ {A = ℕ} 0 1 = cc in absurd (omega arith)
told P Q (Some i) h e = (i, h)

untold : (P : Type 0) (Q : ℕ → Type 0) (r : Option ℕ) → MatchOption r P Q → is_some r ≡ false → P
untold P Q None h e = h
untold P Q (Some i) h e = let z : ◌≡◌ {A = ℕ} 0 1 = cc in absurd (omega arith)

pub returns-then-is_some-clause-answer : goal.returns-then-is_some-clause-answer
returns-then-is_some-clause-answer c =
    let t = c.args.self.now in
    let l = length-map (entries t.equations) equation_of in
    let o = told _ _ c.find_outside.result c.find_outside.ensures (cc) in (
      omega arith,
      omega arith,
      outside_dropped (sheet_of t.rows t.equations) c.args.rows c.args.equations o.0 o.1.0 o.1.1,
      refl,
    )

pub first-requires-clause-among : goal.first-requires-clause-among
first-requires-clause-among c =
    let t = c.args.self.now in
    inside_among (sheet_of t.rows t.equations) c.args.rows c.args.equations (untold _ _ c.find_outside.result c.find_outside.ensures (cc))

pub returns-clause-answer : goal.returns-clause-answer
returns-clause-answer c =
    let t = c.args.self.now in
    let l = length-map (entries t.equations) equation_of in (
      omega arith,
      omega arith,
      inside_among (sheet_of t.rows t.equations) c.args.rows c.args.equations (untold _ _ c.find_outside.result c.find_outside.ensures (cc)),
      c.first.ensures.sheet,
    )
